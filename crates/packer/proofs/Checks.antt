-- The refusals of the writes given, by the tests that code makes, and what is known of writes that are not refused. Assumes nothing.
use Rattle.std.proofs.Common.{◌≡◌, ℕ, ◌+◌, ◌<◌, ◌≤◌, Bool, true, false, ltb, leb, List, [], ◌∷◌, length, get_or, drop, sym, refl, ◌∙◌, arith, drop_of_length-le, ltb-false, le-ltb, eq-eqb, eqb-true, le-leb, leb-true}
use borrow.Author.Tests.{lt-leb}
use Rattle.numbers.specs.Pick.{pick}
use Rattle.numbers.specs.Answer.{answered, refused, unless_fault}
use Rattle.numbers.specs.Room.{level}
use Rattle.numbers.proofs.Answers.{told_apart, unless_refuses, unless_answered}
use Rattle.numbers.proofs.Room.{level_lengths, lengths_level}
use Rattle.words.specs.Writes.{Write, fault_of, allowed}
use Rattle.words.proofs.Laws.{allowed_fault}
use Rattle.runs.specs.PackedList.{writes, Packable, PackableRun}
use Rattle.runs.proofs.Writes.{writes_length, writes_at}
use Rattle.packer.specs.Checks.{wrong, first_wrong, check_answer}

module _ (is ms vs : List ℕ) where
  -- THE TESTS, in their order
  pub check_lengths : level is ms vs ≡ false → check_answer is ms vs ≡ refused 7 0
  unfolding check_answer
  check_lengths t = rw t

  pub check_many : level is ms vs ≡ true → 4096 < length is → check_answer is ms vs ≡ refused 8 0
  unfolding check_answer
  check_many t h = rw (t, lt-leb (length is) 4096 h)

  pub check_writes : level is ms vs ≡ true → length is ≤ 4096 → check_answer is ms vs ≡ first_wrong 0 (writes is ms vs)
  unfolding check_answer
  check_writes t h = rw (t, le-leb (length is) 4096 h)

-- WRITE BY WRITE

module _ (is ms vs : List ℕ) (i : ℕ) (e : level is ms vs ≡ true) where
  one_more : i < length is
      → first_wrong i (drop i (writes is ms vs))
      ≡ unless_fault (wrong (get_or is i 0) (get_or ms i 0)) i (first_wrong (i + 1) (drop (i + 1) (writes is ms vs)))
  unfolding first_wrong
  one_more h = let l = level_lengths is ms vs e in rw (writes_at is ms vs i l.0 l.1 h)

  pub wrong_none : i < length is → (f : ℕ) → f ≡ wrong (get_or is i 0) (get_or ms i 0) → f ≡ 0
      → first_wrong i (drop i (writes is ms vs)) ≡ first_wrong (i + 1) (drop (i + 1) (writes is ms vs))
  wrong_none h f p q = let z = sym p ∙ q in one_more h ∙ rw z

  pub wrong_here : i < length is → (f : ℕ) → f ≡ wrong (get_or is i 0) (get_or ms i 0) → (f ≡ 0 → ⊥)
      → first_wrong i (drop i (writes is ms vs)) ≡ refused f i
  wrong_here h f p q = one_more h ∙ rw (← p) (unless_refuses f i _ q)

  pub wrong_end : length is ≤ i → first_wrong i (drop i (writes is ms vs)) ≡ answered 0
  unfolding first_wrong
  wrong_end h =
      let l = level_lengths is ms vs e in
      let n = writes_length is ms vs l.0 l.1 in
      rw (drop_of_length-le (writes is ms vs) {i = i} (omega arith))

-- WRITES THAT ARE NOT REFUSED

not_wrong : (i m : ℕ) (b : Bool) → ltb 15 m ≡ b → pick b 9 (fault_of i m) ≡ 0 → (m ≤ 15) × (allowed i m ≡ true)
not_wrong i m true t e = absurd (omega arith)
not_wrong i m false t e = (ltb-false 15 m t, allowed_fault i m ∙ eq-eqb (fault_of i m) 0 e)

wrong_packable : (i n : ℕ) (ws : List Write) → first_wrong i ws ≡ answered n → Packable ws
unfolding first_wrong
wrong_packable i n [] e = tt
wrong_packable i n (w ∷ ws) e =
    let u = unless_answered (wrong w.id w.mask) i n (first_wrong (i + 1) ws) e in
    let a = not_wrong w.id w.mask (ltb 15 w.mask) refl u.0 in
    (a.0, a.1, wrong_packable (i + 1) n ws u.1)

packable_wrong : (i : ℕ) (ws : List Write) → Packable ws → first_wrong i ws ≡ answered 0
unfolding first_wrong
packable_wrong i [] p = refl
packable_wrong i (w ∷ ws) p =
    let f : fault_of w.id w.mask ≡ 0 = eqb-true _ _ (sym (allowed_fault w.id w.mask) ∙ p.1) in
    rw (le-ltb 15 w.mask p.0, f) (packable_wrong (i + 1) ws p.2)

module _ (is ms vs : List ℕ) where
  by_tests : (n : ℕ) (a b : Bool) → level is ms vs ≡ a → leb (length is) 4096 ≡ b
      → pick a (pick b (first_wrong 0 (writes is ms vs)) (refused 8 0)) (refused 7 0) ≡ answered n → PackableRun is ms vs
  by_tests n true true t u e =
      let l = level_lengths is ms vs t in
      record { masks = l.0; values = l.1; few = leb-true _ _ u; packable = wrong_packable 0 n (writes is ms vs) e }
  by_tests n true false t u e = absurd (told_apart (sym e))
  by_tests n false b t u e = absurd (told_apart (sym e))

  -- no refusal says that the writes can be packed
  pub check_given : (n : ℕ) → check_answer is ms vs ≡ answered n → PackableRun is ms vs
  unfolding check_answer
  check_given n e = by_tests n (level is ms vs) (leb (length is) 4096) refl refl e

  -- and writes that can be packed are not refused
  pub given_check : PackableRun is ms vs → check_answer is ms vs ≡ answered 0
  given_check G =
      check_writes is ms vs (lengths_level is ms vs G.masks G.values) G.few ∙ packable_wrong 0 (writes is ms vs) G.packable
