-- The verdict on commands, one by one and write by write, by the tests that code makes. Assumes nothing.
use mathlib.Core.Path.{◌≡◌, refl, sym, ◌∙◌}
use mathlib.Core.Bool.{Bool, true, false}
use mathlib.Core.List.{List, [], ◌∷◌}
use Prim.Native.Nat.{ℕ, zero, suc, ◌+◌, ◌-◌, ◌≤◌, ◌<◌}
use native.Mathlib.Omega.{arith}
use lib.Dec.{eqb}
use lib.ListN.{length}
use borrow.Author.Tests.{ne_eqb, le-leb, lt-leb, eqb-true, eqb-false}
use Rattle.numbers.specs.Pick.{pick}
use Rattle.numbers.specs.Answer.{answered, refused}
use Rattle.numbers.proofs.Answers.{unless_refuses}
use Rattle.words.specs.Header.{id_of, mask_of, count_of, step_of, words_of, adds_of}
use Rattle.words.specs.Writes.{Write, kept, fault_of}
use Rattle.words.specs.Commands.{header_at, run, expand, commands}
use Rattle.words.proofs.Laws.{commands_end, commands_step, run_done, run_next, run_length, run_dropped, run_kept}
use Rattle.commands.specs.Clear.{last_id, clear}
use Rattle.commands.proofs.Clearing.{clear_fault}
use Rattle.reader.specs.ListVerdict.{first_fault, judge}
use Rattle.reader.proofs.Accepted.{judge_none, judge_more}

-- A RUN OF WRITES

-- what decides on a command is no more than its writes
pub deciding_most : (b : Bool) (n : ℕ) → pick b 0 (n + 1) ≤ n + 1
deciding_most true n = omega arith
deciding_most false n = omega arith

pub first_none : first_fault [] ≡ 0
unfolding first_fault
first_none = refl

pub first_good : (w : Write) (ws : List Write) → fault_of w.id w.mask ≡ 0 → first_fault (w ∷ ws) ≡ first_fault ws
unfolding first_fault
first_good w ws h = rw h

pub first_bad : (w : Write) (ws : List Write) → (fault_of w.id w.mask ≡ 0 → ⊥) → first_fault (w ∷ ws) ≡ fault_of w.id w.mask
unfolding first_fault
first_bad w ws h = rw (ne_eqb (fault_of w.id w.mask) 0 h)

module _ (l : List ℕ) (at : ℕ) where
  abbrev h : ℕ
  h = header_at l at

  -- no write is left
  pub run_none : (n k i : ℕ) → n ≤ 0 → first_fault (run l at n k i) ≡ 0
  run_none n k i z = rw (run_done l at n k i z) first_none

  -- the next write has no fault, or it has the one that decides
  pub run_good : (n k i : ℕ) → 0 < n → fault_of i (mask_of h) ≡ 0
      → first_fault (run l at n k i) ≡ first_fault (run l at (n - 1) (k + 1) (i + step_of h))
  run_good n k i p z = rw (run_next l at n k i p) (first_good _ _ z)

  pub run_bad : (n k i : ℕ) → 0 < n → (fault_of i (mask_of h) ≡ 0 → ⊥) → first_fault (run l at n k i) ≡ fault_of i (mask_of h)
  run_bad n k i p z = rw (run_next l at n k i p) (first_bad _ _ z)

  -- writes to one id are none at fault where the first isn't
  same_none : (n k i : ℕ) → step_of h ≡ 0 → fault_of i (mask_of h) ≡ 0 → first_fault (run l at n k i) ≡ 0
  same_none zero k i s z = run_none 0 k i (omega arith)
  same_none (suc n) k i s z =
      let e : suc n - 1 ≡ n = omega arith in
      let d : i + step_of h ≡ i = omega arith in
      run_good (suc n) k i (omega arith) z ∙ rw (e, d) (same_none n (k + 1) i s z)

  -- writes to a clear range of ids, of which none is left out, are none at fault
  rising_none : (j n k i f : ℕ) → clear f j (mask_of h) ≡ true → f ≤ i → i + n ≤ j + 1 → first_fault (run l at n k i) ≡ 0
  rising_none j zero k i f c p q = run_none 0 k i (omega arith)
  rising_none j (suc n) k i f c p q =
      let e : suc n - 1 ≡ n = omega arith in
      run_good (suc n) k i (omega arith) (clear_fault f j i (mask_of h) c p (omega arith))
      ∙ rw e (rising_none j n (k + 1) (i + step_of h) f c (omega arith) (omega arith))

  clear_none : (b : Bool) → eqb (step_of h) 0 ≡ b → clear (id_of h) (pick b (id_of h) (id_of h + count_of h)) (mask_of h) ≡ true
      → first_fault (expand l at) ≡ 0
  clear_none true b c =
      let f = clear_fault (id_of h) (id_of h) (id_of h) (mask_of h) c (omega arith) (omega arith) in
      same_none (count_of h + 1) 0 (id_of h) (eqb-true (step_of h) 0 b) f
  clear_none false b c = rising_none (id_of h + count_of h) (count_of h + 1) 0 (id_of h) (id_of h) c (omega arith) (omega arith)

  by_clear : (b : Bool) → clear (id_of h) (last_id (id_of h) (count_of h) (step_of h)) (mask_of h) ≡ b
      → first_fault (expand l at) ≡ first_fault (run l at (pick b 0 (count_of h + 1)) 0 (id_of h))
  by_clear true c = clear_none (eqb (step_of h) 0) refl c ∙ sym (run_none 0 0 (id_of h) (omega arith))
  by_clear false c = refl

  pub deciding_fault : first_fault (expand l at)
      ≡ first_fault (run l at (pick (clear (id_of h) (last_id (id_of h) (count_of h) (step_of h)) (mask_of h)) 0 (count_of h + 1)) 0
      (id_of h))
  deciding_fault = by_clear _ refl

  -- A COMMAND

  -- past the end
  pub judge_end : (n : ℕ) → length l ≤ at → judge l (commands l at) n ≡ answered n
  judge_end n e = rw (commands_end l at e) (judge_none l n)

  -- a command that lacks words is refused with 2 at its first word
  pub judge_short : (n : ℕ) → at < length l → length l < at + words_of h → judge l (commands l at) n ≡ refused 2 at
  judge_short n i s =
      rw (commands_step l at i) (judge_more l at (commands l (at + words_of h)) n ∙ rw (lt-leb (at + words_of h) (length l) s))

  -- a write at fault ends the reading
  pub judge_fault : (n f : ℕ) → at < length l → at + words_of h ≤ length l → first_fault (expand l at) ≡ f → (f ≡ 0 → ⊥)
      → judge l (commands l at) n ≡ refused f at
  judge_fault n f i s e z =
      rw (commands_step l at i)
      (judge_more l at (commands l (at + words_of h)) n ∙ rw (le-leb (at + words_of h) (length l) s, e) (unless_refuses f at _ z))

  -- what it adds to the expansion is counted
  added_kept : (b : Bool) → eqb (mask_of h) 0 ≡ b → length (kept (expand l at)) ≡ pick b 0 (count_of h + 1)
  added_kept true t = rw (run_dropped l at (count_of h + 1) 0 (id_of h) (eqb-true _ _ t))
  added_kept false t =
      rw (run_kept l at (count_of h + 1) 0 (id_of h) (eqb-false _ _ t)) (run_length l at (count_of h + 1) 0 (id_of h))

  -- else it goes on after the command's words, with its writes counted, unless they have mask 0
  pub judge_pass : (n : ℕ) → at < length l → at + words_of h ≤ length l → first_fault (expand l at) ≡ 0
      → judge l (commands l at) n ≡ judge l (commands l (at + words_of h)) (n + adds_of h)
  judge_pass n i s e =
      rw (commands_step l at i)
      (judge_more l at (commands l (at + words_of h)) n
      ∙ rw (le-leb (at + words_of h) (length l) s, e, added_kept (eqb (mask_of h) 0) refl))
