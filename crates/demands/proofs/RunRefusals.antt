-- Each refusal of a run that is packed is one of the table's rows for that call, and its place is what the row says. Assumes nothing.
use mathlib.Core.Path.{◌≡◌, refl, sym, ◌∙◌}
use mathlib.Core.Bool.{Bool, true, false, false≢true}
use mathlib.Core.List.{List, [], ◌∷◌}
use mathlib.Core.Logic.{inl, inr}
use Prim.Native.Nat.{ℕ, zero, suc, ◌+◌, ◌<◌}
use native.Mathlib.Omega.{arith}
use lib.Dec.{leb, ltb}
use lib.ListN.{length, get_or}
use borrow.Author.Tests.{leb-true, leb-false}
use Rattle.numbers.specs.Pick.{pick}
use Rattle.numbers.specs.Answer.{Answer, answered, refused, unless_fault}
use Rattle.numbers.specs.Room.{level, and_then, if_room}
use Rattle.numbers.proofs.Answers.{told_apart, number_one, place_one}
use Rattle.numbers.proofs.Room.{level_lengths, lengths_level, room_refused}
use Rattle.numbers.proofs.Picks.{pick_either}
use Rattle.words.specs.Writes.{fault_of}
use Rattle.runs.specs.PackedList.{writes, written}
use Rattle.packer.specs.Checks.{wrong, first_wrong, check_answer}
use Rattle.packer.specs.Packing.{pack_answer}
use Rattle.packer.proofs.Checks.{check_given}
use Rattle.demands.specs.Refusals.{In, OneRefused, RunRefused, PackRefused}
use Rattle.demands.proofs.Refusals.{Perhaps, perhaps, fault_number_law}

-- A WRITE OF THE RUN: 9, 3, 4 or 5
wrong_number : (i m : ℕ) → Perhaps (9 ∷ 3 ∷ 4 ∷ 5 ∷ []) (wrong i m)
wrong_number i m = pick_either (Perhaps (9 ∷ 3 ∷ 4 ∷ 5 ∷ [])) (ltb 15 m) (inr (inl refl)) (later (fault_of i m) (fault_number_law i m))
  where
    later : (f : ℕ) → Perhaps (3 ∷ 4 ∷ 5 ∷ []) f → Perhaps (9 ∷ 3 ∷ 4 ∷ 5 ∷ []) f
    later f (inl z) = inl z
    later f (inr n) = inr (inr n)

-- the write k places after the i-th is refused with n at p, and none before it
abbrev After : List ℕ → List ℕ → ℕ → ℕ → ℕ → Type 0
After is ms i n p =
    (k : ℕ) × (p ≡ i + k) × (k < length is) × In n (9 ∷ 3 ∷ 4 ∷ 5 ∷ []) × (wrong (get_or is k 0) (get_or ms k 0) ≡ n)
    × ((j : ℕ) → j < k → wrong (get_or is j 0) (get_or ms j 0) ≡ 0)

passed : (x y : ℕ) (is ms : List ℕ) (k : ℕ) → wrong x y ≡ 0 → ((j : ℕ) → j < k → wrong (get_or is j 0) (get_or ms j 0) ≡ 0)
    → (j : ℕ) → j < suc k → wrong (get_or (x ∷ is) j 0) (get_or (y ∷ ms) j 0) ≡ 0
passed x y is ms k w rest zero h = w
passed x y is ms k w rest (suc j) h = rest j (omega arith)

by_write : (x y : ℕ) (is ms : List ℕ) (i f : ℕ) (rest : Answer) (n p : ℕ) → wrong x y ≡ f → unless_fault f i rest ≡ refused n p
    → (rest ≡ refused n p → After is ms (i + 1) n p) → After (x ∷ is) (y ∷ ms) i n p
by_write x y is ms i zero rest n p w e more =
    let r = more e in (suc r.0, omega (arith, r.1), omega (arith, r.2), r.3, r.4, passed x y is ms r.0 w r.5)
by_write x y is ms i (suc f) rest n p w e more =
    let a : suc f ≡ n = number_one e in
    let c = w ∙ a in
    let b : p ≡ i = sym (place_one e) in
    let number = perhaps (9 ∷ 3 ∷ 4 ∷ 5 ∷ []) n (rw c at (wrong_number x y)) (λ z. omega arith) in
    (0, omega arith, omega arith, number, c, λ j h. absurd (omega arith))

first_refused : (is ms vs : List ℕ) (i n p : ℕ) → first_wrong i (writes is ms vs) ≡ refused n p → After is ms i n p
unfolding first_wrong
first_refused [] ms vs i n p e = absurd (told_apart e)
first_refused (x ∷ is) [] vs i n p e = absurd (told_apart e)
first_refused (x ∷ is) (y ∷ ms) [] i n p e = absurd (told_apart e)
first_refused (x ∷ is) (y ∷ ms) (v ∷ vs) i n p e =
    by_write x y is ms i (wrong x y) (first_wrong (i + 1) (writes is ms vs)) n p refl e (first_refused is ms vs (i + 1) n p)

-- THE RUN
by_tests : (is ms vs : List ℕ) (n p : ℕ) (a b : Bool) → level is ms vs ≡ a → leb (length is) 4096 ≡ b
    → pick a (pick b (first_wrong 0 (writes is ms vs)) (refused 8 0)) (refused 7 0) ≡ refused n p → RunRefused is ms vs n p
by_tests is ms vs n p true true t u e =
    let r = first_refused is ms vs 0 n p e in
    let z : r.0 ≡ p = omega (arith, r.1) in
    let first : (k : ℕ) → k < p → wrong (get_or is k 0) (get_or ms k 0) ≡ 0 = λ k h. r.5 k (omega arith) in
    let one : OneRefused is ms n p = record { place = omega (arith, r.2); first = first; why = (r.3, rw z at r.4) } in
    inr (inr (level_lengths is ms vs t, leb-true _ _ u, one))
by_tests is ms vs n p true false t u e = inr (inl (sym (number_one e), sym (place_one e), level_lengths is ms vs t, leb-false _ _ u))
by_tests is ms vs n p false b t u e =
    inl (sym (number_one e), sym (place_one e), λ q. false≢true (sym t ∙ lengths_level is ms vs q.0 q.1))

pub check_row : (is ms vs : List ℕ) (n p : ℕ) → check_answer is ms vs ≡ refused n p → RunRefused is ms vs n p
unfolding check_answer
check_row is ms vs n p e = by_tests is ms vs n p (level is ms vs) (leb (length is) 4096) refl refl e

-- PACKING
by_check : (is ms vs : List ℕ) (room n p : ℕ) (a : Answer) → check_answer is ms vs ≡ a
    → and_then a (if_room 10 (length (written (writes is ms vs))) room) ≡ refused n p → PackRefused is ms vs room n p
by_check is ms vs room n p (answered m) c e =
    let r = room_refused 10 (length (written (writes is ms vs))) room n p e in
    inr (r.0, check_given is ms vs m c, r.1, r.2)
by_check is ms vs room n p (refused m q) c e = inl (check_row is ms vs n p (c ∙ e))

pub pack_row : (is ms vs : List ℕ) (room n p : ℕ) → pack_answer is ms vs room ≡ refused n p → PackRefused is ms vs room n p
unfolding pack_answer
pack_row is ms vs room n p e = by_check is ms vs room n p (check_answer is ms vs) refl e

-- 10 is no refusal of the writes
below : (n : ℕ) → In n (9 ∷ 3 ∷ 4 ∷ 5 ∷ []) → n < 10
below n (inl e) = omega arith
below n (inr (inl e)) = omega arith
below n (inr (inr (inl e))) = omega arith
below n (inr (inr (inr (inl e)))) = omega arith
below n (inr (inr (inr (inr e)))) = absurd e

pub run_below : (is ms vs : List ℕ) (n p : ℕ) → RunRefused is ms vs n p → n < 10
run_below is ms vs n p (inl r) = omega (arith, r.0)
run_below is ms vs n p (inr (inl r)) = omega (arith, r.0)
run_below is ms vs n p (inr (inr r)) = below n r.2.why.0
