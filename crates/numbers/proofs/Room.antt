-- Lent space: buffers of one length, the test for room by what code knows, and a row that is put part by part. Assumes nothing.
use mathlib.Core.Path.{◌≡◌, refl, sym, ◌∙◌}
use mathlib.Core.Bool.{Bool, true, false}
use mathlib.Core.List.{List, ◌++◌}
use Prim.Native.Nat.{ℕ, ◌+◌, ◌≤◌, ◌<◌}
use native.Mathlib.Omega.{arith}
use lib.Dec.{leb, eqb}
use lib.ListN.{length, take, drop}
use lib.Seq.{length-take-le, take_all, take_at, drop_at, take-add, drop-drop, paste}
use borrow.Author.Tests.{le-leb, lt-leb, leb-true, leb-false, eqb-true, eq-eqb}
use Rattle.numbers.specs.Pick.{pick}
use Rattle.numbers.specs.Answer.{answered, refused}
use Rattle.numbers.specs.Room.{level, if_room}
use Rattle.numbers.proofs.Tests.{and_true}
use Rattle.numbers.proofs.Answers.{told_apart, number_one, place_one}

-- BUFFERS OF ONE LENGTH
module _ (is ms vs : List ℕ) where
  pub level_lengths : level is ms vs ≡ true → (length is ≡ length ms) × (length is ≡ length vs)
  level_lengths t =
      let b = and_true (eqb (length is) (length ms)) (eqb (length is) (length vs)) t in
      (eqb-true _ _ b.0, eqb-true _ _ b.1)

  pub lengths_level : length is ≡ length ms → length is ≡ length vs → level is ms vs ≡ true
  lengths_level e f = rw (eq-eqb _ _ e, eq-eqb _ _ f)

-- THE TEST FOR ROOM
module _ (number need room n : ℕ) (e : n ≡ need) where
  pub room_enough : n ≤ room → answered n ≡ if_room number need room
  room_enough h = rw (e, le-leb need room (rw e at h))

  pub room_short : room < n → refused number n ≡ if_room number need room
  room_short h = rw (e, lt-leb need room (rw e at h))

by_room : (number need room n : ℕ) (b : Bool) → leb need room ≡ b → pick b (answered need) (refused number need) ≡ answered n
    → (n ≡ need) × (n ≤ room)
by_room number need room n true e f = let h : need ≤ room = leb-true _ _ e in let z : n ≡ need = cc in (z, omega arith)
by_room number need room n false e f = absurd (told_apart (sym f))

by_lack : (number need room r n : ℕ) (b : Bool) → leb need room ≡ b → pick b (answered need) (refused number need) ≡ refused r n
    → (r ≡ number) × (n ≡ need) × (room < n)
by_lack number need room r n true e f = absurd (told_apart f)
by_lack number need room r n false e f =
    let z : n ≡ need = sym (place_one f) in (sym (number_one f), z, omega (arith, leb-false need room e))

-- an answer tells how many are put, for which there is room; a refusal how many there is no room for
module _ (number need room : ℕ) where
  pub room_answered : (n : ℕ) → if_room number need room ≡ answered n → (n ≡ need) × (n ≤ room)
  room_answered n e = by_room number need room n (leb need room) refl e

  pub room_refused : (r n : ℕ) → if_room number need room ≡ refused r n → (r ≡ number) × (n ≡ need) × (room < n)
  room_refused r n e = by_lack number need room r n (leb need room) refl e

-- A ROW whose first words stand at the space's start: the part that comes next in it, put behind them, makes so many more stand
module _ (row part rest old : List ℕ) (at n : ℕ)
    (inside : at ≤ length row) (next : drop at row ≡ part ++ rest) (long : length part ≡ n) where
  grown : take (at + n) row ≡ take at row ++ part
  grown = take-add at n row ∙ rw (next, take_at part rest n long)

  pub next_part : paste (take at row ++ drop at old) at part n ≡ take (at + n) row ++ drop (at + n) old
  next_part =
      let k = length-take-le at row inside in
      let X = take at row ++ drop at old in
      let back : drop (at + n) X ≡ drop (at + n) old =
      sym (drop-drop n at X) ∙ rw (drop_at (take at row) (drop at old) at k) (drop-drop n at old) in
      rw (take_at (take at row) (drop at old) at k, take_all n part (omega (arith, long)), back, grown)

  pub next_rest : drop (at + n) row ≡ rest
  next_rest = sym (drop-drop n at row) ∙ rw next (drop_at part rest n long)
