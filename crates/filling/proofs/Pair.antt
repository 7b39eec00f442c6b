-- The list that is laid out, over the pair that fills it, and what is then put. Assumes nothing.
use mathlib.Core.Path.{◌≡◌, refl, sym, ap, ◌∙◌}
use mathlib.Core.List.{List, [], ◌∷◌, ◌++◌, append_assoc}
use Prim.Native.Nat.{ℕ, suc, ◌+◌, ◌%◌, ◌≤◌, ◌<◌}
use native.Mathlib.Decide.{dec_lt}
use native.Mathlib.Omega.{arith}
use lib.ListN.{length, take, drop, set, length-append}
use lib.Seq.{drop_at, drop-drop, set_split, set_at, append_snoc, drop-cons, length-take-le}
use Rattle.numbers.specs.Answer.{Answer}
use Rattle.numbers.specs.Room.{if_room, space_after}
use Rattle.numbers.proofs.Room.{room_enough, room_short}
use Rattle.words.specs.Writes.{Write}
use Rattle.runs.specs.PackedList.{packed, filled}
use Rattle.runs.proofs.Filled.{packed_even, filled_length, filled_none, filled_pair}
use Rattle.filling.specs.Putting.{Puts}

-- two stores, one after the other
pub two_stored : (l : List ℕ) (at x y : ℕ) → at + 2 ≤ length l → set (set l at x) (at + 1) y ≡ take at l ++ x ∷ y ∷ drop (at + 2) l
two_stored l at x y h =
    let n = length-take-le at l (omega arith) in
    let e : suc (suc at) ≡ at + 2 = omega arith in
    let p : at + 1 ≡ suc at = omega arith in
    let m : length (take at l ++ (x ∷ [])) ≡ suc at = omega (arith, length-append (take at l) (x ∷ [])) in
    rw (p, set_split l at x (omega arith), drop-cons l (suc at) 0 (omega arith), ← append_snoc (take at l) x)
    (set_at (take at l ++ (x ∷ [])) _ (drop (suc (suc at)) l) y (suc at) m ∙ rw e (append_snoc (take at l) x (y ∷ drop (at + 2) l)))

no_words : (l old : List ℕ) → length l ≡ 0 → old ≡ l ++ drop (length l) old
no_words [] old h = refl
no_words (x ∷ l) old h = absurd (omega arith)

-- the words that were planned, and those with the pair
module _ (ws : List Write) (laid need : ℕ) (e : laid ≡ length (packed ws)) (f : need ≡ laid + laid % 4) where
  need_length : need ≡ length (filled (packed ws))
  need_length = f ∙ rw e (sym (filled_length (packed ws) (packed_even ws)))

  -- no words leave the space as it was
  left_empty : need < 2 → (old : List ℕ) → old ≡ filled (packed ws) ++ drop (length (filled (packed ws))) old
  left_empty h old = no_words (filled (packed ws)) old (omega (arith, need_length, e, f, packed_even ws))

  -- the list ends where the pair starts, or where the pair ends
  at_pair : laid < need → (at : ℕ) → at + 2 ≡ need → length (packed ws) ≡ at
  at_pair h at p = omega (arith, e, f, packed_even ws)

  -- else the pair stands before the end of the room that is needed, and the list over it or before it
  left_filled : (at : ℕ) → at + 2 ≡ need → (old new all : List ℕ) → need ≤ length old → new ≡ take at old ++ 0 ∷ 0 ∷ drop (at + 2) old
      → all ≡ packed ws ++ drop (length (packed ws)) new → all ≡ filled (packed ws) ++ drop (length (filled (packed ws))) old
  left_filled at p old new all h a b = go (dec_lt laid need)
    where
      front : drop at new ≡ 0 ∷ 0 ∷ drop need old
      front = rw (a, p) (drop_at (take at old) (0 ∷ 0 ∷ drop need old) at (length-take-le at old (omega arith)))

      back : drop need new ≡ drop need old
      back = rw (← p) (sym (drop-drop 2 at new) ∙ rw (front, p))

      go : Dec (laid < need) → all ≡ filled (packed ws) ++ drop (length (filled (packed ws))) old
      go (yes q) =
          let n : length (packed ws) % 4 ≡ 0 → ⊥ = λ y. omega (arith, e, f) in
          b
          ∙ rw (at_pair q at p, front, ← need_length, filled_pair (packed ws) n)
          (sym (append_assoc (packed ws) (0 ∷ 0 ∷ []) (drop need old)))
      go (no q) =
          let n : length (packed ws) % 4 ≡ 0 = omega (arith, e, f) in
          let z : length (packed ws) ≡ need = omega (arith, e, f) in
          b ∙ rw (z, back, ← need_length, filled_none (packed ws) n)

  -- WHAT IS PUT: where the room is short nothing
  abbrev list : List ℕ
  list = filled (packed ws)

  after : (old : List ℕ) (a : Answer) → a ≡ if_room 10 (length list) (length old)
      → space_after a list old ≡ space_after (if_room 10 (length list) (length old)) list old
  after old a q = ap (λ (x : Answer). space_after x list old) q

  pub puts_short : (old : List ℕ) → length old < need → Puts list need old old
  puts_short old h =
      record { words = need_length; space = after old _ (room_short 10 (length list) (length old) need need_length h) }

  -- of a run without writes nothing
  pub puts_empty : need < 2 → (old : List ℕ) → need ≤ length old → Puts list need old old
  puts_empty h old k =
      record {
        words = need_length;
        space = left_empty h old ∙ after old _ (room_enough 10 (length list) (length old) need need_length k);
      }

  -- else the list, filled
  pub puts_filled : (at : ℕ) → at + 2 ≡ need → (old new all : List ℕ) → need ≤ length old
      → new ≡ take at old ++ 0 ∷ 0 ∷ drop (at + 2) old → all ≡ packed ws ++ drop (length (packed ws)) new → Puts list need old all
  puts_filled at p old new all h a b =
      record {
        words = need_length;
        space = left_filled at p old new all h a b ∙ after old _ (room_enough 10 (length list) (length old) need need_length h);
      }
