-- Lists, and what is left of them after some elements. Assumes nothing.
use mathlib.Core.Path.{◌≡◌}
use mathlib.Core.List.{List, [], ◌∷◌}
use Prim.Native.Nat.{ℕ, zero, suc, ◌-◌, ◌≤◌}
use native.Mathlib.Numerals.{sub-one}
use native.Mathlib.Omega.{arith}
use lib.ListN.{drop}
use lib.Seq.{drop-nil}

-- what is left after one element or more is left of the tail
pub drop_tail : {A : Type 0} (a : A) (l : List A) (k : ℕ) → 1 ≤ k → drop k (a ∷ l) ≡ drop (k - 1) l
drop_tail a l zero h = absurd (omega arith)
drop_tail a l (suc k) h = rw (sub-one (suc k))

-- induction: what holds of no elements, and of a list where it holds of all that is left after one or more, holds of every list
module _
    {A : Type 0} (P : List A → Type 0) (none : P [])
    (some : (a : A) (l : List A) → ((k : ℕ) → 1 ≤ k → P (drop k (a ∷ l))) → P (a ∷ l)) where
  rests : (l : List A) (k : ℕ) → P (drop k l)
  rests [] k = rw drop-nil none
  rests (a ∷ l) zero = some a l (λ k h. rw (drop_tail a l k h) (rests l (k - 1)))
  rests (a ∷ l) (suc k) = rests l k

  pub by_rests : (l : List A) → P l
  by_rests l = rests l 0
