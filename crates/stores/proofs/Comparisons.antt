-- Facts of the comparisons, once for every width: what alpha and stencil (8 bits) and depth (16 or 24) share; Widths.antt gives them for
-- each test. Assumes nothing.
use mathlib.Core.Path.{◌≡◌, refl}
use mathlib.Core.Bool.{Bool, true, false, not}
use mathlib.Core.List.{[], ◌∷◌}
use Prim.Native.Nat.{ℕ, zero, suc, ◌-◌, ◌<◌, ◌^◌}
use native.Mathlib.Omega.{arith}
use lib.Dec.{eqb, leb, ltb}
use lib.ListN.{get_or}
use borrow.Author.Tests.{ltb-true, ltb-false, le-ltb, le-leb, lt-leb}
use Rattle.stores.specs.Compare.{compared}

leb_by : (a b : ℕ) (t : Bool) → ltb a b ≡ t → leb b a ≡ not t
leb_by a b true e = lt-leb b a (ltb-true a b e)
leb_by a b false e = le-leb b a (ltb-false a b e)

-- at least is not less
leb_not : (a b : ℕ) → leb b a ≡ not (ltb a b)
leb_not a b = leb_by a b (ltb a b) refl

not_not : (t : Bool) → t ≡ not (not t)
not_not true = refl
not_not false = refl

-- the code that passes exactly where this one fails, whatever the numbers: never and always, equal and unequal, less and at least, at most
-- and greater
abbrev pub opposite : ℕ → ℕ
opposite code = get_or (1 ∷ 0 ∷ 3 ∷ 2 ∷ 7 ∷ 6 ∷ 5 ∷ 4 ∷ []) code 0

module _ (a b : ℕ) where
  pub opposite_by : (code : ℕ) → code < 8 → compared (opposite code) a b ≡ not (compared code a b)
  opposite_by zero h = refl
  opposite_by (suc zero) h = refl
  opposite_by (suc (suc zero)) h = refl
  opposite_by (suc (suc (suc zero))) h = not_not (eqb a b)
  opposite_by (suc (suc (suc (suc zero)))) h = leb_not a b
  opposite_by (suc (suc (suc (suc (suc zero))))) h = rw (leb_not b a) (not_not (ltb b a))
  opposite_by (suc (suc (suc (suc (suc (suc zero)))))) h = leb_not b a
  opposite_by (suc (suc (suc (suc (suc (suc (suc zero))))))) h = rw (leb_not a b) (not_not (ltb a b))
  opposite_by (suc (suc (suc (suc (suc (suc (suc (suc n)))))))) h = absurd (omega arith)

-- What is so of a comparison of numbers of w bits: `passes code b` is its result by the code, with b on its right. Against the largest of
-- its width and against zero, and by opposite codes
pub record AtWidth (w : ℕ) (passes : ℕ → ℕ → Bool) : Type 0 where
  pub at_most_largest : passes 5 (2 ^ w - 1) ≡ true
  pub greater_than_largest : passes 6 (2 ^ w - 1) ≡ false
  pub less_than_zero : passes 4 0 ≡ false
  pub at_least_zero_law : passes 7 0 ≡ true
  pub opposite_fails : (code b : ℕ) → code < 8 → passes (opposite code) b ≡ not (passes code b)

pub at_width : (w a : ℕ) → a < 2 ^ w → AtWidth w (λ code b. compared code a b)
at_width w a h =
    record {
      at_most_largest = le-leb a (2 ^ w - 1) (omega arith);
      greater_than_largest = le-ltb (2 ^ w - 1) a (omega arith);
      less_than_zero = le-ltb a 0 (omega arith);
      at_least_zero_law = le-leb 0 a (omega arith);
      opposite_fails = λ code b l. opposite_by a b code l;
    }
