-- A spot direction runs from -4,095 to 4,096: a number of n + 1 bits that is stored negated is above -2 ^ n, and at most 2 ^ n.
-- Assumes nothing.
use mathlib.Core.Path.{◌≡◌, refl}
use mathlib.Core.Bool.{Bool, true, false}
use mathlib.Core.List.{List}
use Prim.Native.Nat.{ℕ, zero, suc, ◌+◌, ◌-◌, ◌^◌, ◌<◌, ◌≤◌}
use native.Mathlib.Nat.{pow-succ'}
use native.Mathlib.Omega.{arith}
use lib.Dec.{ltb}
use lib.IntN.{ℤ, pos, negsuc, ◌-ℤ◌}
use lib.Signed.{lt_z}
use borrow.Author.Tests.{lt-ltb, ltb-true, ltb-false}
use Rattle.numbers.specs.Pick.{pick}
use Rattle.numbers.specs.Ranges.{in_cells, negated}
use Rattle.numbers.proofs.Signed.{minus, over, negated_is}
use Rattle.lights.specs.Lights.{spot_in}

-- above -m, and at most m
pub record Between (m : ℕ) (z : ℤ) : Type 0 where
  pub above : lt_z (negsuc (m - 1)) z ≡ true
  pub below : lt_z z (pos (suc m)) ≡ true

turned_between : (x m : ℕ) → x < m → Between m (pos 0 -ℤ pos x)
turned_between zero m h = record { above = refl; below = lt-ltb 0 (suc m) (omega arith) }
turned_between (suc k) m h =
    rw (minus 0 (suc k) (omega arith)) (record { above = lt-ltb (suc k - 1) (m - 1) (omega arith); below = refl })

over_between : (x m k : ℕ) → x ≤ k → k ≤ x + m → Between m (pos k -ℤ pos x)
over_between x m k h l = rw (over k x h) (record { above = refl; below = lt-ltb (k - x) (suc m) (omega arith) })

module _ (n x : ℕ) (h : x < 2 ^ suc n) where
  by_sign : (b : Bool) → ltb x (2 ^ n) ≡ b → Between (2 ^ n) (pick b (pos 0 -ℤ pos x) (pos (2 ^ suc n) -ℤ pos x))
  by_sign true t = turned_between x (2 ^ n) (ltb-true x (2 ^ n) t)
  by_sign false t =
      let l = ltb-false x (2 ^ n) t in
      over_between x (2 ^ n) (2 ^ suc n) (omega arith) (omega (arith, pow-succ' 2 n))

  pub negated_between : Between (2 ^ n) (negated (suc n) x)
  negated_between = rw (negated_is n x h) (by_sign (ltb x (2 ^ n)) refl)

-- whatever the cells hold
pub spot_between : (cells : List ℕ) (b : ℕ)
    → let s = spot_in (in_cells cells) b in Between 4096 s.x × Between 4096 s.y × Between 4096 s.z
spot_between cells b =
    (negated_between 12 _ (omega arith), negated_between 12 _ (omega arith), negated_between 12 _ (omega arith))
