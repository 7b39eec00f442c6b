-- Signed numbers: small ones as machine integers of 32 bits, and the range and the word of a signed field. Assumes nothing.
use mathlib.Core.Path.{◌≡◌, refl, ◌∙◌}
use mathlib.Core.Bool.{Bool, true, false}
use Prim.Native.Nat.{ℕ, zero, suc, ◌+◌, ◌-◌, ◌<◌, ◌≤◌, ◌^◌}
use native.Mathlib.Nat.{pow-succ'}
use native.Mathlib.Numerals.{sub-one}
use native.Mathlib.Omega.{arith}
use lib.IntN.{ℤ, pos, negsuc, nat_abs, ◌-ℤ◌}
use lib.Signed.{mag}
use lib.Dec.{ltb}
use borrow.Author.Tests.{lt-ltb, ltb-true, ltb-false}
use Rattle.numbers.specs.Pick.{pick}
use Rattle.settings.specs.Ranges.{signed}
use Rattle.settings.specs.Fields.{twos}
use mir.Syntax.{w32}
use mir.Val.{to_z, of_z, SFits}
use mir.ValLaws.{to_z-of_z}

pub small : (x : ℕ) → x < 0x80000000 → to_z w32 x ≡ pos x
small x h = simp (lt-ltb x 0x80000000 h)

pub below : (x k : ℕ) → x < suc k → k < 0x80000000 → SFits w32 (pos x -ℤ pos (suc k))
below x k h b = simp (lt-ltb x (suc k) h) (record { sfits = omega arith })

-- a result that is stored in a field and read again
pub stored : (z s : ℤ) → mag z < 0x80000000 → z ≡ s → to_z w32 (of_z w32 z) ≡ s
stored z s h e = to_z-of_z w32 z (record { sfits = h }) ∙ e

minus : (x m : ℕ) → x < m → pos x -ℤ pos m ≡ negsuc (m - suc x)
minus x zero h = absurd (omega arith)
minus x (suc k) h = simp (lt-ltb x (suc k) h)

module _ (n x : ℕ) (h : x < 2 ^ suc n) where
  range_by : (b : Bool) → ltb x (2 ^ n) ≡ b → mag (pick b (pos x) (pos x -ℤ pos (2 ^ suc n))) < 2 ^ n
  range_by true t = ltb-true x (2 ^ n) t
  range_by false t = let l = ltb-false x (2 ^ n) t in rw (minus x (2 ^ suc n) h) (omega (arith, pow-succ' 2 n))

  -- a number of n + 1 bits reads as -2 ^ n .. 2 ^ n - 1
  pub signed_range : mag (signed (suc n) x) < 2 ^ n
  unfolding signed
  signed_range = rw (sub-one (suc n)) (range_by (ltb x (2 ^ n)) refl)

  word_by : (b : Bool) → 2 ^ suc n ≤ 0x100000000
      → twos (pick b (pos x) (pos x -ℤ pos (2 ^ suc n))) ≡ pick b x (x + (0x100000000 - 2 ^ suc n))
  word_by true l = refl
  word_by false l = rw (minus x (2 ^ suc n) h) (omega arith)

  -- and as a word it has ones above those bits where it is negative
  pub signed_word : 2 ^ suc n ≤ 0x100000000 → twos (signed (suc n) x) ≡ pick (ltb x (2 ^ n)) x (x + (0x100000000 - 2 ^ suc n))
  unfolding signed
  signed_word l = rw (sub-one (suc n)) (word_by (ltb x (2 ^ n)) l)

-- a number by its size
pub fit : (z : ℤ) → nat_abs z < 0x80000000 → SFits w32 z
fit (pos n) h = record { sfits = h }
fit (negsuc n) h = record { sfits = omega arith }

-- what is stored and read again
pub back : (z : ℤ) → nat_abs z < 0x80000000 → to_z w32 (of_z w32 z) ≡ z
back z h = to_z-of_z w32 z (fit z h)
