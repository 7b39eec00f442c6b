-- A mask spread to bytes by one product. Assumes nothing.
use mathlib.Core.Path.{◌≡◌, ◌∙◌}
use Prim.Native.Nat.{ℕ, ◌+◌, ◌*◌, ◌/◌, ◌%◌, ◌<◌}
use native.Mathlib.Omega.{arith}
use lib.Bits.{bit_and}
use lib.Dec.{eqb}
use lib.ListN.{replicate, length-replicate}
use borrow.Author.Tests.{eqb-true}
use Rattle.numbers.specs.Bits.{spread}
use Rattle.numbers.proofs.Tests.{is_true}
use Rattle.numbers.proofs.Table.{at}

-- one test, computed over the 16 masks
by_mask : (x : ℕ) → x < 16 → bit_and (x * 0x204081) 0x1010101 * 0xFF ≡ spread x
by_mask x h =
    eqb-true _ _
    (is_true _
    (at (λ k _. eqb (bit_and (k * 0x204081) 0x1010101 * 0xFF) (spread k)) (replicate 16 0) tt x
    (omega (arith, length-replicate {A = ℕ} 16 0))))

-- a mask's higher bits aren't looked at
low_2 : (m : ℕ) → m % 16 / 2 % 2 ≡ m / 2 % 2
low_2 m = let q : m / 2 ≡ m / 16 * 8 + m % 16 / 2 = omega arith in omega arith

low_4 : (m : ℕ) → m % 16 / 4 % 2 ≡ m / 4 % 2
low_4 m = let q : m / 4 ≡ m / 16 * 4 + m % 16 / 4 = omega arith in omega arith

low_8 : (m : ℕ) → m % 16 / 8 % 2 ≡ m / 8 % 2
low_8 m = let q : m / 8 ≡ m / 16 * 2 + m % 16 / 8 = omega arith in omega arith

low_bits : (m : ℕ) → spread (m % 16) ≡ spread m
low_bits m = let a : m % 16 % 2 ≡ m % 2 = omega arith in rw (a, low_2 m, low_4 m, low_8 m)

pub spread_product : (m : ℕ) → bit_and (m % 16 * 0x204081) 0x1010101 * 0xFF ≡ spread m
spread_product m = by_mask (m % 16) (omega arith) ∙ low_bits m
