-- A signed total held to 0 and above. Assumes nothing.
use mathlib.Core.Path.{◌≡◌, refl}
use Prim.Native.Nat.{zero, suc, ◌≤◌}
use native.Mathlib.Omega.{arith}
use lib.IntN.{ℤ, pos, negsuc, nat_abs}
use borrow.Author.Tests.{lt-ltb}
use Rattle.std.specs.Int.{int_max}
use Rattle.combiner.specs.Dot.{at_least_zero}

pub max_zero : (s : ℤ) → nat_abs (int_max s (pos 0)) ≡ at_least_zero s
unfolding at_least_zero
max_zero (pos zero) = refl
max_zero (pos (suc n)) = rw (lt-ltb 0 (suc n) (omega arith))
max_zero (negsuc n) = refl

pub at_most_abs : (s : ℤ) → at_least_zero s ≤ nat_abs s
unfolding at_least_zero
at_most_abs (pos n) = omega arith
at_most_abs (negsuc n) = omega arith
