-- A byte about its middle is small. Assumes nothing.
use Rattle.settings.proofs.Signed.{small, fit, back}
use Rattle.combiner.proofs.Signed.{near}
use Rattle.combiner.specs.Dot.{centred}
use lib.IntN.{pos, nat_abs, ◌-ℤ◌}
use Prim.Native.Nat.{◌*◌, ◌≤◌}
use native.Mathlib.Omega.{arith}
use mathlib.Core.Path.{refl}
use Rattle.combiner.proofs.dot.centre.Goals as goal

pub overflow_mul-result : goal.overflow_mul-result
overflow_mul-result c = rw (small c.args.a (omega arith)) (record { sfits = omega arith })

pub overflow_sub-result : goal.overflow_sub-result
overflow_sub-result c =
    rw (small c.args.a (omega arith), small (2 * c.args.a) (omega arith))
    (fit _ (omega (arith, near (2 * c.args.a) (omega arith))))

pub returns : goal.returns
unfolding centred
returns c =
    let n : nat_abs (pos (2 * c.args.a) -ℤ pos 255) ≤ 255 = near (2 * c.args.a) (omega arith) in
    rw (
      small c.args.a (omega arith),
      small (2 * c.args.a) (omega arith),
      back (pos (2 * c.args.a) -ℤ pos 255) (omega arith),
    )
    (refl, n)
