-- Either way out is one case of `signed`. Assumes nothing.
use native.Mathlib.Omega.{arith}
use lib.IntN.{pos, ◌-ℤ◌}
use borrow.Author.Tests.{lt-ltb, le-ltb}
use mir.Syntax.{w32}
use mir.ValLaws.{to_z-of_z}
use Rattle.settings.specs.Ranges.{signed}
use Rattle.settings.proofs.Signed.{small, below}
use Rattle.settings.proofs.raster.signed_ten.Goals as goal

pub overflow_sub-result : goal.overflow_sub-result
overflow_sub-result c = rw (small c.args.x (omega arith)) (below c.args.x 1023 (omega arith) (omega arith))

pub returns-then-x-lt512 : goal.returns-then-x-lt512
unfolding signed
returns-then-x-lt512 c = simp (small c.args.x (omega arith), lt-ltb c.args.x 512 c.if-x-lt512.true)

pub returns-else-x-lt512 : goal.returns-else-x-lt512
unfolding signed
returns-else-x-lt512 c =
    simp (
      small c.args.x (omega arith),
      le-ltb c.args.x 512 c.if-x-lt512.false,
      to_z-of_z w32 (pos c.args.x -ℤ pos 1024) (below c.args.x 1023 (omega arith) (omega arith)),
    )
