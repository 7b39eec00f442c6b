-- By the number of values. Assumes nothing.
use native.Mathlib.Omega.{arith}
use lib.ListN.{length}
use Rattle.commands.proofs.Changes.{changes_none}
use Rattle.commands.proofs.count_changes.Goals as goal

pub returns-then-values-eq0 : goal.returns-then-values-eq0
returns-then-values-eq0 c =
    let a = c.args in
    let m = c.merged-c.ensures in
    let z = changes_none a.e a.old a.values.now c.merged-c.result 0 (length a.values.now) (omega (arith, c.if-values-eq0.true)) in
    rw (← m) (omega (arith, c.changed-n.ensures.0, z))
