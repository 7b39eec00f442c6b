-- By the law for three values. Assumes nothing.
use Prim.Native.Nat.{◌-◌}
use native.Mathlib.Omega.{arith}
use lib.ListN.{length}
use Rattle.commands.proofs.Changes.{by_three}
use Rattle.commands.proofs.few_changes.Goals as goal

pub returns : goal.returns
returns c =
    let a = c.args in
    let n = length a.values.now in
    let p = c.requires in
    let x = c.changed.ensures in
    let y = c.changed-2.ensures in
    let z = c.changed-3.ensures in
    let t = by_three a.e a.old a.values.now a.c 0 c.min.result (n - 1) n p.0 p.1 (omega (arith, c.min.ensures)) (omega arith) in (
      rw (x.0, y.0, z.0, c.merged-one.ensures, c.merged-two.ensures, c.merged-three.ensures) t,
      omega (arith, x.1, y.1, z.1),
    )
