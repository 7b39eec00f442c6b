-- The invariant: what is counted so far, with what is still to come from here, is what is counted of all. Assumes nothing.
use mathlib.Core.Path.{◌≡◌}
use Prim.Native.Nat.{◌+◌, ◌-◌}
use native.Mathlib.Omega.{arith}
use lib.ListN.{length}
use Rattle.commands.proofs.Changes.{changes_none, changes_next}
use Rattle.commands.proofs.many_changes.Goals as goal

pub loop-value-preserved : goal.loop-value-preserved
loop-value-preserved c =
    let a = c.args in
    let o = c.loop-value in
    let k = o.value-index in
    let m = c.merged-next.ensures in
    let d = c.changed-n.ensures in
    let left = length a.values.now - k in
    let x = rw (← m) at (changes_next a.e a.old a.values.now o.cell k left (omega arith)) in
    let n : length a.values.now - (k + 1) ≡ left - 1 = omega arith in
    (omega (arith, o.invariant.0, d.1), rw n (omega (arith, o.invariant.1, d.0, x)))

pub returns : goal.returns
returns c =
    let a = c.args in
    let o = c.loop-value in
    let k = o.value-index in
    let z = changes_none a.e a.old a.values.now o.cell k (length a.values.now - k) (omega arith) in
    (omega (arith, o.invariant.1, z), omega (arith, o.invariant.0))
