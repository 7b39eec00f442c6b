-- From the run's end: what was kept so far stands at the end of the room. Assumes nothing.
use mathlib.Core.Path.{refl}
use Prim.Native.Nat.{◌-◌}
use native.Mathlib.Omega.{arith}
use Rattle.filling.proofs.Keeping.{keeps_none, keeps_dropped, keeps_more}
use Rattle.filling.proofs.keep.Goals as goal

pub loop-i-init : goal.loop-i-init
loop-i-init c =
    let a = c.args in
    let p = c.requires in
    let g = a.given.packable in
    let k = keeps_none a.given.ids.now a.given.masks.now a.given.values.now g.masks g.values _ _ _ _ _ refl refl p.1 p.2 in
    (p.0, k)

pub loop-i-preserved-then-unmasked : goal.loop-i-preserved-then-unmasked
loop-i-preserved-then-unmasked c =
    let a = c.args in
    let g = a.given.packable in
    let o = c.loop-i in
    let next = keeps_dropped a.given.ids.now a.given.masks.now a.given.values.now g.masks g.values _ _ _ o.i (o.i - 1) in (
      omega arith,
      next (omega arith) (omega arith) _ c.if-unmasked.true o.invariant.1,
    )

pub loop-i-preserved : goal.loop-i-preserved
loop-i-preserved c =
    let a = c.args in
    let g = a.given.packable in
    let o = c.loop-i in
    let next = keeps_more a.given.ids.now a.given.masks.now a.given.values.now g.masks g.values _ _ _ o.i (o.i - 1) in (
      omega arith,
      next (omega arith) (omega arith) o.at (o.at - 1) (omega arith) c.if-unmasked.false o.invariant.1,
    )
