-- The invariant: what is left to upload leads from here to what all of it leads to. Assumes nothing.
use mathlib.Core.Path.{◌≡◌, sym, ◌∙◌}
use Prim.Native.Nat.{◌+◌, ◌-◌, ◌≤◌}
use native.Mathlib.Omega.{arith}
use Rattle.ports.proofs.Uploads.{uploaded_done, uploaded_stretch, wrapped_within}
use Rattle.ports.proofs.upload.Goals as goal

pub loop-left-preserved : goal.loop-left-preserved
loop-left-preserved c =
    let n = c.min-n.result in
    let o = c.loop-left in
    let a = c.args in
    let m : n + (o.left - n) ≡ o.left = omega (arith, c.min-n.ensures) in
    let b : o.i + n ≤ a.size = omega (arith, c.min-n.ensures) in (
      omega (arith, c.fill.auto),
      rw c.wrap-i.ensures (wrapped_within a.size (o.i + n) (omega arith)),
      omega (arith, c.min-n.ensures),
      rw (c.wrap-i.ensures, c.fill.ensures)
          (sym (uploaded_stretch a.size a.table n (o.left - n) o.i o.entries a.list.now o.j o.invariant.1 b)
          ∙ rw m o.invariant.3),
    )

pub returns : goal.returns
returns c =
    let o = c.loop-left in
    let a = c.args in
    sym (uploaded_done a.size a.table o.i o.entries a.list.now o.j o.left c.loop-left-test.false) ∙ o.invariant.3
