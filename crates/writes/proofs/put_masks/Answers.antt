-- The masks are one value, filled in. Assumes nothing.
use mathlib.Core.Path.{◌≡◌, ◌∙◌}
use Prim.Native.Nat.{◌+◌, ◌-◌}
use native.Mathlib.Omega.{arith}
use lib.ListN.{length, take, drop, length-take, length-drop}
use Rattle.writes.proofs.Rows.{masks_filled}
use Rattle.writes.proofs.put_masks.Goals as goal

pub returns : goal.returns
returns c =
    let a = c.args in
    let p = c.parts-h.ensures in
    let e = a.k + (c.parts-h.result.count + 1) - a.k in
    let n : length (take e (drop a.k a.masks.now)) ≡ e =
    length-take e (drop a.k a.masks.now) ∙ omega (arith, length-drop a.k a.masks.now, c.requires.1, p.2) in
    masks_filled a.list.now a.at a.masks.now a.k c.requires.1 _ _ (omega (arith, p.2)) (rw (n, p.1) at (c.fill.ensures.after (λ y t. t)))
