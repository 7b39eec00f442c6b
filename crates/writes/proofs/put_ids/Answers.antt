-- The first ids stand in their places, and the next one is at hand. Assumes nothing.
use mathlib.Core.Path.{◌≡◌, ap, ◌∙◌}
use Prim.Native.Nat.{ℕ, ◌+◌, ◌-◌, ◌<◌}
use native.Mathlib.Omega.{arith}
use lib.ListN.{length, length-take, length-drop}
use lib.Seq.{get_or-set_same, get_or-set_other}
use borrow.Author.Count.{below_more}
use Rattle.writes.proofs.Rows.{id_first, id_next, ids_put}
use Rattle.writes.proofs.put_ids.Goals as goal

pub loop-id-init : goal.loop-id-init
loop-id-init c =
    let p = c.parts-h.ensures in (omega (arith, p.0), λ t. p.0 ∙ id_first c.args.list.now c.args.at, λ j t. absurd (omega arith))

pub loop-id-preserved : goal.loop-id-preserved
loop-id-preserved c =
    let a = c.args in
    let o = c.loop-id in
    let p = c.parts-h.ensures in
    let n : o.id-index < c.parts-h.result.count + 1 = omega (arith, length-take {A = ℕ}, length-drop {A = ℕ}) in
    let h : o.id-index < length o.id-items = omega (arith, o.auto.id-items, c.loop-id-test.true) in
    let i = o.invariant.1 n in (
      omega (arith, p.3, o.invariant.0),
      (λ t. ap (λ (y : ℕ). o.next + y) p.3 ∙ id_next a.list.now a.at o.id-index o.next (omega (arith, t, p.2)) i),
      below_more _ _ (λ j t. get_or-set_other _ o.id-index j o.next 0 (omega arith) ∙ o.invariant.2 j t)
          (get_or-set_same _ o.id-index o.next 0 h ∙ i),
    )

pub returns : goal.returns
returns c =
    let a = c.args in
    let o = c.loop-id in
    let p = c.parts-h.ensures in
    let n : length o.id-items ≡ a.k + (c.parts-h.result.count + 1) - a.k =
    omega (arith, o.auto.id-items, length-take {A = ℕ}, length-drop {A = ℕ}, c.requires.1, p.2) in
    ids_put a.list.now a.at a.ids.now a.k c.requires.1 _ _ (omega (arith, p.2)) n
    (λ j t. o.invariant.2 j (omega (arith, n, c.loop-id-test.false, o.auto.id-items)))
