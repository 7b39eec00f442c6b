-- A long run has none counted; of a short one, as long as the search goes on, what is left decides. Assumes nothing.
use Rattle.std.proofs.Common.{eqb-true}
use mathlib.Core.Bool.{false≢true}
use Rattle.numbers.proofs.Room.{lengths_level}
use Rattle.packer.proofs.Looking.{clear_more, clear_end}
use Rattle.packer.proofs.all_right.Goals as goal

pub loop-i-preserved : goal.loop-i-preserved
loop-i-preserved c =
    let a = c.args in
    let o = c.loop-i in
    let t = c.loop-i-test.true in
    λ vs q d.
    let e = lengths_level a.ids.now a.masks.now vs c.requires.0 q in
    o.invariant vs q (clear_more a.ids.now a.masks.now vs o.i e t (c.counted.ensures.1 c.if-counted-ne0.false) d)

pub returns : goal.returns
returns c =
    let a = c.args in
    let o = c.loop-i in
    λ vs q r.
    let e = lengths_level a.ids.now a.masks.now vs c.requires.0 q in
    o.invariant vs q (clear_end a.ids.now a.masks.now vs o.i e c.loop-i-test.false)
