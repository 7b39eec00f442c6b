-- The loop: as long as none is counted, no write before i is refused or dropped, so what is left decides. Assumes nothing.
use Rattle.std.proofs.Common.{◌≡◌, arith}
use Rattle.numbers.proofs.Room.{lengths_level}
use Rattle.packer.proofs.Looking.{clear_more, clear_end}
use Rattle.packer.proofs.count_wrong.Goals as goal

pub loop-i-preserved : goal.loop-i-preserved
loop-i-preserved c =
    let a = c.args in
    let o = c.loop-i in
    let w = c.counted-count in (
      omega (arith, w.ensures.0, o.invariant.0),
      (λ vs q r d.
          let z : o.count ≡ 0 = omega arith in
          let y : w.result ≡ 0 = omega arith in
          let e = lengths_level a.ids.now a.masks.now vs c.requires.0 q in
          let t = c.loop-i-test.true in
          o.invariant.1 vs q z (clear_more a.ids.now a.masks.now vs o.i e t (w.ensures.1 y) d)),
    )

pub returns : goal.returns
returns c =
    let a = c.args in
    let o = c.loop-i in
    λ vs q r.
    let e = lengths_level a.ids.now a.masks.now vs c.requires.0 q in
    o.invariant.1 vs q r (clear_end a.ids.now a.masks.now vs o.i e c.loop-i-test.false)
