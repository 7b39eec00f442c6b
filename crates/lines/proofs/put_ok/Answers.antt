-- `lines::put_ok` meets its contract: each text and number stands right after the one before it. Assumes nothing.
use native.Mathlib.Omega.{arith}
use Rattle.lines.specs.Text.{ascii, decimal}
use Rattle.lines.proofs.Text.{length_64, put_first, put_next}
use Rattle.lines.proofs.put_ok.Goals as goal

pub put_decimal-b-requires : goal.put_decimal-b-requires
put_decimal-b-requires c =
    let d = length_64 c.args.n c.ranges.n.fits in omega arith

pub put_text-requires : goal.put_text-requires
put_text-requires c =
    let d = length_64 c.args.n c.ranges.n.fits in omega arith

pub returns : goal.returns
returns c =
    let d = length_64 c.args.n c.ranges.n.fits in
    let a = put_first c.args.line.now (ascii "ok ") c.put_text-a.ensures in
    let b = put_next a (decimal c.args.n) (omega arith) c.put_decimal-b.ensures in
    put_next b (ascii "\n") (omega arith) c.put_text.ensures
