-- `lines::put_refused` meets its contract: each text and number stands right after the one before it. Assumes nothing.
use native.Mathlib.Omega.{arith}
use Rattle.lines.specs.Text.{ascii, decimal}
use Rattle.lines.proofs.Text.{length_64, put_first, put_next}
use Rattle.lines.proofs.put_refused.Goals as goal

pub put_decimal-b-requires : goal.put_decimal-b-requires
put_decimal-b-requires c =
    let d = length_64 c.args.number (omega arith) in omega arith

pub put_text-c-requires : goal.put_text-c-requires
put_text-c-requires c =
    let d = length_64 c.args.number (omega arith) in omega arith

pub put_decimal-d-requires : goal.put_decimal-d-requires
put_decimal-d-requires c =
    let d = length_64 c.args.number (omega arith) in
    let e = length_64 c.args.place c.ranges.place.fits in omega arith

pub put_text-requires : goal.put_text-requires
put_text-requires c =
    let d = length_64 c.args.number (omega arith) in
    let e = length_64 c.args.place c.ranges.place.fits in omega arith

pub returns : goal.returns
returns c =
    let d = length_64 c.args.number (omega arith) in
    let e = length_64 c.args.place c.ranges.place.fits in
    let f = put_first c.args.line.now (ascii "refused ") c.put_text-a.ensures in
    let g = put_next f (decimal c.args.number) (omega arith) c.put_decimal-b.ensures in
    let h = put_next g (ascii " at ") (omega arith) c.put_text-c.ensures in
    let i = put_next h (decimal c.args.place) (omega arith) c.put_decimal-d.ensures in
    put_next i (ascii "\n") (omega arith) c.put_text.ensures
