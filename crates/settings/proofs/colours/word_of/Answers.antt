-- Channel by channel. Assumes nothing.
use native.Mathlib.Omega.{arith}
use Rattle.settings.proofs.Inverse.{inverse}
use Rattle.settings.proofs.colours.word_of.Goals as goal

pub returns : goal.returns
returns c =
    let e = c.from_le_bytes.ensures in
    record {
      word = e;
      back = rw e (inverse.0 c.args.c (record { red = omega arith; green = omega arith; blue = omega arith; alpha = omega arith }));
    }
