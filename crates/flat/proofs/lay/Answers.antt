-- The first i words are copied. Assumes nothing.
use mathlib.Core.Path.{refl}
use Prim.Native.Nat.{◌+◌}
use native.Mathlib.Omega.{arith}
use Rattle.numbers.proofs.Copy.{next_word}
use Rattle.flat.proofs.lay.Goals as goal

pub loop-i-preserved : goal.loop-i-preserved
loop-i-preserved c =
    let o = c.loop-i in
    next_word _ c.args.ws.now c.args.at o.i _ (o.i + 1) _ o.fields refl refl (omega arith) (omega arith) o.invariant refl
