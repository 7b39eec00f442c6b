-- The first i words are copied. Assumes nothing.
use mathlib.Core.Path.{refl}
use Prim.Native.Nat.{◌+◌}
use native.Mathlib.Omega.{arith}
use Rattle.numbers.proofs.Copy.{next_word}
use Rattle.laying.proofs.copy_in.Goals as goal

pub loop-i-preserved : goal.loop-i-preserved
loop-i-preserved c =
    let o = c.loop-i in
    next_word _ c.args.words.now c.args.at o.i _ (o.i + 1) _ o.space refl refl (omega arith) (omega arith) o.invariant refl
