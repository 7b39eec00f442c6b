-- The next word follows those before it.
use mathlib.Core.Path.{◌≡◌, ◌∙◌}
use native.Mathlib.Omega.{arith}
use Rattle.lines.specs.Lines.{word_at}
use Rattle.lines.proofs.Words.{no_words, next_word}
use Rattle.lines.proofs.put_words.Goals as goal

pub loop-i-init : goal.loop-i-init
loop-i-init c = no_words c.args.bytes.now c.args.words.now

pub loop-i-preserved : goal.loop-i-preserved
loop-i-preserved c =
    let b = c.args.bytes.now in
    let o = c.loop-i in
    let e : c.from_le_bytes.result ≡ word_at b o.i = c.from_le_bytes.ensures ∙ omega arith in
    next_word b o.words o.i c.from_le_bytes.result (omega arith) e o.invariant
