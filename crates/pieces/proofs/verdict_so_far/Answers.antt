-- Each way out is one case of the close. Assumes nothing.
use mathlib.Core.Path.{sym, ◌∙◌}
use Rattle.parts.proofs.Closing.{closes_long, closes_odd, closes_legal}
use Rattle.pieces.proofs.verdict_so_far.Goals as goal

pub returns-then-p-gt65536 : goal.returns-then-p-gt65536
returns-then-p-gt65536 c = sym (closes_long _ c.if-p-gt65536.true)

pub returns-then-p-ne0 : goal.returns-then-p-ne0
returns-then-p-ne0 c =
    sym (closes_odd c.args.p c.if-p-gt65536.false c.if-p-ne0.true)

pub returns : goal.returns
returns c =
    let e = closes_legal c.args.p c.if-p-gt65536.false c.if-p-ne0.false in
    c.judged_so_far.ensures ∙ sym e
