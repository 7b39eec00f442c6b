-- Either way out is one case of the verdict. Assumes nothing.
use mathlib.Core.Path.{sym, ◌∙◌}
use Rattle.reader.proofs.Accepted.{verdict_legal, verdict_odd}
use Rattle.reader.proofs.judge_list.Goals as goal

pub returns-then-list-ne0 : goal.returns-then-list-ne0
returns-then-list-ne0 c = sym (verdict_odd c.args.list.now c.if-list-ne0.true)

pub returns : goal.returns
returns c =
    let l = c.args.list.now in
    c.judge_commands.ensures ∙ sym (verdict_legal l c.if-list-ne0.false)
