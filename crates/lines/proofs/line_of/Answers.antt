-- `lines::line_of` meets its contract, by the verdict on the words and by what `line_for` ensures. Assumes nothing.
use mathlib.Core.Path.{◌≡◌, sym, ap, ◌∙◌}
use Rattle.reader.specs.ListVerdict.{verdict}
use Rattle.reader.specs.Read.{told}
use Rattle.lines.specs.Lines.{line_for, line_of}
use Rattle.lines.specs.Text.{ascii}
use Rattle.lines.proofs.Text.{put_first}
use Rattle.lines.proofs.Inputs.{line_of_list, line_of_other}
use Rattle.lines.proofs.line_of.Goals as goal

pub returns-then-bytes : goal.returns-then-bytes
returns-then-bytes c =
    let judged = c.judge_list in
    let b = c.args.bytes.now in
    let v = judged.ensures ∙ ap verdict c.put_words-n.ensures.1 in
    let e : line_for (told judged.result) ≡ line_of b = ap line_for v ∙ sym (line_of_list b c.if-bytes.true) in
    rw (← e) c.line_for.ensures

pub returns-else-bytes : goal.returns-else-bytes
returns-else-bytes c =
    let e = line_of_other c.args.bytes.now c.if-bytes.false in
    rw e (put_first _ (ascii "input\n") c.put_text.ensures)
