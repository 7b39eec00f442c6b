-- Each refusal has fewer words left than the command takes. Assumes nothing.
use mathlib.Core.Path.{sym, ap, ◌∙◌}
use native.Mathlib.Omega.{arith}
use Rattle.std.specs.Prelude.{Ok}
use Rattle.words.proofs.Heads.{head_short, head_whole, head_told, header_one}
use Rattle.words.proofs.head_at.Goals as goal

pub returns-then-list-at : goal.returns-then-list-at
returns-then-list-at c =
    let both = head_told c.args.list.now c.args.at _ (sym (head_short c.args.list.now c.args.at (omega arith))) in
    record { answer = both.0; numbers = both.1 }

pub returns-then-left-lt2 : goal.returns-then-left-lt2
returns-then-left-lt2 c =
    let both = head_told c.args.list.now c.args.at _ (sym (head_short c.args.list.now c.args.at (omega arith))) in
    record { answer = both.0; numbers = both.1 }

pub returns-then-left-words_taken : goal.returns-then-left-words_taken
returns-then-left-words_taken c =
    let both = head_told c.args.list.now c.args.at _ (sym (head_short c.args.list.now c.args.at (omega arith))) in
    record { answer = both.0; numbers = both.1 }

pub returns : goal.returns
returns c =
    let h = c.parts-h in
    let p = header_one _ h.result h.ensures.0 h.ensures.1 h.ensures.2 h.ensures.3 in
    let both = head_told c.args.list.now c.args.at _ (ap Ok p ∙ sym (head_whole c.args.list.now c.args.at (omega arith))) in
    record { answer = both.0; numbers = both.1 }
