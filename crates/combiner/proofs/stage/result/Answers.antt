-- An idle stage hands on Previous. Assumes nothing.
use mathlib.Core.Path.{sym, ◌∙◌}
use Rattle.combiner.specs.Words.{stage_by}
use Rattle.combiner.proofs.Idle.{idle_word}
use Rattle.combiner.proofs.stage.result.Goals as goal

pub returns-then-is_idle : goal.returns-then-is_idle
returns-then-is_idle c =
    let a = c.args in
    idle_word (stage_by a.cells.now a.b) a.table.now (sym (rw c.words_at.ensures at c.is_idle.ensures) ∙ c.if-is_idle.true)
