-- As the calls ensure. Assumes nothing.
use Rattle.combiner.proofs.Mixed.{own_at}
use Rattle.settings.specs.Ranges.{bits}
use Rattle.combiner.specs.Words.{dot_in}
use Rattle.combiner.proofs.stage.StageWords.own_alpha.Goals as goal

pub returns : goal.returns
returns c =
    let a = c.args in
    let w = a.self in
    rw (c.combine.ensures, c.alpha_operand-b.ensures, c.alpha_operand-a.ensures)
    (own_at a.table.now w.source w.operand (bits w.combiner 16 19) (dot_in a.x a.y))
