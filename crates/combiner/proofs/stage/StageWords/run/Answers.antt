-- As the calls ensure. Assumes nothing.
use mathlib.Core.Path.{refl, ◌∙◌}
use Prim.Native.Nat.{◌/◌, ◌%◌, ◌^◌}
use Rattle.combiner.proofs.Mixed.{operand_at, stage_parts}
use Rattle.combiner.proofs.stage.StageWords.run.Goals as goal

pub returns : goal.returns
returns c =
    let w = c.args.self in
    let ws = c.args.table.now in
    c.finish.ensures ∙
    stage_parts _ _ _ _ _ _ _
    (operand_at ws w.source (w.operand % 16) _ c.rgb_operand-x.ensures)
    (operand_at ws (w.source / 2 ^ 4) (w.operand / 2 ^ 4 % 16) _ c.rgb_operand-y.ensures)
    (operand_at ws (w.source / 2 ^ 8) (w.operand / 2 ^ 8 % 16) _ refl)
    c.mix_rgb-mixed.ensures
    c.mix_alpha-alpha.ensures
