-- What is stored, as the calls ensure. Assumes nothing.
use mathlib.Core.Path.{refl}
use Prim.Native.Nat.{◌+◌}
use lib.ListN.{get_or}
use Rattle.settings.specs.Ranges.{in_cells}
use Rattle.settings.specs.Stages.{stage_in}
use Rattle.settings.specs.Colours.{colour_of}
use Rattle.combiner.specs.Stage.{alpha_mixed, stage_of}
use Rattle.combiner.proofs.Mixed.{step_table}
use Rattle.combiner.proofs.step.Goals as goal

pub returns : goal.returns
unfolding colour_of alpha_mixed stage_of
returns c =
    let a = c.args in
    step_table a.table.now (stage_in (in_cells a.cells.now) a.b) (get_or a.cells.now (a.b + 3) 0) a.rgb a.alpha
    c.buffer_after.result c.result-result.result refl c.buffer_after.ensures c.result-result.ensures
