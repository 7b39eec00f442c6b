-- What is stored, as the calls ensure. Assumes nothing.
use mathlib.Core.Path.{refl}
use lib.ListN.{get_or}
use Rattle.settings.specs.Ranges.{in_cells}
use Rattle.settings.specs.Stages.{stage_in}
use Rattle.settings.specs.Colours.{colour_of}
use Rattle.combiner.specs.Stage.{alpha_mixed, stage_of}
use Rattle.combiner.proofs.Mixed.{step_table_0}
use Rattle.combiner.proofs.first_step.Goals as goal

pub returns : goal.returns
unfolding colour_of alpha_mixed stage_of
returns c =
    let a = c.args in
    let cells = a.cells.now in
    step_table_0 a.table.now (stage_in (in_cells cells) 0xC0)
    (get_or cells 0xC3 0) c.run_stage.result refl c.run_stage.ensures
