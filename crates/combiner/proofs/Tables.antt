-- The table from stage to stage is what the stages see. Assumes nothing.
use mathlib.Core.Path.{◌≡◌, refl}
use mathlib.Core.List.{List}
use Prim.Native.Nat.{ℕ}
use lib.ListN.{get_or}
use Rattle.settings.specs.declared.records.Colour.{Colour}
use Rattle.settings.specs.declared.records.Stage.{Stage}
use Rattle.settings.specs.declared.records.Stages.{Stages}
use Rattle.settings.specs.declared.records.BufferFog.{BufferFog}
use Rattle.settings.specs.Ranges.{in_cells}
use Rattle.settings.specs.Stages.{stages_in, buffer_fog_in}
use Rattle.combiner.specs.Operands.{Seen, black, by_code}
use Rattle.combiner.specs.Chain.{result_of, seen_after, at_first, combiner_of}
use Rattle.settings.specs.Colours.{colour_of}
use Rattle.combiner.specs.Words.{table_after, table_at_last, table_by, combiner_by}
use Rattle.combiner.specs.declared.Given.{Given}

-- one stage: the table by code, before and after
table_given : (g : Given) (c : Colour) (seen : Seen) (s : Stage) (rgb alpha : ℕ)
    → table_after s rgb alpha (by_code g c seen) ≡ by_code g s.colour (seen_after g s rgb alpha seen)
unfolding table_after seen_after result_of
table_given g c seen s rgb alpha = refl

seen_result : (g : Given) (s : Stage) (rgb alpha : ℕ) (seen : Seen) → (seen_after g s rgb alpha seen).previous ≡ result_of g s seen
unfolding seen_after
seen_result g s rgb alpha seen = refl

table_result : (stages : Stages) (b : BufferFog) (g : Given)
    → get_or (table_at_last stages b (by_code g black (at_first b.buffer_colour))) 15 black ≡ combiner_of stages b g
unfolding table_at_last combiner_of
table_result stages b g =
    rw (
      table_given g black _ stages.stage0 0 0,
      table_given g _ _ stages.stage1 b.update.rgb1 b.update.alpha1,
      table_given g _ _ stages.stage2 b.update.rgb2 b.update.alpha2,
      table_given g _ _ stages.stage3 b.update.rgb3 b.update.alpha3,
      table_given g _ _ stages.stage4 b.update.rgb4 b.update.alpha4,
      table_given g _ _ stages.stage5 0 0,
    )
    (seen_result g stages.stage5 0 0 _)

-- FD's word is the buffer's colour
fd_colour : (cells : List ℕ) → colour_of (get_or cells 0xFD 0) ≡ (buffer_fog_in (in_cells cells)).buffer_colour
unfolding colour_of
fd_colour cells = refl

pub table_word : (cells : List ℕ) (g : Given)
    → get_or (table_by cells (by_code g black (at_first (colour_of (get_or cells 0xFD 0))))) 15 black ≡ combiner_by cells g
table_word cells g = rw (fd_colour cells) (table_result (stages_in (in_cells cells)) (buffer_fog_in (in_cells cells)) g)
