-- The table is what its definition computes to. Assumes nothing.
use mathlib.Core.Path.{refl}
use Rattle.registers.specs.Held.{held}
use Rattle.registers.specs.Tables.{row_words, held_table}
use Rattle.registers.proofs.held.held_table.Goals as goal

pub returns : goal.returns
unfolding held_table row_words held
returns c = refl
