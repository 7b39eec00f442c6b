-- The table is what its definition computes to. Assumes nothing.
use mathlib.Core.Path.{refl}
use Rattle.registers.specs.Held.{held}
use Rattle.registers.specs.Tables.{row_in, slot_table}
use Rattle.registers.proofs.held.slot_table.Goals as goal

pub returns : goal.returns
unfolding slot_table row_in held
returns c = refl
