-- The invariant: the cells before i have taken. Assumes nothing.
use mathlib.Core.Path.{◌≡◌}
use lib.ListN.{length}
use Rattle.copies.specs.Copy.{cell_taking, taking}
use Rattle.copies.proofs.take_cells.Given as goal

abbrev pub invariant-loop-id : goal.invariant-loop-id
invariant-loop-id l = (length l.to ≡ 768) × (l.to ≡ taking cell_taking l.id l.initial.to l.from)
