-- The invariant: the elements before i have taken. Assumes nothing.
use mathlib.Core.Path.{◌≡◌}
use lib.ListN.{length}
use Rattle.copies.specs.Copy.{entry_taking, taking}
use Rattle.copies.proofs.take_entries.Given as goal

abbrev pub invariant-loop-i : goal.invariant-loop-i
invariant-loop-i l = (length l.to ≡ length l.from) × (l.to ≡ taking entry_taking l.i l.initial.to l.from)
