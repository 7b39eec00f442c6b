-- A long run has none counted; of a short one, as long as the search goes on, what is left decides. Assumes nothing.
use Rattle.std.proofs.Common.{◌≡◌, ℕ, List, length, drop}
use Rattle.runs.specs.PackedList.{writes}
use Rattle.packer.specs.Looking.{Clear}
use Rattle.packer.proofs.all_right.Given as goal

abbrev pub invariant-loop-i : goal.invariant-loop-i
invariant-loop-i l =
    (vs : List ℕ) → length l.ids ≡ length vs → Clear l.i (drop l.i (writes l.ids l.masks vs)) → Clear 0 (writes l.ids l.masks vs)
