-- The loop: as long as none is counted, no write before i is refused or dropped, so what is left decides. Assumes nothing.
use Rattle.std.proofs.Common.{◌≡◌, ℕ, ◌≤◌, List, length, drop}
use Rattle.runs.specs.PackedList.{writes}
use Rattle.packer.specs.Looking.{Clear}
use Rattle.packer.proofs.count_wrong.Given as goal

abbrev pub invariant-loop-i : goal.invariant-loop-i
invariant-loop-i l =
    (l.count ≤ l.i)
    × ((vs : List ℕ) → length l.ids ≡ length vs → l.count ≡ 0
    → Clear l.i (drop l.i (writes l.ids l.masks vs)) → Clear 0 (writes l.ids l.masks vs))
