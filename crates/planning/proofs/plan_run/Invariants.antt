-- The loop, from the end of the run: the run of writes that one command could carry, the least words and the tables are right from write
-- i on, whatever the values; the id and the mask of write i are held for the one before it. Assumes nothing.
use mathlib.Core.Path.{◌≡◌}
use mathlib.Core.List.{List}
use Prim.Native.Nat.{ℕ, ◌≤◌, ◌<◌}
use lib.ListN.{length, get_or}
use Rattle.runs.specs.PackedList.{writes}
use Rattle.planning.proofs.Plans.{Kept}
use Rattle.planning.proofs.plan_run.Given as goal

abbrev pub invariant-loop-i : goal.invariant-loop-i
invariant-loop-i l =
    (l.was < 2)
    × (l.i < length l.ids → (l.next_id ≡ get_or l.ids l.i 0) × (l.next_mask ≡ get_or l.masks l.i 0))
    × (length l.ids ≤ l.i → (l.was ≡ 0) × (l.next_id ≡ 0))
    × ((vs : List ℕ) → length l.ids ≡ length vs → Kept
    (writes l.ids l.masks vs) l.i l.was l.run l.last l.before l.need l.after l.least l.extra)
