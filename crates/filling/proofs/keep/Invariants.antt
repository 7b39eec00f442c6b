-- From the run's end: what was kept so far stands at the end of the room. Assumes nothing.
use Prim.Native.Nat.{◌≤◌}
use lib.ListN.{drop}
use Rattle.planning.specs.RunWrites.{run_writes}
use Rattle.filling.specs.Putting.{Keeps}
use Rattle.filling.proofs.keep.Given as goal

abbrev pub invariant-loop-i : goal.invariant-loop-i
invariant-loop-i l =
    (l.i ≤ l.at) × Keeps (drop l.i (run_writes l.given)) l.at l.kept_ids l.kept_masks l.kept_values
