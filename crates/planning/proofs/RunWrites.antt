-- How many writes a run that can be packed has. Assumes nothing.
use mathlib.Core.Path.{◌≡◌}
use lib.ListN.{length}
use Rattle.runs.proofs.Writes.{writes_length}
use Rattle.planning.specs.declared.run.Run.{Run}
use Rattle.planning.specs.RunWrites.{run_writes}

pub run_length : (r : Run) → length (run_writes r) ≡ length r.ids.now
run_length r = writes_length r.ids.now r.masks.now r.values.now r.packable.masks r.packable.values
