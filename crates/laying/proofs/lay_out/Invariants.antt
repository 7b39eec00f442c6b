-- The loop: the commands of the writes before i stand in the first `at` words, and the packed list of the rest is left. Assumes nothing.
use Prim.Native.Nat.{◌-◌}
use lib.ListN.{length}
use Rattle.planning.specs.RunWrites.{run_writes}
use Rattle.laying.proofs.Lays.{Laid}
use Rattle.laying.proofs.lay_out.Given as goal

abbrev pub invariant-loop-i : goal.invariant-loop-i
invariant-loop-i l = Laid (run_writes l.given) l.initial.space l.i l.at l.space

abbrev pub decreases-loop-i : goal.decreases-loop-i
decreases-loop-i l = length l.given.ids.now - l.i
