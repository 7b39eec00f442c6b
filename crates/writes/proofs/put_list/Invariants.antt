-- The writes of the commands before `at` stand in the first k places, and each command that is left has its words. Assumes nothing.
use mathlib.Core.Path.{◌≡◌}
use mathlib.Core.Bool.{true}
use Prim.Native.Nat.{◌-◌}
use lib.ListN.{length}
use Rattle.words.specs.Commands.{commands, full}
use Rattle.writes.proofs.Standing.{Stands}
use Rattle.writes.proofs.put_list.Given as goal

abbrev pub invariant-loop-at : goal.invariant-loop-at
invariant-loop-at l =
    (full l.list (commands l.list l.at) ≡ true)
    × Stands l.list l.initial.ids l.initial.masks l.initial.values l.at l.k l.ids l.masks l.values

abbrev pub decreases-loop-at : goal.decreases-loop-at
decreases-loop-at l = length l.list - l.at
