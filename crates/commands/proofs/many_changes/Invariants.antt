-- The invariant: what is counted so far, with what is still to come from here, is what is counted of all. Assumes nothing.
use mathlib.Core.Path.{◌≡◌}
use Prim.Native.Nat.{◌+◌, ◌-◌, ◌≤◌}
use lib.ListN.{length}
use Rattle.commands.specs.Changes.{changes}
use Rattle.commands.proofs.many_changes.Given as goal

abbrev pub invariant-loop-value : goal.invariant-loop-value
invariant-loop-value l =
    (l.n ≤ l.value-index)
    × (l.n + changes l.e l.old l.cell l.values l.value-index (length l.values - l.value-index) ≡ changes l.e l.old l.c l.values 0 (length l.values))
