-- The invariant: the commands that are left lead from here to the state that the whole list leads to, with what is counted so far; each has
-- its words and is allowed. Assumes nothing.
use mathlib.Core.Path.{◌≡◌}
use mathlib.Core.Bool.{true}
use Prim.Native.Nat.{◌+◌, ◌-◌, ◌≤◌}
use lib.ListN.{length}
use Rattle.words.specs.Writes.{kept}
use Rattle.words.specs.Commands.{commands, join, full}
use Rattle.registers.specs.Lent.{lent, buffers}
use Rattle.registers.specs.Applied.{apply_all, differences}
use Rattle.reader.specs.ListVerdict.{all_allowed}
use Rattle.reader.proofs.apply_list.Given as goal

abbrev pub invariant-loop-at : goal.invariant-loop-at
invariant-loop-at l =
    (buffers l.state ≡ buffers l.initial.state) × (full l.list (commands l.list l.at) ≡ true)
    × (apply_all (lent l.state) (kept (join l.list (commands l.list l.at)))
    ≡ apply_all (lent l.initial.state) (kept (join l.list (commands l.list 0))))
    × (l.n ≤ l.at) × (l.at ≤ length l.list)
    × (l.n + differences (lent l.state) (kept (join l.list (commands l.list l.at)))
    ≡ differences (lent l.initial.state) (kept (join l.list (commands l.list 0))))
    × (all_allowed (join l.list (commands l.list l.at)) ≡ true)

abbrev pub decreases-loop-at : goal.decreases-loop-at
decreases-loop-at l = length l.list - l.at
