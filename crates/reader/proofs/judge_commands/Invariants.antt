-- Two invariants: what is left of the list has the verdict on its commands, and what is left of a command has the command's fault.
-- Assumes nothing.
use mathlib.Core.Path.{◌≡◌}
use Prim.Native.Nat.{◌+◌, ◌-◌, ◌≤◌}
use lib.ListN.{length}
use Rattle.words.specs.Commands.{run, expand, commands}
use Rattle.reader.specs.ListVerdict.{first_fault, judge, judged}
use Rattle.reader.proofs.judge_commands.Given as goal

abbrev pub invariant-loop : goal.invariant-loop
invariant-loop l =
    (l.end ≤ l.h.count + 1) × (l.id + (l.end - l.counter) ≤ 65792)
    × (first_fault (run l.list l.at (l.end - l.counter) l.counter l.id) ≡ first_fault (expand l.list l.at))

abbrev pub invariant-commands : goal.invariant-commands
invariant-commands l = (l.at ≤ length l.list) × (l.n ≤ l.at) × (judge l.list (commands l.list l.at) l.n ≡ judged l.list)

abbrev pub decreases-commands : goal.decreases-commands
decreases-commands l = length l.list - l.at
