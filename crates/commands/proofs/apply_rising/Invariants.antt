-- The invariant: what is left of the command leads from here to the state that all of it leads to. Assumes nothing.
use mathlib.Core.Path.{◌≡◌}
use Prim.Native.Nat.{◌+◌, ◌-◌, ◌≤◌}
use Rattle.registers.specs.Lent.{lent, buffers}
use Rattle.registers.specs.Applied.{apply_all, differences}
use Rattle.commands.specs.Run.{run_from}
use Rattle.commands.proofs.apply_rising.Given as goal

abbrev pub invariant-loop-k : goal.invariant-loop-k
invariant-loop-k l =
    (buffers l.state ≡ buffers l.initial.state)
    × (apply_all (lent l.state) (run_from l.list (l.from + l.k) (l.h.count - l.k) (l.h.id + 1 + l.k) l.mask 1)
    ≡ apply_all (lent l.initial.state) (run_from l.list l.from l.h.count (l.h.id + 1) l.mask 1))
    × (l.n ≤ l.initial.n + l.k)
    × (l.n + differences (lent l.state) (run_from l.list (l.from + l.k) (l.h.count - l.k) (l.h.id + 1 + l.k) l.mask 1)
    ≡ l.initial.n + differences (lent l.initial.state)
    (run_from l.list l.from l.h.count (l.h.id + 1) l.mask 1))
