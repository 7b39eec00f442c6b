-- A run to a port's data is an upload, of which each write counts; one to another single id goes by its values. The invariant of rising
-- ids: what is left of the run leads from here to where all of it leads, and counts, with what was counted so far, what all of it counts.
-- Assumes nothing.
use Rattle.std.proofs.Common.{◌≡◌, ◌+◌, ◌-◌, ◌≤◌}
use Rattle.registers.specs.Lent.{lent, buffers}
use Rattle.registers.specs.Applied.{apply_all, differences}
use Rattle.commands.specs.Run.{run_from}
use Rattle.parts.proofs.put_run.Given as goal

abbrev pub invariant-loop-k : goal.invariant-loop-k
invariant-loop-k l =
    (buffers l.own ≡ buffers l.initial.own) × (l.n ≤ l.k)
    × (apply_all (lent l.own) (run_from l.list (l.from + l.k) (l.fn.h.count - l.k) (l.id + l.k) l.mask 1) ≡ apply_all
    (lent l.initial.own)
    (run_from l.list l.from l.fn.h.count l.id l.mask 1))
    × (l.n + differences (lent l.own) (run_from l.list (l.from + l.k) (l.fn.h.count - l.k) (l.id + l.k) l.mask 1) ≡ differences
    (lent l.initial.own)
    (run_from l.list l.from l.fn.h.count l.id l.mask 1))
