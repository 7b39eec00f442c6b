-- The invariant: the commands so far lead from the first to here, by writes of which so many made a difference. Assumes nothing.
use Rattle.std.proofs.Common.{◌≡◌, ◌-◌, length}
use Rattle.registers.specs.Lent.{lent, buffers}
use Rattle.parts.specs.Leads.{Leads}
use Rattle.parts.proofs.Ways.{so_far}
use Rattle.parts.proofs.take_commands.Given as goal

abbrev pub invariant-commands : goal.invariant-commands
invariant-commands l =
    (buffers l.state ≡ buffers l.initial.state)
    × Leads l.part l.p l.at (lent l.initial.state)
    (so_far l.p l.come l.place l.first l.id l.mask l.step l.writes) l.i (lent l.state) l.differences

abbrev pub decreases-commands : goal.decreases-commands
decreases-commands l = length l.part - l.i
