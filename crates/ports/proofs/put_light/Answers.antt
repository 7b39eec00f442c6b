-- Assumes nothing.
use mathlib.Core.Path.{sym, ◌∙◌}
use Rattle.ports.specs.Ports.{light_cells, light_entries}
use Rattle.ports.proofs.put_light.Goals as goal
use Rattle.ports.proofs.put_light.Goals.{Then-is_named}

pub returns-then-is_named : goal.returns-then-is_named
unfolding light_cells light_entries
returns-then-is_named c =
    (cc, rw (sym c.is_named.ensures ∙ c.if-is_named.true) (cc))

pub returns-else-is_named : goal.returns-else-is_named
unfolding light_cells light_entries
returns-else-is_named c =
    (cc, rw (sym c.is_named.ensures ∙ c.if-is_named.false))
