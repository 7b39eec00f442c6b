-- Assumes nothing.
use Rattle.ports.specs.Ports.{fog_cells, fog_entries}
use Rattle.ports.proofs.put_fog.Goals as goal

pub returns : goal.returns
unfolding fog_cells fog_entries
returns c =
    (cc, cc)
