-- The three buffers, one after another. Assumes nothing.
use mathlib.Core.Path.{sym}
use Rattle.copies.proofs.Copies.{taken_is}
use Rattle.copies.proofs.take_state.Goals as goal

pub returns : goal.returns
returns c =
    rw (
      c.take_entries-2.ensures,
      c.take_entries.ensures,
      c.take_cells.ensures,
      c.told-from_fog,
      c.told-from_light,
    )
    (sym (taken_is _ _))
