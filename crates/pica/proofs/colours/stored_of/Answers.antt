-- As the call ensures. Assumes nothing.

use Rattle.pica.proofs.colours.stored_of.Goals as goal

pub returns : goal.returns
returns c = rw c.colour_of.ensures
