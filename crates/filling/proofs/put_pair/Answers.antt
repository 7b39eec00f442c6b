-- Two stores, one after the other. Assumes nothing.
use Rattle.filling.proofs.Pair.{two_stored}
use Rattle.filling.proofs.put_pair.Goals as goal

pub returns : goal.returns
returns c = two_stored c.args.space.now c.args.at 0 0 c.requires
