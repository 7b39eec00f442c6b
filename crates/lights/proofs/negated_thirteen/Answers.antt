-- As the law says. Assumes nothing.
use Rattle.lights.proofs.Turned.{thirteen_fits, thirteen}
use Rattle.lights.proofs.negated_thirteen.Goals as goal

pub overflow_sub-result : goal.overflow_sub-result
overflow_sub-result c = thirteen_fits c.args.x c.requires

pub returns : goal.returns
returns c = thirteen c.args.x c.requires
