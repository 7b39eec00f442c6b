-- Assumes nothing.
use Rattle.ports.proofs.Spread.{spread_product}
use Rattle.ports.proofs.spread_mask.Goals as goal

pub returns : goal.returns
returns c = spread_product c.args.m
