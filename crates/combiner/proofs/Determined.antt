-- Any two answers that the promise of `combine` allows are equal. Assumes nothing.
use mathlib.Core.Path.{refl}
use contract.Lifetimes.{Lfts}
use borrow.Fn.Kinds.{Dens}
use Rattle.numbers.specs.Settled.{Settles, settled}
use Rattle.combiner.specs.Words.{combiner_by}
use Rattle.combiner.proofs.combine.Reads as combine_reads
use Rattle.combiner.proofs.combine.Kinds as combine_kinds

pub combine_settled : (κs : Lfts 1) (a : Dens κs combine_kinds.ps) → Settles (λ e. tt {0}) (combine_reads.Post κs a)
combine_settled κs a =
    settled _ _ (λ r. r) (λ r r' e. e) (combiner_by a.0.now a.1.0) tt (λ r e p. (p, refl))
