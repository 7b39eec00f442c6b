-- The promise of the function that another crate can call settles its calls: any two contents of the space that it allows are equal.
-- Assumes nothing.
use mathlib.Core.Path.{refl}
use mathlib.Core.List.{◌++◌}
use lib.ListN.{length, drop}
use borrow.Fn.Kinds.{Dens}
use contract.Lifetimes.{Lfts}
use Rattle.numbers.specs.Settled.{Settles, settled}
use Rattle.runs.specs.PackedList.{packed}
use Rattle.planning.specs.RunWrites.{run_writes}
use Rattle.laying.proofs.lay_out.Reads as lay_out_reads
use Rattle.laying.proofs.lay_out.Kinds as lay_out_kinds

pub lay_out_settled : (κs : Lfts 3) (a : Dens κs lay_out_kinds.ps) → Settles (λ e. e.1.1.0.now) (lay_out_reads.Post κs a)
lay_out_settled κs a =
    let l = packed (run_writes a.0) in
    settled _ _ (λ r. r) (λ r r' e. e) tt (l ++ drop (length l) a.1.1.0.now) (λ r e p. (refl, p))
