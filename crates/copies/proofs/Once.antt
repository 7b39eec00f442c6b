-- The promise of the one function that another crate can call settles its calls. Assumes nothing.
use mathlib.Core.Path.{refl}
use contract.Lifetimes.{Lfts}
use borrow.Fn.Kinds.{Dens}
use Rattle.numbers.specs.Settled.{Settles, settled}
use Rattle.registers.specs.State.{st}
use Rattle.copies.specs.Copy.{taken}
use Rattle.copies.proofs.take_state.Reads as take_state_reads
use Rattle.copies.proofs.take_state.Kinds as take_state_kinds

pub take_state_settled : (κs : Lfts 6) (a : Dens κs take_state_kinds.ps)
    → Settles (λ e. st e.0.now e.1.0.now e.1.1.0.now) (take_state_reads.Post κs a)
take_state_settled κs a =
    settled _ _ (λ r. r) (λ r r' e. e) tt
    (taken (st a.0.now a.1.0.now a.1.1.0.now)
    (st a.1.1.1.0.now a.1.1.1.1.0.now a.1.1.1.1.1.0.now))
    (λ r e p. (refl, p))
