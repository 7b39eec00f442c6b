-- The promise of the function that another crate can call settles its calls: any two answers that it allows, with what is then in the lent
-- buffers, are equal. Assumes nothing.
use contract.Lifetimes.{Lfts}
use borrow.Fn.Kinds.{Dens}
use Rattle.numbers.specs.Settled.{Settles, settled}
use Rattle.registers.specs.Lent.{lent}
use Rattle.registers.specs.Applied.{apply_all}
use Rattle.parts.specs.Progress.{made, onward}
use Rattle.parts.proofs.take_part.Reads as take_part_reads
use Rattle.parts.proofs.take_part.Kinds as take_part_kinds

pub take_part_settled : (κs : Lfts 3) (a : Dens κs take_part_kinds.ps) → Settles (λ e. lent e.1.0.now) (take_part_reads.Post κs a)
take_part_settled κs a =
    let s = lent a.1.0.now in
    let l = a.1.1.0.now in
    let ws = made a.0 l in
    settled _ _ (λ r. r) (λ r r' e. e) (onward a.0 s l) (apply_all s ws) (λ r e p. p.1)
