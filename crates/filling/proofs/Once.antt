-- The promise of the function that another crate can call settles its calls: any two answers that it allows, with what is then in the
-- space, are equal. Assumes nothing.
use lib.ListN.{length}
use borrow.Fn.Kinds.{Dens}
use contract.Lifetimes.{Lfts}
use Rattle.numbers.specs.Room.{if_room, space_after}
use Rattle.numbers.specs.Settled.{Settles, settled}
use Rattle.runs.specs.PackedList.{written}
use Rattle.planning.specs.RunWrites.{run_writes}
use Rattle.filling.proofs.put_list.Reads as put_list_reads
use Rattle.filling.proofs.put_list.Kinds as put_list_kinds

pub put_list_settled : (κs : Lfts 2) (a : Dens κs put_list_kinds.ps) → Settles (λ e. e.1.1.0.now) (put_list_reads.Post κs a)
put_list_settled κs a =
    let l = written (run_writes a.0) in
    let old = a.1.1.0.now in
    settled _ _ (λ r. r) (λ r r' e. e) (length l) (space_after (if_room 10 (length l) (length old)) l old) (λ r e p. (p.words, p.space))
