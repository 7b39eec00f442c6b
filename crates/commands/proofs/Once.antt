-- The promise of each function that another crate can call settles its calls: any two answers that it allows, with what is then in the lent
-- buffers, are equal. Assumes nothing.
use mathlib.Core.Path.{refl, ap}
use mathlib.Core.List.{[]}
use contract.Lifetimes.{Lfts}
use borrow.Fn.Kinds.{Dens}
use Rattle.numbers.specs.Settled.{Settles, settled}
use Rattle.words.specs.Header.{adds_with}
use Rattle.registers.specs.State.{State, st}
use Rattle.registers.specs.Lent.{lent}
use Rattle.registers.specs.Applied.{apply_all, differences}
use Rattle.commands.specs.Run.{run_from, run_with}
use Rattle.commands.specs.Clear.{last_id, clear}
use Rattle.commands.proofs.last_id.Reads as last_id_reads
use Rattle.commands.proofs.last_id.Kinds as last_id_kinds
use Rattle.commands.proofs.added.Reads as added_reads
use Rattle.commands.proofs.added.Kinds as added_kinds
use Rattle.commands.proofs.is_clear.Reads as is_clear_reads
use Rattle.commands.proofs.is_clear.Kinds as is_clear_kinds
use Rattle.commands.proofs.apply_values.Reads as apply_values_reads
use Rattle.commands.proofs.apply_values.Kinds as apply_values_kinds
use Rattle.commands.proofs.apply_run.Reads as apply_run_reads
use Rattle.commands.proofs.apply_run.Kinds as apply_run_kinds

pub last_id_settled : (κs : Lfts 0) (a : Dens κs last_id_kinds.ps) → Settles (λ e. tt {0}) (last_id_reads.Post κs a)
last_id_settled κs a = settled _ _ (λ r. r) (λ r r' e. e) (last_id a.0 a.1.0 a.1.1.0) tt (λ r e p. (p, refl))

pub added_settled : (κs : Lfts 0) (a : Dens κs added_kinds.ps) → Settles (λ e. tt {0}) (added_reads.Post κs a)
added_settled κs a = settled _ _ (λ r. r) (λ r r' e. e) (adds_with a.0 a.1.0) tt (λ r e p. (p.0, refl))

pub is_clear_settled : (κs : Lfts 0) (a : Dens κs is_clear_kinds.ps) → Settles (λ e. tt {0}) (is_clear_reads.Post κs a)
is_clear_settled κs a = settled _ _ (λ r. r) (λ r r' e. e) (clear a.0 a.1.0 a.1.1.0) tt (λ r e p. (p, refl))

pub apply_values_settled : (κs : Lfts 3) (a : Dens κs apply_values_kinds.ps) → Settles (λ e. e.0.now) (apply_values_reads.Post κs a)
apply_values_settled κs a =
    let s = st a.0.now [] [] in
    let h = a.1.1.0 in
    let ws = run_from a.1.1.1.0.now a.1.1.1.1.0 h.count h.id h.mask 0 in
    settled _ _ (λ r. r) (λ r r' e. e) (differences s ws) (apply_all s ws).cells
    (λ r e p. (p.0 [] [], ap (λ (t : State). t.cells) (p.1 [] [])))

pub apply_run_settled : (κs : Lfts 4) (a : Dens κs apply_run_kinds.ps) → Settles (λ e. lent e.0.now) (apply_run_reads.Post κs a)
apply_run_settled κs a =
    let s = lent a.0.now in
    let h = a.1.1.0 in
    let v = a.1.1.1.0 in
    let l = a.1.1.1.1.0.now in
    let j = a.1.1.1.1.1.0 in
    settled _ _ (λ r. r) (λ r r' e. e) (differences s (run_with h v l j)) (apply_all s (run_with h v l j)) (λ r e p. p.1)
