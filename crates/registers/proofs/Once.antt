-- The promise of each function that another crate can call settles its calls: any two answers that it allows, with what is then in the lent
-- buffers, are equal. Assumes nothing.
use mathlib.Core.Path.{◌≡◌, refl, ap}
use mathlib.Core.Bool.{Bool, true, false, not}
use Prim.Native.Nat.{ℕ, ◌+◌}
use native.Mathlib.Omega.{arith}
use contract.Lifetimes.{Lfts}
use borrow.Fn.Kinds.{Dens}
use lib.Dec.{eqb}
use Rattle.numbers.specs.Pick.{pick}
use Rattle.numbers.specs.Settled.{Settles, settled}
use Rattle.words.specs.Writes.{writing}
use Rattle.words.proofs.Once.{refusal_one}
use Rattle.registers.specs.Held.{bits_of}
use Rattle.registers.specs.State.{st, sized}
use Rattle.registers.specs.Lent.{lent}
use Rattle.registers.specs.Tables.{slot_table, held_table}
use Rattle.registers.specs.Applied.{put, differs}
use Rattle.registers.specs.Single.{told, write_answer, write_state}
use Rattle.std.specs.Prelude.{Result, Ok, Err}
use Rattle.words.specs.declared.Refusal.{Refusal}
use Rattle.registers.proofs.is_sized.Reads as is_sized_reads
use Rattle.registers.proofs.is_sized.Kinds as is_sized_kinds
use Rattle.registers.proofs.held.HeldTable.bits_of.Reads as bits_of_reads
use Rattle.registers.proofs.held.HeldTable.bits_of.Kinds as bits_of_kinds
use Rattle.registers.proofs.changed.Reads as changed_reads
use Rattle.registers.proofs.changed.Kinds as changed_kinds
use Rattle.registers.proofs.lent.Lent.put_one.Reads as put_one_reads
use Rattle.registers.proofs.lent.Lent.put_one.Kinds as put_one_kinds
use Rattle.registers.proofs.held.slot_table.Reads as slot_table_reads
use Rattle.registers.proofs.held.slot_table.Kinds as slot_table_kinds
use Rattle.registers.proofs.held.held_table.Reads as held_table_reads
use Rattle.registers.proofs.held.held_table.Kinds as held_table_kinds
use Rattle.registers.proofs.write.Reads as write_reads
use Rattle.registers.proofs.write.Kinds as write_kinds

one_bit : (a b : Bool) → ◌≡◌ {A = ℕ} (pick a 1 0) (pick b 1 0) → a ≡ b
one_bit true true e = refl
one_bit true false e = absurd (omega arith)
one_bit false true e = absurd (omega arith)
one_bit false false e = refl

-- no two answers of a single write mean the same
pub told_one_law : (a b : Result Bool Refusal) → told a ≡ told b → a ≡ b
told_one_law (Ok a) (Ok b) e = ap Ok (one_bit a b (cc))
told_one_law (Ok a) (Err r) e = let z : ◌≡◌ {A = ℕ} 0 1 = cc in absurd (omega arith)
told_one_law (Err r) (Ok b) e = let z : ◌≡◌ {A = ℕ} 0 1 = cc in absurd (omega arith)
told_one_law (Err r) (Err q) e = ap Err (refusal_one r q (cc) (cc))

pub write_settled : (κs : Lfts 3) (a : Dens κs write_kinds.ps)
    → Settles (λ e. st e.0.now e.1.0.now e.1.1.0.now) (write_reads.Post κs a)
write_settled κs a =
    let s = st a.0.now a.1.0.now a.1.1.0.now in
    let w = writing a.1.1.1.0 a.1.1.1.1.0 a.1.1.1.1.1.0 in
    settled _ _ told told_one_law (write_answer s w) (write_state s w) (λ r e p. p)

pub is_sized_settled : (κs : Lfts 3) (a : Dens κs is_sized_kinds.ps) → Settles (λ e. tt {0}) (is_sized_reads.Post κs a)
is_sized_settled κs a =
    settled _ _ (λ r. r) (λ r r' e. e) (sized (st a.0.now a.1.0.now a.1.1.0.now)) tt (λ r e p. (p.0, refl))

-- the steps below the entry points, which other crates of the library call
pub slot_table_settled : (κs : Lfts 0) (a : Dens κs slot_table_kinds.ps) → Settles (λ e. tt {0}) (slot_table_reads.Post κs a)
slot_table_settled κs a = settled _ _ (λ r. r) (λ r r' e. e) slot_table tt (λ r e p. (p, refl))

pub held_table_settled : (κs : Lfts 0) (a : Dens κs held_table_kinds.ps) → Settles (λ e. tt {0}) (held_table_reads.Post κs a)
held_table_settled κs a = settled _ _ (λ r. r) (λ r r' e. e) held_table tt (λ r e p. (p, refl))

pub put_one_settled : (κs : Lfts 3) (a : Dens κs put_one_kinds.ps) → Settles (λ e. lent e.0.now) (put_one_reads.Post κs a)
put_one_settled κs a =
    let s = lent a.0.now in
    let id = a.1.1.0 in
    let bytes = a.1.1.1.0 in
    let value = a.1.1.1.1.0 in
    let n = a.1.1.1.1.1.0 in
    settled _ _ (λ r. r) (λ r r' e. e) (n + pick (differs s id bytes value) 1 0) (put s id bytes value)
    (λ r e p. (p.1.0.0, p.1.1))

pub changed_settled : (κs : Lfts 0) (a : Dens κs changed_kinds.ps) → Settles (λ e. tt {0}) (changed_reads.Post κs a)
changed_settled κs a =
    settled _ _ (λ r. r) (λ r r' e. e) (pick (not (eqb a.1.0 a.0)) 1 0) tt (λ r e p. (p.0, refl))

pub bits_of_settled : (κs : Lfts 1) (a : Dens κs bits_of_kinds.ps) → Settles (λ e. tt {0}) (bits_of_reads.Post κs a)
bits_of_settled κs a = settled _ _ (λ r. r) (λ r r' e. e) (bits_of a.1.0) tt (λ r e p. (p, refl))
