-- The promise of each public function settles its calls: any two answers that it allows, with what is then in the lent buffers, are equal.
-- Assumes nothing.
use mathlib.Core.Path.{◌≡◌, refl, ap}
use Prim.Native.Nat.{ℕ}
use native.Mathlib.Omega.{arith}
use contract.Lifetimes.{Lfts}
use borrow.Fn.Kinds.{Dens}
use Rattle.numbers.specs.Settled.{Settles, settled}
use Rattle.words.proofs.Once.{refusal_one}
pub use Rattle.words.proofs.Once.{told_one_law}
use Rattle.registers.specs.State.{st}
use Rattle.reader.specs.ListVerdict.{verdict}
use Rattle.reader.specs.Read.{told, told_both, read_answers, read_state}
use Rattle.std.specs.Prelude.{Result, Ok, Err}
use Rattle.words.specs.declared.Refusal.{Refusal}
use Rattle.reader.specs.declared.Counts.{Counts}
use Rattle.reader.proofs.judge_list.Reads as judge_list_reads
use Rattle.reader.proofs.judge_list.Kinds as judge_list_kinds
use Rattle.reader.proofs.read.Reads as read_reads
use Rattle.reader.proofs.read.Kinds as read_kinds

-- no two readings mean the same
pub both_one : (a b : Result Counts Refusal) → told_both a ≡ told_both b → a ≡ b
both_one (Ok c) (Ok d) e =
    let w : c.writes ≡ d.writes = cc in
    let n : c.differences ≡ d.differences = cc in
    ap Ok (rw (w, n))
both_one (Ok c) (Err r) e = let z : ◌≡◌ {A = ℕ} 0 1 = cc in absurd (omega arith)
both_one (Err r) (Ok c) e = let z : ◌≡◌ {A = ℕ} 0 1 = cc in absurd (omega arith)
both_one (Err r) (Err q) e = ap Err (refusal_one r q (cc) (cc))

pub judge_list_settled : (κs : Lfts 1) (a : Dens κs judge_list_kinds.ps) → Settles (λ e. tt {0}) (judge_list_reads.Post κs a)
judge_list_settled κs a = settled _ _ told told_one_law (verdict a.0.now) tt (λ r e p. (p, refl))

pub read_settled : (κs : Lfts 4) (a : Dens κs read_kinds.ps)
    → Settles (λ e. st e.0.now e.1.0.now e.1.1.0.now) (read_reads.Post κs a)
read_settled κs a =
    let s = st a.0.now a.1.0.now a.1.1.0.now in
    let l = a.1.1.1.0.now in
    settled _ _ told_both both_one (read_answers s l) (read_state s l) (λ r e p. p)
