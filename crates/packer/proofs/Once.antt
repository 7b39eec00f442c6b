-- The promise of each public function settles its calls: any two answers that it allows, with what is then in the space, are equal.
-- Assumes nothing.
use Rattle.std.proofs.Common.{◌≡◌, ℕ, length, refl, ap, arith}
use borrow.Fn.Kinds.{Dens}
use contract.Lifetimes.{Lfts}
use Rattle.numbers.specs.Settled.{Settles, settled}
use Rattle.std.specs.Prelude.{Result, Ok, Err}
use Rattle.words.specs.declared.Refusal.{Refusal}
use Rattle.words.proofs.Once.{refusal_one}
pub use Rattle.words.proofs.Once.{told_one_law}
use Rattle.packer.specs.Checks.{found, check_answer}
use Rattle.packer.specs.Packing.{told, pack_answer, pack_space}
use Rattle.packer.proofs.check.Reads as check_reads
use Rattle.packer.proofs.check.Kinds as check_kinds
use Rattle.packer.proofs.pack.Reads as pack_reads
use Rattle.packer.proofs.pack.Kinds as pack_kinds

-- no two answers of the check mean the same
pub found_one : (a b : Result (Unit {0}) Refusal) → found a ≡ found b → a ≡ b
found_one (Ok u) (Ok v) e = refl
found_one (Ok u) (Err r) e = absurd (let z : ◌≡◌ {A = ℕ} 0 1 = cc in omega arith)
found_one (Err r) (Ok u) e = absurd (let z : ◌≡◌ {A = ℕ} 0 1 = cc in omega arith)
found_one (Err r) (Err q) e = ap Err (refusal_one r q (cc) (cc))

pub check_settled : (κs : Lfts 3) (a : Dens κs check_kinds.ps) → Settles (λ e. tt {0}) (check_reads.Post κs a)
check_settled κs a =
    settled _ _ found found_one (check_answer a.0.now a.1.0.now a.1.1.0.now) tt (λ r e p. (p, refl))

pub pack_settled : (κs : Lfts 4) (a : Dens κs pack_kinds.ps) → Settles (λ e. e.1.1.1.0.now) (pack_reads.Post κs a)
pack_settled κs a =
    let is = a.0.now in
    let ms = a.1.0.now in
    let vs = a.1.1.0.now in
    let old = a.1.1.1.0.now in
    settled _ _ told told_one_law (pack_answer is ms vs (length old)) (pack_space is ms vs old) (λ r e p. p)
