-- The promise of the public function settles its calls: any two answers that it allows, with what is then in the lent buffers, are equal.
-- Assumes nothing.
use mathlib.Core.List.{List}
use Prim.Native.Nat.{ℕ}
use contract.Lifetimes.{Lfts}
use borrow.Fn.Kinds.{Dens}
use Rattle.numbers.specs.Settled.{Settles, settled}
use Rattle.words.specs.Reasons.{told}
use Rattle.words.proofs.Once.{told_one_law}
use Rattle.writes.specs.Listed.{writes_answer, writes_ids, writes_masks, writes_values}
use Rattle.writes.proofs.writes_of.Reads as writes_of_reads
use Rattle.writes.proofs.writes_of.Kinds as writes_of_kinds

-- three buffers, as one thing
pub record Buffers : Type 0 where
  pub ids : List ℕ
  pub masks : List ℕ
  pub values : List ℕ

abbrev pub buffers : List ℕ → List ℕ → List ℕ → Buffers
buffers is ms vs = record { ids = is; masks = ms; values = vs }

pub writes_of_settled : (κs : Lfts 4) (a : Dens κs writes_of_kinds.ps)
    → Settles (λ e. buffers e.1.0.now e.1.1.0.now e.1.1.1.0.now) (writes_of_reads.Post κs a)
writes_of_settled κs a =
    let l = a.0.now in
    let is = a.1.0.now in
    let ms = a.1.1.0.now in
    let vs = a.1.1.1.0.now in
    settled _ _ told told_one_law (writes_answer l is ms vs)
    (buffers (writes_ids l is ms vs) (writes_masks l is ms vs) (writes_values l is ms vs))
    (λ r e p. (p.0, rw (p.1.0, p.1.1.0, p.1.1.1)))
