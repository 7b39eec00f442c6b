-- The promise of each public function settles its calls: any two answers that it allows, with what is then in the lent buffers, are equal.
-- Assumes nothing.
use mathlib.Core.Path.{◌≡◌, refl, ap}
use contract.Lifetimes.{Lfts}
use borrow.Fn.Kinds.{Dens}
use Rattle.numbers.specs.Answer.{Answers}
use Rattle.numbers.specs.Settled.{Settles, settled}
use Rattle.registers.specs.State.{State, st}
use Rattle.reader.specs.Read.{told_both}
use Rattle.std.specs.Prelude.{Result}
use Rattle.words.specs.declared.Refusal.{Refusal}
use Rattle.reader.specs.declared.Counts.{Counts}
use Rattle.reader.proofs.Once.{both_one}
use Rattle.parts.specs.Progress.{fresh}
use Rattle.pieces.specs.Pieces.{opening, opened_spare, feeding, fed_spare, close_answers, close_progress, closed_live, closed_spare}
use Rattle.parts.specs.declared.Progress.{Progress}
use Rattle.pieces.specs.declared.Closed.{Closed}
use Rattle.pieces.proofs.fresh_progress.Reads as fresh_progress_reads
use Rattle.pieces.proofs.fresh_progress.Kinds as fresh_progress_kinds
use Rattle.pieces.proofs.open.Reads as open_reads
use Rattle.pieces.proofs.open.Kinds as open_kinds
use Rattle.pieces.proofs.feed.Reads as feed_reads
use Rattle.pieces.proofs.feed.Kinds as feed_kinds
use Rattle.pieces.proofs.close.Reads as close_reads
use Rattle.pieces.proofs.close.Kinds as close_kinds

pub fresh_progress_settled : (κs : Lfts 0) (a : Dens κs fresh_progress_kinds.ps) → Settles (λ e. tt {0}) (fresh_progress_reads.Post κs a)
fresh_progress_settled κs a = settled _ _ (λ r. r) (λ r r' e. e) fresh tt (λ r e p. (p, refl))

-- the live state is lent to be read
pub open_settled : (κs : Lfts 6) (a : Dens κs open_kinds.ps)
    → Settles (λ e. st e.1.1.1.0.now e.1.1.1.1.0.now e.1.1.1.1.1.0.now) (open_reads.Post κs a)
open_settled κs a =
    let live = st a.0.now a.1.0.now a.1.1.0.now in
    let spare = st a.1.1.1.0.now a.1.1.1.1.0.now a.1.1.1.1.1.0.now in
    settled _ _ (λ r. r) (λ r r' e. e) (opening live spare) (opened_spare live spare) (λ r e p. (p.0, p.1.0))

pub feed_settled : (κs : Lfts 4) (a : Dens κs feed_kinds.ps)
    → Settles (λ e. st e.1.0.now e.1.1.0.now e.1.1.1.0.now) (feed_reads.Post κs a)
feed_settled κs a =
    let spare = st a.1.0.now a.1.1.0.now a.1.1.1.0.now in
    let l = a.1.1.1.1.0.now in
    settled _ _ (λ r. r) (λ r r' e. e) (feeding a.0 spare l) (fed_spare a.0 spare l) (λ r e p. (p.0, p.1.0))

-- a close is its verdict and its progress
made : Result Counts Refusal → Progress → Closed
made v p = record { verdict = v; progress = p }

closed_one : (r q : Closed) → r.verdict ≡ q.verdict → r.progress ≡ q.progress → r ≡ q
unfolding made
closed_one r q v p = let e : made r.verdict r.progress ≡ made q.verdict q.progress = rw (v, p) in e

abbrev means : Closed → Answers × Progress
means r = (told_both r.verdict, r.progress)

pub close_settled : (κs : Lfts 6) (a : Dens κs close_kinds.ps)
    → Settles {B = State × State}
    (λ e. (
      st e.1.0.now e.1.1.0.now e.1.1.1.0.now,
      st e.1.1.1.1.0.now e.1.1.1.1.1.0.now e.1.1.1.1.1.1.0.now,
    ))
    (close_reads.Post κs a)
close_settled κs a =
    let live = st a.1.0.now a.1.1.0.now a.1.1.1.0.now in
    let spare = st a.1.1.1.1.0.now a.1.1.1.1.1.0.now a.1.1.1.1.1.1.0.now in
    settled _ _ means
    (λ r q e. closed_one r q (both_one r.verdict q.verdict (ap (λ (x : Answers × Progress). x.0) e))
    (ap (λ (x : Answers × Progress). x.1) e))
    (close_answers a.0 live spare, close_progress a.0 live spare) (closed_live a.0 live spare, closed_spare a.0 live spare)
    (λ r e p. (rw (p.0, p.1.0), rw (p.1.1.0, p.1.1.1)))
