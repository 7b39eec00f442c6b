-- The promise of each C function settles its calls: any two answers that it allows, with what is then in the lent buffers, are equal.
-- Assumes nothing.
use mathlib.Core.List.{List}
use Prim.Native.Nat.{ℕ}
use lib.ListN.{length}
use contract.Lifetimes.{Lfts}
use borrow.Fn.Kinds.{Dens}
use Rattle.numbers.specs.Settled.{Settles, settled}
use Rattle.words.specs.Writes.{writing}
use Rattle.registers.specs.State.{State, st}
use Rattle.registers.specs.Single.{write_answer, write_state}
use Rattle.reader.specs.Read.{read_answers, read_state}
use Rattle.pieces.specs.Pieces.{opening, opened_spare, feeding, fed_spare, close_answers, close_progress, closed_live, closed_spare}
use Rattle.pieces.specs.Pieces as pieces
use Rattle.writes.specs.Listed.{writes_answer, writes_ids, writes_masks, writes_values}
use Rattle.writes.proofs.Once.{buffers}
use Rattle.packer.specs.Packing.{pack_answer, pack_space}
use Rattle.decode.specs.Decoded.{decoded_of}
use Rattle.pica.specs.Calls.{answer, answers, differences_after, decode_call, fields_after, fragment_of, fragment_call, stored_words_after}
use Rattle.pica.specs.Readers.{progress_of, words_of, reader_after}
use Rattle.pica.proofs.pica_read.Reads as pica_read_reads
use Rattle.pica.proofs.pica_read.Kinds as pica_read_kinds
use Rattle.pica.proofs.pica_open.Reads as pica_open_reads
use Rattle.pica.proofs.pica_open.Kinds as pica_open_kinds
use Rattle.pica.proofs.pica_feed.Reads as pica_feed_reads
use Rattle.pica.proofs.pica_feed.Kinds as pica_feed_kinds
use Rattle.pica.proofs.pica_close.Reads as pica_close_reads
use Rattle.pica.proofs.pica_close.Kinds as pica_close_kinds
use Rattle.pica.proofs.pica_write.Reads as pica_write_reads
use Rattle.pica.proofs.pica_write.Kinds as pica_write_kinds
use Rattle.pica.proofs.pica_writes.Reads as pica_writes_reads
use Rattle.pica.proofs.pica_writes.Kinds as pica_writes_kinds
use Rattle.pica.proofs.pica_pack.Reads as pica_pack_reads
use Rattle.pica.proofs.pica_pack.Kinds as pica_pack_kinds
use Rattle.pica.proofs.pica_decode.Reads as pica_decode_reads
use Rattle.pica.proofs.pica_decode.Kinds as pica_decode_kinds
use Rattle.pica.proofs.pica_fragment.Reads as pica_fragment_reads
use Rattle.pica.proofs.pica_fragment.Kinds as pica_fragment_kinds

pub pica_read_settled : (κs : Lfts 5) (a : Dens κs pica_read_kinds.ps)
    → Settles {B = State × List ℕ} (λ e. (st e.0.now e.1.0.now e.1.1.0.now, e.1.1.1.1.0.now)) (pica_read_reads.Post κs a)
pica_read_settled κs a =
    let s = st a.0.now a.1.0.now a.1.1.0.now in
    let r = read_answers s a.1.1.1.0.now in
    settled _ _ (λ r. r) (λ r r' e. e) (answers r) (read_state s a.1.1.1.0.now, differences_after r a.1.1.1.1.0.now)
    (λ r e p. (p.0, rw (p.1.0, p.1.1)))

pub pica_open_settled : (κs : Lfts 7) (a : Dens κs pica_open_kinds.ps)
    → Settles {B = State × List ℕ}
    (λ e. (st e.1.1.1.0.now e.1.1.1.1.0.now e.1.1.1.1.1.0.now, e.1.1.1.1.1.1.0.now))
    (pica_open_reads.Post κs a)
pica_open_settled κs a =
    let live = st a.0.now a.1.0.now a.1.1.0.now in
    let spare = st a.1.1.1.0.now a.1.1.1.1.0.now a.1.1.1.1.1.0.now in
    let g = opening live spare in
    settled _ _ (λ r. r) (λ r r' e. e) (answer (pieces.told g))
    (opened_spare live spare, reader_after g a.1.1.1.1.1.1.0.now)
    (λ r e p. (p.0, rw (p.1.0, p.1.1)))

pub pica_feed_settled : (κs : Lfts 5) (a : Dens κs pica_feed_kinds.ps)
    → Settles {B = State × List ℕ} (λ e. (st e.0.now e.1.0.now e.1.1.0.now, e.1.1.1.0.now)) (pica_feed_reads.Post κs a)
pica_feed_settled κs a =
    let spare = st a.0.now a.1.0.now a.1.1.0.now in
    let ws = a.1.1.1.0.now in
    let l = a.1.1.1.1.0.now in
    let g = feeding (progress_of ws) spare l in
    settled _ _ (λ r. r) (λ r r' e. e) (answer (pieces.told g)) (fed_spare (progress_of ws) spare l, reader_after g ws)
    (λ r e p. (p.0, rw (p.1.0, p.1.1)))

pub pica_close_settled : (κs : Lfts 8) (a : Dens κs pica_close_kinds.ps)
    → Settles {B = State × State × List ℕ × List ℕ}
    (λ e. (
      st e.0.now e.1.0.now e.1.1.0.now,
      st e.1.1.1.0.now e.1.1.1.1.0.now e.1.1.1.1.1.0.now,
      e.1.1.1.1.1.1.0.now,
      e.1.1.1.1.1.1.1.0.now,
    ))
    (pica_close_reads.Post κs a)
pica_close_settled κs a =
    let live = st a.0.now a.1.0.now a.1.1.0.now in
    let spare = st a.1.1.1.0.now a.1.1.1.1.0.now a.1.1.1.1.1.0.now in
    let q = progress_of a.1.1.1.1.1.1.0.now in
    let r = close_answers q live spare in
    settled _ _ (λ r. r) (λ r r' e. e) (answers r) (
      closed_live q live spare,
      closed_spare q live spare,
      words_of (close_progress q live spare),
      differences_after r a.1.1.1.1.1.1.1.0.now,
    )
    (λ r e p. (p.0, rw (p.1.0, p.1.1.0, p.1.1.1.0, p.1.1.1.1)))

pub pica_write_settled : (κs : Lfts 3) (a : Dens κs pica_write_kinds.ps)
    → Settles (λ e. st e.0.now e.1.0.now e.1.1.0.now) (pica_write_reads.Post κs a)
pica_write_settled κs a =
    let s = st a.0.now a.1.0.now a.1.1.0.now in
    let w = writing a.1.1.1.0 a.1.1.1.1.0 a.1.1.1.1.1.0 in
    settled _ _ (λ r. r) (λ r r' e. e) (answer (write_answer s w)) (write_state s w) (λ r e p. p)

pub pica_writes_settled : (κs : Lfts 4) (a : Dens κs pica_writes_kinds.ps)
    → Settles (λ e. buffers e.1.0.now e.1.1.0.now e.1.1.1.0.now) (pica_writes_reads.Post κs a)
pica_writes_settled κs a =
    let l = a.0.now in
    let is = a.1.0.now in
    let ms = a.1.1.0.now in
    let vs = a.1.1.1.0.now in
    settled _ _ (λ r. r) (λ r r' e. e) (answer (writes_answer l is ms vs))
    (buffers (writes_ids l is ms vs) (writes_masks l is ms vs) (writes_values l is ms vs))
    (λ r e p. (p.0, rw (p.1.0, p.1.1.0, p.1.1.1)))

pub pica_pack_settled : (κs : Lfts 4) (a : Dens κs pica_pack_kinds.ps) → Settles (λ e. e.1.1.1.0.now) (pica_pack_reads.Post κs a)
pica_pack_settled κs a =
    let is = a.0.now in
    let ms = a.1.0.now in
    let vs = a.1.1.0.now in
    let old = a.1.1.1.0.now in
    settled _ _ (λ r. r) (λ r r' e. e) (answer (pack_answer is ms vs (length old))) (pack_space is ms vs old) (λ r e p. p)

pub pica_decode_settled : (κs : Lfts 4) (a : Dens κs pica_decode_kinds.ps) → Settles (λ e. e.1.1.1.0.now) (pica_decode_reads.Post κs a)
pica_decode_settled κs a =
    let d = decoded_of (st a.0.now a.1.0.now a.1.1.0.now) in
    settled _ _ (λ r. r) (λ r r' e. e) (decode_call d) (fields_after d a.1.1.1.0.now) (λ r e p. p)

pub pica_fragment_settled : (κs : Lfts 5) (a : Dens κs pica_fragment_kinds.ps) → Settles (λ e. e.1.1.1.1.0.now)
    (pica_fragment_reads.Post κs a)
pica_fragment_settled κs a =
    let d = fragment_of (st a.0.now a.1.0.now a.1.1.0.now) a.1.1.1.0.now in
    settled _ _ (λ r. r) (λ r r' e. e) (fragment_call d) (stored_words_after d a.1.1.1.1.0.now) (λ r e p. p)
