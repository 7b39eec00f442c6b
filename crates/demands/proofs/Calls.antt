-- Calls of the functions, as their contracts have them: `Post` is the reading of a contract that the prover made and proved of the code.
-- A record below says that a call which is lent this may answer and leave that; what is then known follows from `Post` alone. Assumes
-- nothing.
use mathlib.Core.Path.{◌≡◌}
use mathlib.Core.List.{List}
use Prim.Native.Nat.{ℕ}
use lib.ListN.{length}
use contract.Lifetimes.{Lfts}
use borrow.Fn.Kinds.{Dens, ended_of}
use denote.Triple.Clauses.{AtExit}
use Rattle.words.specs.Writes.{Write, writing}
use Rattle.registers.specs.State.{State, st}
use Rattle.registers.specs.Single.{told as write-told, write_answer, write_state}
use Rattle.registers.proofs.write.Reads as write_reads
use Rattle.registers.proofs.write.Kinds as write_kinds
use Rattle.reader.specs.ListVerdict.{verdict}
use Rattle.reader.specs.Read.{told as list-told, told_both, read_answers, read_state}
use Rattle.reader.proofs.judge_list.Reads as judge_list_reads
use Rattle.reader.proofs.judge_list.Kinds as judge_list_kinds
use Rattle.reader.proofs.read.Reads as read_reads
use Rattle.reader.proofs.read.Kinds as read_kinds
use Rattle.pieces.specs.Pieces.{opening, opened_spare, feeding, fed_spare, close_answers, close_progress, closed_live, closed_spare}
use Rattle.parts.specs.declared.Progress.{Progress}
use Rattle.pieces.specs.declared.Closed.{Closed}
use Rattle.pieces.proofs.open.Reads as open_reads
use Rattle.pieces.proofs.open.Kinds as open_kinds
use Rattle.pieces.proofs.feed.Reads as feed_reads
use Rattle.pieces.proofs.feed.Kinds as feed_kinds
use Rattle.pieces.proofs.close.Reads as close_reads
use Rattle.pieces.proofs.close.Kinds as close_kinds
use Rattle.writes.specs.Listed.{writes_answer, writes_ids, writes_masks, writes_values}
use Rattle.writes.proofs.writes_of.Reads as writes_of_reads
use Rattle.writes.proofs.writes_of.Kinds as writes_of_kinds
use Rattle.decode.specs.Decoded.{decoded_of}
use Rattle.decode.proofs.decode.Reads as decode_reads
use Rattle.decode.proofs.decode.Kinds as decode_kinds
use Rattle.combiner.specs.declared.Given.{Given}
use Rattle.stores.specs.declared.Stored.{Stored}
use Rattle.fragment.specs.Drawn.{drawn_of}
use Rattle.fragment.proofs.draw.Reads as draw_reads
use Rattle.fragment.proofs.draw.Kinds as draw_kinds
use Rattle.packer.specs.Packing.{told as pack-told, pack_answer, pack_space}
use Rattle.packer.proofs.pack.Reads as pack_reads
use Rattle.packer.proofs.pack.Kinds as pack_kinds
use Rattle.std.specs.Prelude.{Result}
use Rattle.words.specs.declared.Refusal.{Refusal}
use Rattle.reader.specs.declared.Counts.{Counts}
use Rattle.settings.specs.declared.records.Settings.{Settings}
use Rattle.fragment.specs.declared.Outcome.{Outcome}
use mathlib.Core.Bool.{Bool}

-- `registers::write`, lent the state s, for the write w
pub record WriteCall (s : State) (w : Write) (answer : Result Bool Refusal) (t : State) : Type 0 where
  pub lifetimes : Lfts 3
  pub lent : Dens lifetimes write_kinds.ps
  pub left : AtExit (ended_of 3 write_kinds.ps write_kinds.r) lifetimes
  pub promise : write_reads.Post lifetimes lent answer left
  pub state : st lent.0.now lent.1.0.now lent.1.1.0.now ≡ s
  pub given : writing lent.1.1.1.0 lent.1.1.1.1.0 lent.1.1.1.1.1.0 ≡ w
  pub after : st left.0.now left.1.0.now left.1.1.0.now ≡ t

-- `reader::read`, lent the state s and the list l
pub record ReadCall (s : State) (l : List ℕ) (answer : Result Counts Refusal) (t : State) : Type 0 where
  pub lifetimes : Lfts 4
  pub lent : Dens lifetimes read_kinds.ps
  pub left : AtExit (ended_of 4 read_kinds.ps read_kinds.r) lifetimes
  pub promise : read_reads.Post lifetimes lent answer left
  pub state : st lent.0.now lent.1.0.now lent.1.1.0.now ≡ s
  pub list : lent.1.1.1.0.now ≡ l
  pub after : st left.0.now left.1.0.now left.1.1.0.now ≡ t

-- `reader::judge_list`, lent the list l
pub record JudgeCall (l : List ℕ) (answer : Result ℕ Refusal) : Type 0 where
  pub lifetimes : Lfts 1
  pub lent : Dens lifetimes judge_list_kinds.ps
  pub left : AtExit (ended_of 1 judge_list_kinds.ps judge_list_kinds.r) lifetimes
  pub promise : judge_list_reads.Post lifetimes lent answer left
  pub list : lent.0.now ≡ l

-- `pieces::open`, lent the live state s, which it only reads, and the spare state t
pub record OpenCall (s t : State) (answer : Result Progress Refusal) (t' : State) : Type 0 where
  pub lifetimes : Lfts 6
  pub lent : Dens lifetimes open_kinds.ps
  pub left : AtExit (ended_of 6 open_kinds.ps open_kinds.r) lifetimes
  pub promise : open_reads.Post lifetimes lent answer left
  pub live : st lent.0.now lent.1.0.now lent.1.1.0.now ≡ s
  pub spare : st lent.1.1.1.0.now lent.1.1.1.1.0.now lent.1.1.1.1.1.0.now ≡ t
  pub after : st left.1.1.1.0.now left.1.1.1.1.0.now left.1.1.1.1.1.0.now ≡ t'

-- `pieces::feed`, for the progress p, lent the spare state s and a part
pub record FeedCall (p : Progress) (s : State) (part : List ℕ) (answer : Result Progress Refusal) (t : State) : Type 0 where
  pub lifetimes : Lfts 4
  pub lent : Dens lifetimes feed_kinds.ps
  pub left : AtExit (ended_of 4 feed_kinds.ps feed_kinds.r) lifetimes
  pub promise : feed_reads.Post lifetimes lent answer left
  pub progress : lent.0 ≡ p
  pub state : st lent.1.0.now lent.1.1.0.now lent.1.1.1.0.now ≡ s
  pub list : lent.1.1.1.1.0.now ≡ part
  pub after : st left.1.0.now left.1.1.0.now left.1.1.1.0.now ≡ t

-- `pieces::close`, for the progress p, lent the live state s and the spare state t
pub record CloseCall (p : Progress) (s t : State) (answer : Closed) (s' t' : State) : Type 0 where
  pub lifetimes : Lfts 6
  pub lent : Dens lifetimes close_kinds.ps
  pub left : AtExit (ended_of 6 close_kinds.ps close_kinds.r) lifetimes
  pub promise : close_reads.Post lifetimes lent answer left
  pub progress : lent.0 ≡ p
  pub live : st lent.1.0.now lent.1.1.0.now lent.1.1.1.0.now ≡ s
  pub spare : st lent.1.1.1.1.0.now lent.1.1.1.1.1.0.now lent.1.1.1.1.1.1.0.now ≡ t
  pub live_after : st left.1.0.now left.1.1.0.now left.1.1.1.0.now ≡ s'
  pub spare_after : st left.1.1.1.1.0.now left.1.1.1.1.1.0.now left.1.1.1.1.1.1.0.now ≡ t'

-- `writes::writes_of`, lent the list l, which it only reads, and ids, masks and values
pub record WritesCall (l is ms vs : List ℕ) (answer : Result ℕ Refusal) (is' ms' vs' : List ℕ) : Type 0 where
  pub lifetimes : Lfts 4
  pub lent : Dens lifetimes writes_of_kinds.ps
  pub left : AtExit (ended_of 4 writes_of_kinds.ps writes_of_kinds.r) lifetimes
  pub promise : writes_of_reads.Post lifetimes lent answer left
  pub list : lent.0.now ≡ l
  pub ids : lent.1.0.now ≡ is
  pub masks : lent.1.1.0.now ≡ ms
  pub values : lent.1.1.1.0.now ≡ vs
  pub ids_after : left.1.0.now ≡ is'
  pub masks_after : left.1.1.0.now ≡ ms'
  pub values_after : left.1.1.1.0.now ≡ vs'

-- `packer::pack`, lent ids, masks and values, and the space
pub record PackCall (is ms vs old : List ℕ) (answer : Result ℕ Refusal) (new : List ℕ) : Type 0 where
  pub lifetimes : Lfts 4
  pub lent : Dens lifetimes pack_kinds.ps
  pub left : AtExit (ended_of 4 pack_kinds.ps pack_kinds.r) lifetimes
  pub promise : pack_reads.Post lifetimes lent answer left
  pub ids : lent.0.now ≡ is
  pub masks : lent.1.0.now ≡ ms
  pub values : lent.1.1.0.now ≡ vs
  pub space : lent.1.1.1.0.now ≡ old
  pub after : left.1.1.1.0.now ≡ new

-- `decode::decode`, lent the state s, which it only reads
pub record DecodeCall (s : State) (answer : Result Settings Refusal) : Type 0 where
  pub lifetimes : Lfts 3
  pub lent : Dens lifetimes decode_kinds.ps
  pub left : AtExit (ended_of 3 decode_kinds.ps decode_kinds.r) lifetimes
  pub promise : decode_reads.Post lifetimes lent answer left
  pub state : st lent.0.now lent.1.0.now lent.1.1.0.now ≡ s

-- `fragment::draw`, lent the state s, which it only reads, for a fragment with these colours and depth over what is stored
pub record DrawCall (s : State) (g : Given) (incoming : ℕ) (stored : Stored) (answer : Result Outcome Refusal) : Type 0 where
  pub lifetimes : Lfts 3
  pub lent : Dens lifetimes draw_kinds.ps
  pub left : AtExit (ended_of 3 draw_kinds.ps draw_kinds.r) lifetimes
  pub promise : draw_reads.Post lifetimes lent answer left
  pub state : st lent.0.now lent.1.0.now lent.1.1.0.now ≡ s
  pub given : lent.1.1.1.0 ≡ g
  pub depth : lent.1.1.1.1.0 ≡ incoming
  pub before : lent.1.1.1.1.1.0 ≡ stored

-- WHAT EACH IS THEN KNOWN TO ANSWER AND TO LEAVE

pub write_call : {s t : State} {w : Write} {a : Result Bool Refusal} → WriteCall s w a t
    → (write-told a ≡ write_answer s w) × (t ≡ write_state s w)
write_call c = rw (← c.state, ← c.given, ← c.after) c.promise

pub read_call : {s t : State} {l : List ℕ} {a : Result Counts Refusal} → ReadCall s l a t
    → (told_both a ≡ read_answers s l) × (t ≡ read_state s l)
read_call c = rw (← c.state, ← c.list, ← c.after) c.promise

pub judge_call : {l : List ℕ} {a : Result ℕ Refusal} → JudgeCall l a → list-told a ≡ verdict l
judge_call c = rw (← c.list) c.promise

pub open_call : {live spare t : State} {a : Result Progress Refusal} → OpenCall live spare a t
    → (a ≡ opening live spare) × (t ≡ opened_spare live spare)
open_call c = let q = rw (c.live, c.spare, c.after) at c.promise in (q.0, q.1.0)

pub feed_call : {p : Progress} {s t : State} {l : List ℕ} {a : Result Progress Refusal} → FeedCall p s l a t
    → (a ≡ feeding p s l) × (t ≡ fed_spare p s l)
feed_call c = let q = rw (c.progress, c.state, c.list, c.after) at c.promise in (q.0, q.1.0)

pub close_call : {p : Progress} {live spare live' spare' : State} {a : Closed} → CloseCall p live spare a live' spare'
    → (told_both a.verdict ≡ close_answers p live spare) × (a.progress ≡ close_progress p live spare)
    × (live' ≡ closed_live p live spare) × (spare' ≡ closed_spare p live spare)
close_call c =
    let q = rw (c.progress, c.live, c.spare, c.live_after, c.spare_after) at c.promise in
    (q.0, q.1.0, q.1.1.0, q.1.1.1)

pub writes_call : {l is ms vs is' ms' vs' : List ℕ} {a : Result ℕ Refusal} → WritesCall l is ms vs a is' ms' vs'
    → (list-told a ≡ writes_answer l is ms vs) × (is' ≡ writes_ids l is ms vs) × (ms' ≡ writes_masks l is ms vs)
    × (vs' ≡ writes_values l is ms vs)
writes_call c =
    let p = rw (c.list, c.ids, c.masks, c.values, c.ids_after, c.masks_after, c.values_after) at c.promise in
    (p.0, p.1.0, p.1.1.0, p.1.1.1)

pub pack_call : {is ms vs old new : List ℕ} {a : Result ℕ Refusal} → PackCall is ms vs old a new
    → (pack-told a ≡ pack_answer is ms vs (length old)) × (new ≡ pack_space is ms vs old)
pack_call c = rw (← c.ids, ← c.masks, ← c.values, ← c.space, ← c.after) c.promise

pub decode_call : {s : State} {a : Result Settings Refusal} → DecodeCall s a → a ≡ decoded_of s
decode_call c = rw (← c.state) c.promise.0

pub draw_call : {s : State} {g : Given} {incoming : ℕ} {stored : Stored} {a : Result Outcome Refusal} → DrawCall s g incoming stored a
    → a ≡ drawn_of s g incoming stored
draw_call c = rw (← c.state, ← c.given, ← c.depth, ← c.before) c.promise.0
