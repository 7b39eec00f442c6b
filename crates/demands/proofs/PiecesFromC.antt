-- Request 1 as a C caller has it: open, any parts, close give the number that `pica_read` gives for the joined list, and leave the same
-- live state and the same word of differences. From the contracts of the C functions. Assumes nothing; that the states' cells are 32-bit
-- words is asked where said.
use mathlib.Core.Path.{◌≡◌, sym, ap, ◌∙◌}
use mathlib.Core.Bool.{true}
use mathlib.Core.List.{List}
use Prim.Native.Nat.{ℕ, ◌<◌}
use native.Mathlib.Decide.{dec_lt}
use lib.ListN.{length}
use contract.Lifetimes.{Lfts}
use borrow.Fn.Kinds.{Dens, ended_of}
use denote.Triple.Clauses.{AtExit}
use Rattle.registers.specs.State.{State, st, sized}
use Rattle.registers.specs.Applied.{apply_all}
use Rattle.reader.specs.Read.{read_answers, read_state}
use Rattle.parts.specs.Progress.{fresh, made, held_at, onward}
use Rattle.pieces.specs.Pieces.{both_sized, opening, opened_spare, fed, feeding, fed_spare}
use Rattle.pieces.specs.Pieces.{close_answers, close_progress, closed_live, closed_spare}
use Rattle.parts.specs.declared.Progress.{Progress}
use Rattle.pieces.proofs.Calls.{open_right, feed_right}
use Rattle.pica.specs.Calls.{answers, differences_after}
use Rattle.pica.specs.Readers.{progress_of, words_of, reader_after}
use Rattle.pica.proofs.Kept.{progress_of_words}
use Rattle.pica.proofs.pica_open.Reads as pica_open_reads
use Rattle.pica.proofs.pica_open.Kinds as pica_open_kinds
use Rattle.pica.proofs.pica_feed.Reads as pica_feed_reads
use Rattle.pica.proofs.pica_feed.Kinds as pica_feed_kinds
use Rattle.pica.proofs.pica_close.Reads as pica_close_reads
use Rattle.pica.proofs.pica_close.Kinds as pica_close_kinds
use Rattle.pica.proofs.pica_read.Reads as pica_read_reads
use Rattle.pica.proofs.pica_read.Kinds as pica_read_kinds
use native.Mathlib.Omega.{arith}
use Rattle.copies.specs.Copy.{taken}
use Rattle.demands.proofs.Taken.{Words, taken_alike, taken_sized, taken_words}
use Rattle.demands.proofs.Feeds.{joined, FeedsBy, joined_by}
use Rattle.demands.proofs.Pieces.{Opened, both_sized_law, InPieces, by_length}

-- CALLS: the reader's words ws, the number r that is answered
pub record PicaOpenCall (s t : State) (ws : List ℕ) (r : ℕ) (ws' : List ℕ) (t' : State) : Type 0 where
  pub lifetimes : Lfts 7
  pub lent : Dens lifetimes pica_open_kinds.ps
  pub left : AtExit (ended_of 7 pica_open_kinds.ps pica_open_kinds.r) lifetimes
  pub promise : pica_open_reads.Post lifetimes lent r left
  pub live : st lent.0.now lent.1.0.now lent.1.1.0.now ≡ s
  pub spare : st lent.1.1.1.0.now lent.1.1.1.1.0.now lent.1.1.1.1.1.0.now ≡ t
  pub reader : lent.1.1.1.1.1.1.0.now ≡ ws
  pub reader_after_law : left.1.1.1.1.1.1.0.now ≡ ws'
  pub spare_after : st left.1.1.1.0.now left.1.1.1.1.0.now left.1.1.1.1.1.0.now ≡ t'

pub record PicaFeedCall (ws : List ℕ) (s : State) (part : List ℕ) (ws' : List ℕ) (s' : State) : Type 0 where
  pub lifetimes : Lfts 5
  pub lent : Dens lifetimes pica_feed_kinds.ps
  pub left : AtExit (ended_of 5 pica_feed_kinds.ps pica_feed_kinds.r) lifetimes
  pub number : ℕ
  pub promise : pica_feed_reads.Post lifetimes lent number left
  pub spare : st lent.0.now lent.1.0.now lent.1.1.0.now ≡ s
  pub reader : lent.1.1.1.0.now ≡ ws
  pub list : lent.1.1.1.1.0.now ≡ part
  pub reader_after_law : left.1.1.1.0.now ≡ ws'
  pub spare_after : st left.0.now left.1.0.now left.1.1.0.now ≡ s'

pub record PicaCloseCall (s t : State) (ws ds : List ℕ) (r : ℕ) (ws' ds' : List ℕ) (s' t' : State) : Type 0 where
  pub lifetimes : Lfts 8
  pub lent : Dens lifetimes pica_close_kinds.ps
  pub left : AtExit (ended_of 8 pica_close_kinds.ps pica_close_kinds.r) lifetimes
  pub promise : pica_close_reads.Post lifetimes lent r left
  pub live : st lent.0.now lent.1.0.now lent.1.1.0.now ≡ s
  pub spare : st lent.1.1.1.0.now lent.1.1.1.1.0.now lent.1.1.1.1.1.0.now ≡ t
  pub reader : lent.1.1.1.1.1.1.0.now ≡ ws
  pub differences : lent.1.1.1.1.1.1.1.0.now ≡ ds
  pub reader_after_law : left.1.1.1.1.1.1.0.now ≡ ws'
  pub differences_after_law : left.1.1.1.1.1.1.1.0.now ≡ ds'
  pub live_after : st left.0.now left.1.0.now left.1.1.0.now ≡ s'
  pub spare_after : st left.1.1.1.0.now left.1.1.1.1.0.now left.1.1.1.1.1.0.now ≡ t'

pub record PicaReadCall (s : State) (l ds : List ℕ) (r : ℕ) (ds' : List ℕ) (s' : State) : Type 0 where
  pub lifetimes : Lfts 5
  pub lent : Dens lifetimes pica_read_kinds.ps
  pub left : AtExit (ended_of 5 pica_read_kinds.ps pica_read_kinds.r) lifetimes
  pub promise : pica_read_reads.Post lifetimes lent r left
  pub state : st lent.0.now lent.1.0.now lent.1.1.0.now ≡ s
  pub list : lent.1.1.1.0.now ≡ l
  pub differences : lent.1.1.1.1.0.now ≡ ds
  pub differences_after_law : left.1.1.1.1.0.now ≡ ds'
  pub after : st left.0.now left.1.0.now left.1.1.0.now ≡ s'

-- WHAT EACH LEAVES

open_left : {s t t' : State} {ws ws' : List ℕ} {r : ℕ} → PicaOpenCall s t ws r ws' t'
    → (ws' ≡ reader_after (opening s t) ws) × (t' ≡ opened_spare s t)
open_left c = let p = rw (c.live, c.spare, c.reader, c.reader_after_law, c.spare_after) at c.promise in (p.1.0, p.1.1)

feed_left : {s s' : State} {ws ws' l : List ℕ} → PicaFeedCall ws s l ws' s'
    → (ws' ≡ reader_after (feeding (progress_of ws) s l) ws) × (s' ≡ fed_spare (progress_of ws) s l)
feed_left c = let p = rw (c.spare, c.reader, c.list, c.reader_after_law, c.spare_after) at c.promise in (p.1.0, p.1.1)

pub close_left : {s t s' t' : State} {ws ws' ds ds' : List ℕ} {r : ℕ} → PicaCloseCall s t ws ds r ws' ds' s' t'
    → (r ≡ answers (close_answers (progress_of ws) s t)) × (ws' ≡ words_of (close_progress (progress_of ws) s t))
    × (s' ≡ closed_live (progress_of ws) s t) × (t' ≡ closed_spare (progress_of ws) s t)
    × (ds' ≡ differences_after (close_answers (progress_of ws) s t) ds)
close_left c =
    let p = rw (
      c.live,
      c.spare,
      c.reader,
      c.differences,
      c.reader_after_law,
      c.differences_after_law,
      c.live_after,
      c.spare_after,
    ) at c.promise in
    (p.0, p.1.1.0, p.1.1.1.0, p.1.1.1.1, p.1.0)

pub read_left : {s s' : State} {l ds ds' : List ℕ} {r : ℕ} → PicaReadCall s l ds r ds' s'
    → (r ≡ answers (read_answers s l)) × (ds' ≡ differences_after (read_answers s l) ds) × (s' ≡ read_state s l)
read_left c =
    let p = rw (c.state, c.list, c.differences, c.differences_after_law, c.after) at c.promise in (p.0, p.1.0, p.1.1)

-- opened, with buffers of the right lengths
c_opens : {live spare s : State} {ws ws' : List ℕ} {r : ℕ} → PicaOpenCall live spare ws r ws' s → both_sized live spare ≡ true
    → Opened live (progress_of ws') s
c_opens {live} {spare} {s} {ws} c e =
    let k = open_left c in
    let r = open_right live spare e in
    let d = both_sized_law live spare e in
    rw (k.0, k.1 ∙ sym r.1, ← r.0)
    (record {
      progress = progress_of_words fresh;
      live_sized = d.0;
      spare_sized = taken_sized spare live d.1 d.0;
      alike = taken_alike spare live d.1 d.0;
    })

c_feeds : (ws ws' : List ℕ) (s t : State) (l : List ℕ) → sized s ≡ true → PicaFeedCall ws s l ws' t
    → (progress_of ws' ≡ fed (progress_of ws) s l) × (t ≡ apply_all s (made (progress_of ws) l))
c_feeds ws ws' s t l z c =
    let k = feed_left c in
    let r = feed_right (progress_of ws) s l z in
    (rw (k.0, ← r.0) (progress_of_words (fed (progress_of ws) s l)), k.1 ∙ sym r.1)

fresh_held : (p : Progress) → p ≡ fresh → p.come ≡ held_at p.come
fresh_held p e = rw e

fresh_small : (p : Progress) → p ≡ fresh → p.differences < 0x100000000
fresh_small p e = rw e (omega arith)

pair : {A : Type 0} (f : Progress → State → A) {p q : Progress} {s t : State} → p ≡ q → s ≡ t → f p s ≡ f q t
pair f e d = rw (e, d)

-- THE THEOREM
module _ {live s t live' spare' : State} {vs us ds ds' : List ℕ} {r : ℕ} (ws : List ℕ) (ls : List (List ℕ))
    (o : Opened live (progress_of ws) s) (f : FeedsBy PicaFeedCall ws s ls vs t)
    (k : PicaCloseCall live t vs ds r us ds' live' spare') where
  c_in_pieces : InPieces live s (joined ls) (close_answers (progress_of vs) live t) (close_progress (progress_of vs) live t) live' spare'
  c_in_pieces =
      let e = joined_by PicaFeedCall progress_of c_feeds ls ws vs s t o.spare_sized f (fresh_held (progress_of ws) o.progress)
      (fresh_small (progress_of ws) o.progress) in
      let x = close_left k in
      let p = e.0 ∙ ap (λ (y : Progress). onward y s (joined ls)) o.progress in
      let u = e.1 ∙ ap (λ (y : Progress). apply_all s (made y (joined ls))) o.progress in
      by_length live s (joined ls) o.live_sized o.spare_sized o.alike (dec_lt 65536 (length (joined ls))) _ _ live' spare' (
        pair (λ y z. close_answers y live z) p u,
        pair (λ y z. close_progress y live z) p u,
        x.2 ∙ pair (λ y z. closed_live y live z) p u,
        x.3 ∙ pair (λ y z. closed_spare y live z) p u,
      )

  -- the number, the live state, and, where both calls were lent the same word, the word of differences
  pub c_as_read : {q : ℕ} {es' : List ℕ} {u : State} → Words live → Words s → PicaReadCall live (joined ls) ds q es' u
      → (r ≡ q) × (ds' ≡ es') × (live' ≡ u)
  c_as_read {q} {es'} {u} w v x =
      let y = read_left x in
      let i = c_in_pieces in
      let a = i.answers w v in
      let c = close_left k in (
        c.0 ∙ ap answers a ∙ sym y.0,
        c.4 ∙ ap (λ z. differences_after z ds) a ∙ sym y.1,
        i.state w ∙ sym y.2,
      )

  -- and both states are 32-bit words still, and the reader is as freshly opened, for the next list
  pub c_words : Words live → Words s → Words live' × Words spare'
  c_words w v = let i = c_in_pieces in (i.words w, i.spare_words v)

  pub c_opened : Opened live' (progress_of us) spare'
  c_opened =
      rw ((close_left k).1, progress_of_words (close_progress (progress_of vs) live t)) c_in_pieces.opened

-- from `pica_open` on, with buffers of the right lengths
pub c_session : {live spare s t live' spare' : State} {ws₀ ws vs us ds ds' es' : List ℕ} {r₀ r q : ℕ} {u : State} (ls : List (List ℕ))
    → both_sized live spare ≡ true → Words live → Words spare → PicaOpenCall live spare ws₀ r₀ ws s → FeedsBy PicaFeedCall ws s ls vs t
    → PicaCloseCall live t vs ds r us ds' live' spare' → PicaReadCall live (joined ls) ds q es' u
    → (r ≡ q) × (ds' ≡ es') × (live' ≡ u)
c_session {live} {spare} {s} {ws = ws} ls e w v o f k x =
    let z = both_sized_law live spare e in
    let y : s ≡ taken spare live = (open_left o).1 ∙ sym (open_right live spare e).1 in
    c_as_read ws ls (c_opens o e) f k w (rw y (taken_words spare live z.1 v)) x
