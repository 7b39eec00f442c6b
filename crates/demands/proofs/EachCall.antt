-- Request 1, each of the calls open, feed and close by itself, for any progress that may come in, from their contracts. Assumes nothing.
use mathlib.Core.Path.{◌≡◌, refl, sym, ap, ◌∙◌}
use mathlib.Core.Bool.{Bool, true, false}
use mathlib.Core.List.{List, [], ◌∷◌}
use mathlib.Core.Logic.{inl, inr}
use Prim.Native.Nat.{ℕ, ◌%◌, ◌≤◌, ◌<◌}
use native.Mathlib.Decide.{dec_lt}
use native.Mathlib.Omega.{arith}
use lib.Dec.{eqb, ltb}
use borrow.Author.Tests.{lt-ltb, le-ltb}
use Rattle.numbers.specs.Pick.{pick}
use Rattle.numbers.specs.Answer.{Answer, answered, refused, both, neither, besides}
use Rattle.numbers.proofs.Answers.{told_apart}
use Rattle.registers.specs.State.{State, sized}
use Rattle.reader.specs.Read.{told_both}
use Rattle.registers.specs.Applied.{apply_all}
use Rattle.copies.specs.Copy.{taken}
use Rattle.parts.specs.Progress.{fresh, after, made, held_at, between, fault_number, closing}
use Rattle.parts.proofs.Closing.{closes_long, closes_odd}
use Rattle.pieces.specs.Pieces.{told, both_sized, fed}
use Rattle.parts.specs.declared.Progress.{Progress}
use Rattle.pieces.specs.declared.Closed.{Closed}
use Rattle.pieces.proofs.Calls.{open_wrong, open_right, feed_wrong, feed_right, close_wrong, close_refused, close_accepted}
use Rattle.demands.specs.Refusals.{In}
use Rattle.demands.proofs.Both.{both_given, neither_given}
use Rattle.demands.proofs.Alike.{Alike}
use Rattle.demands.proofs.Taken.{sized_kept, taken_alike}
use Rattle.demands.proofs.Beside.{Beside, beside_same, beside_run, beside_taken}
use Rattle.demands.proofs.Calls.{OpenCall, open_call, FeedCall, feed_call, CloseCall, close_call}
use Rattle.demands.proofs.Feeds.{fed_call}
use Rattle.demands.proofs.Pieces.{both_sized_law, right_answer}
use Rattle.std.specs.Prelude.{Result, Ok}
use Rattle.words.specs.declared.Refusal.{Refusal}

-- RIGHT LENGTHS are never refused by open and feed, and a close then answers by the progress alone
pub open_answers : {live spare t : State} {a : Result Progress Refusal} → OpenCall live spare a t → both_sized live spare ≡ true
    → (a ≡ Ok fresh) × (t ≡ taken spare live)
open_answers {live} {spare} c e =
    let k = open_call c in
    let r = open_right live spare e in (k.0 ∙ sym r.0, k.1 ∙ sym r.1)

pub feed_answers : {p : Progress} {s t : State} {l : List ℕ} {a : Result Progress Refusal} → FeedCall p s l a t → sized s ≡ true
    → (a ≡ Ok (fed p s l)) × (t ≡ apply_all s (made p l)) × (sized t ≡ true)
feed_answers {p} {s} {t} {l} c e =
    let k = feed_call c in
    let r = feed_right p s l e in
    let i = k.1 ∙ sym r.1 in (k.0 ∙ sym r.0, i, rw i (sized_kept s (made p l) ∙ e))

-- a list that is accepted has the writes that were counted
closing_writes : (p : Progress) (n : ℕ) → closing p ≡ answered n → n ≡ p.writes
unfolding closing
closing_writes p n = go (ltb 65536 p.come) (eqb (p.come % 4) 0) (between p) (eqb p.fault 0)
  where
    go : (l m b f : Bool)
        → pick l (refused 1 0)
        (pick m (pick b (pick f (answered p.writes) (refused (fault_number p.fault) p.place)) (refused 2 p.place)) (refused 15 0))
        ≡ answered n
        → n ≡ p.writes
    go true m b f e = absurd (told_apart (sym e))
    go false false b f e = absurd (told_apart (sym e))
    go false true false f e = absurd (told_apart (sym e))
    go false true true true e = cc
    go false true true false e = absurd (told_apart (sym e))

-- "On acceptance the live state takes those of the spare", which keeps what it has; "on any other refusal the spare those of the live";
-- "and the reader is as freshly opened". Writes and differences are those counted so far
module _ {p : Progress} {live spare live' spare' : State} {c : Closed} (k : CloseCall p live spare c live' spare')
    (e : both_sized live spare ≡ true) where
  told_closing : told_both c.verdict ≡ besides (closing p) p.differences
  told_closing = (close_call k).0 ∙ right_answer live spare p e

  pub close_accepts : (n d : ℕ) → told_both c.verdict ≡ both n d
      → (n ≡ p.writes) × (d ≡ p.differences) × (live' ≡ taken live spare) × Alike live' spare × (spare' ≡ spare) × (c.progress ≡ fresh)
  close_accepts n d v =
      let b = both_given (closing p) n p.differences d (sym v ∙ told_closing) in
      let r = close_accepted live spare p n e (sym b.0) in
      let z = both_sized_law live spare e in
      let i = (close_call k).2 ∙ sym r.2 in (
        closing_writes p n b.0,
        b.1,
        i,
        rw i (taken_alike live spare z.0 z.1),
        (close_call k).3 ∙ sym r.3,
        (close_call k).1 ∙ sym r.1,
      )

  pub close_refuses : (n x : ℕ) → told_both c.verdict ≡ neither n x
      → (live' ≡ live) × (spare' ≡ taken spare live) × Alike spare' live × (c.progress ≡ fresh)
  close_refuses n x v =
      let y = neither_given (closing p) n x p.differences (sym v ∙ told_closing) in
      let r = close_refused live spare p n x e (sym y) in
      let d = both_sized_law live spare e in
      let i = (close_call k).3 ∙ sym r.3 in
      ((close_call k).2 ∙ sym r.2, i, rw i (taken_alike spare live d.1 d.0), (close_call k).1 ∙ sym r.1)

-- "A buffer of wrong length is refusal 6 at any call and changes nothing": a refused opening or feeding hands back no progress, so that the
-- caller's stays, and a refused close hands back the same
pub wrong_length_open : {live spare t : State} {a : Result Progress Refusal} → OpenCall live spare a t → both_sized live spare ≡ false
    → (told a ≡ refused 6 0) × (t ≡ spare)
wrong_length_open {live} {spare} c e =
    let k = open_call c in
    let r = open_wrong live spare e in (ap told (k.0 ∙ sym r.0), k.1 ∙ sym r.1)

pub wrong_length_feed : {p : Progress} {s t : State} {l : List ℕ} {a : Result Progress Refusal} → FeedCall p s l a t → sized s ≡ false
    → (told a ≡ refused 6 0) × (t ≡ s)
wrong_length_feed {p} {s} {t} {l} c e =
    let k = feed_call c in
    let r = feed_wrong p s l e in (ap told (k.0 ∙ sym r.0), k.1 ∙ sym r.1)

pub wrong_length_close : {p : Progress} {live spare live' spare' : State} {c : Closed} → CloseCall p live spare c live' spare'
    → both_sized live spare ≡ false
    → (told_both c.verdict ≡ neither 6 0) × (c.progress ≡ p) × (live' ≡ live) × (spare' ≡ spare)
wrong_length_close {p} {live} {spare} c e =
    let k = close_call c in
    let r = close_wrong live spare p e in (k.0 ∙ sym r.0, k.1 ∙ sym r.1, k.2 ∙ sym r.2, k.3 ∙ sym r.3)

-- "What a lent cell holds beside its held bits .. never changes, nor do cells of other ids", document 01, nor an entry's high 8 bits: of
-- either state, in any of the three calls, for any progress
pub beside_opened : {live spare t : State} {a : Result Progress Refusal} → OpenCall live spare a t → Beside t spare
beside_opened {live} {spare} {t} c = go (both_sized live spare) refl
  where
    go : (b : Bool) → both_sized live spare ≡ b → Beside t spare
    go true e = rw ((open_call c).1 ∙ sym (open_right live spare e).1) (beside_taken spare live (both_sized_law live spare e).1)
    go false e = rw ((open_call c).1 ∙ sym (open_wrong live spare e).1) (beside_same spare)

pub beside_fed : {p : Progress} {s t : State} {l : List ℕ} {a : Result Progress Refusal} → FeedCall p s l a t → Beside t s
beside_fed {p} {s} {t} {l} c = go (sized s) refl
  where
    go : (b : Bool) → sized s ≡ b → Beside t s
    go true e = rw ((feed_call c).1 ∙ sym (feed_right p s l e).1) (beside_run s (made p l))
    go false e = rw ((feed_call c).1 ∙ sym (feed_wrong p s l e).1) (beside_same s)

pub beside_closed : {p : Progress} {live spare live' spare' : State} {c : Closed} → CloseCall p live spare c live' spare'
    → Beside live' live × Beside spare' spare
beside_closed {p} {live} {spare} {live'} {spare'} c = go (both_sized live spare) refl (closing p) refl
  where
    go : (b : Bool) → both_sized live spare ≡ b → (v : Answer) → closing p ≡ v → Beside live' live × Beside spare' spare
    go true e (answered n) v =
        let r = close_accepted live spare p n e (sym v) in (
          rw ((close_call c).2 ∙ sym r.2) (beside_taken live spare (both_sized_law live spare e).0),
          rw ((close_call c).3 ∙ sym r.3) (beside_same spare),
        )
    go true e (refused n q) v =
        let r = close_refused live spare p n q e (sym v) in (
          rw ((close_call c).2 ∙ sym r.2) (beside_same live),
          rw ((close_call c).3 ∙ sym r.3) (beside_taken spare live (both_sized_law live spare e).1),
        )
    go false e a v =
        let r = close_wrong live spare p e in
        (rw ((close_call c).2 ∙ sym r.2) (beside_same live), rw ((close_call c).3 ∙ sym r.3) (beside_same spare))

-- ANY PROGRESS AT ALL: a close refuses by a number of the table, 1, 15 or 2 to 5, or 6 where a length is wrong
abbrev pub CloseNumber : ℕ → Type 0
CloseNumber n = In n (1 ∷ 15 ∷ 2 ∷ 3 ∷ 4 ∷ 5 ∷ [])

fault_told : (a b : Bool) → CloseNumber (pick a 3 (pick b 4 5))
fault_told true b = inr (inr (inr (inl refl)))
fault_told false true = inr (inr (inr (inr (inl refl))))
fault_told false false = inr (inr (inr (inr (inr (inl refl)))))

abbrev Numbered : Answer → Type 0
Numbered (answered n) = Unit {0}
Numbered (refused n x) = CloseNumber n

close_numbered : (p : Progress) → Numbered (closing p)
unfolding closing
close_numbered p = go (ltb 65536 p.come) (eqb (p.come % 4) 0) (between p) (eqb p.fault 0)
  where
    go : (l m b f : Bool)
        → Numbered (pick l (refused 1 0) (pick m (pick b (pick f (answered p.writes) (refused (fault_number p.fault) p.place))
        (refused 2 p.place)) (refused 15 0)))
    go true m b f = inl refl
    go false false b f = inr (inl refl)
    go false true false f = inr (inr (inl refl))
    go false true true true = tt
    go false true true false = fault_told (eqb p.fault 3) (eqb p.fault 4)

pub close_numbers : {p : Progress} {live spare live' spare' : State} {c : Closed} (n x : ℕ) → CloseCall p live spare c live' spare'
    → both_sized live spare ≡ true → told_both c.verdict ≡ neither n x → CloseNumber n
close_numbers {p} n x k e v =
    let y : closing p ≡ refused n x = neither_given (closing p) n x p.differences (sym v ∙ told_closing k e) in
    rw y at (close_numbered p)

-- "tested after 1 and before any command, also at the close of 1)", from any progress
pub close_long : {p : Progress} {live spare live' spare' : State} {c : Closed} → CloseCall p live spare c live' spare'
    → both_sized live spare ≡ true → 65536 < p.come → told_both c.verdict ≡ neither 1 0
close_long {p} k e h = told_closing k e ∙ rw (closes_long p h)

pub close_illegal : {p : Progress} {live spare live' spare' : State} {c : Closed} → CloseCall p live spare c live' spare'
    → both_sized live spare ≡ true → p.come ≤ 65536 → (p.come % 4 ≡ 0 → ⊥) → told_both c.verdict ≡ neither 15 0
close_illegal {p} k e h m = told_closing k e ∙ rw (closes_odd p h m)

-- and feeding answers at most 65,537
pub fed_at_most : {p q : Progress} {s t : State} {l : List ℕ} → FeedCall p s l (Ok q) t → q.come ≤ 65537
fed_at_most {p} {q} {s} {t} {l} c = rw (fed_call c).1 (most (after p l).come (dec_lt 65536 (after p l).come))
  where
    most : (n : ℕ) → Dec (65536 < n) → held_at n ≤ 65537
    most n (yes h) = rw (lt-ltb 65536 n h) (omega arith)
    most n (no h) = rw (le-ltb 65536 n (omega arith)) (omega arith)
