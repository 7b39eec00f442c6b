-- Request 1, lists that arrive in pieces, from the contracts of open, feed and close, with request 2's count of differences. Assumes
-- nothing; of a state it is asked, where said, that its cells are 32-bit words, as those of a lent buffer are: in a list of numbers larger
-- ones could stand.
use mathlib.Core.Path.{◌≡◌, refl, sym, ap, ◌∙◌}
use mathlib.Core.Bool.{Bool, true, false}
use mathlib.Core.List.{List, []}
use Prim.Native.Nat.{ℕ, ◌+◌, ◌≤◌, ◌<◌}
use native.Mathlib.Decide.{dec_lt}
use native.Mathlib.Omega.{arith}
use lib.ListN.{length}
use borrow.Author.Tests.{le-leb, lt-leb, lt-ltb}
use Rattle.numbers.specs.Answer.{Answer, answered, refused, Answers, neither, besides, alone}
use Rattle.numbers.proofs.Tests.{and_true}
use Rattle.words.specs.Commands.{expansion}
use Rattle.registers.specs.State.{State, sized}
use Rattle.registers.specs.Applied.{apply_all, differences}
use Rattle.registers.proofs.Differences.{differences_most}
use Rattle.copies.specs.Copy.{taken}
use Rattle.commands.proofs.Applying.{apply_none}
use Rattle.reader.specs.ListVerdict.{verdict}
use Rattle.reader.specs.Read.{told_both, read_answer, read_answers, read_state}
use Rattle.reader.proofs.Accepted.{verdict_accepted}
use Rattle.reader.proofs.Once.{both_one}
use Rattle.parts.specs.Progress.{fresh, plus, after, made, held_at, onward, closing}
use Rattle.pieces.specs.Pieces.{both_sized, opening, opened_spare, close_answer, close_answers, close_progress, closed_live, closed_spare}
use Rattle.parts.specs.declared.Progress.{Progress}
use Rattle.pieces.specs.declared.Closed.{Closed}
use Rattle.parts.proofs.Closing.{closes_long}
use Rattle.parts.proofs.Counts.{come_held}
use Rattle.pieces.proofs.Whole.{whole_list}
use Rattle.pieces.proofs.Calls.{open_wrong, open_right, close_refused, close_accepted}
use Rattle.pica.proofs.Uncut.{verdict_uncut}
use Rattle.demands.proofs.Both.{neither_given}
use Rattle.demands.proofs.Alike.{Alike}
use Rattle.demands.proofs.NeverRead.{never_read}
use Rattle.demands.proofs.Taken.{sized_kept, Words, run_words, taken_alike, taken_sized, taken_words, taken_done}
use Rattle.demands.proofs.Beside.{beside_run, taken_same}
use Rattle.demands.proofs.Differ.{differences_alike}
use Rattle.demands.proofs.Tallies.{closing_tallied}
use Rattle.demands.proofs.Calls.{ReadCall, read_call, OpenCall, open_call, CloseCall, close_call}
use Rattle.demands.proofs.Feeds.{joined, Feeds, come_no_refusal, come_one, feeds_joined}
use Rattle.std.specs.Prelude.{Result, Ok}
use Rattle.words.specs.declared.Refusal.{Refusal}
use Rattle.reader.specs.declared.Counts.{Counts}

-- the spare state is in step with the live one, and no word has come
pub record Opened (live : State) (p : Progress) (s : State) : Type 0 where
  pub progress : p ≡ fresh
  pub live_sized : sized live ≡ true
  pub spare_sized : sized s ≡ true
  pub alike : Alike s live

pub both_sized_law : (live spare : State) → both_sized live spare ≡ true → (sized live ≡ true) × (sized spare ≡ true)
both_sized_law live spare e = and_true (sized live) (sized spare) e

-- "opening gives its held bits and entries the live one's values"
pub open_opens : {live spare s : State} {p : Progress} → OpenCall live spare (Ok p) s → Opened live p s
open_opens {live} {spare} {s} {p} c = go (both_sized live spare) refl (open_call c)
  where
    go : (b : Bool) → both_sized live spare ≡ b → (Ok p ≡ opening live spare) × (s ≡ opened_spare live spare) → Opened live p s
    go true e k =
        let r = open_right live spare e in
        let d = both_sized_law live spare e in
        rw (k.1 ∙ sym r.1)
        (record {
          progress = come_one p fresh (k.0 ∙ sym r.0);
          live_sized = d.0;
          spare_sized = taken_sized spare live d.1 d.0;
          alike = taken_alike spare live d.1 d.0;
        })
    go false e k = come_no_refusal p (k.0 ∙ sym (open_wrong live spare e).0)

alike_back : {s t : State} → Alike s t → Alike t s
alike_back a =
    record {
      cells = λ j. sym (a.cells j);
      fog = λ j. sym (a.fog j);
      light = λ j. sym (a.light j);
      cells_long = sym a.cells_long;
      fog_long = sym a.fog_long;
      light_long = sym a.light_long;
    }

-- where both have their lengths, a close answers by the progress alone
pub right_answer : (live spare : State) (p : Progress) → both_sized live spare ≡ true
    → close_answers p live spare ≡ besides (closing p) p.differences
unfolding close_answer close_answers
right_answer live spare p e = rw e

-- "Feeding answers only how many words have come, held at 65,537": `told` of its answer is this number alone
pub words_come : {live s : State} {p : Progress} (ls : List (List ℕ)) (q : Progress) (t : State) → Opened live p s → Feeds p s ls q t
    → q.come ≡ held_at (length (joined ls))
words_come {live} {s} {p} ls q t o f =
    let e = o.progress in
    let r = feeds_joined ls p q s t o.spare_sized f (rw e) (rw e (omega arith)) in
    let n : 0 + length (joined ls) ≡ length (joined ls) = omega arith in
    rw (r.0, e) (come_held fresh (joined ls) refl ∙ rw n)

-- "If nobody else writes to either state from opening to close, then for every cutting the verdict, the place counted from the list's start
-- and the live state are those of reading the joined list at once. The 65,536 limit is on the joined length."; and the reader is then as
-- freshly opened, so that the next list may come without another opening. The differences are those of reading at once too
pub record InPieces (live s : State) (l : List ℕ) (a : Answers) (q : Progress) (live' spare' : State) : Type 0 where
  pub answer : alone a ≡ read_answer live l
  pub answers : Words live → Words s → a ≡ read_answers live l
  pub state : Words live → live' ≡ read_state live l
  pub opened : Opened live' q spare'
  pub words : Words live → Words live'
  pub spare_words : Words s → Words spare'

module _ (live s : State) (l : List ℕ) (a : sized live ≡ true) (b : sized s ≡ true) (k : Alike s live) where
  abbrev left : State
  left = apply_all s (made fresh l)

  left_sized : sized left ≡ true
  left_sized = sized_kept s (made fresh l) ∙ b

  left_both : both_sized live left ≡ true
  left_both = rw (a, left_sized)

  -- the progress that the parts lead to
  abbrev reached : Progress
  reached = onward fresh s l

  abbrev pub Closes : Answers → Progress → State → State → Type 0
  Closes v q live' spare' =
      (v ≡ close_answers reached live left) × (q ≡ close_progress reached live left)
      × (live' ≡ closed_live reached live left) × (spare' ≡ closed_spare reached live left)

  -- the count on the spare state is that on the live one, which agrees in all held bits; no sum wraps, since a list has no more writes than
  -- words
  all_counted : length l ≤ 65536 → (m : ℕ) → verdict l ≡ answered m → Words live → Words s
      → plus 0 (differences s (expansion l)) ≡ differences live (expansion l)
  all_counted h m e u v =
      let d = differences_alike s live k v u b a (expansion l) in
      let few = rw e at (verdict_uncut l) in
      omega (arith, d, differences_most s (expansion l), (verdict_accepted l m e).2, few, h)

  -- for a verdict v at the close, of which the writes made are the expansion where it accepts
  by_verdict : (v : Answer) → closing (after fresh l) ≡ v → read_answer live l ≡ v → ((m : ℕ) → v ≡ answered m → made fresh l ≡ expansion l)
      → ((m : ℕ) → v ≡ answered m → Words live → Words s → plus 0 (differences s (expansion l)) ≡ differences live (expansion l))
      → (u : Answers) (q : Progress) (live' spare' : State) → Closes u q live' spare' → InPieces live s l u q live' spare'
  unfolding read_state read_answers
  by_verdict (answered m) e r x n u y live' spare' h =
      let g = close_accepted live left reached m left_both (sym (closing_tallied (after fresh l) _ ∙ e)) in
      let never = never_read s live k (made fresh l) in
      let i : live' ≡ taken live left = h.2 ∙ sym g.2 in
      let told = h.0 ∙ sym g.0 in
      record {
        answer = ap alone told ∙ sym r;
        answers = λ c d. told ∙ rw (r, x m refl, n m refl c d);
        state = λ w. rw (r, ← (x m refl)) (i ∙ taken_done live left (made fresh l) a left_sized w never);
        opened =
            rw (i, h.3 ∙ sym g.3)
            (record {
              progress = h.1 ∙ sym g.1;
              live_sized = taken_sized live left a left_sized;
              spare_sized = left_sized;
              alike = alike_back (taken_alike live left a left_sized);
            });
        words = λ w. rw i (taken_words live left a w);
        spare_words = λ w. rw (h.3 ∙ sym g.3) (run_words s (made fresh l) w);
      }
  by_verdict (refused n q) e r x c u y live' spare' h =
      let g = close_refused live left reached n q left_both (sym (closing_tallied (after fresh l) _ ∙ e)) in
      let i : live' ≡ live = h.2 ∙ sym g.2 in
      let told = h.0 ∙ sym g.0 in
      record {
        answer = ap alone told ∙ sym r;
        answers = λ c d. told ∙ rw r;
        state = λ w. rw r i;
        opened =
            rw (i, h.3 ∙ sym g.3)
            (record {
              progress = h.1 ∙ sym g.1;
              live_sized = a;
              spare_sized = taken_sized left live left_sized a;
              alike = taken_alike left live left_sized a;
            });
        words = λ w. rw i w;
        spare_words = λ w. rw (h.3 ∙ sym g.3) (taken_words left live left_sized (run_words s (made fresh l) w));
      }

  short_answer : length l ≤ 65536 → read_answer live l ≡ verdict l
  unfolding read_answer
  short_answer h = rw (a, le-leb (length l) 65536 h)

  long_answer : 65536 < length l → read_answer live l ≡ refused 1 0
  unfolding read_answer
  long_answer h = rw (a, lt-leb (length l) 65536 h)

  pub by_length : Dec (65536 < length l) → (u : Answers) (q : Progress) (live' spare' : State) → Closes u q live' spare'
      → InPieces live s l u q live' spare'
  by_length (yes h) =
      let n : 0 + length l ≡ length l = omega arith in
      let e : (after fresh l).come ≡ 65537 = come_held fresh l refl ∙ rw (n, lt-ltb 65536 (length l) h) in
      by_verdict (refused 1 0) (closes_long (after fresh l) (omega (arith, e))) (long_answer h)
      (λ m z. absurd (let y : ◌≡◌ {A = ℕ} 0 1 = cc in omega arith))
      (λ m z. absurd (let y : ◌≡◌ {A = ℕ} 0 1 = cc in omega arith))
  by_length (no h) =
      let r = whole_list l (omega arith) in
      by_verdict (verdict l) r.answer (short_answer (omega arith)) r.writes (all_counted (omega arith))

module _ {live s t live' spare' : State} {p q : Progress} {c : Closed} (ls : List (List ℕ)) (o : Opened live p s)
    (f : Feeds p s ls q t) (k : CloseCall q live t c live' spare') where
  closes : Closes live s (joined ls) o.live_sized o.spare_sized o.alike (told_both c.verdict) c.progress live' spare'
  closes =
      let e = feeds_joined ls p q s t o.spare_sized f (rw o.progress) (rw o.progress (omega arith)) in
      let x = close_call k in
      rw (e.0, e.1, o.progress) at x

  pub in_pieces : InPieces live s (joined ls) (told_both c.verdict) c.progress live' spare'
  in_pieces =
      by_length live s (joined ls) o.live_sized o.spare_sized o.alike (dec_lt 65536 (length (joined ls)))
      (told_both c.verdict) c.progress live' spare' closes

  -- against a call of `read` on the live state and the joined list: the same verdict, writes, differences and live state
  pub as_read : {r : Result Counts Refusal} {u : State} → Words live → Words s → ReadCall live (joined ls) r u
      → (c.verdict ≡ r) × (live' ≡ u)
  as_read {r} {u} w v x =
      let y = read_call x in
      (both_one c.verdict r (in_pieces.answers w v ∙ sym y.0), in_pieces.state w ∙ sym y.1)

  -- "on any other refusal the spare those of the live .., and the reader is as freshly opened": both states and the reader are, word for
  -- word, those after opening
  pub refused_as_opened : (n x : ℕ) → Words s → told_both c.verdict ≡ neither n x → (live' ≡ live) × (spare' ≡ s) × (c.progress ≡ p)
  unfolding read_state
  refused_as_opened n x v e =
      let i = in_pieces in
      let d = closes in
      let ws = made fresh (joined ls) in
      let b = o.spare_sized in
      let r = reached live s (joined ls) o.live_sized b o.alike in
      let h = left_both live s (joined ls) o.live_sized b o.alike in
      let z : neither n x ≡ close_answers r live (apply_all s ws) = sym e ∙ d.0 in
      let y : closing r ≡ refused n x = neither_given (closing r) n x r.differences (z ∙ right_answer live (apply_all s ws) r h) in
      let g = close_refused live (apply_all s ws) r n x h (sym y) in
      let kept : taken (apply_all s ws) live ≡ taken s live =
      taken_same (apply_all s ws) s live (sized_kept s ws ∙ b) b (run_words s ws v) v (beside_run s ws) in
      let back : taken s live ≡ s =
      taken_done s live [] b o.live_sized v (rw (apply_none s) (alike_back o.alike)) ∙ apply_none s in
      (d.2 ∙ sym g.2, d.3 ∙ sym g.3 ∙ kept ∙ back, i.opened.progress ∙ sym o.progress)
