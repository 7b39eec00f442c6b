-- A whole list, fed to a fresh reading: at the close its verdict is the list's, and the writes made are the expansion. Assumes nothing.
use mathlib.Core.Path.{◌≡◌, refl, sym, ◌∙◌}
use mathlib.Core.List.{List, [], ◌∷◌, ◌++◌, append_assoc, append-nil}
use Prim.Native.Nat.{ℕ, suc, ◌+◌, ◌%◌, ◌≤◌, ◌<◌}
use native.Mathlib.Numerals.{add-one}
use native.Mathlib.Decide.{dec_le}
use native.Mathlib.Omega.{arith}
use lib.ListN.{length, get_or, drop}
use lib.Seq.{drop-cons}
use Rattle.numbers.specs.Answer.{Answer, answered, refused}
use Rattle.words.specs.Writes.{Write}
use Rattle.words.specs.Commands.{expansion}
use Rattle.words.proofs.Laws.{commands_end, expansion_of, kept_none, join_none}
use Rattle.reader.specs.ListVerdict.{judged, verdict}
use Rattle.reader.proofs.Accepted.{judged_of_law, legal_judged, verdict_legal, verdict_odd}
use Rattle.reader.proofs.Judging.{judge_end, judge_short}
use Rattle.parts.specs.Progress.{fresh, next, makes, after, made, fault_number, judged_so_far, closing}
use Rattle.parts.specs.declared.Progress.{Progress}
use Rattle.parts.proofs.Steps.{after_none, after_more, made_none, made_more}
use Rattle.parts.proofs.Closing.{closes_odd, closes_legal, so_far_short, so_far_accepted, so_far_fault, all_come, some_lacks}
use Rattle.pieces.proofs.Stands.{Stands, at_between, at_begun, at_inside, at_end}
use Rattle.pieces.proofs.Goes.{step_on}

-- what a list's end leaves
record Ends (l : List ℕ) (q : Progress) (ws : List Write) : Type 0 where
  come : q.come ≡ length l
  answer : judged_so_far q ≡ judged l
  writes : (m : ℕ) → judged l ≡ answered m → ws ≡ expansion l

never : {A : Type 0} (a : Answer) (n p m : ℕ) → refused n p ≡ a → a ≡ answered m → A
never a n p m e f = absurd (let z : ◌≡◌ {A = ℕ} 0 1 = cc in omega arith)

-- and the close
pub record Final (l : List ℕ) (q : Progress) (ws : List Write) : Type 0 where
  pub answer : closing q ≡ verdict l
  pub writes : (m : ℕ) → verdict l ≡ answered m → ws ≡ expansion l

module _ (l : List ℕ) (fits : length l ≤ 65536) where
  at_last : (j : ℕ) (p : Progress) (ws : List Write) → p.come ≡ j → length l ≡ j → Stands l j p ws → Ends l p ws
  at_last j p ws c e (at_between s) =
      record {
        come = omega arith;
        answer =
            so_far_accepted p (all_come p s.left s.pad s.begun) s.fault
            ∙ sym (judge_end l j p.writes (omega arith)) ∙ s.answer;
        writes = λ m v. sym (append-nil ws) ∙ (rw (commands_end l j (omega arith), join_none l, kept_none) at s.writes);
      }
  at_last j p ws c e (at_begun s) =
      let v = sym (judge_short l p.place p.writes (omega (arith, s.at)) (omega (arith, s.at))) ∙ s.answer in
      record {
        come = omega arith;
        answer = so_far_short p (some_lacks p (omega (arith, s.begun))) ∙ v;
        writes = λ m w. never (judged l) 2 p.place m v w;
      }
  at_last j p ws c e (at_inside s g) =
      let v = sym (judge_short l p.place _ (omega (arith, s.here)) (omega (arith, s.at))) ∙ s.answer in
      record {
        come = omega arith;
        answer = so_far_short p (some_lacks p (omega arith)) ∙ v;
        writes = λ m w. never (judged l) 2 p.place m v w;
      }
  at_last j p ws c e (at_end s) =
      record {
        come = omega arith;
        answer = so_far_fault p (all_come p s.left s.pad s.begun) s.fault ∙ s.answer;
        writes = λ m w. never (judged l) (fault_number p.fault) p.place m s.answer w;
      }

  -- from the j-th word on
  from_word : (rest : List ℕ) (j : ℕ) (p : Progress) (ws : List Write) → drop j l ≡ rest → j + length rest ≡ length l → p.come ≡ j
      → Stands l j p ws → Ends l (after p rest) (ws ++ made p rest)
  from_word [] j p ws d n c s = rw (after_none p, made_none p, append-nil ws) (at_last j p ws c (omega arith) s)
  from_word (x ∷ rest) j p ws d n c s =
      let low : j < length l = omega arith in
      let u = drop-cons l j 0 low in
      let e : get_or l j 0 ≡ x = cc in
      let r : drop (suc j) l ≡ rest = cc in
      let g = step_on l fits j p ws c low s in
      rw (after_more p x rest, made_more p x rest, ← (append_assoc ws (makes p x) (made (next p x) rest)), ← e)
      (from_word rest (j + 1) (next p (get_or l j 0)) (ws ++ makes p (get_or l j 0)) (rw (add-one j) r) (omega arith) g.come
      g.stands)

  begin : Stands l 0 fresh []
  begin =
      at_between
      (record {
        left = refl;
        pad = refl;
        begun = refl;
        fault = refl;
        few = omega arith;
        answer = sym (judged_of_law l);
        writes = sym (expansion_of l);
      })

  ends : Ends l (after fresh l) (made fresh l)
  ends = from_word l 0 fresh [] refl (omega arith) refl begin

  -- A LIST OF AT MOST 65,536 WORDS: its length decides before its commands, at the close as at once
  by_length : Dec (length l % 4 ≤ 0) → closing (after fresh l) ≡ verdict l
  by_length (yes h) =
      let z : length l % 4 ≡ 0 = omega arith in
      closes_legal (after fresh l) (omega (arith, ends.come)) (rw ends.come z) ∙ ends.answer ∙ sym (verdict_legal l z)
  by_length (no h) =
      let n : length l % 4 ≡ 0 → ⊥ = λ z. h (omega arith) in
      closes_odd (after fresh l) (omega (arith, ends.come)) (rw ends.come n) ∙ sym (verdict_odd l n)

  pub whole_list : Final l (after fresh l) (made fresh l)
  whole_list = record { answer = by_length (dec_le (length l % 4) 0); writes = λ m v. ends.writes m (legal_judged l m v).1 }
