-- Two accepted lists, one after the other: the joined list says the joined run. Assumes nothing.
use mathlib.Core.Path.{◌≡◌, refl, sym, ap, ◌∙◌}
use mathlib.Core.Bool.{Bool, true, false, ◌&&◌}
use mathlib.Core.List.{List, ◌∷◌, ◌++◌, append_assoc}
use Prim.Native.Nat.{ℕ, zero, suc, ◌+◌, ◌%◌, ◌≤◌, ◌<◌}
use native.Mathlib.Omega.{arith}
use lib.Dec.{leb}
use lib.ListN.{length, get_or, length-append, get_or-append}
use lib.Seq.{get_or-append-add}
use borrow.Author.Tests.{leb-true, leb-false, le-leb, lt-leb}
use Rattle.numbers.specs.Answer.{answered}
use Rattle.numbers.proofs.Tests.{and_true}
use Rattle.words.specs.Header.{id_of, mask_of, count_of, step_of, words_of}
use Rattle.words.specs.Writes.{Write, writing, kept}
use Rattle.words.specs.Commands.{header_at, param_at, whole, run, expand, commands, join, all_writes, expansion, full, well_formed}
use Rattle.words.proofs.Laws.{commands_end, commands_step, kept_append, all_of, join_none, join_more, formed_of, full_none, full_more}
use Rattle.reader.specs.ListVerdict.{all_allowed}
use Rattle.reader.proofs.Accepted.{allowed_append, legal_judged, verdict_accepted, verdict_accepts}
use Rattle.runs.specs.Shortest.{Says}
use Rattle.runs.proofs.Places.{by_places}

-- A COMMAND IN TWO LISTS, of the same words
module _ (L M : List ℕ) (p q : ℕ) (same : (x : ℕ) → x < words_of (header_at M q) → get_or L (p + x) 0 ≡ get_or M (q + x) 0) where
  header_same : header_at L p ≡ header_at M q
  header_same = same 1 (omega arith)

  param_same : (k : ℕ) → k ≤ count_of (header_at M q) → param_at L p k ≡ param_at M q k
  param_same k h =
      let a : p + 0 ≡ p = omega arith in
      let b : q + 0 ≡ q = omega arith in
      let c : p + (1 + k) ≡ p + 1 + k = omega arith in
      let d : q + (1 + k) ≡ q + 1 + k = omega arith in
      let e : get_or L p 0 ≡ get_or M q 0 = rw (a, b) at (same 0 (omega arith)) in
      let f : get_or L (p + 1 + k) 0 ≡ get_or M (q + 1 + k) 0 = rw (c, d) at (same (1 + k) (omega arith)) in
      rw (e, f)

  run_same : (n k i : ℕ) → n + k ≤ count_of (header_at M q) + 1 → run L p n k i ≡ run M q n k i
  unfolding run
  run_same zero k i h = refl
  run_same (suc n) k i h =
      let m = mask_of (header_at M q) in
      rw (header_same, param_same k (omega arith))
      (ap (λ (r : List Write). writing i m (param_at M q k) ∷ r) (run_same n (k + 1) (i + step_of (header_at M q)) (omega arith)))

  expand_same : expand L p ≡ expand M q
  expand_same = rw header_same (run_same (count_of (header_at M q) + 1) 0 (id_of (header_at M q)) (omega arith))

module _ (l k : List ℕ) where
  abbrev both : List ℕ
  both = l ++ k

  long : length both ≡ length l + length k
  long = length-append l k

  -- THE SECOND LIST'S COMMANDS stand after the first list
  record After (at : ℕ) : Type 0 where
    writes : join both (commands both (length l + at)) ≡ join k (commands k at)
    form : full both (commands both (length l + at)) ≡ full k (commands k at)

  second_word : (at x : ℕ) → get_or both (length l + at + x) 0 ≡ get_or k (at + x) 0
  second_word at x = let e : length l + at + x ≡ length l + (at + x) = omega arith in rw e (get_or-append-add l k (at + x) 0)

  second_whole : (at w : ℕ) (b : Bool) → leb (at + w) (length k) ≡ b → leb (length l + at + w) (length both) ≡ b
  second_whole at w true e = le-leb (length l + at + w) (length both) (omega (arith, long, leb-true (at + w) (length k) e))
  second_whole at w false e = lt-leb (length l + at + w) (length both) (omega (arith, long, leb-false (at + w) (length k) e))

  after : (at : ℕ) → After at
  after = by_places k After end step
    where
      end : (at : ℕ) → length k ≤ at → After at
      end at h =
          let c = commands_end both (length l + at) (omega (arith, long)) in
          let d = commands_end k at h in
          record { writes = rw (c, d) (join_none both ∙ sym (join_none k)); form = rw (c, d) (full_none both ∙ sym (full_none k)) }

      step : (at : ℕ) → at < length k → After (at + words_of (header_at k at)) → After at
      step at h rest =
          let w = words_of (header_at k at) in
          let p = length l + at in
          let words : (x : ℕ) → x < w → get_or both (p + x) 0 ≡ get_or k (at + x) 0 = λ x _. second_word at x in
          let e = header_same both k p at words in
          let next : p + words_of (header_at both p) ≡ length l + (at + w) = rw e (omega arith) in
          let c = commands_step both p (omega (arith, long)) ∙ ap (λ (n : ℕ). p ∷ commands both n) next in
          let d = commands_step k at h in
          let v : whole both p ≡ whole k at = rw e (second_whole at w (leb (at + w) (length k)) refl) in
          let j : expand both p ++ join both (commands both (length l + (at + w))) ≡ expand k at ++ join k (commands k (at + w)) =
          rw (expand_same both k p at words, rest.writes) in
          let f : (whole both p && full both (commands both (length l + (at + w)))) ≡ (whole k at && full k (commands k (at + w))) =
          rw (v, rest.form) in
          record {
            writes = rw (c, d) (join_more both p _ ∙ j ∙ sym (join_more k at _));
            form = rw (c, d) (full_more both p _ ∙ f ∙ sym (full_more k at _));
          }

  -- THE FIRST LIST'S COMMANDS are its own: none reaches over its end
  record Before (at : ℕ) : Type 0 where
    writes : join both (commands both at) ≡ join l (commands l at) ++ join both (commands both (length l))
    form : full both (commands both at) ≡ full both (commands both (length l))

  abbrev From : ℕ → Type 0
  From at = at ≤ length l → full l (commands l at) ≡ true → Before at

  before : (at : ℕ) → From at
  before = by_places l From end step
    where
      end : (at : ℕ) → length l ≤ at → From at
      end at h g f =
          let e : at ≡ length l = omega arith in
          let c = commands_end l (length l) (omega arith) in
          rw e (record { writes = rw (c, join_none l); form = refl })

      step : (at : ℕ) → at < length l → From (at + words_of (header_at l at)) → From at
      step at h rest g f =
          let w = words_of (header_at l at) in
          let m = sym (full_more l at (commands l (at + w))) ∙ (rw (commands_step l at h) at f) in
          let u = and_true (whole l at) (full l (commands l (at + w))) m in
          let in-l : at + w ≤ length l = leb-true (at + w) (length l) u.0 in
          let words : (x : ℕ) → x < w → get_or both (at + x) 0 ≡ get_or l (at + x) 0 =
          λ x y. get_or-append l k 0 (at + x) (omega arith) in
          let e = header_same both l at at words in
          let next : at + words_of (header_at both at) ≡ at + w = rw e in
          let c = commands_step both at (omega (arith, long)) ∙ ap (λ (n : ℕ). at ∷ commands both n) next in
          let d = commands_step l at h in
          let r = rest in-l u.1 in
          let v : whole both at ≡ true = rw e (le-leb (at + w) (length both) (omega (arith, long))) in
          let end = join both (commands both (length l)) in
          let j : expand both at ++ join both (commands both (at + w)) ≡ expand l at ++ join l (commands l (at + w)) ++ end =
          rw (expand_same both l at at words, r.writes) (sym (append_assoc (expand l at) (join l (commands l (at + w))) end)) in
          let y : (whole both at && full both (commands both (at + w))) ≡ full both (commands both (length l)) = rw (v, r.form) in
          record {
            writes = rw (c, d) (join_more both at _ ∙ j ∙ ap (λ (x : List Write). x ++ end) (sym (join_more l at _)));
            form = rw c (full_more both at _ ∙ y);
          }

  -- THE JOINED LIST of a well-formed list and another
  module _ (f : well_formed l ≡ true) where
    start : Before 0
    start = before 0 (omega arith) (sym (formed_of l) ∙ f)

    rest : After 0
    rest = after 0

    at_end : length l + 0 ≡ length l
    at_end = omega arith

    pub joined_writes : all_writes both ≡ all_writes l ++ all_writes k
    joined_writes =
        all_of both ∙ start.writes
        ∙ rw (all_of l, all_of k) (ap (λ (x : List Write). join l (commands l 0) ++ x) (rw at_end at rest.writes))

    pub joined_expansion : expansion both ≡ expansion l ++ expansion k
    unfolding expansion
    joined_expansion = ap kept joined_writes ∙ kept_append (all_writes l) (all_writes k)

    pub joined_formed : well_formed both ≡ well_formed k
    joined_formed = formed_of both ∙ start.form ∙ (rw at_end at rest.form) ∙ sym (formed_of k)

-- LISTS JOINED SAY THE RUNS JOINED: of two legal lengths the sum is legal too
pub joined_says : (a b : List Write) (l k : List ℕ) → Says a l → Says b k → Says (a ++ b) (l ++ k)
joined_says a b l k s t =
    let u = verdict_accepted l (length a) s.accepted in
    let v = verdict_accepted k (length b) t.accepted in
    let legal : length (l ++ k) % 4 ≡ 0 =
    omega (arith, length-append l k, (legal_judged l _ s.accepted).0, (legal_judged k _ t.accepted).0) in
    let x : expansion (l ++ k) ≡ a ++ b = joined_expansion l k u.0 ∙ rw (s.writes, t.writes) in
    let y : all_allowed (all_writes (l ++ k)) ≡ true =
    rw (joined_writes l k u.0, allowed_append (all_writes l) (all_writes k), u.1) v.1 in
    record {
      accepted =
          verdict_accepts (l ++ k) legal (joined_formed l k u.0 ∙ v.0) y ∙ ap (λ (w : List Write). answered (length w)) x;
      writes = x;
    }
