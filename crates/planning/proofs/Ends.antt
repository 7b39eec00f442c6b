-- The ends of a run of writes that one command could carry, and what the choice asks of them. Assumes nothing.
use mathlib.Core.Path.{◌≡◌, refl, sym, ◌∙◌}
use mathlib.Core.Bool.{Bool, true, false}
use mathlib.Core.List.{List, [], ◌∷◌}
use Prim.Native.Nat.{ℕ, zero, suc, ◌+◌, ◌*◌, ◌-◌, ◌≤◌, ◌<◌, min, max}
use native.Mathlib.Omega.{arith}
use lib.Dec.{ltb}
use lib.ListN.{length, get_or, drop, length-drop}
use lib.Seq.{drop-drop}
use borrow.Author.Tests.{ltb-true, ltb-false}
use Rattle.numbers.specs.Pick.{pick}
use Rattle.words.specs.Writes.{Write}
use Rattle.cuts.specs.Cuts.{Spans, least, sizes}
use Rattle.cuts.proofs.Least.{least_low, least_short, least_falls, sizes_cut, sizes_least}
use Rattle.runs.specs.Span.{chain, span}
use Rattle.runs.proofs.Chain.{spans, chain_fits}
use Rattle.planning.specs.Plan.{words_by, Near, Longest, PlannedFrom}
use Rattle.planning.proofs.Links.{span_run}

-- THE RUN from write i on that one command could carry, were it not for the limit of 256: its step, its writes, and the words of what is
-- left after it and after all of it but one write; of what is left after two writes and one, where it is shorter than two
pub record Run (ws : List Write) (i step run last before : ℕ) : Type 0 where
  pub writes : run ≡ chain step (drop i ws)
  pub alone : i < length ws → chain (1 - step) (drop i ws) ≡ 1
  pub lasts : last ≡ least span (drop (i + max 2 run) ws)
  pub befores : before ≡ least span (drop (i + max 2 run - 1) ws)

-- words of what is left fit
pub least_small : (ws : List Write) (k x : ℕ) → x ≡ least span (drop k ws) → x ≤ 2 * length ws
least_small ws k x e = omega (arith, least_short spans (drop k ws), length-drop k ws)

-- the ends of a run of one write more, by those of the run after it, and the words from the next write on and from the one after it
module _ (ws : List Write) (m j was run last before need after r x y : ℕ) (g : m ≡ j + 1) (R : Run ws m was run last before)
    (hn : need ≡ least span (drop m ws)) (ha : after ≡ least span (drop (m + 1) ws)) (grows : 2 < r → r ≡ run + 1)
    (ex : x ≡ pick (ltb 2 r) last after) (ey : y ≡ pick (ltb 2 r) before need) where
  abbrev Ending : ℕ → ℕ → Type 0
  Ending x y = (x ≡ least span (drop (j + max 2 r) ws)) × (y ≡ least span (drop (j + max 2 r - 1) ws))

  by_length : (b : Bool) → ltb 2 r ≡ b → Ending (pick b last after) (pick b before need)
  by_length true t =
      let h : 2 < r = ltb-true 2 r t in
      let z : m + max 2 run ≡ j + max 2 r = omega (arith, grows h) in
      (R.lasts ∙ rw z, R.befores ∙ rw z)
  by_length false t =
      let h : r ≤ 2 = ltb-false 2 r t in
      let z : m + 1 ≡ j + max 2 r = omega arith in
      let w : m ≡ j + max 2 r - 1 = omega arith in
      (ha ∙ rw z, hn ∙ rw w)

  pub ends_more : Ending x y
  ends_more = rw (ex, ey) (by_length (ltb 2 r) refl)

-- one write more takes at most two words more: a command of its own
pub least_rises : {A : Type 0} {span : List A → ℕ} (s : Spans span) (l : List A) → 1 ≤ length l → least span l ≤ least span (drop 1 l) + 2
least_rises s [] h = absurd (omega arith)
least_rises {span = span} s (a ∷ l) h =
    omega (arith, least_low s (a ∷ l) (1 ∷ sizes span l) (omega arith, s.pos a l, sizes_cut s l), sizes_least s l)

-- from write to write the planned words fall, by two at most
pub plan_near : (ws : List Write) (m j k : ℕ) (t u : List ℕ) → PlannedFrom m ws t u → m ≤ j → j < length ws → k ≡ j + 1
    → Near (get_or t k 0) (get_or t j 0)
plan_near ws m j k t u P p q e =
    let l = drop j ws in
    let n = length-drop j ws in
    let f : least span (drop k ws) ≤ least span l = rw (e, ← drop-drop 1 j ws) (least_falls spans l) in
    let r : least span l ≤ least span (drop k ws) + 2 = rw (e, ← drop-drop 1 j ws) (least_rises spans l (omega arith)) in
    let v = P.words j p (omega arith) in
    let w = P.words k (omega arith) (omega arith) in
    (omega arith, omega arith)

-- the run is within the writes
module _ (ws : List Write) (m j step r x y : ℕ) (h : j < length ws) (s : step < 2) (some : 1 ≤ r) (R : Run ws j step r x y) where
  pub run_span : min 256 r ≡ span (drop j ws)
  run_span = span_run (drop j ws) step r s some R.writes (R.alone h)

  pub run_within : j + r ≤ length ws
  run_within = omega (arith, R.writes, chain_fits step (drop j ws), length-drop j ws)

  -- what the choice asks of the ends
  module _ (need after last before : ℕ) (t u : List ℕ) (w : ℕ) (g : m ≡ j + 1) (P : PlannedFrom m ws t u)
      (hn : need ≡ least span (drop m ws)) (ht : length ws < length t) (few : length ws ≤ 4096) (ex : x ≡ pick (ltb 2 r) last after)
      (ey : y ≡ pick (ltb 2 r) before need)
      (ew : w ≡ pick (ltb 2 r) (words_by r last before) (need + 2)) where
    last_at : 2 ≤ r → x ≡ get_or t (j + r) 0
    last_at q = let z : j + max 2 r ≡ j + r = omega arith in R.lasts ∙ rw z (sym (P.words (j + r) (omega arith) run_within))

    before_at : 2 ≤ r → y ≡ get_or t (j + r - 1) 0
    before_at q =
        let z : j + max 2 r - 1 ≡ j + r - 1 = omega arith in
        R.befores ∙ rw z (sym (P.words (j + r - 1) (omega arith) (omega (arith, run_within))))

    next_at : need ≡ get_or t (j + 1) 0
    next_at = hn ∙ rw g (sym (P.words (j + 1) (omega arith) (omega arith)))

    short : (k : ℕ) → r ≡ k → 1 ≤ k → k ≤ 2 → need + 2 ≡ words_by k (get_or t (j + k) 0) (get_or t (j + k - 1) 0)
    short zero d p q = absurd (omega arith)
    short (suc zero) d p q = omega (arith, next_at)
    short (suc (suc zero)) d p q = let z : j + 2 - 1 ≡ j + 1 = omega arith in rw z (omega (arith, next_at))
    short (suc (suc (suc k))) d p q = absurd (omega arith)

    by_length_words : (b : Bool) → ltb 2 r ≡ b
        → pick b (words_by r last before) (need + 2) ≡ words_by r (get_or t (j + r) 0) (get_or t (j + r - 1) 0)
    by_length_words true d =
        let l : 2 < r = ltb-true 2 r d in
        let u : last ≡ get_or t (j + r) 0 = sym (ex ∙ rw d) ∙ last_at (omega arith) in
        let v : before ≡ get_or t (j + r - 1) 0 = sym (ey ∙ rw d) ∙ before_at (omega arith) in
        rw (u, v)
    by_length_words false d = short r refl some (ltb-false 2 r d)

    pub run_longest : Longest t j r x y w
    run_longest =
        let d = run_within in
        record {
          some = some;
          within = omega arith;
          few = omega arith;
          near = λ q. plan_near ws m (j + min 256 r - 1) (j + min 256 r) t u P (omega arith) (omega arith) (omega arith);
          lasts = λ q p. last_at q;
          befores = λ q p. before_at q;
          needed = λ p. ew ∙ by_length_words (ltb 2 r) refl;
          small = omega (arith, least_small ws (j + max 2 r) x R.lasts);
        }
