-- One turn of the plan: from what is known of the writes after one to what is known with it. Assumes nothing.
use mathlib.Core.Path.{◌≡◌, refl, sym, ap, ◌∙◌}
use mathlib.Core.List.{List}
use Prim.Native.Nat.{ℕ, ◌+◌, ◌*◌, ◌-◌, ◌≤◌, ◌<◌}
use native.Mathlib.Decide.{dec_lt}
use native.Mathlib.Omega.{arith}
use lib.ListN.{length, get_or, drop, set, length-drop}
use lib.Seq.{drop-drop, get_or-drop, get_or-set_same, get_or-set_other}
use Rattle.words.specs.Writes.{Write}
use Rattle.cuts.specs.Cuts.{words, after, size, table, least, first}
use Rattle.cuts.proofs.Choice.{size_same, after_drop}
use Rattle.cuts.proofs.Steps.{table_at, first_at, least_of, least_nil}
use Rattle.cuts.proofs.Least.{least_short}
use Rattle.runs.specs.Span.{span}
use Rattle.runs.specs.PackedList.{OneCommand}
use Rattle.runs.proofs.Chain.{spans, chain_nil}
use Rattle.runs.proofs.PackedList.{first_command}
use Rattle.planning.specs.declared.Choice.{Choice}
use Rattle.planning.specs.Plan.{Chose, PlannedFrom}
use Rattle.planning.proofs.Ends.{Run}

-- THE FIRST COMMAND from write i on

module _ (ws : List Write) (t u : List ℕ) (i : ℕ) (h : i < length ws) (P : PlannedFrom (i + 1) ws t u) where
  abbrev l : List Write
  l = drop i ws

  n : length l ≡ length ws - i
  n = length-drop i ws

  some : OneCommand l (first span l)
  some = first_command l (omega (arith, n))

  same : (j : ℕ) → j < span l → get_or (drop (i + 1) t) j 0 ≡ get_or (table span (drop 1 l)) j 0
  same j p =
      get_or-drop (i + 1) t j 0
      ∙ P.words (i + 1 + j) (omega arith) (omega (arith, n, spans.fits l))
      ∙ ap (least span) (sym (drop-drop j (i + 1) ws) ∙ ap (drop j) (sym (drop-drop 1 i ws)))
      ∙ sym (table_at span (drop 1 l) j (omega (arith, n, length-drop 1 l, spans.fits l)))

  -- the choice by the code's table is the first command's size
  pub choice_first : (m k : ℕ) → m ≡ span l → k ≡ size m (drop (i + 1) t) → k ≡ first span l
  choice_first m k e f =
      f ∙ rw e (size_same (span l) (drop (i + 1) t) (table span (drop 1 l)) (omega (arith, some.low, some.carried)) same)
      ∙ sym (first_at span l (omega (arith, n)))

  -- and its words with the rest are the least
  pub choice_least : (k : ℕ) → k ≡ first span l → after (drop (i + 1) t) k ≡ least span l
  choice_least k e =
      rw e
      (after_drop t i (first span l) (i + first span l) some.low refl
      ∙ ap (λ (x : ℕ). words (first span l) + x) (P.words (i + first span l) (omega (arith, some.low)) (omega (arith, n, some.fits)))
      ∙ rw (← drop-drop (first span l) i ws) (sym (least_of spans l (omega (arith, n)))))

  -- the tables with one entry more
  pub plan_more : (w x : ℕ) → w ≡ least span l → x + 1 ≡ first span l → i < length t → i < length u
      → PlannedFrom i ws (set t i w) (set u i x)
  plan_more w x e f ht hu = record { words = λ j p q. go_words j p q (dec_lt i j); sizes = λ j p q. go_sizes j p q (dec_lt i j) }
    where
      go_words : (j : ℕ) → i ≤ j → j ≤ length ws → Dec (i < j) → get_or (set t i w) j 0 ≡ least span (drop j ws)
      go_words j p q (yes d) = get_or-set_other t i j w 0 (omega arith) ∙ P.words j (omega arith) q
      go_words j p q (no d) = let z : j ≡ i = omega arith in rw z (get_or-set_same t i w 0 ht ∙ e)

      go_sizes : (j : ℕ) → i ≤ j → j < length ws → Dec (i < j) → get_or (set u i x) j 0 + 1 ≡ first span (drop j ws)
      go_sizes j p q (yes d) = rw (get_or-set_other u i j x 0 (omega arith)) (P.sizes j (omega arith) q)
      go_sizes j p q (no d) = let z : j ≡ i = omega arith in rw (z, get_or-set_same u i x 0 hu) f

-- WHAT THE PLAN KEEPS, whatever the values: the run from write i on, the least words of what is left from there and from the next write,
-- and the tables
pub record Kept (ws : List Write) (i step run last before need after : ℕ) (t u : List ℕ) : Type 0 where
  pub runs : Run ws i step run last before
  pub words : need ≡ least span (drop i ws)
  pub next : after ≡ least span (drop (i + 1) ws)
  pub plan : PlannedFrom i ws t u

pub kept_none : (ws : List Write) (i : ℕ) (t u : List ℕ) → i ≡ length ws → i < length t → Kept ws i 0 0 0 0 0 0 (set t i 0) u
kept_none ws i t u e h =
    let none : (k : ℕ) → i ≤ k → 0 ≡ least span (drop k ws) = λ k p. sym (least_nil span (drop k ws) (length-drop k ws ∙ omega arith)) in
    record {
      runs =
          record {
            writes = sym (chain_nil 0 (drop i ws) (length-drop i ws ∙ omega arith));
            alone = λ q. absurd (omega arith);
            lasts = none (i + 2) (omega arith);
            befores = none (i + 2 - 1) (omega arith);
          };
      words = none i (omega arith);
      next = none (i + 1) (omega arith);
      plan =
          record {
            words = λ j p q. let z : j ≡ i = omega arith in rw (z, get_or-set_same t i 0 0 h) (none i (omega arith));
            sizes = λ j p q. absurd (omega arith);
          };
    }

-- the code's choice at write i is right: the first command's size, and the least words of what is left
pub record Right (ws : List Write) (i : ℕ) (c : Choice) : Type 0 where
  pub size : c.size ≡ first span (drop i ws)
  pub words : c.words ≡ least span (drop i ws)
  pub low : 1 ≤ c.size
  pub high : c.size ≤ 256
  pub small : c.words ≤ 2 * length ws

pub choice_right : (ws : List Write) (m i n : ℕ) (t u : List ℕ) (c : Choice) → m ≡ i + 1 → i < length ws → PlannedFrom m ws t u
    → n ≡ span (drop i ws) → Chose n (drop (i + 1) t) c → Right ws i c
choice_right ws m i n t u c e h P s d =
    let l = length-drop i ws in
    let Q = rw e at P in
    let k = choice_first ws t u i h Q n c.size s d.size in
    let w = d.words ∙ choice_least ws t u i h Q c.size k in
    let f = first_command (drop i ws) (omega arith) in
    record {
      size = k;
      words = w;
      low = omega (arith, f.low);
      high = omega (arith, f.cap);
      small = omega (arith, least_short spans (drop i ws));
    }

-- one write more
pub kept_more : (ws : List Write) (m i step run last before need : ℕ) (t u : List ℕ) (c : Choice) → m ≡ i + 1 → i < length ws
    → Run ws i step run last before → need ≡ least span (drop m ws) → Right ws i c → i < length t → i < length u → PlannedFrom m ws t u
    → Kept ws i step run last before c.words need (set t i c.words) (set u i (c.size - 1))
kept_more ws m i step run last before need t u c e h R hn r ht hu P =
    let k : c.size - 1 + 1 ≡ first span (drop i ws) = omega (arith, r.size, r.low) in
    let p = plan_more ws t u i h (rw e at P) c.words (c.size - 1) r.words k ht hu in
    record { runs = R; words = r.words; next = rw e at hn; plan = p }
