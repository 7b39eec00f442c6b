-- Every well-formed list is a cut of its writes, and without its commands of mask 0 a cut of its expansion; the commands take no more words
-- than it has. Assumes nothing.
use mathlib.Core.Path.{◌≡◌, refl, sym, ◌∙◌}
use mathlib.Core.Bool.{Bool, true, false}
use mathlib.Core.List.{List, [], ◌∷◌, ◌++◌}
use mathlib.Core.Logic.{◌⊎◌, inl, inr, ⊎_elim}
use Prim.Native.Nat.{ℕ, ◌+◌, ◌≤◌, ◌<◌}
use native.Mathlib.Omega.{arith}
use lib.Dec.{eqb}
use lib.ListN.{length}
use lib.Seq.{drop_at}
use borrow.Author.Tests.{leb-true, eqb-true, eqb-false}
use Rattle.numbers.specs.Pick.{pick}
use Rattle.numbers.proofs.Tests.{and_true}
use Rattle.words.specs.Header.{id_of, mask_of, count_of, words_of}
use Rattle.words.specs.Writes.{Write, kept}
use Rattle.words.specs.Commands.{header_at, whole, expand, commands, join, all_writes, expansion, full, well_formed}
use Rattle.words.proofs.Laws.{commands_end, commands_step, run_length, run_dropped, run_kept, kept_none, kept_append}
use Rattle.words.proofs.Laws.{all_of, expansion_of, join_none, join_more, formed_of, full_more}
use Rattle.cuts.specs.Cuts.{total, Cut}
use Rattle.runs.specs.Span.{span}
use Rattle.runs.specs.Shortest.{carried, sizes_of}
use Rattle.runs.proofs.Chain.{expand_span}
use Rattle.runs.proofs.Places.{by_places}

module _ (l : List ℕ) where
  -- how many writes the commands at these places carry, those of mask 0 left out
  abbrev pub live : List ℕ → List ℕ
  live [] = []
  live (p ∷ ps) = pick (eqb (mask_of (header_at l p)) 0) (live ps) ((count_of (header_at l p) + 1) ∷ live ps)

  -- commands of sizes ks, of all those of sizes js, leave two words or more, or they are all and keep every write
  abbrev Leave : List ℕ → List ℕ → List Write → List Write → Type 0
  Leave ks js vs ws = (total ks + 2 ≤ total js) ⊎ ((total ks ≡ total js) × (vs ≡ ws))

  abbrev Dead : List ℕ → Type 0
  Dead ps = Leave (live ps) (carried l ps) (kept (join l ps)) (join l ps)

  fewer : (ps : List ℕ) → Dead ps → total (live ps) ≤ total (carried l ps)
  fewer ps (inl d) = omega arith
  fewer ps (inr d) = omega (arith, d.0)

  -- what the commands at these places carry, from `at` on
  record Carries (at : ℕ) (ps : List ℕ) : Type 0 where
    cut : Cut span (join l ps) (carried l ps)
    cut_kept : Cut span (kept (join l ps)) (live ps)
    dead : Dead ps
    words : at + total (carried l ps) ≤ length l

  none : (at : ℕ) → at ≤ length l → Carries at []
  none at h =
      let e : kept (join l []) ≡ [] = rw (join_none l) kept_none in
      record { cut = join_none l; cut_kept = e; dead = inr (refl, e ∙ sym (join_none l)); words = omega arith }

  -- a command of mask 0 takes words and carries nothing, any other carries its writes
  module _ (at : ℕ) (ps : List ℕ) (c : Carries (at + words_of (header_at l at)) ps) where
    abbrev k : ℕ
    k = count_of (header_at l at) + 1

    abbrev i : ℕ
    i = id_of (header_at l at)

    after : (ws : List Write) (ks : List ℕ) → Cut span ws ks → Cut span (expand l at ++ ws) (k ∷ ks)
    after ws ks d = (omega arith, expand_span l at ws, rw (drop_at (expand l at) ws k (run_length l at k 0 i)) d)

    keeps : (b : Bool) → eqb (mask_of (header_at l at)) 0 ≡ b
        → Cut span (kept (expand l at) ++ kept (join l ps)) (pick b (live ps) (k ∷ live ps))
    keeps true t = rw (run_dropped l at k 0 i (eqb-true _ _ t)) c.cut_kept
    keeps false t = rw (run_kept l at k 0 i (eqb-false _ _ t)) (after (kept (join l ps)) (live ps) c.cut_kept)

    leaves : (b : Bool) → eqb (mask_of (header_at l at)) 0 ≡ b → Dead ps
        → Leave (pick b (live ps) (k ∷ live ps)) (k ∷ carried l ps) (kept (expand l at) ++ kept (join l ps)) (expand l at ++ join l ps)
    leaves true t d = inl (omega (arith, fewer ps d))
    leaves false t (inl d) = inl (omega arith)
    leaves false t (inr d) = inr (omega (arith, d.0), rw (run_kept l at k 0 i (eqb-false _ _ t), d.1))

    one : whole l at ≡ true → Carries at (at ∷ ps)
    one w =
        let b = eqb (mask_of (header_at l at)) 0 in
        record {
          cut = rw (join_more l at ps) (after (join l ps) (carried l ps) c.cut);
          cut_kept = rw (join_more l at ps, kept_append (expand l at) (join l ps)) (keeps b refl);
          dead = rw (join_more l at ps, kept_append (expand l at) (join l ps)) (leaves b refl c.dead);
          words = omega (arith, c.words);
        }

  abbrev From : ℕ → Type 0
  From at = at ≤ length l → full l (commands l at) ≡ true → Carries at (commands l at)

  step : (at : ℕ) → at < length l → From (at + words_of (header_at l at)) → From at
  step at q rest p f =
      let next = at + words_of (header_at l at) in
      let m = sym (full_more l at (commands l next)) ∙ (rw (commands_step l at q) at f) in
      let g = and_true (whole l at) (full l (commands l next)) m in
      rw (commands_step l at q) (one at (commands l next) (rest (leb-true _ _ g.0) g.1) g.0)

  end : (at : ℕ) → length l ≤ at → From at
  end at h p f = rw (commands_end l at h) (none at p)

  module _ (f : well_formed l ≡ true) where
    all : Carries 0 (commands l 0)
    all = by_places l From end step 0 (omega arith) (sym (formed_of l) ∙ f)

    -- THE COMMANDS OF A WELL-FORMED LIST ARE A CUT of its writes, and take no more words than it has
    pub list_cut : Cut span (all_writes l) (sizes_of l) × (total (sizes_of l) ≤ length l)
    list_cut = (rw (all_of l) all.cut, omega (arith, all.words))

    -- THOSE WHOSE MASK ISN'T 0 ARE A CUT of its expansion
    pub kept_cut : Cut span (expansion l) (live (commands l 0)) × (total (live (commands l 0)) ≤ length l)
    kept_cut = (rw (expansion_of l) all.cut_kept, omega (arith, fewer (commands l 0) all.dead, all.words))

    -- COMMANDS OF MASK 0 COST: either the others leave two words or more, or all the list's writes belong to its expansion
    pub dead_costs : (total (live (commands l 0)) + 2 ≤ length l) ⊎ (all_writes l ≡ expansion l)
    dead_costs =
        ⊎_elim (λ d. inl (omega (arith, d, all.words))) (λ d. inr (all_of l ∙ sym d.1 ∙ sym (expansion_of l))) all.dead
