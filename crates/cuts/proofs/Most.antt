-- The tie rule: of the cuts that take the least words, the sizes are the one with the larger command at the first difference.
-- Assumes nothing.
use mathlib.Core.Path.{◌≡◌, refl, sym, ap}
use mathlib.Core.List.{List, [], ◌∷◌}
use mathlib.Core.Logic.{◌⊎◌, inl, inr}
use Prim.Native.Nat.{ℕ, ◌+◌, ◌≤◌, ◌<◌}
use native.Mathlib.Decide.{dec_lt}
use native.Mathlib.Omega.{arith}
use lib.ListN.{length, drop}
use Rattle.cuts.specs.Cuts.{Spans, words, total, Cut, Most, least, first, sizes}
use Rattle.cuts.proofs.Rests.{by_rests}
use Rattle.cuts.proofs.Steps.{after_table, least_after, first_is, least_cons, sizes_nil, sizes_cons}
use Rattle.cuts.proofs.Least.{least_low}

module _ {A : Type 0} {span : List A → ℕ} (s : Spans span) where
  -- a first command that is larger than ours takes more words in all
  larger_more : (a : A) (l : List A) (k : ℕ) → first span (a ∷ l) < k → k ≤ span (a ∷ l)
      → least span (a ∷ l) < words k + least span (drop k (a ∷ l))
  larger_more a l k p q =
      let n = s.fits (a ∷ l) in
      rw (least_after span a l, ← after_table span a l k (omega arith) (omega arith)) ((first_is s a l).larger k p q)

  -- the sizes win against every cut that takes no more words
  abbrev Wins : List A → Type 0
  Wins l = (ks : List ℕ) → Cut span l ks → total ks ≤ least span l → Most (sizes span l) ks

  wins_nil : Wins []
  wins_nil [] c h = rw (sizes_nil span [] refl) refl
  wins_nil (k ∷ ks) c h = absurd (omega (arith, s.fits []))

  wins_cons : (a : A) (l : List A) → ((k : ℕ) → 1 ≤ k → Wins (drop k (a ∷ l))) → Wins (a ∷ l)
  wins_cons a l wins [] c h = absurd (omega (arith, ap length c))
  wins_cons a l wins (k ∷ ks) c h = rw (sizes_cons s a l) (go (dec_lt k f) (dec_lt f k))
    where
      f : ℕ
      f = first span (a ∷ l)

      go : Dec (k < f) → Dec (f < k) → (k < f) ⊎ ((k ≡ f) × Most (sizes span (drop f (a ∷ l))) ks)
      go (yes p) d = inl p
      go (no p) (yes q) = absurd (omega (arith, larger_more a l k q c.1, least_low s (drop k (a ∷ l)) ks c.2))
      go (no p) (no q) =
          let e : k ≡ f = omega arith in
          let t = rw e at h in
          inr (e, wins f (first_is s a l).low ks (rw e at c.2) (omega (arith, least_cons s a l)))

  -- THE TIE: against any cut that takes no more words, the sizes have the larger command at the first difference
  pub sizes_most : (l : List A) (ks : List ℕ) → Cut span l ks → total ks ≤ least span l → Most (sizes span l) ks
  sizes_most = by_rests Wins wins_nil wins_cons

-- two cuts that are each the most of the other are one
pub most_once : (ks js : List ℕ) → Most ks js → Most js ks → ks ≡ js
most_once [] js p q = sym p
most_once (k ∷ ks) [] p q = absurd p
most_once (k ∷ ks) (j ∷ js) (inl p) (inl q) = absurd (omega arith)
most_once (k ∷ ks) (j ∷ js) (inl p) (inr q) = absurd (omega arith)
most_once (k ∷ ks) (j ∷ js) (inr p) (inl q) = absurd (omega arith)
most_once (k ∷ ks) (j ∷ js) (inr p) (inr q) = let e = most_once ks js p.1 q.1 in let f = q.0 in cc
