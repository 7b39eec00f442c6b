-- No cut takes fewer words than the least, and the sizes are a cut that takes just these. Assumes nothing.
use mathlib.Core.Path.{◌≡◌, refl, ap, sym}
use mathlib.Core.List.{List, [], ◌∷◌}
use Prim.Native.Nat.{ℕ, zero, suc, ◌+◌, ◌*◌, ◌%◌, ◌≤◌}
use native.Mathlib.Omega.{arith}
use lib.ListN.{length, drop, length-drop}
use lib.Seq.{drop-drop}
use Rattle.cuts.specs.Cuts.{Spans, words, total, Cut, after, table, least, first, sizes}
use Rattle.cuts.proofs.Rests.{by_rests}
use Rattle.cuts.proofs.Choice.{chosen_least}
use Rattle.cuts.proofs.Steps.{after_table, least_after, first_is, least_nil, least_cons, sizes_nil, sizes_cons}

module _ {A : Type 0} {span : List A → ℕ} (s : Spans span) where
  -- no first command leads to fewer words
  abbrev Best : List A → Type 0
  Best l = (k : ℕ) → 1 ≤ k → k ≤ span l → least span l ≤ words k + least span (drop k l)

  -- one write fewer takes no more words
  one_fewer : (a : A) (l : List A) → Best l → least span l ≤ least span (a ∷ l)
  one_fewer a l best = let f = first_is s a l in rw (least_cons s a l) (go (first span (a ∷ l)) f.low f.high)
    where
      go : (k : ℕ) → 1 ≤ k → k ≤ span (a ∷ l) → least span l ≤ words k + least span (drop k (a ∷ l))
      go zero p q = absurd (omega arith)
      go (suc zero) p q = omega arith
      go (suc (suc k)) p q = omega (arith, best (suc k) (omega arith) (omega (arith, s.tail a l)))

  -- two writes fewer take at least two words fewer
  two_fewer : (l : List A) → 2 ≤ length l → Best (drop 2 l) → least span (drop 2 l) + 2 ≤ least span l
  two_fewer [] h best = absurd (omega arith)
  two_fewer (a ∷ []) h best = absurd (omega arith)
  two_fewer (a ∷ b ∷ l) h best =
      let f = first_is s a (b ∷ l) in rw (least_cons s a (b ∷ l)) (go (first span (a ∷ b ∷ l)) f.low f.high)
    where
      go : (k : ℕ) → 1 ≤ k → k ≤ span (a ∷ b ∷ l) → least span l + 2 ≤ words k + least span (drop k (a ∷ b ∷ l))
      go zero p q = absurd (omega arith)
      go (suc zero) p q = omega (arith, one_fewer b l best)
      go (suc (suc zero)) p q = omega arith
      go (suc (suc (suc k))) p q = omega (arith, best (suc k) (omega arith) (omega (arith, s.tail a (b ∷ l), s.tail b l)))

  best_nil : Best []
  best_nil k p q = absurd (omega (arith, s.fits []))

  -- so a first command of two writes more takes no more words, and the choice of two sizes is enough
  best_cons : (a : A) (l : List A) → ((k : ℕ) → 1 ≤ k → Best (drop k (a ∷ l))) → Best (a ∷ l)
  best_cons a l best k p q = rw (least_after span a l, ← at k p q) (chosen_least (first_is s a l) two k p q)
    where
      at : (j : ℕ) → 1 ≤ j → j ≤ span (a ∷ l) → after (table span l) j ≡ words j + least span (drop j (a ∷ l))
      at j u v = after_table span a l j u (omega (arith, s.fits (a ∷ l)))

      two : (j : ℕ) → 1 ≤ j → j + 2 ≤ span (a ∷ l) → after (table span l) (j + 2) ≤ after (table span l) j
      two j u v =
          let e = drop-drop 2 j (a ∷ l) in
          let n : 2 ≤ length (drop j (a ∷ l)) = omega (arith, length-drop j (a ∷ l), s.fits (a ∷ l)) in
          let w = rw e at (two_fewer (drop j (a ∷ l)) n (rw e (best (j + 2) (omega arith)))) in
          omega (arith, at j u (omega arith), at (j + 2) (omega arith) v)

  none_better : (l : List A) → Best l
  none_better = by_rests Best best_nil best_cons

  -- what is left after one write more takes no more words
  pub least_falls : (l : List A) → least span (drop 1 l) ≤ least span l
  least_falls [] = omega arith
  least_falls (a ∷ l) = one_fewer a l (none_better l)

  -- THE LEAST: no cut takes fewer words
  pub least_low : (l : List A) (ks : List ℕ) → Cut span l ks → least span l ≤ total ks
  least_low l [] c = omega (arith, least_nil span l (ap length c))
  least_low l (k ∷ ks) c = omega (arith, none_better l k c.0 c.1, least_low (drop k l) ks c.2)

  -- ATTAINED: the sizes are a cut
  pub sizes_cut : (l : List A) → Cut span l (sizes span l)
  sizes_cut =
      by_rests (λ l. Cut span l (sizes span l)) (rw (sizes_nil span [] refl) refl)
      (λ a l rest. let f = first_is s a l in rw (sizes_cons s a l) (f.low, f.high, rest (first span (a ∷ l)) f.low))

  -- and it takes the least words
  pub sizes_least : (l : List A) → total (sizes span l) ≡ least span l
  sizes_least =
      by_rests (λ l. total (sizes span l) ≡ least span l) (rw (sizes_nil span [] refl) (sym (least_nil span [] refl)))
      (λ a l rest. rw (sizes_cons s a l, least_cons s a l, rest (first span (a ∷ l)) (first_is s a l).low))

  -- THE BOUND: never more than two words a write
  pub least_short : (l : List A) → least span l ≤ 2 * length l
  least_short [] = omega (arith, least_nil span [] refl)
  least_short (a ∷ l) = omega (arith, none_better (a ∷ l) 1 (omega arith) (s.pos a l), least_short l)

-- with the padding words, commands take an even number of words
pub total_even : (ks : List ℕ) → total ks % 2 ≡ 0
total_even [] = refl
total_even (k ∷ ks) = omega (arith, total_even ks)
