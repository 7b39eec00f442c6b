-- The equations by which whoever packs a run goes; nothing after them unfolds a table or the sizes. Assumes nothing.
use mathlib.Core.Path.{◌≡◌, refl, ◌∙◌}
use mathlib.Core.List.{List, [], ◌∷◌}
use Prim.Native.Nat.{ℕ, zero, suc, ◌+◌, ◌-◌, ◌≤◌}
use native.Mathlib.Omega.{arith}
use lib.ListN.{length, get_or, drop}
use Rattle.cuts.specs.Cuts.{Spans, words, after, size, table, least, first, sizes_from, sizes}
use Rattle.cuts.proofs.Rests.{drop_tail}
use Rattle.cuts.proofs.Choice.{Chosen, size_chosen}

module _ {A : Type 0} (span : List A → ℕ) where
  -- entry j of a table is the least words of what is left after j writes
  pub table_at : (l : List A) (j : ℕ) → j ≤ length l → get_or (table span l) j 0 ≡ least span (drop j l)
  unfolding table
  table_at [] zero h = refl
  table_at [] (suc j) h = absurd (omega arith)
  table_at (a ∷ l) zero h = refl
  table_at (a ∷ l) (suc j) h = table_at l j (omega arith)

  -- a first command of k writes, by the tail's table: its words and the least of the rest
  pub after_table : (a : A) (l : List A) (k : ℕ) → 1 ≤ k → k ≤ suc (length l)
      → after (table span l) k ≡ words k + least span (drop k (a ∷ l))
  after_table a l k p q = rw (drop_tail a l k p, table_at l (k - 1) (omega arith))

  -- the least words are those that the first command leads to
  pub least_after : (a : A) (l : List A) → least span (a ∷ l) ≡ after (table span l) (first span (a ∷ l))
  unfolding table
  least_after a l = refl

  -- no writes take no words
  pub least_nil : (l : List A) → length l ≡ 0 → least span l ≡ 0
  unfolding table
  least_nil [] h = refl
  least_nil (a ∷ l) h = absurd (omega arith)

  -- and no commands
  pub sizes_nil : (l : List A) → length l ≡ 0 → sizes span l ≡ []
  unfolding sizes_from
  sizes_nil [] h = refl
  sizes_nil (a ∷ l) h = absurd (omega arith)

  -- the writes that are passed over play no part
  sizes_from_law : (n : ℕ) (l : List A) → sizes_from span n l ≡ sizes span (drop n l)
  unfolding sizes_from
  sizes_from_law zero [] = refl
  sizes_from_law (suc n) [] = refl
  sizes_from_law zero (a ∷ l) = refl
  sizes_from_law (suc n) (a ∷ l) = sizes_from_law n l

module _ {A : Type 0} {span : List A → ℕ} (s : Spans span) where
  -- the first command is the chosen one
  pub first_is : (a : A) (l : List A) → Chosen (span (a ∷ l)) (table span l) (first span (a ∷ l))
  first_is a l = size_chosen (span (a ∷ l)) (table span l) (s.pos a l)

  -- the least words: those of the first command, and the least of the rest
  pub least_cons : (a : A) (l : List A)
      → least span (a ∷ l) ≡ words (first span (a ∷ l)) + least span (drop (first span (a ∷ l)) (a ∷ l))
  least_cons a l =
      let f = first_is a l in
      least_after span a l ∙ after_table span a l (first span (a ∷ l)) f.low (omega (arith, s.fits (a ∷ l)))

  -- the sizes: that of the first command, and those of the rest
  pub sizes_cons : (a : A) (l : List A)
      → sizes span (a ∷ l) ≡ first span (a ∷ l) ∷ sizes span (drop (first span (a ∷ l)) (a ∷ l))
  unfolding sizes_from
  sizes_cons a l =
      let k = first span (a ∷ l) in rw (drop_tail a l k (first_is a l).low, ← sizes_from_law span (k - 1) l)

-- THE SAME OF A LIST KNOWN BY ITS LENGTH

pub first_at : {A : Type 0} (span : List A → ℕ) (l : List A) → 1 ≤ length l → first span l ≡ size (span l) (table span (drop 1 l))
first_at span [] h = absurd (omega arith)
first_at span (a ∷ l) h = refl

module _ {A : Type 0} {span : List A → ℕ} (s : Spans span) where
  pub first_of_law : (l : List A) → 1 ≤ length l → Chosen (span l) (table span (drop 1 l)) (first span l)
  first_of_law [] h = absurd (omega arith)
  first_of_law (a ∷ l) h = first_is s a l

  pub least_of : (l : List A) → 1 ≤ length l → least span l ≡ words (first span l) + least span (drop (first span l) l)
  least_of [] h = absurd (omega arith)
  least_of (a ∷ l) h = least_cons s a l

  pub sizes_of_law : (l : List A) → 1 ≤ length l → sizes span l ≡ first span l ∷ sizes span (drop (first span l) l)
  sizes_of_law [] h = absurd (omega arith)
  sizes_of_law (a ∷ l) h = sizes_cons s a l
