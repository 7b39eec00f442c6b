-- A list and the pair that fills it. Assumes nothing.
use mathlib.Core.Path.{◌≡◌, refl, ◌∙◌}
use mathlib.Core.Bool.{Bool, true, false}
use mathlib.Core.List.{List, [], ◌∷◌, ◌++◌, append-nil}
use Prim.Native.Nat.{ℕ, ◌+◌, ◌%◌}
use native.Mathlib.Omega.{arith}
use lib.Dec.{eqb}
use lib.ListN.{length, length-append}
use borrow.Author.Tests.{eq-eqb, ne_eqb, eqb-true, eqb-false}
use Rattle.numbers.specs.Pick.{pick}
use Rattle.words.specs.Writes.{Write, kept}
use Rattle.words.specs.Commands.{run, places, commands, join, all_writes, expansion, full, well_formed}
use Rattle.reader.specs.ListVerdict.{all_allowed}
use Rattle.cuts.specs.Cuts.{sizes}
use Rattle.cuts.proofs.Least.{sizes_least, total_even}
use Rattle.runs.specs.Span.{span}
use Rattle.runs.specs.PackedList.{packed, filling, filled}
use Rattle.runs.proofs.Chain.{spans}
use Rattle.runs.proofs.PackedList.{packed_length}

pub packed_even : (ws : List Write) → length (packed ws) % 2 ≡ 0
packed_even ws = rw (packed_length ws, ← sizes_least spans ws) (total_even (sizes span ws))

-- where the length is legal the list stays, else it gains the pair
pub filled_none : (l : List ℕ) → length l % 4 ≡ 0 → filled l ≡ l
unfolding filled
filled_none l h = rw (eq-eqb (length l % 4) 0 h) (append-nil l)

pub filled_pair : (l : List ℕ) → (length l % 4 ≡ 0 → ⊥) → filled l ≡ l ++ 0 ∷ 0 ∷ []
unfolding filled
filled_pair l h = rw (ne_eqb (length l % 4) 0 h)

-- a list of an even length gains the words that it lacks to a multiple of 4
pub filled_length : (l : List ℕ) → length l % 2 ≡ 0 → length (filled l) ≡ length l + length l % 4
unfolding filled
filled_length l h = go (eqb (length l % 4) 0) refl
  where
    go : (b : Bool) → eqb (length l % 4) 0 ≡ b → length (l ++ pick b [] (0 ∷ 0 ∷ [])) ≡ length l + length l % 4
    go true t = length-append l [] ∙ omega (arith, eqb-true (length l % 4) 0 t)
    go false t = length-append l (0 ∷ 0 ∷ []) ∙ omega (arith, eqb-false (length l % 4) 0 t)

-- WHAT FILLS A LIST is well formed and allowed, and says nothing
pub record Fills (l : List ℕ) : Type 0 where
  pub formed : well_formed l ≡ true
  pub allowed : all_allowed (all_writes l) ≡ true
  pub writes : expansion l ≡ []

fills_none : Fills []
unfolding all_allowed all_writes expansion kept well_formed full join commands places run
fills_none = record { formed = refl; allowed = refl; writes = refl }

fills_pair : Fills (0 ∷ 0 ∷ [])
unfolding all_allowed all_writes expansion kept well_formed full join commands places run
fills_pair = record { formed = refl; allowed = refl; writes = refl }

pub filling_fills : (l : List ℕ) → Fills (filling l)
filling_fills l = go (eqb (length l % 4) 0)
  where
    go : (b : Bool) → Fills (pick b [] (0 ∷ 0 ∷ []))
    go true = fills_none
    go false = fills_pair
