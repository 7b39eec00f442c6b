-- What the writes of one word, and of a part, leave of a state, and how many made a difference, by the tests that code makes. Assumes
-- nothing.
use Rattle.std.proofs.Common.{◌≡◌, ℕ, ◌≤◌, List, [], length, drop, sym, ◌∙◌, arith, drop_of_length-le, eq-eqb, ne_eqb}
use Rattle.words.specs.Writes.{Write}
use Rattle.words.proofs.Laws.{kept_none, kept_drops, kept_keeps}
use Rattle.registers.specs.State.{State}
use Rattle.registers.specs.Applied.{apply, apply_all, difference, differences}
use Rattle.registers.proofs.Differences.{differences_none, differences_more}
use Rattle.commands.proofs.Applying.{apply_none, apply_more}
use Rattle.parts.specs.Progress.{sound, after, made}
use Rattle.parts.specs.declared.Progress.{Progress}
use Rattle.parts.proofs.Steps.{after_none, made_none}

pub sound_none : (s : State) (f : ℕ) (w : Write) → (f ≡ 0 → ⊥) → s ≡ apply_all s (sound f w)
sound_none s f w h = rw (ne_eqb f 0 h) (sym (apply_none s))

pub sound_dropped : (s : State) (f : ℕ) (w : Write) → f ≡ 0 → w.mask ≡ 0 → s ≡ apply_all s (sound f w)
sound_dropped s f w h z = rw (eq-eqb f 0 h, kept_drops w [] z, kept_none) (sym (apply_none s))

pub sound_one : (s : State) (f : ℕ) (w : Write) → f ≡ 0 → (w.mask ≡ 0 → ⊥) → apply s w ≡ apply_all s (sound f w)
sound_one s f w h z = rw (eq-eqb f 0 h, kept_keeps w [] z, kept_none) (sym (apply_more s w [] ∙ apply_none (apply s w)))

pub counts_none : (s : State) (f : ℕ) (w : Write) → (f ≡ 0 → ⊥) → 0 ≡ differences s (sound f w)
counts_none s f w h = rw (ne_eqb f 0 h) (sym (differences_none s))

pub counts_dropped : (s : State) (f : ℕ) (w : Write) → f ≡ 0 → w.mask ≡ 0 → 0 ≡ differences s (sound f w)
counts_dropped s f w h z = rw (eq-eqb f 0 h, kept_drops w [] z, kept_none) (sym (differences_none s))

pub counts_one : (s : State) (f : ℕ) (w : Write) → f ≡ 0 → (w.mask ≡ 0 → ⊥) → difference s w ≡ differences s (sound f w)
counts_one s f w h z =
    rw (eq-eqb f 0 h, kept_keeps w [] z, kept_none) (omega (arith, differences_more s w [], differences_none (apply s w)))

-- A PART, from its word `at` on, where there is none
module _ (s : State) (p : Progress) (l : List ℕ) (at : ℕ) where
  pub part_end : length l ≤ at
      → (after p (drop at l) ≡ p) × (apply_all s (made p (drop at l)) ≡ s) × (differences s (made p (drop at l)) ≡ 0)
  part_end h =
      rw (drop_of_length-le l h) (after_none p, rw (made_none p) (apply_none s), rw (made_none p) (differences_none s))
