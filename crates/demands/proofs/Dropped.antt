-- Writes of mask 0 leave a state of 32-bit cells as it is and make no difference, so that dropping them from a run loses nothing. Assumes
-- nothing.
use mathlib.Core.Path.{◌≡◌, refl, ◌∙◌}
use mathlib.Core.Bool.{Bool, true, false}
use mathlib.Core.List.{List, [], ◌∷◌}
use native.Mathlib.Omega.{arith}
use lib.Dec.{eqb}
use borrow.Author.Tests.{eqb-true, eqb-false}
use Rattle.words.specs.Writes.{Write, kept}
use Rattle.words.proofs.Laws.{kept_none, kept_drops, kept_keeps}
use Rattle.registers.specs.State.{State, sized}
use Rattle.registers.specs.Applied.{apply, apply_all, differences}
use Rattle.registers.proofs.Sizes.{lengths}
use Rattle.registers.proofs.Differences.{differences_more}
use Rattle.commands.proofs.Applying.{apply_more}
use Rattle.commands.proofs.Dropped.{mask_0_same}
use Rattle.runs.specs.PackedList.{Packable}
use Rattle.demands.proofs.Lengths.{apply_sized}
use Rattle.demands.proofs.Taken.{Words, write_words}

abbrev Same : State → List Write → Type 0
Same s ws = (differences s (kept ws) ≡ differences s ws) × (apply_all s (kept ws) ≡ apply_all s ws)

pub dropped_same : (s : State) (ws : List Write) → Words s → sized s ≡ true → Packable ws → Same s ws
dropped_same s [] u z p = rw kept_none (refl, refl)
dropped_same s (w ∷ ws) u z p =
    go (eqb w.mask 0) refl (dropped_same s ws u z p.2)
    (dropped_same (apply s w) ws (write_words s w u) (apply_sized s w ∙ z) p.2)
  where
    go : (b : Bool) → eqb w.mask 0 ≡ b → Same s ws → Same (apply s w) ws → Same s (w ∷ ws)
    go true e dropped made =
        let m = eqb-true w.mask 0 e in
        let same = mask_0_same s (record { long = (lengths s z).0; small = u }) w m p.1 in
        rw (kept_drops w ws m, apply_more s w ws, differences_more s w ws, same.0, same.1)
        (omega (arith, dropped.0), dropped.1)
    go false e dropped made =
        let m = eqb-false w.mask 0 e in
        rw (
          kept_keeps w ws m,
          apply_more s w (kept ws),
          apply_more s w ws,
          differences_more s w (kept ws),
          differences_more s w ws,
          made.0,
          made.1,
        )
        (refl, refl)
