-- The writes of a run that are kept, those whose mask isn't 0. Assumes nothing.
use mathlib.Core.Path.{◌≡◌, refl, ◌∙◌}
use mathlib.Core.Bool.{Bool, true, false}
use mathlib.Core.List.{List, [], ◌∷◌}
use Prim.Native.Nat.{◌≤◌}
use native.Mathlib.Omega.{arith}
use lib.Dec.{eqb}
use lib.ListN.{length}
use borrow.Author.Tests.{eqb-true, eqb-false}
use Rattle.words.specs.Writes.{Write, kept}
use Rattle.words.proofs.Laws.{kept_none, kept_drops, kept_keeps}
use Rattle.runs.specs.PackedList.{Packable}

-- nothing more is dropped of them, they can be packed where all can, and are no more
pub record Kept (ws ks : List Write) : Type 0 where
  pub live : kept ks ≡ ks
  pub packable : Packable ws → Packable ks
  pub fewer : length ks ≤ length ws

pub kept_is : (ws : List Write) → Kept ws (kept ws)
kept_is [] = rw kept_none (record { live = kept_none; packable = λ p. p; fewer = omega arith })
kept_is (w ∷ ws) = go (kept_is ws) (eqb w.mask 0) refl
  where
    go : Kept ws (kept ws) → (b : Bool) → eqb w.mask 0 ≡ b → Kept (w ∷ ws) (kept (w ∷ ws))
    go k true t =
        rw (kept_drops w ws (eqb-true _ _ t))
        (record { live = k.live; packable = λ p. k.packable p.2; fewer = omega (arith, k.fewer) })
    go k false t =
        let n = eqb-false w.mask 0 t in
        rw (kept_keeps w ws n)
        (record {
          live = kept_keeps w (kept ws) n ∙ rw k.live;
          packable = λ p. (p.0, p.1, k.packable p.2);
          fewer = omega (arith, k.fewer);
        })
