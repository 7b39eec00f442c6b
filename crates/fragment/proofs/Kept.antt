-- What keeps its contents: everything but stencil after a failure, all of it after an alpha failure, channels that 107 forbids, and bits
-- outside the stencil buffer mask. Assumes nothing.
use mathlib.Core.Path.{◌≡◌, refl}
use Prim.Native.Nat.{ℕ, ◌<◌}
use Rattle.numbers.specs.Bits.{bit}
use Rattle.settings.specs.declared.records.Settings.{Settings}
use Rattle.combiner.specs.declared.Given.{Given}
use Rattle.stores.specs.Stores.{judged_of}
use Rattle.stores.specs.declared.Verdict.TheVariants.{AlphaFails, Passes}
use Rattle.stores.specs.declared.Stored.{Stored}
use Rattle.stores.proofs.Kept.{colour_kept, depth_kept, stencil_kept, not_passed, colour_either, stencil_either, channel_kept, bit_kept_by}
use Rattle.fragment.specs.Drawn.{outcome_of}

module _ (s : Settings) (g : Given) (incoming : ℕ) (stored : Stored) where
  -- COLOUR AND DEPTH AFTER ANY FAILURE
  pub failure_keeps : ((outcome_of s g incoming stored).verdict ≡ Passes → ⊥)
      → ((outcome_of s g incoming stored).stored.colour ≡ stored.colour) × ((outcome_of s g incoming stored).stored.depth ≡ stored.depth)
  unfolding outcome_of judged_of
  failure_keeps h = (colour_kept _ _ _ _ h, depth_kept _ _ _ _ h)

  -- ALL OF IT AFTER AN ALPHA FAILURE
  pub alpha_failure_keeps : (outcome_of s g incoming stored).verdict ≡ AlphaFails → (outcome_of s g incoming stored).stored ≡ stored
  unfolding outcome_of judged_of
  alpha_failure_keeps e =
      rw (
        colour_kept _ _ _ stored.colour (not_passed _ e),
        stencil_kept _ _ stored.stencil e,
        depth_kept _ _ incoming stored.depth (not_passed _ e),
      )

  -- A CHANNEL THAT 107 FORBIDS
  pub red_kept : s.framebuffer.tests.depth.red ≡ 0 → (outcome_of s g incoming stored).stored.colour.red ≡ stored.colour.red
  unfolding outcome_of judged_of
  red_kept e =
      colour_either _ _ _ _ (λ c. c.red ≡ stored.colour.red) refl
      (λ new. channel_kept s.framebuffer.buffers.colour_writing _ new.red stored.colour.red e)

  pub green_kept : s.framebuffer.tests.depth.green ≡ 0 → (outcome_of s g incoming stored).stored.colour.green ≡ stored.colour.green
  unfolding outcome_of judged_of
  green_kept e =
      colour_either _ _ _ _ (λ c. c.green ≡ stored.colour.green) refl
      (λ new. channel_kept s.framebuffer.buffers.colour_writing _ new.green stored.colour.green e)

  pub blue_kept : s.framebuffer.tests.depth.blue ≡ 0 → (outcome_of s g incoming stored).stored.colour.blue ≡ stored.colour.blue
  unfolding outcome_of judged_of
  blue_kept e =
      colour_either _ _ _ _ (λ c. c.blue ≡ stored.colour.blue) refl
      (λ new. channel_kept s.framebuffer.buffers.colour_writing _ new.blue stored.colour.blue e)

  pub alpha_kept : s.framebuffer.tests.depth.alpha ≡ 0 → (outcome_of s g incoming stored).stored.colour.alpha ≡ stored.colour.alpha
  unfolding outcome_of judged_of
  alpha_kept e =
      colour_either _ _ _ _ (λ c. c.alpha ≡ stored.colour.alpha) refl
      (λ new. channel_kept s.framebuffer.buffers.colour_writing _ new.alpha stored.colour.alpha e)

  -- BITS OUTSIDE THE STENCIL BUFFER MASK
  pub bits_kept : s.framebuffer.tests.stencil.buffer_mask < 256 → (k : ℕ) → k < 8
      → bit k s.framebuffer.tests.stencil.buffer_mask ≡ 0
      → bit k (outcome_of s g incoming stored).stored.stencil ≡ bit k stored.stencil
  unfolding outcome_of judged_of
  bits_kept small k l out =
      stencil_either _ _ _ (λ x. bit k x ≡ bit k stored.stencil) refl
      (λ op. bit_kept_by s.framebuffer small k l out op stored.stencil)
