-- What keeps its contents under one verdict: colour and depth after a failure, stencil after an alpha failure, channels that 107 forbids,
-- and bits outside the stencil buffer mask. Assumes nothing.
use mathlib.Core.Path.{◌≡◌, refl, ◌∙◌}
use mathlib.Core.Bool.{Bool, true, false, not, ◌&&◌}
use Prim.Native.Nat.{ℕ, ◌<◌}
use native.Mathlib.Omega.{arith}
use lib.Dec.{eqb}
use Rattle.numbers.specs.Pick.{pick}
use Rattle.numbers.specs.Bits.{bit}
use Rattle.numbers.proofs.Merge.{merge_bit}
use Rattle.settings.specs.declared.records.Colour.{Colour}
use Rattle.settings.specs.declared.records.Framebuffer.{Framebuffer}
use Rattle.stores.specs.Stencil.{operated, masked}
use Rattle.stores.specs.Logic.{logical_colour}
use Rattle.stores.specs.Tests.{stencil_active}
use Rattle.stores.specs.Stores.{stencil_by, stencil_after, depth_after, channel_after, colour_under, colour_after}
use Rattle.stores.specs.declared.Verdict.{Verdict}
use Rattle.stores.specs.declared.Verdict.TheVariants.{AlphaFails, StencilFails, DepthFails, Passes}

-- AFTER A FAILURE

pub colour_kept : (f : Framebuffer) (v : Verdict) (result stored : Colour) → (v ≡ Passes → ⊥) → colour_after f v result stored ≡ stored
unfolding colour_after
colour_kept f AlphaFails result stored h = refl
colour_kept f StencilFails result stored h = refl
colour_kept f DepthFails result stored h = refl
colour_kept f Passes result stored h = absurd (h refl)

pub depth_kept : (f : Framebuffer) (v : Verdict) (incoming stored : ℕ) → (v ≡ Passes → ⊥) → depth_after f v incoming stored ≡ stored
unfolding depth_after
depth_kept f AlphaFails incoming stored h = refl
depth_kept f StencilFails incoming stored h = refl
depth_kept f DepthFails incoming stored h = refl
depth_kept f Passes incoming stored h = absurd (h refl)

pub stencil_kept : (f : Framebuffer) (v : Verdict) (stored : ℕ) → v ≡ AlphaFails → stencil_after f v stored ≡ stored
unfolding stencil_after
stencil_kept f v stored e = rw e

pub not_passed : (v : Verdict) → v ≡ AlphaFails → v ≡ Passes → ⊥
not_passed v e q = let z : ◌≡◌ {A = ℕ} 0 1 = cc in omega arith

-- WHAT MAY CHANGE: a property of the stored contents, and of all that can be written, is one of what is then stored

either : {A : Type 0} (P : A → Type 0) (t : Bool) (a b : A) → P a → P b → P (pick t a b)
either P true a b p q = p
either P false a b p q = q

pub colour_either : (f : Framebuffer) (v : Verdict) (result stored : Colour) (P : Colour → Type 0) → P stored
    → ((new : Colour) → P (colour_under f.buffers.colour_writing f.tests.depth new stored)) → P (colour_after f v result stored)
unfolding colour_after
colour_either f AlphaFails result stored P p q = p
colour_either f StencilFails result stored P p q = p
colour_either f DepthFails result stored P p q = p
colour_either f Passes result stored P p q = q (logical_colour f.blending.logic_op result stored)

pub stencil_either : (f : Framebuffer) (v : Verdict) (stored : ℕ) (P : ℕ → Type 0) → P stored
    → ((op : ℕ) → P (stencil_by f op stored)) → P (stencil_after f v stored)
unfolding stencil_after
stencil_either f AlphaFails stored P p q = p
stencil_either f StencilFails stored P p q = q f.tests.stencil_op.fail
stencil_either f DepthFails stored P p q = q f.tests.stencil_op.z_fail
stencil_either f Passes stored P p q = q f.tests.stencil_op.z_pass

-- a channel whose bit of 107 is 0
channel_by : (t : Bool) (new old : ℕ) → pick (t && false) new old ≡ old
channel_by true new old = refl
channel_by false new old = refl

pub channel_kept : (writing allowed new old : ℕ) → allowed ≡ 0 → channel_after writing allowed new old ≡ old
channel_kept writing allowed new old e = rw e (channel_by (not (eqb writing 0)) new old)

-- a bit outside the mask
module _
    (f : Framebuffer)
    (small : f.tests.stencil.buffer_mask < 256)
    (k : ℕ)
    (l : k < 8)
    (out : bit k f.tests.stencil.buffer_mask ≡ 0)
  where
    pub bit_kept_by : (op stored : ℕ) → bit k (stencil_by f op stored) ≡ bit k stored
    bit_kept_by op stored =
        let m = f.tests.stencil.buffer_mask in
        let new = operated op stored f.tests.stencil.reference in
        either (λ x. bit k x ≡ bit k stored)
        (stencil_active f.tests.stencil f.buffers.depth_format && eqb f.buffers.depth_writing.stencil 1)
        (masked m stored new) stored
        (merge_bit k m stored new (omega arith) (omega arith) ∙ rw out) refl
