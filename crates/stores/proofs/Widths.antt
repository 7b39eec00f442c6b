-- The facts of Comparisons.antt for the three tests, at their widths: 8 bits for alpha and stencil, 16 or 24 for depth; and what they come
-- to for the verdict. Each is an instance of a lemma over the width, or holds of any numbers. Assumes nothing.
use mathlib.Core.Path.{◌≡◌, refl}
use mathlib.Core.Bool.{Bool, true, false, not}
use Prim.Native.Nat.{ℕ, ◌<◌, ◌^◌}
use native.Mathlib.Omega.{arith}
use lib.Bits.{bit_and, and_mask}
use Rattle.numbers.specs.Pick.{pick}
use Rattle.settings.specs.declared.records.AlphaTest.{AlphaTest}
use Rattle.settings.specs.declared.records.StencilTest.{StencilTest}
use Rattle.settings.specs.declared.records.DepthColourMask.{DepthColourMask}
use Rattle.settings.specs.declared.records.Tests.{Tests}
use Rattle.settings.specs.declared.records.Framebuffer.{Framebuffer}
use Rattle.stores.specs.Compare.{compared}
use Rattle.stores.specs.Tests.{alpha_passes, stencil_passes, depth_passes, verdict_of}
use Rattle.stores.specs.declared.Verdict.{Verdict}
use Rattle.stores.specs.declared.Verdict.TheVariants.{AlphaFails, StencilFails, DepthFails, Passes}
use Rattle.stores.proofs.Comparisons.{opposite, opposite_by, AtWidth, at_width}

-- THE TESTS, ENABLED, BY A CODE

abbrev pub enabled_alpha : ℕ → ℕ → AlphaTest
enabled_alpha code reference = record { enable = 1; function = code; reference = reference }

abbrev pub enabled_stencil : StencilTest → ℕ → ℕ → StencilTest
enabled_stencil t code mask =
    record { enable = 1; function = code; buffer_mask = t.buffer_mask; reference = t.reference; mask = mask }

abbrev pub enabled_depth : DepthColourMask → ℕ → DepthColourMask
enabled_depth t code =
    record {
      enable = 1;
      function = code;
      red = t.red;
      green = t.green;
      blue = t.blue;
      alpha = t.alpha;
      depth = t.depth;
    }

pub alpha_width : (alpha : ℕ) → alpha < 2 ^ 8 → AtWidth 8 (λ code reference. alpha_passes (enabled_alpha code reference) alpha)
alpha_width alpha h = at_width 8 alpha h

low_byte : (x : ℕ) → bit_and x 255 < 2 ^ 8
low_byte x = rw (and_mask x 8) (omega arith)

-- at depth format 3, and with a mask of 255, so that the whole byte is compared
pub stencil_width : (t : StencilTest) → AtWidth 8 (λ code stored. stencil_passes (enabled_stencil t code 255) 3 stored)
stencil_width t =
    let f = at_width 8 (bit_and t.reference 255) (low_byte t.reference) in
    record {
      at_most_largest = f.at_most_largest;
      greater_than_largest = f.greater_than_largest;
      less_than_zero = f.less_than_zero;
      at_least_zero_law = f.at_least_zero_law;
      opposite_fails = λ code stored l. f.opposite_fails code (bit_and stored 255) l;
    }

pub depth_width : (w : ℕ) (t : DepthColourMask) (incoming : ℕ) → incoming < 2 ^ w
    → AtWidth w (λ code stored. depth_passes (enabled_depth t code) incoming stored)
depth_width w t incoming h = at_width w incoming h

-- THE VERDICT BY OPPOSITE CODES

exchanged : (t : Bool) (v v' : Verdict) → pick (not t) v v' ≡ pick t v' v
exchanged true v v' = refl
exchanged false v v' = refl

-- where a code gives one of two verdicts, the opposite code gives the other
flipped : (code a b : ℕ) → code < 8 → (v v' : Verdict)
    → pick (compared (opposite code) a b) v v' ≡ pick (compared code a b) v' v
flipped code a b l v v' = rw (opposite_by a b code l) (exchanged (compared code a b) v v')

abbrev with_tests : Tests → Framebuffer → Framebuffer
with_tests t f = record { blending = f.blending; tests = t; buffers = f.buffers }

-- 104, 105 or 107 with its test enabled, by the code
abbrev pub alpha_code : ℕ → Framebuffer → Framebuffer
alpha_code code f =
    let t = f.tests in
    with_tests
    (record { alpha = enabled_alpha code t.alpha.reference; stencil = t.stencil; stencil_op = t.stencil_op; depth = t.depth })
    f

abbrev pub stencil_code : ℕ → Framebuffer → Framebuffer
stencil_code code f =
    let t = f.tests in
    with_tests
    (record {
      alpha = t.alpha;
      stencil = enabled_stencil t.stencil code t.stencil.mask;
      stencil_op = t.stencil_op;
      depth = t.depth;
    })
    f

abbrev pub depth_code : ℕ → Framebuffer → Framebuffer
depth_code code f =
    let t = f.tests in
    with_tests
    (record { alpha = t.alpha; stencil = t.stencil; stencil_op = t.stencil_op; depth = enabled_depth t.depth code })
    f

-- the verdict is v where the comparison passes and v' where it fails; by the opposite code it is the other of the two
abbrev pub Opposed : (ℕ → Verdict) → ℕ → Bool → Verdict → Verdict → Type 0
Opposed verdict code passes v v' = (verdict code ≡ pick passes v v') × (verdict (opposite code) ≡ pick passes v' v)

module _ (f : Framebuffer) (alpha incoming stencil depth code : ℕ) (l : code < 8) where
  -- with the other two tests passing
  pub alpha_opposed : stencil_passes f.tests.stencil f.buffers.depth_format stencil ≡ true
      → depth_passes f.tests.depth incoming depth ≡ true
      → Opposed (λ k. verdict_of (alpha_code k f) alpha incoming stencil depth) code
      (compared code alpha f.tests.alpha.reference) Passes AlphaFails
  unfolding verdict_of
  alpha_opposed s d = (rw (s, d), rw (s, d) (flipped code alpha f.tests.alpha.reference l Passes AlphaFails))

  -- at depth format 3
  pub stencil_opposed : f.buffers.depth_format ≡ 3
      → alpha_passes f.tests.alpha alpha ≡ true
      → depth_passes f.tests.depth incoming depth ≡ true
      → Opposed (λ k. verdict_of (stencil_code k f) alpha incoming stencil depth) code
      (compared code (bit_and f.tests.stencil.reference f.tests.stencil.mask) (bit_and stencil f.tests.stencil.mask))
      Passes StencilFails
  unfolding verdict_of
  stencil_opposed e a d =
      let t = f.tests.stencil in
      (rw (e, a, d), rw (e, a, d) (flipped code (bit_and t.reference t.mask) (bit_and stencil t.mask) l Passes StencilFails))

  pub depth_opposed : alpha_passes f.tests.alpha alpha ≡ true
      → stencil_passes f.tests.stencil f.buffers.depth_format stencil ≡ true
      → Opposed (λ k. verdict_of (depth_code k f) alpha incoming stencil depth) code (compared code incoming depth) Passes DepthFails
  unfolding verdict_of
  depth_opposed a s = (rw (a, s), rw (a, s) (flipped code incoming depth l Passes DepthFails))
