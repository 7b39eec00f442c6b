-- The three tests in order, and the verdict. A test that isn't enabled passes.
use Rattle.std.specs.Prelude.{Bool, not, ◌&&◌, ◌||◌, ℕ, eqb}
use Rattle.std.specs.Int.Bits.{bit_and}
use Rattle.numbers.specs.Pick.{pick}
use Rattle.settings.specs.declared.records.AlphaTest.{AlphaTest}
use Rattle.settings.specs.declared.records.StencilTest.{StencilTest}
use Rattle.settings.specs.declared.records.DepthColourMask.{DepthColourMask}
use Rattle.settings.specs.declared.records.Framebuffer.{Framebuffer}
use Rattle.stores.specs.Compare.{compared}
use Rattle.stores.specs.declared.Verdict.{Verdict}
use Rattle.stores.specs.declared.Verdict.TheVariants.{AlphaFails, StencilFails, DepthFails, Passes}

-- 104: the result's alpha against the reference
abbrev pub alpha_passes : AlphaTest → ℕ → Bool
alpha_passes t alpha = eqb t.enable 0 || compared t.function alpha t.reference

-- the stencil is tested and changed only when enabled and the depth format is 3
abbrev pub stencil_active : StencilTest → ℕ → Bool
stencil_active t format = eqb t.enable 1 && eqb format 3

-- 105: reference AND mask against stored AND mask
abbrev pub stencil_passes : StencilTest → ℕ → ℕ → Bool
stencil_passes t format stored =
    not (stencil_active t format) || compared t.function (bit_and t.reference t.mask) (bit_and stored t.mask)

-- 107: incoming against stored
abbrev pub depth_passes : DepthColourMask → ℕ → ℕ → Bool
depth_passes t incoming stored = eqb t.enable 0 || compared t.function incoming stored

abbrev pub in_order : Bool → Bool → Bool → Verdict
in_order alpha stencil depth = pick alpha (pick stencil (pick depth Passes DepthFails) StencilFails) AlphaFails

-- the numbers of the verdicts
abbrev pub verdict_number : Verdict → ℕ
verdict_number AlphaFails = 0
verdict_number StencilFails = 1
verdict_number DepthFails = 2
verdict_number Passes = 3

-- of the result's alpha, the incoming depth, and the stored stencil and depth
unfoldable pub verdict_of : Framebuffer → ℕ → ℕ → ℕ → ℕ → Verdict
verdict_of f alpha incoming stencil depth =
    in_order
    (alpha_passes f.tests.alpha alpha)
    (stencil_passes f.tests.stencil f.buffers.depth_format stencil)
    (depth_passes f.tests.depth incoming depth)
