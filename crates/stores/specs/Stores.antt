-- What is then stored: stencil, depth and colour, by the verdict; and the verdict itself with stencil and depth.
use Rattle.std.specs.Prelude.{Bool, not, ◌&&◌, ℕ, eqb}
use Rattle.numbers.specs.Pick.{pick}
use Rattle.settings.specs.declared.records.Colour.{Colour}
use Rattle.settings.specs.declared.records.DepthColourMask.{DepthColourMask}
use Rattle.settings.specs.declared.records.Framebuffer.{Framebuffer}
use Rattle.stores.specs.Stencil.{operated, masked}
use Rattle.stores.specs.Logic.{logical_colour}
use Rattle.stores.specs.Tests.{stencil_active, verdict_of}
use Rattle.stores.specs.declared.Verdict.{Verdict}
use Rattle.stores.specs.declared.Verdict.TheVariants.{AlphaFails, StencilFails, DepthFails, Passes}
use Rattle.stores.specs.declared.Judged.{Judged}

-- the stencil by an operation, under the buffer mask, and only if 115 bit 0 is 1
abbrev pub stencil_by : Framebuffer → ℕ → ℕ → ℕ
stencil_by f op stored =
    pick (stencil_active f.tests.stencil f.buffers.depth_format && eqb f.buffers.depth_writing.stencil 1)
    (masked f.tests.stencil.buffer_mask stored (operated op stored f.tests.stencil.reference))
    stored

-- the operation is the one for stencil failure, depth failure or pass; after an alpha failure nothing changes
unfoldable pub stencil_after : Framebuffer → Verdict → ℕ → ℕ
stencil_after f AlphaFails stored = stored
stencil_after f StencilFails stored = stencil_by f f.tests.stencil_op.fail stored
stencil_after f DepthFails stored = stencil_by f f.tests.stencil_op.z_fail stored
stencil_after f Passes stored = stencil_by f f.tests.stencil_op.z_pass stored

-- depth is written on pass, when its test is enabled, 107 bit 12 and 115 bit 1 are 1
abbrev pub depth_written : Framebuffer → Bool
depth_written f = eqb f.tests.depth.enable 1 && eqb f.tests.depth.depth 1 && eqb f.buffers.depth_writing.depth 1

unfoldable pub depth_after : Framebuffer → Verdict → ℕ → ℕ → ℕ
depth_after f AlphaFails incoming stored = stored
depth_after f StencilFails incoming stored = stored
depth_after f DepthFails incoming stored = stored
depth_after f Passes incoming stored = pick (depth_written f) incoming stored

-- a channel is written if its bit of 107 is 1 and 113 isn't 0
abbrev pub channel_after : ℕ → ℕ → ℕ → ℕ → ℕ
channel_after writing allowed new old = pick (not (eqb writing 0) && eqb allowed 1) new old

abbrev pub colour_under : ℕ → DepthColourMask → Colour → Colour → Colour
colour_under writing m new old =
    record {
      red = channel_after writing m.red new.red old.red;
      green = channel_after writing m.green new.green old.green;
      blue = channel_after writing m.blue new.blue old.blue;
      alpha = channel_after writing m.alpha new.alpha old.alpha;
    }

-- colour on pass is the logic operation of combiner result and stored colour
unfoldable pub colour_after : Framebuffer → Verdict → Colour → Colour → Colour
colour_after f AlphaFails result stored = stored
colour_after f StencilFails result stored = stored
colour_after f DepthFails result stored = stored
colour_after f Passes result stored =
    colour_under f.buffers.colour_writing f.tests.depth (logical_colour f.blending.logic_op result stored) stored

-- the verdict, stencil and depth, from the result's alpha
abbrev pub with_verdict : Framebuffer → ℕ → ℕ → ℕ → Verdict → Judged
with_verdict f incoming stencil depth v =
    record { verdict = v; stencil = stencil_after f v stencil; depth = depth_after f v incoming depth }

unfoldable pub judged_of : Framebuffer → ℕ → ℕ → ℕ → ℕ → Judged
judged_of f alpha incoming stencil depth = with_verdict f incoming stencil depth (verdict_of f alpha incoming stencil depth)
