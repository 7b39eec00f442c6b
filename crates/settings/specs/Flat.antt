-- The decoded state as one list of 204 words, in the order of the field table: ids ascending and then lowest bit first, signed fields in
-- two's complement.
use Rattle.std.specs.Prelude.{List, [], ◌∷◌, ◌++◌, ℕ}
use Rattle.settings.specs.Fields.{twos}
use Rattle.settings.specs.declared.records.Rasteriser.{Rasteriser}
use Rattle.settings.specs.declared.records.Source.{Source}
use Rattle.settings.specs.declared.records.Operand.{Operand}
use Rattle.settings.specs.declared.records.Colour.{Colour}
use Rattle.settings.specs.declared.records.Stage.{Stage}
use Rattle.settings.specs.declared.records.UpdateBuffer.{UpdateBuffer}
use Rattle.settings.specs.declared.records.BufferFog.{BufferFog}
use Rattle.settings.specs.declared.records.Blending.{Blending}
use Rattle.settings.specs.declared.records.Tests.{Tests}
use Rattle.settings.specs.declared.records.Buffers.{Buffers}
use Rattle.settings.specs.declared.records.LightPort.{LightPort}
use Rattle.settings.specs.declared.records.Settings.{Settings}

abbrev pub rasteriser_words : Rasteriser → List ℕ
rasteriser_words r =
    r.culling
    ∷ r.viewport.width ∷ r.viewport.invw ∷ r.viewport.height ∷ r.viewport.invh
    ∷ r.clip.enable ∷ r.clip.data0 ∷ r.clip.data1 ∷ r.clip.data2 ∷ r.clip.data3
    ∷ r.depthmap.scale ∷ r.depthmap.offset
    ∷ r.scissor.mode
    ∷ r.scissor.pos.x ∷ r.scissor.pos.y
    ∷ r.scissor.dim.x ∷ r.scissor.dim.y
    ∷ twos r.viewport.xy.x ∷ twos r.viewport.xy.y
    ∷ r.depthmap.enable
    ∷ []

abbrev pub source_words : Source → List ℕ
source_words s = s.rgb0 ∷ s.rgb1 ∷ s.rgb2 ∷ s.alpha0 ∷ s.alpha1 ∷ s.alpha2 ∷ []

abbrev pub operand_words : Operand → List ℕ
operand_words o = o.rgb0 ∷ o.rgb1 ∷ o.rgb2 ∷ o.alpha0 ∷ o.alpha1 ∷ o.alpha2 ∷ []

abbrev pub colour_words : Colour → List ℕ
colour_words c = c.red ∷ c.green ∷ c.blue ∷ c.alpha ∷ []

abbrev pub stage_words : Stage → List ℕ
stage_words s =
    source_words s.source
    ++ operand_words s.operand
    ++ (s.combiner.rgb ∷ s.combiner.alpha ∷ [])
    ++ colour_words s.colour
    ++ (s.scale.rgb ∷ s.scale.alpha ∷ [])

abbrev pub update_words : UpdateBuffer → List ℕ
update_words u =
    u.fog_mode ∷ u.density_source
    ∷ u.rgb1 ∷ u.rgb2 ∷ u.rgb3 ∷ u.rgb4
    ∷ u.alpha1 ∷ u.alpha2 ∷ u.alpha3 ∷ u.alpha4
    ∷ u.z_flip ∷ u.unknown
    ∷ []

-- E0, E1, E6; FD comes after stage 5
abbrev pub fog_words : BufferFog → List ℕ
fog_words b =
    update_words b.update
    ++ (b.fog_colour.red ∷ b.fog_colour.green ∷ b.fog_colour.blue ∷ b.fog_index ∷ [])

abbrev pub blending_words : Blending → List ℕ
blending_words b =
    b.operation.mode ∷ b.operation.blend ∷ b.operation.second_lines ∷ b.operation.nothing
    ∷ b.function.rgb_equation ∷ b.function.alpha_equation
    ∷ b.function.rgb_source ∷ b.function.rgb_destination
    ∷ b.function.alpha_source ∷ b.function.alpha_destination
    ∷ b.logic_op
    ∷ colour_words b.colour

abbrev pub tests_words : Tests → List ℕ
tests_words t =
    t.alpha.enable ∷ t.alpha.function ∷ t.alpha.reference
    ∷ t.stencil.enable ∷ t.stencil.function ∷ t.stencil.buffer_mask ∷ t.stencil.reference ∷ t.stencil.mask
    ∷ t.stencil_op.fail ∷ t.stencil_op.z_fail ∷ t.stencil_op.z_pass
    ∷ t.depth.enable ∷ t.depth.function
    ∷ t.depth.red ∷ t.depth.green ∷ t.depth.blue ∷ t.depth.alpha ∷ t.depth.depth
    ∷ []

abbrev pub buffers_words : Buffers → List ℕ
buffers_words b =
    b.colour_reading ∷ b.colour_writing
    ∷ b.depth_reading.stencil ∷ b.depth_reading.depth
    ∷ b.depth_writing.stencil ∷ b.depth_writing.depth
    ∷ b.depth_format
    ∷ b.colour_format.size ∷ b.colour_format.format
    ∷ []

abbrev pub light_port_words : LightPort → List ℕ
light_port_words l = l.index ∷ l.table ∷ []

unfoldable pub flat : Settings → List ℕ
flat s =
    rasteriser_words s.rasteriser
    ++ stage_words s.stages.stage0 ++ stage_words s.stages.stage1 ++ stage_words s.stages.stage2 ++ stage_words s.stages.stage3
    ++ fog_words s.buffer_fog
    ++ stage_words s.stages.stage4 ++ stage_words s.stages.stage5
    ++ colour_words s.buffer_fog.buffer_colour
    ++ blending_words s.framebuffer.blending
    ++ tests_words s.framebuffer.tests
    ++ buffers_words s.framebuffer.buffers
    ++ light_port_words s.light_port
