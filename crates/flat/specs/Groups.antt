-- The decoded state's words in three groups, as they are laid out. Not of the document.
use Rattle.std.specs.Prelude.{List, ◌++◌, ℕ}
use Rattle.settings.specs.Flat.{rasteriser_words, stage_words, fog_words, colour_words, blending_words, tests_words, buffers_words, light_port_words}
use Rattle.settings.specs.declared.records.Rasteriser.{Rasteriser}
use Rattle.settings.specs.declared.records.Stages.{Stages}
use Rattle.settings.specs.declared.records.BufferFog.{BufferFog}
use Rattle.settings.specs.declared.records.Framebuffer.{Framebuffer}
use Rattle.settings.specs.declared.records.LightPort.{LightPort}

-- 40 to DC
abbrev pub words_to_dc : Rasteriser → Stages → List ℕ
words_to_dc r s = rasteriser_words r ++ stage_words s.stage0 ++ stage_words s.stage1 ++ stage_words s.stage2 ++ stage_words s.stage3

-- E0 to FD
abbrev pub words_to_fd : BufferFog → Stages → List ℕ
words_to_fd b s = fog_words b ++ stage_words s.stage4 ++ stage_words s.stage5 ++ colour_words b.buffer_colour

-- 100 to 1C5
abbrev pub words_to_1c5 : Framebuffer → LightPort → List ℕ
words_to_1c5 f l = blending_words f.blending ++ tests_words f.tests ++ buffers_words f.buffers ++ light_port_words l
