-- The fields of the six stages, and of the buffer and fog, as 002 gives their bits: C0-DC, E0, E1, E6, F0-FD.
use Rattle.std.specs.Prelude.{ℕ, ◌+◌}
use Rattle.settings.specs.Ranges.{Word, Registers}
use Rattle.settings.specs.declared.records.Source.{Source}
use Rattle.settings.specs.declared.records.Operand.{Operand}
use Rattle.settings.specs.declared.records.Combiner.{Combiner}
use Rattle.settings.specs.declared.records.Colour.{Colour}
use Rattle.settings.specs.declared.records.Scale.{Scale}
use Rattle.settings.specs.declared.records.Stage.{Stage}
use Rattle.settings.specs.declared.records.Stages.{Stages}
use Rattle.settings.specs.declared.records.UpdateBuffer.{UpdateBuffer}
use Rattle.settings.specs.declared.records.FogColour.{FogColour}
use Rattle.settings.specs.declared.records.BufferFog.{BufferFog}

abbrev pub source_in : Word → Source
source_in bits =
    record { rgb0 = bits 0 3; rgb1 = bits 4 7; rgb2 = bits 8 11; alpha0 = bits 16 19; alpha1 = bits 20 23; alpha2 = bits 24 27 }

abbrev pub operand_in : Word → Operand
operand_in bits =
    record { rgb0 = bits 0 3; rgb1 = bits 4 7; rgb2 = bits 8 11; alpha0 = bits 12 14; alpha1 = bits 16 18; alpha2 = bits 20 22 }

abbrev pub combiner_in : Word → Combiner
combiner_in bits = record { rgb = bits 0 3; alpha = bits 16 19 }

abbrev pub colour_in : Word → Colour
colour_in bits = record { red = bits 0 7; green = bits 8 15; blue = bits 16 23; alpha = bits 24 31 }

abbrev pub scale_in : Word → Scale
scale_in bits = record { rgb = bits 0 1; alpha = bits 16 17 }

-- the stage whose source register is b
abbrev pub stage_in : Registers → ℕ → Stage
stage_in reg b =
    record {
      source = source_in (reg b);
      operand = operand_in (reg (b + 1));
      combiner = combiner_in (reg (b + 2));
      colour = colour_in (reg (b + 3));
      scale = scale_in (reg (b + 4));
    }

abbrev pub stages_in : Registers → Stages
stages_in reg =
    record {
      stage0 = stage_in reg 0xC0;
      stage1 = stage_in reg 0xC8;
      stage2 = stage_in reg 0xD0;
      stage3 = stage_in reg 0xD8;
      stage4 = stage_in reg 0xF0;
      stage5 = stage_in reg 0xF8;
    }

abbrev pub update_in : Word → UpdateBuffer
update_in bits =
    record {
      fog_mode = bits 0 2;
      density_source = bits 3 3;
      rgb1 = bits 8 8;
      rgb2 = bits 9 9;
      rgb3 = bits 10 10;
      rgb4 = bits 11 11;
      alpha1 = bits 12 12;
      alpha2 = bits 13 13;
      alpha3 = bits 14 14;
      alpha4 = bits 15 15;
      z_flip = bits 16 16;
      unknown = bits 24 25;
    }

abbrev pub fog_colour_in : Word → FogColour
fog_colour_in bits = record { red = bits 0 7; green = bits 8 15; blue = bits 16 23 }

abbrev pub buffer_fog_in : Registers → BufferFog
buffer_fog_in reg =
    record {
      update = update_in (reg 0xE0);
      fog_colour = fog_colour_in (reg 0xE1);
      fog_index = reg 0xE6 0 6;
      buffer_colour = colour_in (reg 0xFD);
    }
