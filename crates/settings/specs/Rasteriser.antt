-- The rasteriser's fields, as 001 gives their bits and 004 their names: 40-44, 47-4B, 4D, 4E, 65-68, 6D.
use Rattle.settings.specs.Ranges.{Word, Registers, signed}
use Rattle.settings.specs.declared.records.Offset.{Offset}
use Rattle.settings.specs.declared.records.Viewport.{Viewport}
use Rattle.settings.specs.declared.records.Clip.{Clip}
use Rattle.settings.specs.declared.records.Depthmap.{Depthmap}
use Rattle.settings.specs.declared.records.Position.{Position}
use Rattle.settings.specs.declared.records.Scissor.{Scissor}
use Rattle.settings.specs.declared.records.Rasteriser.{Rasteriser}

-- only 68 is signed
abbrev pub offset_in : Word → Offset
offset_in bits = record { x = signed 10 (bits 0 9); y = signed 10 (bits 16 25) }

abbrev pub viewport_in : Registers → Viewport
viewport_in reg =
    record {
      width = reg 0x41 0 23;
      invw = reg 0x42 0 31;
      height = reg 0x43 0 23;
      invh = reg 0x44 0 31;
      xy = offset_in (reg 0x68);
    }

abbrev pub clip_in : Registers → Clip
clip_in reg =
    record { enable = reg 0x47 0 0; data0 = reg 0x48 0 23; data1 = reg 0x49 0 23; data2 = reg 0x4A 0 23; data3 = reg 0x4B 0 23 }

abbrev pub depthmap_in : Registers → Depthmap
depthmap_in reg = record { scale = reg 0x4D 0 23; offset = reg 0x4E 0 23; enable = reg 0x6D 0 0 }

abbrev pub position_in : Word → Position
position_in bits = record { x = bits 0 9; y = bits 16 25 }

abbrev pub scissor_in : Registers → Scissor
scissor_in reg = record { mode = reg 0x65 0 1; pos = position_in (reg 0x66); dim = position_in (reg 0x67) }

abbrev pub rasteriser_in : Registers → Rasteriser
rasteriser_in reg =
    record {
      culling = reg 0x40 0 1;
      viewport = viewport_in reg;
      clip = clip_in reg;
      depthmap = depthmap_in reg;
      scissor = scissor_in reg;
    }
