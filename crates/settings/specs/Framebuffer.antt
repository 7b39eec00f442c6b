-- The framebuffer's fields, as 003 gives their bits: 100-107, 112-117.
use Rattle.settings.specs.Ranges.{Word, Registers}
use Rattle.settings.specs.Stages.{colour_in}
use Rattle.settings.specs.declared.records.ColourOperation.{ColourOperation}
use Rattle.settings.specs.declared.records.BlendFunction.{BlendFunction}
use Rattle.settings.specs.declared.records.Blending.{Blending}
use Rattle.settings.specs.declared.records.AlphaTest.{AlphaTest}
use Rattle.settings.specs.declared.records.StencilTest.{StencilTest}
use Rattle.settings.specs.declared.records.StencilOp.{StencilOp}
use Rattle.settings.specs.declared.records.DepthColourMask.{DepthColourMask}
use Rattle.settings.specs.declared.records.Tests.{Tests}
use Rattle.settings.specs.declared.records.DepthAllowed.{DepthAllowed}
use Rattle.settings.specs.declared.records.ColourFormat.{ColourFormat}
use Rattle.settings.specs.declared.records.Buffers.{Buffers}
use Rattle.settings.specs.declared.records.Framebuffer.{Framebuffer}

abbrev pub operation_in : Word → ColourOperation
operation_in bits = record { mode = bits 0 1; blend = bits 8 8; second_lines = bits 24 24; nothing = bits 25 25 }

abbrev pub function_in : Word → BlendFunction
function_in bits =
    record {
      rgb_equation = bits 0 2;
      alpha_equation = bits 8 10;
      rgb_source = bits 16 19;
      rgb_destination = bits 20 23;
      alpha_source = bits 24 27;
      alpha_destination = bits 28 31;
    }

abbrev pub blending_in : Registers → Blending
blending_in reg =
    record {
      operation = operation_in (reg 0x100);
      function = function_in (reg 0x101);
      logic_op = reg 0x102 0 3;
      colour = colour_in (reg 0x103);
    }

abbrev pub alpha_test_in : Word → AlphaTest
alpha_test_in bits = record { enable = bits 0 0; function = bits 4 6; reference = bits 8 15 }

-- the reference is used as it is, though 003 calls it signed
abbrev pub stencil_test_in : Word → StencilTest
stencil_test_in bits =
    record { enable = bits 0 0; function = bits 4 6; buffer_mask = bits 8 15; reference = bits 16 23; mask = bits 24 31 }

abbrev pub stencil_op_in : Word → StencilOp
stencil_op_in bits = record { fail = bits 0 2; z_fail = bits 4 6; z_pass = bits 8 10 }

abbrev pub depth_in : Word → DepthColourMask
depth_in bits =
    record {
      enable = bits 0 0;
      function = bits 4 6;
      red = bits 8 8;
      green = bits 9 9;
      blue = bits 10 10;
      alpha = bits 11 11;
      depth = bits 12 12;
    }

abbrev pub tests_in : Registers → Tests
tests_in reg =
    record {
      alpha = alpha_test_in (reg 0x104);
      stencil = stencil_test_in (reg 0x105);
      stencil_op = stencil_op_in (reg 0x106);
      depth = depth_in (reg 0x107);
    }

abbrev pub allowed_in : Word → DepthAllowed
allowed_in bits = record { stencil = bits 0 0; depth = bits 1 1 }

abbrev pub format_in : Word → ColourFormat
format_in bits = record { size = bits 0 1; format = bits 16 18 }

abbrev pub buffers_in : Registers → Buffers
buffers_in reg =
    record {
      colour_reading = reg 0x112 0 3;
      colour_writing = reg 0x113 0 3;
      depth_reading = allowed_in (reg 0x114);
      depth_writing = allowed_in (reg 0x115);
      depth_format = reg 0x116 0 1;
      colour_format = format_in (reg 0x117);
    }

abbrev pub framebuffer_in : Registers → Framebuffer
framebuffer_in reg = record { blending = blending_in reg; tests = tests_in reg; buffers = buffers_in reg }
