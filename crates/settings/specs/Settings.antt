-- All fields of the decoded state; those of the light table port, 1C5, as 000 gives their bits.
use Rattle.settings.specs.Ranges.{Word, Registers}
use Rattle.settings.specs.Rasteriser.{rasteriser_in}
use Rattle.settings.specs.Stages.{stages_in, buffer_fog_in}
use Rattle.settings.specs.Framebuffer.{framebuffer_in}
use Rattle.settings.specs.declared.records.LightPort.{LightPort}
use Rattle.settings.specs.declared.records.Settings.{Settings}

abbrev pub light_port_in : Word → LightPort
light_port_in bits = record { index = bits 0 7; table = bits 8 12 }

unfoldable pub settings_in : Registers → Settings
settings_in reg =
    record {
      rasteriser = rasteriser_in reg;
      stages = stages_in reg;
      buffer_fog = buffer_fog_in reg;
      framebuffer = framebuffer_in reg;
      light_port = light_port_in (reg 0x1C5);
    }
