-- The lights' fields, as 000 gives their bits: 140h + 10h·i for light i of 8.
use Rattle.std.specs.Prelude.{ℕ, ◌+◌}
use Rattle.numbers.specs.Ranges.{Word, Registers, negated}
use Rattle.lights.specs.declared.LightColour.{LightColour}
use Rattle.lights.specs.declared.LightVector.{LightVector}
use Rattle.lights.specs.declared.SpotDirection.{SpotDirection}
use Rattle.lights.specs.declared.LightConfig.{LightConfig}
use Rattle.lights.specs.declared.Attenuation.{Attenuation}
use Rattle.lights.specs.declared.Light.{Light}
use Rattle.lights.specs.declared.Lights.{Lights}

-- 8-9, 18-19 and 28-29 are UNKNOWN in 000
abbrev pub light_colour_in : Word → LightColour
light_colour_in bits =
    record {
      blue = bits 0 7;
      blue_unknown = bits 8 9;
      green = bits 10 17;
      green_unknown = bits 18 19;
      red = bits 20 27;
      red_unknown = bits 28 29;
    }

-- of the light whose registers begin at b; 000 counts the bits of a high word from 32
abbrev pub vector_in : Registers → ℕ → LightVector
vector_in reg b = record { x = reg (b + 4) 0 15; y = reg (b + 4) 16 31; z = reg (b + 5) 0 15 }

-- signed, and stored negated
abbrev pub spot_in : Registers → ℕ → SpotDirection
spot_in reg b = record { x = negated 13 (reg (b + 6) 0 12); y = negated 13 (reg (b + 6) 16 28); z = negated 13 (reg (b + 7) 0 12) }

abbrev pub config_in : Registers → ℕ → LightConfig
config_in reg b =
    record {
      light_type = reg (b + 9) 0 0;
      two_side_diffuse = reg (b + 9) 1 1;
      geometric_factor0 = reg (b + 9) 2 2;
      geometric_factor1 = reg (b + 9) 3 3;
    }

abbrev pub attenuation_in : Registers → ℕ → Attenuation
attenuation_in reg b = record { bias = reg (b + 0xA) 0 19; scale = reg (b + 0xB) 0 19 }

-- all fields of that light
abbrev pub light_in : Registers → ℕ → Light
light_in reg b =
    record {
      specular0 = light_colour_in (reg b);
      specular1 = light_colour_in (reg (b + 1));
      diffuse = light_colour_in (reg (b + 2));
      ambient = light_colour_in (reg (b + 3));
      vector = vector_in reg b;
      spot = spot_in reg b;
      config = config_in reg b;
      attenuation = attenuation_in reg b;
    }

-- lights 0 to 7
abbrev pub lights_in : Registers → Lights
lights_in reg =
    record {
      light0 = light_in reg 0x140;
      light1 = light_in reg 0x150;
      light2 = light_in reg 0x160;
      light3 = light_in reg 0x170;
      light4 = light_in reg 0x180;
      light5 = light_in reg 0x190;
      light6 = light_in reg 0x1A0;
      light7 = light_in reg 0x1B0;
    }
