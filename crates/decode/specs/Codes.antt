-- Codes without a name: the list, the registers that hold such codes, and the lowest id among them.
use Rattle.std.specs.Prelude.{Bool, false, not, ◌&&◌, ◌||◌, List, [], ◌∷◌, ◌++◌, ℕ, ◌+◌, eqb, leb, ltb}
use Rattle.numbers.specs.Pick.{pick, within}
use Rattle.settings.specs.declared.records.Source.{Source}
use Rattle.settings.specs.declared.records.Operand.{Operand}
use Rattle.settings.specs.declared.records.Combiner.{Combiner}
use Rattle.settings.specs.declared.records.Scale.{Scale}
use Rattle.settings.specs.declared.records.Stage.{Stage}
use Rattle.settings.specs.declared.records.UpdateBuffer.{UpdateBuffer}
use Rattle.settings.specs.declared.records.ColourOperation.{ColourOperation}
use Rattle.settings.specs.declared.records.BlendFunction.{BlendFunction}
use Rattle.settings.specs.declared.records.ColourFormat.{ColourFormat}
use Rattle.settings.specs.declared.records.Framebuffer.{Framebuffer}
use Rattle.settings.specs.declared.records.Settings.{Settings}

-- THE CODES

-- stage sources 7..Ch
abbrev pub no_source : ℕ → Bool
no_source c = within 7 0xC c

-- RGB operands other than 0-5, 8, 9, Ch, Dh; every alpha operand has a name
abbrev pub no_operand : ℕ → Bool
no_operand c = not (leb c 5 || eqb c 8 || eqb c 9 || eqb c 0xC || eqb c 0xD)

-- combine modes above 9
abbrev pub no_mode : ℕ → Bool
no_mode c = ltb 9 c

-- alpha modes above 9, and 6 or 7 unless the same stage's RGB mode is 7
abbrev pub no_alpha_mode : ℕ → ℕ → Bool
no_alpha_mode rgb c = no_mode c || within 6 7 c && not (eqb rgb 7)

-- scale 3
abbrev pub no_scale : ℕ → Bool
no_scale c = eqb c 3

-- fog mode other than 0, 5, 7
abbrev pub no_fog_mode : ℕ → Bool
no_fog_mode c = not (eqb c 0 || eqb c 5 || eqb c 7)

-- fragment mode 2
abbrev pub no_fragment_mode : ℕ → Bool
no_fragment_mode c = eqb c 2

-- blend function Fh
abbrev pub no_blend : ℕ → Bool
no_blend c = eqb c 0xF

-- depth format 1
abbrev pub no_depth_format : ℕ → Bool
no_depth_format c = eqb c 1

-- colour size 1 or 3
abbrev pub no_size : ℕ → Bool
no_size c = eqb c 1 || eqb c 3

-- colour format 1, 5, 6, 7
abbrev pub no_format : ℕ → Bool
no_format c = eqb c 1 || within 5 7 c

-- THE REGISTERS: one of whose codes lacks a name

abbrev pub source_lacks : Source → Bool
source_lacks s =
    no_source s.rgb0 || no_source s.rgb1 || no_source s.rgb2
    || no_source s.alpha0 || no_source s.alpha1 || no_source s.alpha2

abbrev pub operand_lacks : Operand → Bool
operand_lacks o = no_operand o.rgb0 || no_operand o.rgb1 || no_operand o.rgb2

abbrev pub combiner_lacks : Combiner → Bool
combiner_lacks m = no_mode m.rgb || no_alpha_mode m.rgb m.alpha

abbrev pub scale_lacks : Scale → Bool
scale_lacks s = no_scale s.rgb || no_scale s.alpha

abbrev pub update_lacks : UpdateBuffer → Bool
update_lacks u = no_fog_mode u.fog_mode

abbrev pub operation_lacks : ColourOperation → Bool
operation_lacks o = no_fragment_mode o.mode

abbrev pub function_lacks : BlendFunction → Bool
function_lacks f =
    no_blend f.rgb_source || no_blend f.rgb_destination || no_blend f.alpha_source || no_blend f.alpha_destination

abbrev pub format_lacks : ColourFormat → Bool
format_lacks f = no_size f.size || no_format f.format

-- THE LOWEST ID

pub record Check : Type 0 where
  pub id : ℕ
  pub lacks : Bool

abbrev pub check : ℕ → Bool → Check
check i b = record { id = i; lacks = b }

-- the stage whose source register is b
unfoldable pub stage_checks : ℕ → Stage → List Check
stage_checks b s =
    check b (source_lacks s.source)
    ∷ check (b + 1) (operand_lacks s.operand)
    ∷ check (b + 2) (combiner_lacks s.combiner)
    ∷ check (b + 4) (scale_lacks s.scale)
    ∷ []

unfoldable pub frame_checks : Framebuffer → List Check
frame_checks f =
    check 0x100 (operation_lacks f.blending.operation)
    ∷ check 0x101 (function_lacks f.blending.function)
    ∷ check 0x116 (no_depth_format f.buffers.depth_format)
    ∷ check 0x117 (format_lacks f.buffers.colour_format)
    ∷ []

-- every register that can hold a code without a name, ids ascending
unfoldable pub checks : Settings → List Check
checks s =
    stage_checks 0xC0 s.stages.stage0
    ++ stage_checks 0xC8 s.stages.stage1
    ++ stage_checks 0xD0 s.stages.stage2
    ++ stage_checks 0xD8 s.stages.stage3
    ++ (check 0xE0 (update_lacks s.buffer_fog.update) ∷ [])
    ++ stage_checks 0xF0 s.stages.stage4
    ++ stage_checks 0xF8 s.stages.stage5
    ++ frame_checks s.framebuffer

-- the register i lacks a name
unfoldable pub lacks_at : List Check → ℕ → Bool
lacks_at [] i = false
lacks_at (c ∷ cs) i = let later = lacks_at cs i in pick (eqb c.id i) c.lacks later

-- the first id of a list of checks that lacks a name, else the rest
unfoldable pub first_of : List Check → ℕ → ℕ
first_of [] rest = rest
first_of (c ∷ cs) rest = let later = first_of cs rest in pick c.lacks c.id later

-- 0 for none
abbrev pub lowest : List Check → ℕ
lowest cs = first_of cs 0

-- NOT OF THE DOCUMENT: the quick test

-- some check of the list lacks a name, or the rest does
unfoldable pub any_of : List Check → Bool → Bool
any_of [] rest = rest
any_of (c ∷ cs) rest = let later = any_of cs rest in c.lacks || later

abbrev pub any_lacks : List Check → Bool
any_lacks cs = any_of cs false
