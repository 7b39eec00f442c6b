-- Not of the document: colours as words, by `colour_of` of settings; and the table of colours by code, which the code keeps in one array
-- and changes from stage to stage.
use Rattle.std.specs.Prelude.{Bool, ◌&&◌, List, map, ℕ, ◌+◌, eqb, get_or, set}
use Rattle.settings.specs.Ranges.{bits, in_cells}
use Rattle.settings.specs.Colours.{colour_of}
use Rattle.settings.specs.Stages.{source_in, operand_in, combiner_in, scale_in, stages_in, buffer_fog_in}
use Rattle.settings.specs.declared.records.Colour.{Colour}
use Rattle.settings.specs.declared.records.Operand.{Operand}
use Rattle.settings.specs.declared.records.Stage.{Stage}
use Rattle.settings.specs.declared.records.Stages.{Stages}
use Rattle.settings.specs.declared.records.BufferFog.{BufferFog}
use Rattle.combiner.specs.Modes.{combined, scaled}
use Rattle.combiner.specs.Dot.{dot3_of}
use Rattle.combiner.specs.Operands.{Sources, black, sources_of, one_minus, rgb_part, alpha_operand}
use Rattle.combiner.specs.Stage.{stage_of}
use Rattle.combiner.specs.Chain.{buffer_after, combiner_of}
use Rattle.combiner.specs.declared.Given.{Given}
use Rattle.combiner.specs.declared.dot.Rgb.{Rgb}
use Rattle.combiner.specs.declared.stage.StageWords.{StageWords}

-- WORDS

abbrev pub rgb : ℕ → ℕ → ℕ → Rgb
rgb r g b = record { red = r; green = g; blue = b }

-- the red, green and blue of a word; its high byte isn't looked at
abbrev pub rgb_in : ℕ → Rgb
rgb_in x = rgb (bits x 0 7) (bits x 8 15) (bits x 16 23)

-- the dot3 of two words
abbrev pub dot_in : ℕ → ℕ → ℕ
dot_in x y = dot3_of (rgb_in x) (rgb_in y)

-- a stage by the words of its registers; its constant stands in the table and isn't read here
abbrev pub stage_from : ℕ → ℕ → ℕ → ℕ → Stage
stage_from source operand combiner scale =
    record {
      source = source_in (bits source);
      operand = operand_in (bits operand);
      combiner = combiner_in (bits combiner);
      colour = black;
      scale = scale_in (bits scale);
    }

-- the words of the stage whose source register is b
abbrev pub words_in : List ℕ → ℕ → StageWords
words_in cells b =
    record {
      source = get_or cells b 0;
      operand = get_or cells (b + 1) 0;
      combiner = get_or cells (b + 2) 0;
      scale = get_or cells (b + 4) 0;
    }

-- that stage
abbrev pub stage_by : List ℕ → ℕ → Stage
stage_by cells b = let w = words_in cells b in stage_from w.source w.operand w.combiner w.scale

-- THREE CHANNELS AT ONCE

-- a function of one, two or three channels, for red, green and blue
abbrev pub each1 : (ℕ → ℕ) → Rgb → Rgb
each1 f a = rgb (f a.red) (f a.green) (f a.blue)

abbrev pub each2 : (ℕ → ℕ → ℕ) → Rgb → Rgb → Rgb
each2 f a b = rgb (f a.red b.red) (f a.green b.green) (f a.blue b.blue)

abbrev pub each3 : (ℕ → ℕ → ℕ → ℕ) → Rgb → Rgb → Rgb → Rgb
each3 f a b c = rgb (f a.red b.red c.red) (f a.green b.green c.green) (f a.blue b.blue c.blue)

-- a call of a mode, by what it may return: each channel of the result is what one on that channel returns
abbrev pub Each2 : (ℕ → ℕ → ℕ → Type 0) → Rgb → Rgb → Rgb → Type 0
Each2 Returns a b r = Returns a.red b.red r.red × Returns a.green b.green r.green × Returns a.blue b.blue r.blue

abbrev pub Each3 : (ℕ → ℕ → ℕ → ℕ → Type 0) → Rgb → Rgb → Rgb → Rgb → Type 0
Each3 Returns a b c r =
    Returns a.red b.red c.red r.red × Returns a.green b.green c.green r.green × Returns a.blue b.blue c.blue r.blue

-- the part of a source that an RGB operand's code names, before "one minus"
abbrev pub rgb_parts : ℕ → Colour → Rgb
rgb_parts code s = rgb (rgb_part code s s.red) (rgb_part code s s.green) (rgb_part code s s.blue)

abbrev pub rgb_one_minus : ℕ → Rgb → Rgb
rgb_one_minus code x = each1 (one_minus code) x

-- by the mode
abbrev pub rgb_combined : ℕ → Rgb → Rgb → Rgb → ℕ → Rgb
rgb_combined mode a b c dot = each3 (λ x y z. combined mode x y z dot) a b c

abbrev pub rgb_scaled : ℕ → Rgb → Rgb
rgb_scaled scale x = each1 (scaled scale) x

-- alpha by its own mode
abbrev pub own_alpha : ℕ → Operand → Sources → ℕ → ℕ
own_alpha mode o from dot =
    combined mode
    (alpha_operand o.alpha0 from.alpha0)
    (alpha_operand o.alpha1 from.alpha1)
    (alpha_operand o.alpha2 from.alpha2)
    dot

-- a stage that hands on Previous as it is: replace by source Previous, its own channels, scale 1
abbrev pub idle : Stage → Bool
idle s =
    eqb s.source.rgb0 15 && eqb s.source.alpha0 15
    && (eqb s.operand.rgb0 0 && eqb s.operand.alpha0 0)
    && (eqb s.combiner.rgb 0 && eqb s.combiner.alpha 0)
    && (eqb s.scale.rgb 0 && eqb s.scale.alpha 0)

-- THE TABLE

-- the sixteen colours of a table of words
abbrev pub colours : List ℕ → List Colour
colours ws = map colour_of ws

-- the six of them that the word of a source register names
abbrev pub sources_in : List ℕ → ℕ → Sources
sources_in ws source = sources_of (colours ws) (source_in (bits source))

-- alpha by its own mode, from a table of words and the words of the registers
abbrev pub alpha_from : List ℕ → ℕ → ℕ → ℕ → ℕ → ℕ
alpha_from ws source operand mode dot = own_alpha mode (operand_in (bits operand)) (sources_in ws source) dot

abbrev pub with_constant : Stage → List Colour → List Colour
with_constant s cs = set cs 14 s.colour

-- a stage's result from the table with its constant
abbrev pub from_table : Stage → List Colour → Colour
from_table s cs = stage_of s (sources_of cs s.source)

-- what the next stage finds in the table: at 14 this stage's constant still, at 13 the buffer, at 15 this stage's result
unfoldable pub table_after : Stage → ℕ → ℕ → List Colour → List Colour
table_after s rgb alpha cs =
    set
    (set (with_constant s cs) 13 (buffer_after rgb alpha (record { previous = get_or cs 15 black; buffer = get_or cs 13 black })))
    15
    (from_table s (with_constant s cs))

-- after all six stages; E0 has no bit for stages 0 and 5
unfoldable pub table_at_last : Stages → BufferFog → List Colour → List Colour
table_at_last stages b cs =
    let after0 = table_after stages.stage0 0 0 cs in
    let after1 = table_after stages.stage1 b.update.rgb1 b.update.alpha1 after0 in
    let after2 = table_after stages.stage2 b.update.rgb2 b.update.alpha2 after1 in
    let after3 = table_after stages.stage3 b.update.rgb3 b.update.alpha3 after2 in
    let after4 = table_after stages.stage4 b.update.rgb4 b.update.alpha4 after3 in
    table_after stages.stage5 0 0 after4

-- BY THE REGISTERS OF THE CELLS

abbrev pub table_by : List ℕ → List Colour → List Colour
table_by cells cs = table_at_last (stages_in (in_cells cells)) (buffer_fog_in (in_cells cells)) cs

-- what `combine` answers
abbrev pub combiner_by : List ℕ → Given → Colour
combiner_by cells g = combiner_of (stages_in (in_cells cells)) (buffer_fog_in (in_cells cells)) g
