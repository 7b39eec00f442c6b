-- One stage: three operands for RGB and three for alpha, the modes, and the scales.
use Rattle.std.specs.Prelude.{ℕ, eqb}
use Rattle.numbers.specs.Pick.{pick}
use Rattle.settings.specs.declared.records.Colour.{Colour}
use Rattle.settings.specs.declared.records.Stage.{Stage}
use Rattle.combiner.specs.Modes.{combined, scaled}
use Rattle.combiner.specs.Dot.{dot3_of}
use Rattle.combiner.specs.Operands.{Sources, rgb_operand, alpha_operand}
use Rattle.combiner.specs.declared.dot.Rgb.{Rgb}

-- RGB by its mode, channel by channel, and its scale
abbrev pub rgb_mixed : ℕ → ℕ → Rgb → Rgb → Rgb → ℕ → Rgb
rgb_mixed mode scale a b c dot =
    record {
      red = scaled scale (combined mode a.red b.red c.red dot);
      green = scaled scale (combined mode a.green b.green c.green dot);
      blue = scaled scale (combined mode a.blue b.blue c.blue dot);
    }

-- alpha: Dot3 RGBA (7) puts its unscaled result here too, and the alpha mode isn't read
unfoldable pub alpha_mixed : Stage → Sources → ℕ → ℕ
alpha_mixed s from dot =
    scaled s.scale.alpha
    (pick (eqb s.combiner.rgb 7) dot
    (combined s.combiner.alpha
    (alpha_operand s.operand.alpha0 from.alpha0)
    (alpha_operand s.operand.alpha1 from.alpha1)
    (alpha_operand s.operand.alpha2 from.alpha2)
    dot))

abbrev pub joined : Rgb → ℕ → Colour
joined x alpha = record { red = x.red; green = x.green; blue = x.blue; alpha = alpha }

-- the stage on its three RGB operands, and their dot3
abbrev pub mixed : Stage → Sources → Rgb → Rgb → Rgb → ℕ → Colour
mixed s from a b c dot = joined (rgb_mixed s.combiner.rgb s.scale.rgb a b c dot) (alpha_mixed s from dot)

unfoldable pub stage_of : Stage → Sources → Colour
stage_of s from =
    let a = rgb_operand s.operand.rgb0 from.rgb0 in
    let b = rgb_operand s.operand.rgb1 from.rgb1 in
    let c = rgb_operand s.operand.rgb2 from.rgb2 in
    mixed s from a b c (dot3_of a b)
