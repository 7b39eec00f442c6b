-- A stage's sources, and the part of a source that an operand is: the codes of 002.
use Rattle.std.specs.Prelude.{List, [], ◌∷◌, ℕ, ◌-◌, ◌/◌, ◌%◌, get_or, eqb}
use Rattle.numbers.specs.Pick.{pick}
use Rattle.settings.specs.declared.records.Colour.{Colour}
use Rattle.settings.specs.declared.records.Source.{Source}
use Rattle.combiner.specs.declared.Given.{Given}
use Rattle.combiner.specs.declared.dot.Rgb.{Rgb}

-- what a stage sees as Previous and as Previous buffer
pub record Seen : Type 0 where
  pub previous : Colour
  pub buffer : Colour

-- the colours that a stage's source codes name
pub record Sources : Type 0 where
  pub rgb0 : Colour
  pub rgb1 : Colour
  pub rgb2 : Colour
  pub alpha0 : Colour
  pub alpha1 : Colour
  pub alpha2 : Colour

abbrev pub black : Colour
black = record { red = 0; green = 0; blue = 0; alpha = 0 }

-- by code: the seven given colours, 7 to Ch without a name, Previous buffer, Constant, Previous
abbrev pub by_code : Given → Colour → Seen → List Colour
by_code g constant s =
    g.primary
    ∷ g.fragment_primary
    ∷ g.fragment_secondary
    ∷ g.texture0
    ∷ g.texture1
    ∷ g.texture2
    ∷ g.texture3
    ∷ black ∷ black ∷ black ∷ black ∷ black ∷ black
    ∷ s.buffer
    ∷ constant
    ∷ s.previous
    ∷ []

abbrev pub source_of : List Colour → ℕ → Colour
source_of colours code = get_or colours (code % 16) black

-- a stage's six sources
abbrev pub sources_of : List Colour → Source → Sources
sources_of colours s =
    record {
      rgb0 = source_of colours s.rgb0;
      rgb1 = source_of colours s.rgb1;
      rgb2 = source_of colours s.rgb2;
      alpha0 = source_of colours s.alpha0;
      alpha1 = source_of colours s.alpha1;
      alpha2 = source_of colours s.alpha2;
    }

-- "One minus" is 255 minus: an even code names a part of the source, the odd code after it one minus that part
abbrev pub one_minus : ℕ → ℕ → ℕ
one_minus code x = pick (eqb (code % 2) 1) (255 - x) x

-- RGB operands: 0 is each channel's own; 2 alpha, 4 red, 8 green and Ch blue are the source's, the same for all three channels
abbrev pub rgb_part : ℕ → Colour → ℕ → ℕ
rgb_part code s own =
    pick (eqb (code / 2 % 8) 0) own (get_or (0 ∷ s.alpha ∷ s.red ∷ 0 ∷ s.green ∷ 0 ∷ s.blue ∷ 0 ∷ []) (code / 2 % 8) 0)

abbrev pub rgb_operand : ℕ → Colour → Rgb
rgb_operand code s =
    record {
      red = one_minus code (rgb_part code s s.red);
      green = one_minus code (rgb_part code s s.green);
      blue = one_minus code (rgb_part code s s.blue);
    }

-- alpha operands 0 alpha, 2 red, 4 green, 6 blue
abbrev pub alpha_part : ℕ → Colour → ℕ
alpha_part code s = get_or (s.alpha ∷ s.red ∷ s.green ∷ s.blue ∷ []) (code / 2 % 4) 0

abbrev pub alpha_operand : ℕ → Colour → ℕ
alpha_operand code s = one_minus code (alpha_part code s)
