-- A colour and its word, each way: red in the low byte, then green, blue and alpha, as a colour register holds them.
use Rattle.std.specs.Prelude.{ℕ, ◌+◌, ◌*◌}
use Rattle.settings.specs.Ranges.{bits}
use Rattle.settings.specs.Stages.{colour_in}
use Rattle.settings.specs.declared.records.Colour.{Colour}

-- the colour that a word is
unfoldable pub colour_of : ℕ → Colour
colour_of x = colour_in (bits x)

-- the word of a colour
abbrev pub word_of : Colour → ℕ
word_of c = c.red + c.green * 0x100 + c.blue * 0x10000 + c.alpha * 0x1000000
