-- The logic operations: 003's list, with OpenGL's meaning. s is the source, the combiner's result; d is the destination, the stored colour.
use Rattle.std.specs.Prelude.{List, [], ◌∷◌, ℕ, ◌%◌, get_or}
use Rattle.std.specs.Int.Bits.{bit_and, bit_or, bit_xor}
use Rattle.settings.specs.declared.records.Colour.{Colour}

-- the sixteen results, by code, on numbers of any width: `ones` has every bit of it, 255 for a channel
unfoldable pub results : ℕ → ℕ → ℕ → List ℕ
results ones s d =
    0
    ∷ bit_and s d
    ∷ bit_and s (bit_xor d ones)
    ∷ s
    ∷ ones
    ∷ bit_xor s ones
    ∷ d
    ∷ bit_xor d ones
    ∷ bit_xor (bit_and s d) ones
    ∷ bit_or s d
    ∷ bit_xor (bit_or s d) ones
    ∷ bit_xor s d
    ∷ bit_xor (bit_xor s d) ones
    ∷ bit_and (bit_xor s ones) d
    ∷ bit_or s (bit_xor d ones)
    ∷ bit_or (bit_xor s ones) d
    ∷ []

abbrev pub logical : ℕ → ℕ → ℕ → ℕ → ℕ
logical ones op s d = get_or (results ones s d) (op % 16) 0

-- channel by channel
abbrev pub logical_colour : ℕ → Colour → Colour → Colour
logical_colour op s d =
    record {
      red = logical 255 op s.red d.red;
      green = logical 255 op s.green d.green;
      blue = logical 255 op s.blue d.blue;
      alpha = logical 255 op s.alpha d.alpha;
    }
