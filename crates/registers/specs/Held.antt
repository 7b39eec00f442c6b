-- The 66 held registers, and the bits that each holds.
use Rattle.std.specs.Prelude.{List, [], ◌∷◌, ◌++◌, map, ℕ, ◌+◌, eqb}
use Rattle.numbers.specs.Pick.{pick}

pub record Row : Type 0 where
  pub id : ℕ
  pub bits : ℕ

abbrev pub row : ℕ → ℕ → Row
row i b = record { id = i; bits = b }

-- one line of the document's table
abbrev pub rows_of : List ℕ → ℕ → List Row
rows_of ids b = map (λ i. row i b) ids

-- a stage at b: source, operand, combiner, colour, scale
abbrev pub stage_at : ℕ → List Row
stage_at b = row b 0xFFF0FFF ∷ row (b + 1) 0x777FFF ∷ row (b + 2) 0xF000F ∷ row (b + 3) 0xFFFFFFFF ∷ row (b + 4) 0x30003 ∷ []

-- THE HELD TABLE, line by line; stages 0 to 5 last
unfoldable pub held : List Row
held =
    rows_of (0x40 ∷ []) 0x3
    ++ rows_of (0x41 ∷ 0x43 ∷ 0x48 ∷ 0x49 ∷ 0x4A ∷ 0x4B ∷ 0x4D ∷ 0x4E ∷ 0xE1 ∷ []) 0xFFFFFF
    ++ rows_of (0x42 ∷ 0x44 ∷ 0xFD ∷ 0x103 ∷ []) 0xFFFFFFFF
    ++ rows_of (0x47 ∷ 0x6D ∷ []) 0x1
    ++ rows_of (0x65 ∷ 0x114 ∷ 0x115 ∷ 0x116 ∷ []) 0x3
    ++ rows_of (0x66 ∷ 0x67 ∷ 0x68 ∷ []) 0x3FF03FF
    ++ rows_of (0xE0 ∷ []) 0x301FF0F
    ++ rows_of (0xE6 ∷ []) 0x7F
    ++ rows_of (0x100 ∷ []) 0x3000103
    ++ rows_of (0x101 ∷ []) 0xFFFF0707
    ++ rows_of (0x102 ∷ 0x112 ∷ 0x113 ∷ []) 0xF
    ++ rows_of (0x104 ∷ []) 0xFF71
    ++ rows_of (0x105 ∷ []) 0xFFFFFF71
    ++ rows_of (0x106 ∷ []) 0x777
    ++ rows_of (0x107 ∷ []) 0x1F71
    ++ rows_of (0x117 ∷ []) 0x70003
    ++ rows_of (0x1C5 ∷ []) 0x1FFF
    ++ stage_at 0xC0 ++ stage_at 0xC8 ++ stage_at 0xD0 ++ stage_at 0xD8 ++ stage_at 0xF0 ++ stage_at 0xF8

-- the bits of the row of id i, 0 where there is none
unfoldable pub bits_in : List Row → ℕ → ℕ
bits_in [] i = 0
bits_in (r ∷ rs) i = let b = bits_in rs i in pick (eqb r.id i) r.bits b

-- THE BITS THAT A REGISTER HOLDS, 0 where it isn't held
unfoldable pub bits_of : ℕ → ℕ
bits_of i = bits_in held i
