-- The field table: the id, first bit and last bit of each of the 204 fields, ids ascending and then lowest bit first.
use Rattle.std.specs.Prelude.{List, [], ◌∷◌, ◌++◌, ℕ, suc, ◌+◌, ◌-◌, eqb, ℤ, pos, negsuc}
use Rattle.numbers.specs.Pick.{pick, within}
use Rattle.settings.specs.Ranges.{Registers, signed}

pub record Field : Type 0 where
  pub id : ℕ
  pub first : ℕ
  pub last : ℕ

abbrev pub field : ℕ → ℕ → ℕ → Field
field i a b = record { id = i; first = a; last = b }

-- the stage whose source register is b
abbrev pub stage_fields : ℕ → List Field
stage_fields b =
    field b 0 3 ∷ field b 4 7 ∷ field b 8 11 ∷ field b 16 19 ∷ field b 20 23 ∷ field b 24 27
    ∷ field (b + 1) 0 3 ∷ field (b + 1) 4 7 ∷ field (b + 1) 8 11 ∷ field (b + 1) 12 14 ∷ field (b + 1) 16 18 ∷ field (b + 1) 20 22
    ∷ field (b + 2) 0 3 ∷ field (b + 2) 16 19
    ∷ field (b + 3) 0 7 ∷ field (b + 3) 8 15 ∷ field (b + 3) 16 23 ∷ field (b + 3) 24 31
    ∷ field (b + 4) 0 1 ∷ field (b + 4) 16 17
    ∷ []

abbrev pub rasteriser_fields : List Field
rasteriser_fields =
    field 0x40 0 1
    ∷ field 0x41 0 23
    ∷ field 0x42 0 31
    ∷ field 0x43 0 23
    ∷ field 0x44 0 31
    ∷ field 0x47 0 0
    ∷ field 0x48 0 23
    ∷ field 0x49 0 23
    ∷ field 0x4A 0 23
    ∷ field 0x4B 0 23
    ∷ field 0x4D 0 23
    ∷ field 0x4E 0 23
    ∷ field 0x65 0 1
    ∷ field 0x66 0 9 ∷ field 0x66 16 25
    ∷ field 0x67 0 9 ∷ field 0x67 16 25
    ∷ field 0x68 0 9 ∷ field 0x68 16 25
    ∷ field 0x6D 0 0
    ∷ []

abbrev pub fog_fields : List Field
fog_fields =
    field 0xE0 0 2 ∷ field 0xE0 3 3
    ∷ field 0xE0 8 8 ∷ field 0xE0 9 9 ∷ field 0xE0 10 10 ∷ field 0xE0 11 11
    ∷ field 0xE0 12 12 ∷ field 0xE0 13 13 ∷ field 0xE0 14 14 ∷ field 0xE0 15 15
    ∷ field 0xE0 16 16 ∷ field 0xE0 24 25
    ∷ field 0xE1 0 7 ∷ field 0xE1 8 15 ∷ field 0xE1 16 23
    ∷ field 0xE6 0 6
    ∷ []

abbrev pub framebuffer_fields : List Field
framebuffer_fields =
    field 0x100 0 1 ∷ field 0x100 8 8 ∷ field 0x100 24 24 ∷ field 0x100 25 25
    ∷ field 0x101 0 2 ∷ field 0x101 8 10 ∷ field 0x101 16 19 ∷ field 0x101 20 23 ∷ field 0x101 24 27 ∷ field 0x101 28 31
    ∷ field 0x102 0 3
    ∷ field 0x103 0 7 ∷ field 0x103 8 15 ∷ field 0x103 16 23 ∷ field 0x103 24 31
    ∷ field 0x104 0 0 ∷ field 0x104 4 6 ∷ field 0x104 8 15
    ∷ field 0x105 0 0 ∷ field 0x105 4 6 ∷ field 0x105 8 15 ∷ field 0x105 16 23 ∷ field 0x105 24 31
    ∷ field 0x106 0 2 ∷ field 0x106 4 6 ∷ field 0x106 8 10
    ∷ field 0x107 0 0 ∷ field 0x107 4 6 ∷ field 0x107 8 8 ∷ field 0x107 9 9 ∷ field 0x107 10 10 ∷ field 0x107 11 11 ∷ field 0x107 12 12
    ∷ field 0x112 0 3
    ∷ field 0x113 0 3
    ∷ field 0x114 0 0 ∷ field 0x114 1 1
    ∷ field 0x115 0 0 ∷ field 0x115 1 1
    ∷ field 0x116 0 1
    ∷ field 0x117 0 1 ∷ field 0x117 16 18
    ∷ []

unfoldable pub field_table : List Field
field_table =
    rasteriser_fields
    ++ stage_fields 0xC0 ++ stage_fields 0xC8 ++ stage_fields 0xD0 ++ stage_fields 0xD8
    ++ fog_fields
    ++ stage_fields 0xF0 ++ stage_fields 0xF8
    ++ (field 0xFD 0 7 ∷ field 0xFD 8 15 ∷ field 0xFD 16 23 ∷ field 0xFD 24 31 ∷ [])
    ++ framebuffer_fields
    ++ (field 0x1C5 0 7 ∷ field 0x1C5 8 12 ∷ [])

-- the fields of the register i
unfoldable pub of_id : ℕ → List Field → List Field
of_id i [] = []
of_id i (f ∷ fs) = let rest = of_id i fs in pick (eqb f.id i) (f ∷ rest) rest

-- how many fields have bit k
unfoldable pub holding : ℕ → List Field → ℕ
holding k [] = 0
holding k (f ∷ fs) = let rest = holding k fs in pick (within f.first f.last k) (suc rest) rest

-- the number that a field's bits hold
abbrev pub raw_in : Registers → Field → ℕ
raw_in reg f = reg f.id f.first f.last

-- the 32-bit word of a signed number, in two's complement
abbrev pub twos : ℤ → ℕ
twos (pos n) = n
twos (negsuc n) = 0xFFFFFFFF - n

-- a field as one word: only those of 68 are signed
abbrev pub word_in : Registers → Field → ℕ
word_in reg f = pick (eqb f.id 0x68) (twos (signed (f.last - f.first + 1) (raw_in reg f))) (raw_in reg f)
