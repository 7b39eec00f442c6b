-- A state: three lent buffers of 32-bit words.
use Rattle.std.specs.Prelude.{◌≡◌, Bool, ◌&&◌, List, ℕ, ◌<◌, eqb, length, get_or}

pub record State : Type 0 where
  pub cells : List ℕ
  pub fog : List ℕ
  pub light : List ℕ

abbrev pub st : List ℕ → List ℕ → List ℕ → State
st c f l = record { cells = c; fog = f; light = l }

-- the lengths of a state: 768 register cells, 128 fog entries, 6,144 light entries (24 tables of 256)
abbrev pub sized : State → Bool
sized s = eqb (length s.cells) 768 && eqb (length s.fog) 128 && eqb (length s.light) 6144

-- the same of three buffers: what is asked of those that a state is lent in
abbrev pub Lengths : List ℕ → List ℕ → List ℕ → Type 0
Lengths c f l = (length c ≡ 768) × (length f ≡ 128) × (length l ≡ 6144)

-- 32-bit words
abbrev pub Words32 : List ℕ → Type 0
Words32 l = (i : ℕ) → get_or l i 0 < 0x100000000

-- what is so of every state that is lent: these lengths, and cells of 32 bits
abbrev pub Whole : List ℕ → List ℕ → List ℕ → Type 0
Whole c f l = Lengths c f l × Words32 c
