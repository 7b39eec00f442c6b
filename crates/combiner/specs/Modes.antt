-- The combine modes on one channel: document 01's table, in the order of 002's codes. Operands a, b, c are bytes; division drops the
-- fraction.
use Rattle.std.specs.Prelude.{[], ◌∷◌, ℕ, ◌+◌, ◌-◌, ◌*◌, ◌/◌, min, get_or}

-- "at most 255"; a difference of natural numbers is "at least 0" by itself
abbrev pub to_byte : ℕ → ℕ
to_byte n = min n 255

abbrev pub modulated : ℕ → ℕ → ℕ
modulated a b = a * b / 255

abbrev pub added : ℕ → ℕ → ℕ
added a b = to_byte (a + b)

abbrev pub added_signed : ℕ → ℕ → ℕ
added_signed a b = to_byte (a + b - 128)

abbrev pub interpolated : ℕ → ℕ → ℕ → ℕ
interpolated a b c = (a * c + b * (255 - c)) / 255

abbrev pub subtracted : ℕ → ℕ → ℕ
subtracted a b = a - b

abbrev pub multiplied_added : ℕ → ℕ → ℕ → ℕ
multiplied_added a b c = to_byte ((a * b + 255 * c) / 255)

abbrev pub added_multiplied : ℕ → ℕ → ℕ → ℕ
added_multiplied a b c = added a b * c / 255

-- by code, 0 replace to 9 add then multiply; 6 and 7 take the stage's dot3. Codes above 9 have no name and are taken as 9; `draw` refuses
-- a state that holds one
unfoldable pub combined : ℕ → ℕ → ℕ → ℕ → ℕ → ℕ
combined mode a b c dot =
    get_or
    (a
    ∷ modulated a b
    ∷ added a b
    ∷ added_signed a b
    ∷ interpolated a b c
    ∷ subtracted a b
    ∷ dot
    ∷ dot
    ∷ multiplied_added a b c
    ∷ [])
    mode
    (added_multiplied a b c)

-- scales 0, 1, 2 are 1, 2, 4 times; 3 has no name
abbrev pub factor_of : ℕ → ℕ
factor_of scale = get_or (1 ∷ 2 ∷ 4 ∷ []) scale 1

-- a result times its scale, held to 255
abbrev pub scaled : ℕ → ℕ → ℕ
scaled scale x = to_byte (x * factor_of scale)
