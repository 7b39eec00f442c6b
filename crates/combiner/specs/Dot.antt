-- Dot3: S is the sum over R, G, B of (2a-255)(2b-255), a signed total; the result is 0 if S<0, else S/255, at most 255.
use Rattle.std.specs.Prelude.{ℕ, ◌*◌, ◌/◌, ℤ, pos, negsuc, ◌+ℤ◌, ◌-ℤ◌, ◌*ℤ◌}
use Rattle.combiner.specs.Modes.{to_byte}
use Rattle.combiner.specs.declared.dot.Rgb.{Rgb}

-- 2a - 255
unfoldable pub centred : ℕ → ℤ
centred a = pos (2 * a) -ℤ pos 255

-- S
abbrev pub total : Rgb → Rgb → ℤ
total a b =
    centred a.red *ℤ centred b.red +ℤ centred a.green *ℤ centred b.green +ℤ centred a.blue *ℤ centred b.blue

unfoldable pub at_least_zero : ℤ → ℕ
at_least_zero (pos n) = n
at_least_zero (negsuc n) = 0

abbrev pub clamped : ℤ → ℕ
clamped z = to_byte (at_least_zero z / 255)

unfoldable pub dot3_of : Rgb → Rgb → ℕ
dot3_of a b = clamped (total a b)
