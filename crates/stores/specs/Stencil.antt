-- The stencil operations on a byte, and what of the result is stored.
use Rattle.std.specs.Prelude.{[], ◌∷◌, ℕ, ◌+◌, ◌-◌, ◌%◌, min, get_or}
use Rattle.numbers.specs.Bits.{merge}

-- operations 0-7: keep, zero, replace by reference, increment and decrement that stop at 255 and 0, invert, increment and decrement that
-- wrap
abbrev pub operated : ℕ → ℕ → ℕ → ℕ
operated op stored reference =
    get_or
    (stored
    ∷ 0
    ∷ reference
    ∷ min (stored + 1) 255
    ∷ (stored - 1)
    ∷ (255 - stored)
    ∷ ((stored + 1) % 256)
    ∷ ((stored + 255) % 256)
    ∷ [])
    (op % 8)
    0

-- only bits of the buffer mask change
abbrev pub masked : ℕ → ℕ → ℕ → ℕ
masked mask stored new = merge mask stored new
