-- Bits of a word: one of them, the bytes that a mask names, and a masked replacement.
use Rattle.std.specs.Prelude.{ℕ, zero, suc, ◌+◌, ◌-◌, ◌*◌, ◌/◌, ◌%◌, ◌^◌}
use Rattle.std.specs.Int.Bits.{bit_and, bit_or}

-- bit k of x
abbrev pub bit : ℕ → ℕ → ℕ
bit k x = x / 2 ^ k % 2

-- the bytes whose bit of the mask m is 1, all ones; bit 0 of m, which is bit 16 of a header, stands for the lowest byte
abbrev pub spread : ℕ → ℕ
spread m = m % 2 * 0xFF + m / 2 % 2 * 0xFF00 + m / 4 % 2 * 0xFF0000 + m / 8 % 2 * 0xFF000000

-- of the bits e those of new, of all others those of old
abbrev pub merge : ℕ → ℕ → ℕ → ℕ
merge e old new = bit_or (bit_and old (0xFFFFFFFF - e)) (bit_and new e)

-- not of the document, for laws on bits: the choice by a bit, a where it is 1, else b
abbrev pub pick_bit : ℕ → ℕ → ℕ → ℕ
pick_bit zero a b = b
pick_bit (suc e) a b = a
