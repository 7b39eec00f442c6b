-- The number that a range of bits holds: unsigned, signed over its width, and signed and stored negated.
use Rattle.std.specs.Prelude.{List, ℕ, zero, suc, ◌+◌, ◌-◌, ◌/◌, ◌%◌, ◌^◌, ltb, ℤ, pos, negsuc, neg_ℤ, ◌-ℤ◌, get_or}
use Rattle.numbers.specs.Pick.{pick}

-- the word x from bit n up
abbrev pub from : ℕ → ℕ → ℕ
from zero x = x
from (suc n) x = x / 2 ^ suc n

-- a word by its ranges: the number in bits first..last
abbrev pub Word : Type 0
Word = ℕ → ℕ → ℕ

-- bits first..last of the word x
abbrev pub bits : ℕ → Word
bits x first last = from first x % 2 ^ (last - first + 1)

-- the words of all registers, by id
abbrev pub Registers : Type 0
Registers = ℕ → Word

-- those of the cells
abbrev pub in_cells : List ℕ → Registers
in_cells cells i = bits (get_or cells i 0)

-- a number of n bits read as signed, in two's complement
unfoldable pub signed : ℕ → ℕ → ℤ
signed n x = pick (ltb x (2 ^ (n - 1))) (pos x) (pos x -ℤ pos (2 ^ n))

-- and minus that: what was meant where it was stored negated
abbrev pub negated : ℕ → ℕ → ℤ
negated n x = neg_ℤ (signed n x)

-- the 32-bit word of a signed number, in two's complement
abbrev pub twos : ℤ → ℕ
twos (pos n) = n
twos (negsuc n) = 0xFFFFFFFF - n
