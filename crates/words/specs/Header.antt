-- A command's header word, the words that its command takes, and the writes that it adds to the expansion.
use Rattle.std.specs.Prelude.{ℕ, ◌+◌, ◌/◌, ◌%◌, eqb}
use Rattle.numbers.specs.Pick.{pick}

-- bits 0-15: the id
abbrev pub id_of : ℕ → ℕ
id_of h = h % 0x10000

-- bits 16-19: the mask
abbrev pub mask_of : ℕ → ℕ
mask_of h = h / 0x10000 % 16

-- bits 20-27: the number of extra parameters; bits 28-30 are unused
abbrev pub count_of : ℕ → ℕ
count_of h = h / 0x100000 % 256

-- bit 31, consecutive: by how much ids rise from write to write
abbrev pub step_of : ℕ → ℕ
step_of h = h / 0x80000000 % 2

-- the words of a command with so many extra parameters: the first parameter, the header, the extra parameters, and one padding word if the
-- words so far are odd in number
abbrev pub words_with : ℕ → ℕ
words_with count = 2 + count + (2 + count) % 2

-- by its header
abbrev pub words_of : ℕ → ℕ
words_of h = words_with (count_of h)

-- how many writes a command with a mask and so many extra parameters adds to the expansion: with mask 0 none
abbrev pub adds_with : ℕ → ℕ → ℕ
adds_with mask count = pick (eqb mask 0) 0 (count + 1)

-- by its header
abbrev pub adds_of : ℕ → ℕ
adds_of h = adds_with (mask_of h) (count_of h)
