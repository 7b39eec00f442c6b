-- The two table ports: what a data write does to the cells and to the entries.
use Rattle.std.specs.Prelude.{Bool, not, ◌&&◌, List, ℕ, ◌+◌, ◌*◌, ◌/◌, ◌%◌, eqb, ltb, get_or, set}
use Rattle.numbers.specs.Pick.{pick}

-- the low 24 bits of v go to an entry, whose other bits stay
abbrev pub entry : ℕ → ℕ → ℕ
entry old v = old / 0x1000000 * 0x1000000 + v % 0x1000000

-- an index in the low bits of x, of n values, rises by one, n - 1 to 0; the other bits stay
abbrev pub rise : ℕ → ℕ → ℕ
rise n x = x / n * n + (x % n + 1) % n

-- FOG: the entry named by E6, then E6 rises by one, 127 to 0; of its cell seven bits, as 002 has it, and not 004's sixteen
abbrev pub fog_index : List ℕ → ℕ
fog_index cells = get_or cells 0xE6 0 % 128

unfoldable pub fog_entries : List ℕ → List ℕ → ℕ → List ℕ
fog_entries cells fog v = set fog (fog_index cells) (entry (get_or fog (fog_index cells) 0) v)

unfoldable pub fog_cells : List ℕ → List ℕ
fog_cells cells = set cells 0xE6 (rise 128 (get_or cells 0xE6 0))

-- LIGHT: the entry at bits 0-7 of 1C5, in the table at bits 8-12
abbrev pub light_index : List ℕ → ℕ
light_index cells = get_or cells 0x1C5 0 % 256

abbrev pub light_table : List ℕ → ℕ
light_table cells = get_or cells 0x1C5 0 / 256 % 32

-- tables 2, 7 and 18h-1Fh aren't named
abbrev pub named : ℕ → Bool
named t = not (eqb t 2) && not (eqb t 7) && ltb t 0x18

abbrev pub light_place : List ℕ → ℕ
light_place cells = light_table cells * 256 + light_index cells

-- the entries of an unnamed table never change
unfoldable pub light_entries : List ℕ → List ℕ → ℕ → List ℕ
light_entries cells light v =
    pick (named (light_table cells)) (set light (light_place cells) (entry (get_or light (light_place cells) 0) v)) light

-- then bits 0-7 rise by one, 255 to 0, and the table number stays (ours)
unfoldable pub light_cells : List ℕ → List ℕ
light_cells cells = set cells 0x1C5 (rise 256 (get_or cells 0x1C5 0))
