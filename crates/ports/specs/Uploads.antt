-- Data writes to a port one after another, with the index kept apart. Not of the document: the reader's laws say that single data writes
-- leave the same.
use Rattle.std.specs.Prelude.{List, ℕ, zero, suc, ◌+◌, ◌*◌, ◌/◌, ◌%◌, ltb, get_or, set}
use Rattle.numbers.specs.Pick.{pick}
use Rattle.ports.specs.Ports.{entry, named, fog_index, light_table, light_index}

-- the entry e with the low 24 bits of the word j
abbrev pub with_entry : List ℕ → ℕ → List ℕ → ℕ → List ℕ
with_entry es e l j = set es e (entry (get_or es e 0) (get_or l j 0))

-- n words of l, from j on, go to the entries from e on
unfoldable pub filled : List ℕ → ℕ → List ℕ → ℕ → ℕ → List ℕ
filled es e l j zero = es
filled es e l j (suc n) = filled (with_entry es e l j) (e + 1) l (j + 1) n

-- an index that has come to its table's end starts anew
abbrev pub wrapped : ℕ → ℕ → ℕ
wrapped size i = pick (ltb i size) i 0

-- the same to the table of so many entries that stands at `table`, from its entry i on
unfoldable pub uploaded : ℕ → ℕ → ℕ → List ℕ → List ℕ → ℕ → ℕ → List ℕ
uploaded size table i es l j zero = es
uploaded size table i es l j (suc n) = uploaded size table (wrapped size (i + 1)) (with_entry es (table + i) l j) l (j + 1) n

-- an index in the low bits of x, of n values, that rises k times
abbrev pub risen : ℕ → ℕ → ℕ → ℕ
risen n x k = x / n * n + (x % n + k) % n

-- THE FOG PORT: its cells and entries after n data writes
abbrev pub fog_cells_after : List ℕ → ℕ → List ℕ
fog_cells_after cells n = set cells 0xE6 (risen 128 (get_or cells 0xE6 0) n)

abbrev pub fog_uploaded : List ℕ → List ℕ → List ℕ → ℕ → ℕ → List ℕ
fog_uploaded cells fog l j n = uploaded 128 0 (fog_index cells) fog l j n

-- THE LIGHT PORT; the entries of an unnamed table never change
abbrev pub light_cells_after : List ℕ → ℕ → List ℕ
light_cells_after cells n = set cells 0x1C5 (risen 256 (get_or cells 0x1C5 0) n)

abbrev pub light_uploaded : List ℕ → List ℕ → List ℕ → ℕ → ℕ → List ℕ
light_uploaded cells light l j n =
    pick (named (light_table cells)) (uploaded 256 (light_table cells * 256) (light_index cells) light l j n) light
