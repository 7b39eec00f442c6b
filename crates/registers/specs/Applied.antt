-- What one allowed write does to a state, and what writes do one after another; whether a write made a difference, and how many did.
use Rattle.std.specs.Prelude.{Bool, true, not, List, [], ◌∷◌, ℕ, ◌+◌, eqb, get_or, set}
use Rattle.std.specs.Int.Bits.{bit_and}
use Rattle.numbers.specs.Pick.{pick}
use Rattle.numbers.specs.Bits.{spread, merge}
use Rattle.words.specs.Writes.{Write, fog_data, light_data}
use Rattle.ports.specs.Ports.{fog_cells, fog_entries, light_cells, light_entries}
use Rattle.registers.specs.State.{State, st}
use Rattle.registers.specs.Held.{bits_of}

-- a write to a held register replaces, of the bits it holds, those in the bytes e; to any other it changes nothing
unfoldable pub cells_after : List ℕ → ℕ → ℕ → ℕ → List ℕ
cells_after cells i e v =
    pick (eqb (bits_of i) 0) cells (set cells i (merge (bit_and (bits_of i) e) (get_or cells i 0) v))

-- the value v, written to i in the bytes e; port data, which is allowed in all four bytes only, goes to its table: data ids have no cell
unfoldable pub put : State → ℕ → ℕ → ℕ → State
put s i e v =
    pick (fog_data i) (st (fog_cells s.cells) (fog_entries s.cells s.fog v) s.light)
    (pick (light_data i) (st (light_cells s.cells) s.fog (light_entries s.cells s.light v))
    (st (cells_after s.cells i e v) s.fog s.light))

-- ONE WRITE, which is allowed: in the bytes whose mask bit is 1
abbrev pub apply : State → Write → State
apply s w = put s w.id (spread w.mask) w.value

-- one write after another
unfoldable pub apply_all : State → List Write → State
apply_all s [] = s
apply_all s (w ∷ ws) = apply_all (apply s w) ws

-- does the cell, entry or index that is touched by writing v to i, in the bytes e, differ afterwards? Port data counts always, since its
-- index always moves; of any other write the cell tells
unfoldable pub differs : State → ℕ → ℕ → ℕ → Bool
differs s i e v =
    pick (fog_data i) true
    (pick (light_data i) true
    (not (eqb (get_or (cells_after s.cells i e v) i 0) (get_or s.cells i 0))))

-- A WRITE'S DIFFERENCE: 1 where it made one, else 0
abbrev pub difference : State → Write → ℕ
difference s w = pick (differs s w.id (spread w.mask) w.value) 1 0

-- how many writes of a run made a difference, each judged on the state left by those before it
unfoldable pub differences : State → List Write → ℕ
differences s [] = 0
differences s (w ∷ ws) = difference s w + differences (apply s w) ws
