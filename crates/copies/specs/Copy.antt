-- "Its held bits and entries": what one state takes of another. All bits beside them stay, and so do the cells of ids that aren't held.
use Rattle.std.specs.Prelude.{List, ℕ, zero, suc, eqb, get_or, set}
use Rattle.numbers.specs.Pick.{pick}
use Rattle.numbers.specs.Bits.{merge}
use Rattle.ports.specs.Ports.{entry}
use Rattle.registers.specs.State.{State, st}
use Rattle.registers.specs.Held.{bits_of}

-- the cell of id i takes the held bits; one that isn't held stays
abbrev pub cell_taking : ℕ → ℕ → ℕ → ℕ
cell_taking i old new = pick (eqb (bits_of i) 0) old (merge (bits_of i) old new)

-- entry i takes the low 24 bits, of an unnamed table too: the request says "entries" and makes no exception, and document 01's "their
-- entries never change" speaks of port writes
abbrev pub entry_taking : ℕ → ℕ → ℕ → ℕ
entry_taking i old new = entry old new

-- `to`, its first n elements each with what f takes of the same element of `from`, the rest as it was; laws `taking_done` and
-- `taking_later` say so
unfoldable pub taking : (ℕ → ℕ → ℕ → ℕ) → ℕ → List ℕ → List ℕ → List ℕ
taking f zero to from = to
taking f (suc n) to from = let t = taking f n to from in set t n (f n (get_or t n 0) (get_or from n 0))

-- THE STATE `to` WITH THE HELD BITS AND ENTRIES OF `from`
unfoldable pub taken : State → State → State
taken to from =
    st (taking cell_taking 768 to.cells from.cells) (taking entry_taking 128 to.fog from.fog)
    (taking entry_taking 6144 to.light from.light)
