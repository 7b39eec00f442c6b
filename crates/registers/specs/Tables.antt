-- The tables that a look-up goes by: the rows of the held table as words, and for each low byte of an id the row to look at.
-- Not of the document.
use Rattle.std.specs.Prelude.{◌≡◌, List, [], ◌∷◌, map, ℕ, zero, suc, ◌%◌, eqb, ltb}
use Rattle.numbers.specs.Pick.{pick}
use Rattle.registers.specs.Held.{Row, held}

-- rows as words, two a row: its id, and the bits that it holds
unfoldable pub row_words : List Row → List ℕ
row_words [] = []
row_words (r ∷ rs) = r.id ∷ r.bits ∷ row_words rs

unfoldable pub held_table : List ℕ
held_table = row_words held

-- the number of the first row whose id has the low byte j, counted from 0; that of the rows where there is none
unfoldable pub row_in : List Row → ℕ → ℕ
row_in [] j = 0
row_in (r ∷ rs) j = let n = row_in rs j in pick (eqb (r.id % 256) j) 0 (suc n)

-- 0, 1, .., n - 1, and then l
abbrev pub up_to : ℕ → List ℕ → List ℕ
up_to zero l = l
up_to (suc n) l = up_to n (n ∷ l)

-- no two held ids have the same low byte, so one row is looked at: the one of that byte; where there is none, row 0 or 1 by turns, since a
-- stretch of equal bytes would be filled apart when the table is made, and cut the rest of it into odd stores
abbrev pub slot_of : ℕ → ℕ
slot_of j = pick (ltb (row_in held j) 66) (row_in held j) (j % 2)

unfoldable pub slot_table : List ℕ
slot_table = map slot_of (up_to 256 [])

-- what is asked of the two tables that a look-up is lent
abbrev pub LookupTables : List ℕ → List ℕ → Type 0
LookupTables slots rows = (slots ≡ slot_table) × (rows ≡ held_table)
