-- How often the values of a command to one id change its cell. Not of the document: law `held_counts` says that as many of its writes made
-- a difference.
use Rattle.std.specs.Prelude.{not, List, ℕ, zero, suc, ◌+◌, eqb, get_or}
use Rattle.numbers.specs.Bits.{merge}
use Rattle.numbers.specs.Pick.{pick}

-- 1 where d is another word than c, else 0
abbrev pub change : ℕ → ℕ → ℕ
change c d = pick (not (eqb d c)) 1 0

-- a cell that holds c takes the n values that stand in l from j on, in the bits e; its other bits are those of old
unfoldable pub changes : ℕ → ℕ → ℕ → List ℕ → ℕ → ℕ → ℕ
changes e old c l j zero = 0
changes e old c l j (suc n) = change c (merge e old (get_or l j 0)) + changes e old (merge e old (get_or l j 0)) l (j + 1) n
