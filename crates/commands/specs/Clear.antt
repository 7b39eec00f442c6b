-- When no write of a command can be at fault, by the first and the last of its ids. Not of the document: law `clear_fault` says what it is
-- for.
use Rattle.std.specs.Prelude.{Bool, ◌&&◌, ◌||◌, ℕ, ◌+◌, leb, ltb, eqb}
use Rattle.numbers.specs.Pick.{pick}

-- the last id of a command of count + 1 writes from id i on
abbrev pub last_id : ℕ → ℕ → ℕ → ℕ
last_id i count step = pick (eqb step 0) i (i + count)

-- the ids i..j meet none above 2FFh, no jump register and, but for mask Fh, no port's data
abbrev pub clear : ℕ → ℕ → ℕ → Bool
clear i j m =
    leb j 0x2FF && (ltb j 0x23C || ltb 0x23D i)
    && (eqb m 15 || ((ltb j 0xE8 || ltb 0xEF i) && (ltb j 0x1C8 || ltb 0x1CF i)))
