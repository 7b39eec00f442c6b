-- How many of the first writes of a run one command can carry.
use Rattle.std.specs.Prelude.{Bool, true, not, ◌&&◌, List, [], ◌∷◌, ℕ, suc, ◌+◌, min, max, eqb}
use Rattle.numbers.specs.Pick.{pick}
use Rattle.words.specs.Writes.{Write}

-- a can stand before these writes in a command whose ids rise by s: the next has the same mask, and its id is s further
abbrev pub leads : ℕ → Write → List Write → Bool
leads s a [] = true
leads s a (b ∷ l) = eqb b.id (a.id + s) && eqb b.mask a.mask

-- how many of the first writes have one mask, and ids that rise by s from write to write
unfoldable pub chain : ℕ → List Write → ℕ
chain s [] = 0
chain s (a ∷ l) = let n = chain s l in pick (leads s a l) (suc n) 1

-- THE SPAN: at most 256 writes of one mask, of one id or of ids that rise by one; at least one, if there is a write
unfoldable pub span : List Write → ℕ
span l = min 256 (max (chain 0 l) (chain 1 l))

-- NOT OF THE DOCUMENT: no command carries the last write of a run and the first of another, since their masks differ or the id neither
-- stays nor rises by one
abbrev pub apart : List Write → List Write → Bool
apart [] b = true
apart (w ∷ []) b = not (leads 0 w b) && not (leads 1 w b)
apart (w ∷ v ∷ a) b = apart (v ∷ a) b
