-- Lent space: three buffers of one length; what is put stands at the space's start, or there is no room for it.
use Rattle.std.specs.Prelude.{Bool, ◌&&◌, List, ◌++◌, ℕ, leb, eqb, length, drop}
use Rattle.numbers.specs.Pick.{pick}
use Rattle.numbers.specs.Answer.{Answer, answered, refused}

-- three buffers, ids, masks and values, are of one length
abbrev pub level : List ℕ → List ℕ → List ℕ → Bool
level is ms vs = eqb (length is) (length ms) && eqb (length is) (length vs)

-- a refusal stands, else the answer is what follows
abbrev pub and_then : Answer → Answer → Answer
and_then (answered n) rest = rest
and_then (refused r p) rest = refused r p

-- how many are put where there is room for so many, else a refusal with the room needed
abbrev pub if_room : ℕ → ℕ → ℕ → Answer
if_room number need room = pick (leb need room) (answered need) (refused number need)

-- what is put stands at the space's start, and the space past it keeps its contents; on a refusal all of it does
abbrev pub space_after : Answer → List ℕ → List ℕ → List ℕ
space_after (answered n) l old = l ++ drop (length l) old
space_after (refused r p) l old = old
