-- The verdict on a list: 15; then commands in order, each 2 first and then its writes; the first write at fault ends the reading. Writes
-- with mask 0 are checked like any others, and not counted. 1 isn't tested here: whoever reads a list tests it before.
use Rattle.std.specs.Prelude.{Bool, true, ◌&&◌, List, [], ◌∷◌, ℕ, ◌+◌, eqb, length}
use Rattle.numbers.specs.Pick.{pick}
use Rattle.numbers.specs.Answer.{Answer, answered, refused, unless_fault}
use Rattle.words.specs.Writes.{Write, kept, fault_of, allowed}
use Rattle.words.specs.Commands.{whole, expand, commands, legal}

-- the fault of the first write at fault, 3, 4 or 5, and 0 where none is
unfoldable pub first_fault : List Write → ℕ
first_fault [] = 0
first_fault (w ∷ ws) = let rest = first_fault ws in pick (eqb (fault_of w.id w.mask) 0) rest (fault_of w.id w.mask)

-- what is wrong with the command at p: 2 where it needs more words than are left, else the fault of its first write at fault
abbrev pub command_fault : List ℕ → ℕ → ℕ
command_fault l p = pick (whole l p) (first_fault (expand l p)) 2

-- the commands at these places, after n writes of the expansion: a fault refuses at its command's first word
unfoldable pub judge : List ℕ → List ℕ → ℕ → Answer
judge l [] n = answered n
judge l (p ∷ ps) n = let rest = judge l ps (n + length (kept (expand l p))) in unless_fault (command_fault l p) p rest

-- what its commands say of a list, whatever its length: the number of writes in its expansion, or the refusal
unfoldable pub judged : List ℕ → Answer
judged l = judge l (commands l 0) 0

-- THE VERDICT: 15 where the words aren't a multiple of 4, before any command; else what its commands say
unfoldable pub verdict : List ℕ → Answer
verdict l = pick (legal l) (judged l) (refused 15 0)

-- each write of a run is allowed
unfoldable pub all_allowed : List Write → Bool
all_allowed [] = true
all_allowed (w ∷ ws) = allowed w.id w.mask && all_allowed ws
