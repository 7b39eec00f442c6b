-- What laying out goes by: the step of a command by the ids of its first two writes, and the words of a short one. Not of the document.
use Rattle.std.specs.Prelude.{List, ℕ, ◌+◌, ◌-◌, ltb, eqb, get_or, set}
use Rattle.numbers.specs.Pick.{pick}

-- bit 31 of a command of k writes from i on: clear for a lone write, and where the next has the same id
abbrev pub step_at : List ℕ → ℕ → ℕ → ℕ
step_at is i k = pick (ltb k 2) 0 (pick (eqb (get_or is (i + 1) 0) (get_or is i 0)) 0 1)

-- the space with what follows the first two words of a command of k writes from i on, fewer than four: nothing for a lone write, else the
-- second parameter, and the third or the padding word
abbrev pub after_short : List ℕ → ℕ → ℕ → List ℕ → ℕ → List ℕ
after_short vs i k space at =
    pick (ltb k 2) space (set (set space (at + 2) (get_or vs (i + 1) 0)) (at + 3) (pick (eqb k 3) (get_or vs (i + k - 1) 0) 0))
