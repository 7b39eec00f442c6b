-- What is wrong with the writes given: 7, 8, then each write in order for 9, 3, 4, 5 with its index.
use Rattle.std.specs.Prelude.{ℕ, ◌+◌, List, [], ◌∷◌, length, nat_le, nat_lt, Result, Ok, Err}
use Rattle.numbers.specs.Pick.{pick}
use Rattle.numbers.specs.Answer.{Answer, answered, refused, unless_fault}
use Rattle.numbers.specs.Room.{level}
use Rattle.words.specs.Writes.{Write, fault_of}
use Rattle.runs.specs.PackedList.{writes}
use Rattle.words.specs.Reasons.{number_of}
use Rattle.words.specs.declared.Refusal.{Refusal}

-- the number of a write's refusal, 0 for none: 9 mask above 15, then the fault that the reader finds
abbrev pub wrong : ℕ → ℕ → ℕ
wrong i m = pick (nat_lt 15 m) 9 (fault_of i m)

-- the refusal of the first write that has one, with its index, counted from i
unfoldable pub first_wrong : ℕ → List Write → Answer
first_wrong i [] = answered 0
first_wrong i (w ∷ ws) = let rest = first_wrong (i + 1) ws in unless_fault (wrong w.id w.mask) i rest

-- 7 the lengths differ, 8 over 4,096 writes, then the writes
unfoldable pub check_answer : List ℕ → List ℕ → List ℕ → Answer
check_answer is ms vs =
    pick (level is ms vs)
    (pick (nat_le (length is) 4096) (first_wrong 0 (writes is ms vs)) (refused 8 0))
    (refused 7 0)

-- the document's number and values for each case
abbrev pub found : Result (Unit {0}) Refusal → Answer
found (Ok fine) = answered 0
found (Err r) = refused (number_of r.reason) r.place
