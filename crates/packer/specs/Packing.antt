-- What packing answers, and what it leaves in the space: the refusals of the writes, then 10 where the space is shorter than the list
-- written, its pair included. Writes of mask 0 are checked, numbered and counted for 8 like any others; the list leaves them out.
use Rattle.std.specs.Prelude.{ℕ, List, length}
use Rattle.numbers.specs.Answer.{Answer}
use Rattle.numbers.specs.Room.{and_then, if_room, space_after}
use Rattle.runs.specs.PackedList.{writes, written}
use Rattle.packer.specs.Checks.{check_answer}
pub use Rattle.words.specs.Reasons.{told}

-- the words of the list where there is room for them, else 10 with the words needed
unfoldable pub pack_answer : List ℕ → List ℕ → List ℕ → ℕ → Answer
pack_answer is ms vs room = and_then (check_answer is ms vs) (if_room 10 (length (written (writes is ms vs))) room)

-- the list stands at the space's start, and the space past it keeps its contents; on a refusal all of it does
abbrev pub pack_space : List ℕ → List ℕ → List ℕ → List ℕ → List ℕ
pack_space is ms vs old = space_after (pack_answer is ms vs (length old)) (written (writes is ms vs)) old
