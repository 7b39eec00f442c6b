-- What reading a list into a state answers, and the state that it leaves: 6, then 1, then the verdict, 15 first. Besides the number of
-- writes in its expansion an accepted list gives how many of them made a difference.
use Rattle.std.specs.Prelude.{List, ℕ, leb, length, Result, Ok, Err}
use Rattle.numbers.specs.Pick.{pick}
use Rattle.numbers.specs.Answer.{Answer, answered, refused, Answers, both, neither, besides}
use Rattle.words.specs.Commands.{expansion}
use Rattle.registers.specs.State.{State, sized}
use Rattle.registers.specs.Applied.{apply_all, differences}
use Rattle.reader.specs.ListVerdict.{verdict}
use Rattle.words.specs.Reasons.{number_of}
pub use Rattle.words.specs.Reasons.{told}
use Rattle.words.specs.declared.Refusal.{Refusal}
use Rattle.reader.specs.declared.Counts.{Counts}

-- THE NUMBERS of a verdict on a list alone are those of `told`. Of what a reading answers they are the number of writes, and how many of them made a difference; or the refusal
abbrev pub told_both : Result Counts Refusal → Answers
told_both (Ok c) = both c.writes c.differences
told_both (Err r) = neither (number_of r.reason) r.place

-- the number of writes, or the refusal
unfoldable pub read_answer : State → List ℕ → Answer
read_answer s l = pick (sized s) (pick (leb (length l) 65536) (verdict l) (refused 1 0)) (refused 6 0)

-- the second number is the count over the expansion, each write judged on the state left by those before it; a refusal gives neither
unfoldable pub read_answers : State → List ℕ → Answers
read_answers s l = besides (read_answer s l) (differences s (expansion l))

-- the one state where a call answered, the other where it refused
abbrev pub if_answered : Answer → State → State → State
if_answered (answered n) changed same = changed
if_answered (refused r p) changed same = same

-- an accepted list leaves what its expansion leaves, one masked write after another; a refused one changes nothing
unfoldable pub read_state : State → List ℕ → State
read_state s l = if_answered (read_answer s l) (apply_all s (expansion l)) s
