-- One write alone, on a state: refusals 6, 9, 3, 4, 5 in this order, place 0; a refusal changes nothing.
use Rattle.std.specs.Prelude.{Bool, ℕ, zero, suc, ltb, Result, Ok, Err}
use Rattle.numbers.specs.Pick.{pick}
use Rattle.numbers.specs.Answer.{Answer, answered, refused, unless_fault}
use Rattle.words.specs.Writes.{Write, fault_of}
use Rattle.registers.specs.State.{State, sized}
use Rattle.registers.specs.Applied.{apply, difference}
use Rattle.words.specs.Reasons.{number_of}
use Rattle.words.specs.declared.Refusal.{Refusal}

-- the document's number and place for each refusal; a write that is done gives 1 where it made a difference, else 0
abbrev pub told : Result Bool Refusal → Answer
told (Ok d) = answered (pick d 1 0)
told (Err r) = refused (number_of r.reason) r.place

-- the number of its refusal, 0 for none
unfoldable pub refusal_of : State → Write → ℕ
refusal_of s w = pick (sized s) (pick (ltb 15 w.mask) 9 (fault_of w.id w.mask)) 6

abbrev pub unless : ℕ → State → State → State
unless zero changed kept = changed
unless (suc n) changed kept = kept

abbrev pub write_answer : State → Write → Answer
write_answer s w = unless_fault (refusal_of s w) 0 (answered (difference s w))

abbrev pub write_state : State → Write → State
write_state s w = unless (refusal_of s w) (apply s w) s
