-- A reader that is opened, fed parts and closed: what each call answers, the progress, which is the reader's memory, and what it leaves of
-- the two states. A buffer of wrong length is refusal 6 at any of the three and changes nothing; a refused opening or feeding hands back no
-- progress, so that the caller's stays.
use Rattle.std.specs.Prelude.{Bool, ◌&&◌, List, ℕ, Result, Ok, Err}
use Rattle.numbers.specs.Pick.{pick}
use Rattle.numbers.specs.Answer.{Answer, answered, refused, Answers, besides}
use Rattle.registers.specs.State.{State, sized}
use Rattle.registers.specs.Applied.{apply_all}
use Rattle.copies.specs.Copy.{taken}
use Rattle.reader.specs.Read.{if_answered}
use Rattle.parts.specs.Progress.{fresh, after, made, held_at, counted, onward, closing}
use Rattle.parts.specs.declared.Progress.{Progress}
use Rattle.words.specs.Reasons.{number_of}
use Rattle.words.specs.declared.Reason.TheVariants.{BufferLength}
use Rattle.words.specs.declared.Refusal.{Refusal}

-- the document's number and values for each case: how many words have come, or the refusal
abbrev pub told : Result Progress Refusal → Answer
told (Ok p) = answered p.come
told (Err r) = refused (number_of r.reason) r.place

abbrev pub wrong_length : Result Progress Refusal
wrong_length = Err (record { reason = BufferLength; place = 0 })

abbrev pub both_sized : State → State → Bool
both_sized live spare = sized live && sized spare

-- OPENING: a fresh progress, and the spare state takes the live one's held bits and entries
unfoldable pub opening : State → State → Result Progress Refusal
opening live spare = pick (both_sized live spare) (Ok fresh) wrong_length

-- which tells 0
unfoldable pub open_answer : State → State → Answer
open_answer live spare = pick (both_sized live spare) (answered 0) (refused 6 0)

unfoldable pub opened_spare : State → State → State
opened_spare live spare = pick (both_sized live spare) (taken spare live) spare

-- FEEDING a part: the progress after it, with the count of words held
abbrev pub fed : Progress → State → List ℕ → Progress
fed p spare part = counted (onward p spare part)

unfoldable pub feeding : Progress → State → List ℕ → Result Progress Refusal
feeding p spare part = pick (sized spare) (Ok (fed p spare part)) wrong_length

-- which tells how many words have come, held at 65,537
unfoldable pub feed_answer : Progress → State → List ℕ → Answer
feed_answer p spare part = pick (sized spare) (answered (held_at (after p part).come)) (refused 6 0)

-- and the spare state is left as the writes that its words make leave it
unfoldable pub fed_spare : Progress → State → List ℕ → State
fed_spare p spare part = pick (sized spare) (apply_all spare (made p part)) spare

-- CLOSING: the verdict
unfoldable pub close_answer : Progress → State → State → Answer
close_answer p live spare = pick (both_sized live spare) (closing p) (refused 6 0)

-- with, besides the number of writes, how many of them made a difference; a refusal gives neither
unfoldable pub close_answers : Progress → State → State → Answers
close_answers p live spare = besides (close_answer p live spare) p.differences

-- then the reader is as freshly opened
unfoldable pub close_progress : Progress → State → State → Progress
close_progress p live spare = pick (both_sized live spare) fresh p

-- on acceptance the live state takes the held bits and entries of the spare
unfoldable pub closed_live : Progress → State → State → State
closed_live p live spare = pick (both_sized live spare) (if_answered (closing p) (taken live spare) live) live

-- on any refusal but 6 the spare takes those of the live
unfoldable pub closed_spare : Progress → State → State → State
closed_spare p live spare = pick (both_sized live spare) (if_answered (closing p) spare (taken spare live)) spare
