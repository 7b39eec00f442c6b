-- "Numbers given back": the document's number for each reason to refuse; 15 and 22 are document 02's.
use Rattle.std.specs.Prelude.{ℕ, Option, Some, None, Result, Ok, Err}
use Rattle.numbers.specs.Answer.{Answer, answered, refused}
use Rattle.words.specs.declared.Reason.{Reason}
use Rattle.words.specs.declared.Reason.TheVariants as reason
use Rattle.words.specs.declared.Refusal.{Refusal}

abbrev pub number_of : Reason → ℕ
number_of reason.ListTooLong = 1
number_of reason.WordsMissing = 2
number_of reason.IdAbove2ff = 3
number_of reason.JumpRegister = 4
number_of reason.PortMask = 5
number_of reason.BufferLength = 6
number_of reason.LengthsDiffer = 7
number_of reason.TooManyWrites = 8
number_of reason.MaskAbove15 = 9
number_of reason.NoRoom = 10
number_of reason.DepthAboveLargest = 12
number_of reason.CodeWithoutName = 13
number_of reason.NotBuilt = 14
number_of reason.IllegalLength = 15
number_of reason.TooFewPlaces = 22

-- the number of a reason where there is one, 0 for none
abbrev pub numbered : Option Reason → ℕ
numbered None = 0
numbered (Some r) = number_of r

-- the document's number and values for each case of an answer that is a number or a refusal
abbrev pub told : Result ℕ Refusal → Answer
told (Ok n) = answered n
told (Err r) = refused (number_of r.reason) r.place

-- the same of whatever refuses, whose number and place the two functions tell
abbrev pub told_by : {R : Type 0} → (R → ℕ) → (R → ℕ) → Result ℕ R → Answer
told_by number place (Ok n) = answered n
told_by number place (Err r) = refused (number r) (place r)
