-- What `decode` answers: the decoded state, or a refusal, 6 and then 13.
use Rattle.std.specs.Prelude.{Bool, ◌&&◌, List, [], ◌∷◌, ℕ, eqb, Result, Ok, Err}
use Rattle.numbers.specs.Pick.{pick}
use Rattle.registers.specs.State.{State, sized}
use Rattle.settings.specs.Ranges.{in_cells}
use Rattle.settings.specs.Settings.{settings_in}
use Rattle.decode.specs.Codes.{checks, lacks_at, lowest}
use Rattle.settings.specs.Flat.{flat}
use Rattle.settings.specs.declared.records.Settings.{Settings}
use Rattle.words.specs.Reasons.{number_of as reason_number}
use Rattle.words.specs.declared.Reason.{Reason}
use Rattle.words.specs.declared.Reason.TheVariants.{BufferLength, CodeWithoutName}
use Rattle.words.specs.declared.Refusal.{Refusal}

-- every field, or the refusal
abbrev pub Decoded : Type 0
Decoded = Result Settings Refusal

-- the document's number and values for each case: 0 and the fields, one word each; a refusal's number and its place
abbrev pub number_of : Decoded → ℕ
number_of (Ok s) = 0
number_of (Err r) = reason_number r.reason

abbrev pub values_of : Decoded → List ℕ
values_of (Ok s) = flat s
values_of (Err r) = r.place ∷ []

-- both as one list, the number first
abbrev pub told : Decoded → List ℕ
told d = number_of d ∷ values_of d

-- the fields of a state's cells
abbrev pub settings_of : State → Settings
settings_of s = settings_in (in_cells s.cells)

-- the register i holds a code without a name
abbrev pub nameless : State → ℕ → Bool
nameless s i = lacks_at (checks (settings_of s)) i

-- the lowest id that holds a code without a name, 0 for none
abbrev pub nameless_id : State → ℕ
nameless_id s = lowest (checks (settings_of s))

abbrev pub refusal : Reason → ℕ → Decoded
refusal r p = Err (record { reason = r; place = p })

unfoldable pub decoded_of : State → Decoded
decoded_of s =
    pick (sized s) (pick (eqb (nameless_id s) 0) (Ok (settings_of s)) (refusal CodeWithoutName (nameless_id s))) (refusal BufferLength 0)

-- NOT OF THE DOCUMENT: the two cases of `decoded_of` apart

-- it isn't refused
unfoldable pub decodable : State → Bool
decodable s = sized s && eqb (nameless_id s) 0

-- the refusal where it is
abbrev pub length_refusal : Refusal
length_refusal = record { reason = BufferLength; place = 0 }

abbrev pub code_refusal : ℕ → Refusal
code_refusal i = record { reason = CodeWithoutName; place = i }

unfoldable pub refusal_of : State → Refusal
refusal_of s = pick (sized s) (code_refusal (nameless_id s)) length_refusal
