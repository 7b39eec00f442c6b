-- What `head_at` answers: the header taken apart into id, mask, count and step, or refused with 2 where the command's words aren't
-- all there.
use Rattle.std.specs.Prelude.{List, [], ◌∷◌, ℕ, Option, Some, None, Result, Ok, Err}
use Rattle.numbers.specs.Pick.{pick}
use Rattle.words.specs.Header.{id_of, mask_of, count_of, step_of}
use Rattle.words.specs.Commands.{header_at, whole}
use Rattle.words.specs.declared.Header.{Header}
use Rattle.words.specs.Reasons.{number_of}
use Rattle.words.specs.declared.Reason.TheVariants.{WordsMissing}
use Rattle.words.specs.declared.Refusal.{Refusal}

abbrev pub parts_of : ℕ → Header
parts_of h = record { id = id_of h; mask = mask_of h; count = count_of h; step = step_of h }

unfoldable pub head_of : List ℕ → ℕ → Result Header Refusal
head_of l at = pick (whole l at) (Ok (parts_of (header_at l at))) (Err (record { reason = WordsMissing; place = at }))

-- the document's number and values for each case of the answer: 0 with id, mask, count and step, or the refusal's number with its place
abbrev pub told : Result Header Refusal → List ℕ
told (Ok h) = 0 ∷ h.id ∷ h.mask ∷ h.count ∷ h.step ∷ []
told (Err r) = number_of r.reason ∷ r.place ∷ []

unfoldable pub head_numbers : List ℕ → ℕ → List ℕ
head_numbers l at =
    let h = header_at l at in
    pick (whole l at) (0 ∷ id_of h ∷ mask_of h ∷ count_of h ∷ step_of h ∷ []) (2 ∷ at ∷ [])

-- the refusal that an answer holds; none where the header was taken apart
abbrev pub refusal_in : {R : Type 0} → Result Header R → Option R
refusal_in (Ok h) = None
refusal_in (Err r) = Some r
