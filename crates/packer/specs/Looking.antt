-- What the packer's code knows of writes that it has looked at. Not of the document.
use Rattle.std.specs.Prelude.{◌≡◌, ℕ, Bool, true, List, Result, Ok, Err}
use Rattle.numbers.specs.Answer.{answered, refused}
use Rattle.words.specs.Writes.{Write, kept}
use Rattle.runs.specs.PackedList.{writes}
use Rattle.packer.specs.Checks.{first_wrong, check_answer}
use Rattle.words.specs.Reasons.{number_of}
use Rattle.words.specs.declared.Refusal.{Refusal}

-- of writes, numbered from i, none is refused and none has mask 0
pub record Clear (i : ℕ) (ws : List Write) : Type 0 where
  pub right : first_wrong i ws ≡ answered 0
  pub live : kept ws ≡ ws

-- what a look at the writes given says of them
abbrev pub Looks : List ℕ → List ℕ → List ℕ → Result Bool Refusal → Type 0
Looks is ms vs (Ok live) = (check_answer is ms vs ≡ answered 0) × (live ≡ true → kept (writes is ms vs) ≡ writes is ms vs)
Looks is ms vs (Err r) = check_answer is ms vs ≡ refused (number_of r.reason) r.place
