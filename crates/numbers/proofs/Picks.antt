-- What holds of both things that a test chooses between holds of the choice. Assumes nothing.
use mathlib.Core.Bool.{Bool, true, false}
use Rattle.numbers.specs.Pick.{pick}

pub pick_either : {A : Type 0} (P : A → Type 0) (b : Bool) {x y : A} → P x → P y → P (pick b x y)
pick_either P true p q = p
pick_either P false p q = q
