-- A fault's number is 3, 4 or 5, so that a close tells it as it is. Assumes nothing.
use mathlib.Core.Path.{◌≡◌, refl}
use mathlib.Core.Bool.{Bool, true, false, not, ◌&&◌}
use mathlib.Core.List.{List, [], ◌∷◌}
use Prim.Native.Nat.{ℕ}
use lib.Dec.{eqb, ltb}
use borrow.Author.Tests.{ne_eqb}
use Rattle.numbers.specs.Pick.{pick}
use Rattle.words.specs.Writes.{Write, jumps, port_data, fault_of}
use Rattle.reader.specs.ListVerdict.{first_fault}
use Rattle.parts.specs.Progress.{fault_number}

abbrev Known : ℕ → Type 0
Known f = pick (eqb f 0) 0 (fault_number f) ≡ f

write_known : (a b c : Bool) → Known (pick a 3 (pick b 4 (pick c 5 0)))
write_known true b c = refl
write_known false true c = refl
write_known false false true = refl
write_known false false false = refl

first_known : (b : Bool) (w : Write) (rest : ℕ) → Known rest → Known (pick b rest (fault_of w.id w.mask))
unfolding fault_of
first_known true w rest k = k
first_known false w rest k = write_known (ltb 0x2FF w.id) (jumps w.id) (port_data w.id && not (eqb w.mask 15))

all_known : (ws : List Write) → Known (first_fault ws)
unfolding first_fault
all_known [] = refl
all_known (w ∷ ws) = first_known (eqb (fault_of w.id w.mask) 0) w (first_fault ws) (all_known ws)

pub number_known : (ws : List Write) (f : ℕ) → first_fault ws ≡ f → (f ≡ 0 → ⊥) → fault_number f ≡ f
number_known ws f e z = rw (e, ne_eqb f 0 z) at (all_known ws)
