-- The decoded state and the field table: the fields in order are the table's, and nothing else is read. Assumes nothing.
use mathlib.Core.Path.{◌≡◌, refl, ap, sym, ◌∙◌}
use mathlib.Core.Bool.{◌&&◌}
use mathlib.Core.List.{List, [], ◌∷◌, map}
use Prim.Native.Nat.{ℕ}
use lib.Dec.{eqb}
use lib.ListN.{length}
use Rattle.numbers.specs.Pick.{pick}
use Rattle.settings.specs.Ranges.{Registers}
use Rattle.settings.specs.Settings.{settings_in}
use Rattle.settings.specs.Fields.{Field, field_table, raw_in, word_in}
use Rattle.settings.specs.Flat.{flat}

pub table_length : length field_table ≡ 204
unfolding field_table
table_length = refl

-- the records' fields, in order, are those of the table
pub flat_table : (reg : Registers) → flat (settings_in reg) ≡ map (word_in reg) field_table
unfolding flat settings_in field_table
flat_table reg = refl

-- what stands in vs beside the field of the bits a..b of i
found : List Field → List ℕ → ℕ → ℕ → ℕ → ℕ
found [] vs i a b = 0
found (f ∷ fs) [] i a b = 0
found (f ∷ fs) (v ∷ vs) i a b = let later = found fs vs i a b in pick (eqb f.id i && eqb f.first a && eqb f.last b) v later

by_table : (reg : Registers) → settings_in reg ≡ settings_in (found field_table (map (raw_in reg) field_table))
unfolding settings_in field_table found
by_table reg = refl

-- where two readings agree on the fields of the table, they give the same state
pub table_decides : (reg reg' : Registers) → map (raw_in reg) field_table ≡ map (raw_in reg') field_table → settings_in reg
    ≡ settings_in reg'
table_decides reg reg' e =
    by_table reg ∙ ap (λ (vs : List ℕ). settings_in (found field_table vs)) e ∙ sym (by_table reg')
