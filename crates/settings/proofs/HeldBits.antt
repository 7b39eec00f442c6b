-- The settings are read from held bits only: each field of the table lies within the bits that its register holds. Assumes nothing.
use mathlib.Core.Path.{◌≡◌, refl, sym, ◌∙◌}
use mathlib.Core.Bool.{Bool, true, ◌&&◌}
use mathlib.Core.List.{List, [], ◌∷◌, map}
use Prim.Native.Nat.{ℕ, zero, suc, ◌+◌, ◌-◌, ◌/◌, ◌^◌}
use native.Mathlib.Nat.{mod-mod}
use native.Mathlib.Omega.{arith}
use lib.Bits.{bit_and, and_shr, and_mod, and_mask}
use lib.Dec.{T, eqb, eqb→eq}
use lib.ListN.{get_or}
use Rattle.numbers.proofs.Tests.{both}
use Rattle.registers.specs.Held.{held, bits_in, bits_of}
use Rattle.settings.specs.Ranges.{from, bits, in_cells}
use Rattle.settings.specs.Fields.{Field, field_table, raw_in}
use Rattle.settings.specs.Settings.{settings_in}
use Rattle.settings.proofs.Table.{table_decides}

from_div : (n x : ℕ) → from n x ≡ x / 2 ^ n
from_div zero x = omega arith
from_div (suc n) x = refl

-- a range of a conjunction is the conjunction of the ranges
bits_and : (x m a b : ℕ) → bits (bit_and x m) a b ≡ bit_and (bits x a b) (bits m a b)
bits_and x m a b =
    rw (from_div a (bit_and x m), from_div a x, from_div a m, and_shr x m a, and_mod (x / 2 ^ a) (m / 2 ^ a) (b - a + 1))

-- a range in which m has ones only
bits_held : (x m a b : ℕ) → bits m a b ≡ 2 ^ (b - a + 1) - 1 → bits (bit_and x m) a b ≡ bits x a b
bits_held x m a b h =
    bits_and x m a b ∙ rw h (and_mask (bits x a b) (b - a + 1) ∙ mod-mod (from a x) (2 ^ (b - a + 1)))

-- a field lies within the held bits
inside : Field → Bool
inside f = eqb (bits (bits_of f.id) f.first f.last) (2 ^ (f.last - f.first + 1) - 1)

all_inside : List Field → Bool
all_inside [] = true
all_inside (f ∷ fs) = inside f && all_inside fs

-- one test, computed over the table
table_inside : T (all_inside field_table)
unfolding inside all_inside field_table bits_of bits_in held
table_inside = tt

module _ (cells cells' : List ℕ) (agree : (i : ℕ) → bit_and (get_or cells i 0) (bits_of i) ≡ bit_and (get_or cells' i 0) (bits_of i)) where
  same_field : (f : Field) → T (inside f) → raw_in (in_cells cells) f ≡ raw_in (in_cells cells') f
  unfolding inside
  same_field f t =
      let m = bits_of f.id in
      let h = eqb→eq (bits m f.first f.last) (2 ^ (f.last - f.first + 1) - 1) t in
      sym (bits_held (get_or cells f.id 0) m f.first f.last h)
      ∙ rw (agree f.id) (bits_held (get_or cells' f.id 0) m f.first f.last h)

  same_fields : (fs : List Field) → T (all_inside fs) → map (raw_in (in_cells cells)) fs ≡ map (raw_in (in_cells cells')) fs
  unfolding all_inside
  same_fields [] t = refl
  same_fields (f ∷ fs) t =
      let u = both (inside f) (all_inside fs) t in
      rw (same_field f u.0, same_fields fs u.1)

-- cells that agree on the held bits have the same settings
pub same_settings : (cells cells' : List ℕ) → ((i : ℕ) → bit_and (get_or cells i 0) (bits_of i) ≡ bit_and (get_or cells' i 0) (bits_of i))
    → settings_in (in_cells cells) ≡ settings_in (in_cells cells')
same_settings cells cells' agree =
    table_decides (in_cells cells) (in_cells cells') (same_fields cells cells' agree field_table table_inside)
