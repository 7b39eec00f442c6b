-- What one write does, case by case, by the tests that code makes. Assumes nothing.
use mathlib.Core.Path.{◌≡◌}
use mathlib.Core.Bool.{true, false}
use Prim.Native.Nat.{ℕ}
use lib.Bits.{bit_and}
use lib.ListN.{get_or, set}
use borrow.Author.Tests.{ne_eqb}
use Rattle.numbers.specs.Bits.{merge}
use Rattle.words.specs.Writes.{fog_data, light_data}
use Rattle.ports.specs.Ports.{fog_cells, fog_entries, light_cells, light_entries}
use Rattle.registers.specs.State.{State, st}
use Rattle.registers.specs.Held.{bits_of}
use Rattle.registers.specs.Applied.{cells_after, put}
use Rattle.registers.proofs.Lookup.{held_has}

module _ (s : State) (i e v : ℕ) where
  pub put_fog_data : fog_data i ≡ true → put s i e v ≡ st (fog_cells s.cells) (fog_entries s.cells s.fog v) s.light
  unfolding put
  put_fog_data f = rw f

  pub put_light_data : fog_data i ≡ false → light_data i ≡ true
      → put s i e v ≡ st (light_cells s.cells) s.fog (light_entries s.cells s.light v)
  unfolding put
  put_light_data f g = rw (f, g)

  pub put_held : (bits_of i ≡ 0 → ⊥)
      → put s i e v ≡ st (set s.cells i (merge (bit_and (bits_of i) e) (get_or s.cells i 0) v)) s.fog s.light
  unfolding put cells_after
  put_held h = let b = held_has i h in rw (b.no_fog, b.no_light, ne_eqb (bits_of i) 0 h)

  -- an allowed write to any other id changes nothing
  pub put_free : fog_data i ≡ false → light_data i ≡ false → bits_of i ≡ 0 → put s i e v ≡ s
  unfolding put cells_after
  put_free f g b = rw (f, g, b)
