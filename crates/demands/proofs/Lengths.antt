-- A write changes no length, so what has a state's lengths keeps them. Assumes nothing.
use mathlib.Core.Path.{◌≡◌, refl}
use mathlib.Core.List.{List}
use Prim.Native.Nat.{ℕ}
use lib.Bits.{bit_and}
use lib.Dec.{eqb}
use lib.ListN.{length, get_or, length-set}
use Rattle.numbers.specs.Bits.{spread, merge}
use Rattle.numbers.proofs.Picks.{pick_either}
use Rattle.words.specs.Writes.{Write, fog_data, light_data}
use Rattle.registers.specs.State.{State, sized}
use Rattle.registers.specs.Held.{bits_of}
use Rattle.ports.specs.Ports.{entry, rise, fog_index, fog_cells, fog_entries, light_table, light_place, named, light_cells, light_entries}
use Rattle.registers.specs.Applied.{cells_after, put, apply}

pub fog_cells_long : (c : List ℕ) → length (fog_cells c) ≡ length c
unfolding fog_cells
fog_cells_long c = length-set c 0xE6 (rise 128 (get_or c 0xE6 0))

pub fog_long_law : (c f : List ℕ) (v : ℕ) → length (fog_entries c f v) ≡ length f
unfolding fog_entries
fog_long_law c f v = length-set f (fog_index c) (entry (get_or f (fog_index c) 0) v)

pub light_cells_long : (c : List ℕ) → length (light_cells c) ≡ length c
unfolding light_cells
light_cells_long c = length-set c 0x1C5 (rise 256 (get_or c 0x1C5 0))

pub light_long_law : (c l : List ℕ) (v : ℕ) → length (light_entries c l v) ≡ length l
unfolding light_entries
light_long_law c l v =
    pick_either (λ (k : List ℕ). length k ≡ length l) (named (light_table c))
    (length-set l (light_place c) (entry (get_or l (light_place c) 0) v)) refl

pub cells_long_law : (c : List ℕ) (i e v : ℕ) → length (cells_after c i e v) ≡ length c
unfolding cells_after
cells_long_law c i e v =
    pick_either (λ (k : List ℕ). length k ≡ length c) (eqb (bits_of i) 0) refl
    (length-set c i (merge (bit_and (bits_of i) e) (get_or c i 0) v))

pub apply_sized : (s : State) (w : Write) → sized (apply s w) ≡ sized s
unfolding put
apply_sized s w =
    let P : State → Type 0 = λ x. sized x ≡ sized s in
    pick_either P (fog_data w.id) (rw (fog_cells_long s.cells, fog_long_law s.cells s.fog w.value))
    (pick_either P (light_data w.id) (rw (light_cells_long s.cells, light_long_law s.cells s.light w.value))
    (rw (cells_long_law s.cells w.id (spread w.mask) w.value)))
