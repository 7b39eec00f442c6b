-- What isn't held is never read: states that agree on the held bits and on the entries' low 24 bits agree on them after any run of writes.
-- Assumes nothing.
use mathlib.Core.Path.{◌≡◌, sym, ap, ◌∙◌}
use mathlib.Core.Bool.{Bool, true, false}
use mathlib.Core.List.{List, [], ◌∷◌}
use Prim.Native.Nat.{ℕ, ◌+◌, ◌*◌, ◌/◌, ◌%◌, ◌<◌}
use native.Mathlib.Omega.{arith}
use lib.Bits.{bit_and, and_mask}
use lib.Dec.{eqb}
use lib.ListN.{get_or, set}
use Rattle.numbers.specs.Pick.{pick}
use Rattle.numbers.specs.Bits.{spread, merge}
use Rattle.words.specs.Writes.{Write, fog_data, light_data}
use Rattle.registers.specs.State.{State, st}
use Rattle.registers.specs.Held.{held, bits_in, bits_of}
use Rattle.ports.specs.Ports.{entry, rise, fog_index, fog_cells, fog_entries, light_table, light_place, named, light_cells, light_entries}
use Rattle.registers.specs.Applied.{cells_after, put, apply, apply_all}
use Rattle.demands.proofs.Lengths.{fog_cells_long, fog_long_law, light_cells_long, light_long_law, cells_long_law}
use Rattle.demands.proofs.Alike.{Alike, held_in, low, set_alike, merge_alike}

-- the held bits of the light index, risen, go by the held bits alone
fold : (q a b : ℕ) → a < 32 → b < 256 → ((32 * q + a) * 256 + b) % 8192 ≡ a * 256 + b
fold q a b h l = omega arith

rise_low : (x : ℕ) → rise 256 x % 8192 ≡ rise 256 (x % 8192)
rise_low x =
    let high : x / 256 ≡ 32 * (x / 8192) + x % 8192 / 256 = omega arith in
    let index : x % 256 ≡ x % 8192 % 256 = omega arith in
    rw (high, index) (fold (x / 8192) (x % 8192 / 256) ((x % 8192 % 256 + 1) % 256) (omega arith) (omega arith))

module _ (s t : State) (a : Alike s t) where
  cells_alike : (i m v j : ℕ) → held_in (cells_after s.cells i (spread m) v) j ≡ held_in (cells_after t.cells i (spread m) v) j
  unfolding cells_after
  cells_alike i m v j = go (eqb (bits_of i) 0)
    where
      e : ℕ
      e = bit_and (bits_of i) (spread m)

      go : (b : Bool)
          → held_in (pick b s.cells (set s.cells i (merge e (get_or s.cells i 0) v))) j
          ≡ held_in (pick b t.cells (set t.cells i (merge e (get_or t.cells i 0) v))) j
      go true = a.cells j
      go false =
          set_alike (λ x. bit_and x (bits_of j)) s.cells t.cells i j (merge e (get_or s.cells i 0) v) (merge e (get_or t.cells i 0) v)
          a.cells_long (a.cells j) (λ c. rw c (merge_alike i m v (get_or s.cells i 0) (get_or t.cells i 0) (a.cells i)))

  -- THE PORTS' INDEXES are held, and so are what names an entry
  fog_named : get_or s.cells 0xE6 0 % 128 ≡ get_or t.cells 0xE6 0 % 128
  unfolding bits_of bits_in held
  fog_named = sym (and_mask (get_or s.cells 0xE6 0) 7) ∙ a.cells 0xE6 ∙ and_mask (get_or t.cells 0xE6 0) 7

  light_named : get_or s.cells 0x1C5 0 % 8192 ≡ get_or t.cells 0x1C5 0 % 8192
  unfolding bits_of bits_in held
  light_named = sym (and_mask (get_or s.cells 0x1C5 0) 13) ∙ a.cells 0x1C5 ∙ and_mask (get_or t.cells 0x1C5 0) 13

  fog_cells_law : (j : ℕ) → held_in (fog_cells s.cells) j ≡ held_in (fog_cells t.cells) j
  unfolding fog_cells bits_of bits_in held
  fog_cells_law j =
      let x = get_or s.cells 0xE6 0 in
      let y = get_or t.cells 0xE6 0 in
      set_alike (λ x. bit_and x (bits_of j)) s.cells t.cells 0xE6 j (rise 128 x) (rise 128 y) a.cells_long (a.cells j)
      (λ c. rw c (and_mask (rise 128 x) 7 ∙ omega (arith, fog_named) ∙ sym (and_mask (rise 128 y) 7)))

  light_cells_law : (j : ℕ) → held_in (light_cells s.cells) j ≡ held_in (light_cells t.cells) j
  unfolding light_cells bits_of bits_in held
  light_cells_law j =
      let x = get_or s.cells 0x1C5 0 in
      let y = get_or t.cells 0x1C5 0 in
      set_alike (λ x. bit_and x (bits_of j)) s.cells t.cells 0x1C5 j (rise 256 x) (rise 256 y) a.cells_long (a.cells j)
      (λ c.
      rw c (and_mask (rise 256 x) 13 ∙ rise_low x ∙ ap (λ (z : ℕ). rise 256 z) light_named ∙ sym (rise_low y)
      ∙ sym (and_mask (rise 256 y) 13)))

  fog_entries_law : (v j : ℕ) → low (fog_entries s.cells s.fog v) j ≡ low (fog_entries t.cells t.fog v) j
  unfolding fog_entries
  fog_entries_law v j =
      rw fog_named
      (set_alike (λ x. x % 0x1000000) s.fog t.fog (fog_index t.cells) j _ _ a.fog_long (a.fog j) (λ c. omega arith))

  light_places : (light_table s.cells ≡ light_table t.cells) × (light_place s.cells ≡ light_place t.cells)
  light_places = (omega (arith, light_named), omega (arith, light_named))

  light_entries_law : (v j : ℕ) → low (light_entries s.cells s.light v) j ≡ low (light_entries t.cells t.light v) j
  unfolding light_entries
  light_entries_law v j = rw (light_places.1, light_places.0) (go (named (light_table t.cells)))
    where
      go : (n : Bool)
          → low (pick n (set s.light (light_place t.cells) (entry (get_or s.light (light_place t.cells) 0) v)) s.light) j
          ≡ low (pick n (set t.light (light_place t.cells) (entry (get_or t.light (light_place t.cells) 0) v)) t.light) j
      go true =
          set_alike (λ x. x % 0x1000000) s.light t.light (light_place t.cells) j _ _ a.light_long (a.light j) (λ c. omega arith)
      go false = a.light j

  -- ONE WRITE, in each of the three things that it can do
  fog_done : (v : ℕ)
      → Alike (st (fog_cells s.cells) (fog_entries s.cells s.fog v) s.light)
      (st (fog_cells t.cells) (fog_entries t.cells t.fog v) t.light)
  fog_done v =
      record {
        cells = fog_cells_law;
        fog = fog_entries_law v;
        light = a.light;
        cells_long = fog_cells_long s.cells ∙ a.cells_long ∙ sym (fog_cells_long t.cells);
        fog_long = fog_long_law s.cells s.fog v ∙ a.fog_long ∙ sym (fog_long_law t.cells t.fog v);
        light_long = a.light_long;
      }

  light_done : (v : ℕ)
      → Alike (st (light_cells s.cells) s.fog (light_entries s.cells s.light v))
      (st (light_cells t.cells) t.fog (light_entries t.cells t.light v))
  light_done v =
      record {
        cells = light_cells_law;
        fog = a.fog;
        light = light_entries_law v;
        cells_long = light_cells_long s.cells ∙ a.cells_long ∙ sym (light_cells_long t.cells);
        fog_long = a.fog_long;
        light_long = light_long_law s.cells s.light v ∙ a.light_long ∙ sym (light_long_law t.cells t.light v);
      }

  cell_done : (i m v : ℕ)
      → Alike (st (cells_after s.cells i (spread m) v) s.fog s.light)
      (st (cells_after t.cells i (spread m) v) t.fog t.light)
  cell_done i m v =
      record {
        cells = cells_alike i m v;
        fog = a.fog;
        light = a.light;
        cells_long = cells_long_law s.cells i (spread m) v ∙ a.cells_long ∙ sym (cells_long_law t.cells i (spread m) v);
        fog_long = a.fog_long;
        light_long = a.light_long;
      }

  pub write_alike : (w : Write) → Alike (apply s w) (apply t w)
  unfolding put
  write_alike w = go (fog_data w.id) (light_data w.id)
    where
      go : (f g : Bool)
          → Alike
          (pick f (st (fog_cells s.cells) (fog_entries s.cells s.fog w.value) s.light)
          (pick g (st (light_cells s.cells) s.fog (light_entries s.cells s.light w.value))
          (st (cells_after s.cells w.id (spread w.mask) w.value) s.fog s.light)))
          (pick f (st (fog_cells t.cells) (fog_entries t.cells t.fog w.value) t.light)
          (pick g (st (light_cells t.cells) t.fog (light_entries t.cells t.light w.value))
          (st (cells_after t.cells w.id (spread w.mask) w.value) t.fog t.light)))
      go true g = fog_done w.value
      go false true = light_done w.value
      go false false = cell_done w.id w.mask w.value

-- "What a lent cell holds beside its held bits, or an entry beside its low 24, is never read"
pub never_read : (s t : State) → Alike s t → (ws : List Write) → Alike (apply_all s ws) (apply_all t ws)
unfolding apply_all
never_read s t a [] = a
never_read s t a (w ∷ ws) = never_read (apply s w) (apply t w) (write_alike s t a w) ws
