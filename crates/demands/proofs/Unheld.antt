-- Only held registers' held bits, and of the entries of named tables the low 24 bits, change: by one write and by any run of writes.
-- Assumes nothing.
use mathlib.Core.Path.{◌≡◌, refl, sym, ap, ◌∙◌}
use mathlib.Core.Bool.{Bool, true, false, not, ◌||◌, false≢true}
use mathlib.Core.List.{List, [], ◌∷◌}
use Prim.Native.Nat.{ℕ, ◌+◌, ◌-◌, ◌/◌, ◌^◌, ◌<◌, ◌≤◌}
use native.Mathlib.Nat.{div-div-eq-div-mul}
use native.Mathlib.Decide.{dec_lt}
use native.Mathlib.Omega.{arith}
use lib.Bits.{bit_and, and_le_r, and_zero_l}
use lib.Dec.{T, eqb, leb}
use borrow.Author.Tests.{eqb-true, eqb-false, eq-eqb, leb-true}
use lib.ListN.{length, get_or, set, replicate, length-replicate}
use lib.Pow.{pow-add}
use lib.Seq.{get_or-set_same, get_or-set_other, set_out}
use Rattle.numbers.specs.Pick.{pick}
use Rattle.numbers.specs.Bits.{bit, spread, merge}
use Rattle.numbers.proofs.Tests.{is_true}
use Rattle.numbers.proofs.Table.{every, at}
use Rattle.numbers.proofs.Picks.{pick_either}
use Rattle.numbers.proofs.Merge.{and_bit, merge_bit}
use Rattle.words.specs.Writes.{Write, fog_data, light_data}
use Rattle.registers.specs.State.{State, st}
use Rattle.registers.specs.Held.{held, bits_in, bits_of}
use Rattle.ports.specs.Ports.{entry, rise, fog_index, fog_cells, fog_entries, light_table, light_place, named, light_cells, light_entries}
use Rattle.registers.specs.Applied.{cells_after, put, apply, apply_all}

-- what f sees of a state stays by a write, where it stays by each of the three things that a write can do
module _ {A : Type 0} (f : State → A) where
  pub write_keeps : (s : State) (w : Write)
      → f (st (fog_cells s.cells) (fog_entries s.cells s.fog w.value) s.light) ≡ f s
      → f (st (light_cells s.cells) s.fog (light_entries s.cells s.light w.value)) ≡ f s
      → f (st (cells_after s.cells w.id (spread w.mask) w.value) s.fog s.light) ≡ f s
      → f (apply s w) ≡ f s
  unfolding put
  write_keeps s w fog light cells = go (fog_data w.id) (light_data w.id)
    where
      go : (a b : Bool)
          → f (pick a (st (fog_cells s.cells) (fog_entries s.cells s.fog w.value) s.light)
          (pick b (st (light_cells s.cells) s.fog (light_entries s.cells s.light w.value))
          (st (cells_after s.cells w.id (spread w.mask) w.value) s.fog s.light))) ≡ f s
      go true b = fog
      go false true = light
      go false false = cells

  -- and then by any run of writes
  pub run_keeps : ((s : State) (w : Write) → f (apply s w) ≡ f s) → (s : State) (ws : List Write) → f (apply_all s ws) ≡ f s
  unfolding apply_all
  run_keeps h s [] = refl
  run_keeps h s (w ∷ ws) = run_keeps h (apply s w) ws ∙ h s w

-- numbers that agree above their low n bits agree in each bit from n on
above_bit : (n k x y : ℕ) → n ≤ k → x / 2 ^ n ≡ y / 2 ^ n → bit k x ≡ bit k y
above_bit n k x y h e =
    let d : n + (k - n) ≡ k = omega arith in
    let split : (z : ℕ) → z / 2 ^ k ≡ z / 2 ^ n / 2 ^ (k - n) =
    λ z. sym (div-div-eq-div-mul z (2 ^ n) (2 ^ (k - n))
    ∙ ap (λ (m : ℕ). z / m) (sym (pow-add 2 n (k - n)) ∙ ap (λ (m : ℕ). 2 ^ m) d)) in
    rw (split x, split y, e)

-- what f sees of each element stays, where an element is set to one of which f sees the same
set_keeps : (f : ℕ → ℕ) (l : List ℕ) (i j v : ℕ) → (j ≡ i → f v ≡ f (get_or l i 0))
    → f (get_or (set l i v) j 0) ≡ f (get_or l j 0)
set_keeps f l i j v e = go (eqb j i) refl (dec_lt i (length l))
  where
    go : (b : Bool) → eqb j i ≡ b → Dec (i < length l) → f (get_or (set l i v) j 0) ≡ f (get_or l j 0)
    go false d q = rw (get_or-set_other l i j v 0 (eqb-false j i d))
    go true d (yes q) = let h = eqb-true j i d in rw (h, get_or-set_same l i v 0 q) (e h)
    go true d (no q) = rw (set_out l i v (omega arith))

-- the bits of a port's index cell that aren't held stand above its index
index_bit : ℕ → ℕ → ℕ → Bool
index_bit held n k = not (eqb (bit k held) 0) || leb n k

above : (a b : Bool) → (not a || b) ≡ true → a ≡ true → b ≡ true
above true b e h = e
above false b e h = absurd (false≢true h)

-- the test, computed over the 32 bits of a word, says so
index_from : (held n : ℕ) → T (every (λ k _. index_bit held n k) 0 (replicate 32 0)) → (k : ℕ) → k < 32 → bit k held ≡ 0
    → n ≤ k
unfolding index_bit
index_from held n test k b u =
    let t = at (λ k _. index_bit held n k) (replicate 32 0) test k (omega (arith, length-replicate {A = ℕ} 32 0)) in
    leb-true n k (above (eqb (bit k held) 0) (leb n k) (is_true (index_bit held n k) t) (eq-eqb (bit k held) 0 u))

fog_index_law : (k : ℕ) → k < 32 → bit k (bits_of 0xE6) ≡ 0 → 7 ≤ k
unfolding bits_of bits_in held index_bit
fog_index_law = index_from 0x7F 7 tt

light_index_law : (k : ℕ) → k < 32 → bit k (bits_of 0x1C5) ≡ 0 → 8 ≤ k
unfolding bits_of bits_in held index_bit
light_index_law = index_from 0x1FFF 8 tt

-- CELLS: a bit that isn't held stays, whatever the id and the mask
module _ (cells : List ℕ) (j k : ℕ) (b : k < 32) (u : bit k (bits_of j) ≡ 0) where
  unheld : {i : ℕ} → j ≡ i → bit k (bits_of i) ≡ 0
  unheld e = rw e at u

  fog_bit : bit k (get_or (fog_cells cells) j 0) ≡ bit k (get_or cells j 0)
  unfolding fog_cells
  fog_bit =
      set_keeps (bit k) cells 0xE6 j (rise 128 (get_or cells 0xE6 0))
      (λ e. above_bit 7 k (rise 128 (get_or cells 0xE6 0)) (get_or cells 0xE6 0) (fog_index_law k b (unheld e)) (omega arith))

  light_bit : bit k (get_or (light_cells cells) j 0) ≡ bit k (get_or cells j 0)
  unfolding light_cells
  light_bit =
      set_keeps (bit k) cells 0x1C5 j (rise 256 (get_or cells 0x1C5 0))
      (λ e. above_bit 8 k (rise 256 (get_or cells 0x1C5 0)) (get_or cells 0x1C5 0) (light_index_law k b (unheld e)) (omega arith))

  merged_bit : (i m v : ℕ) → j ≡ i → bit k (merge (bit_and (bits_of i) (spread m)) (get_or cells i 0) v) ≡ bit k (get_or cells i 0)
  merged_bit i m v e =
      merge_bit k (bit_and (bits_of i) (spread m)) (get_or cells i 0) v (omega (arith, and_le_r (bits_of i) (spread m))) b
      ∙ rw (and_bit k (bits_of i) (spread m), unheld e, and_zero_l (bit k (spread m)))

  cell_kept : (i m v : ℕ) → bit k (get_or (cells_after cells i (spread m) v) j 0) ≡ bit k (get_or cells j 0)
  unfolding cells_after
  cell_kept i m v = go (eqb (bits_of i) 0)
    where
      go : (h : Bool)
          → bit k (get_or (pick h cells (set cells i (merge (bit_and (bits_of i) (spread m)) (get_or cells i 0) v))) j 0)
          ≡ bit k (get_or cells j 0)
      go true = refl
      go false = set_keeps (bit k) cells i j (merge (bit_and (bits_of i) (spread m)) (get_or cells i 0) v) (merged_bit i m v)

-- ENTRIES: the bits above the low 24 stay, and an unnamed table's entries stay whole
abbrev pub high : ℕ → ℕ
high x = x / 0x1000000

fog_high : (cells fog : List ℕ) (v j : ℕ) → high (get_or (fog_entries cells fog v) j 0) ≡ high (get_or fog j 0)
unfolding fog_entries
fog_high cells fog v j = set_keeps high fog (fog_index cells) j (entry (get_or fog (fog_index cells) 0) v) (λ e. omega arith)

light_high : (cells light : List ℕ) (v j : ℕ) → high (get_or (light_entries cells light v) j 0) ≡ high (get_or light j 0)
unfolding light_entries
light_high cells light v j =
    let p = light_place cells in
    pick_either (λ (l : List ℕ). high (get_or l j 0) ≡ high (get_or light j 0)) (named (light_table cells))
    (set_keeps high light p j (entry (get_or light p 0) v) (λ e. omega arith)) refl

light_unnamed : (cells light : List ℕ) (v j : ℕ) → named (j / 256) ≡ false
    → get_or (light_entries cells light v) j 0 ≡ get_or light j 0
unfolding light_entries
light_unnamed cells light v j u = go (named (light_table cells)) refl
  where
    p : ℕ
    p = light_place cells

    go : (n : Bool) → named (light_table cells) ≡ n
        → get_or (pick n (set light p (entry (get_or light p 0) v)) light) j 0 ≡ get_or light j 0
    go true n =
        set_keeps (λ x. x) light p j (entry (get_or light p 0) v)
        (λ e. let t : j / 256 ≡ light_table cells = omega arith in absurd (false≢true (sym u ∙ rw t n)))
    go false n = refl

-- THE STATEMENTS, of any state and any run of writes

-- "What a lent cell holds beside its held bits .. never changes, nor do cells of other ids": a bit that isn't held keeps its value
pub unheld_kept : (j k : ℕ) → k < 32 → bit k (bits_of j) ≡ 0 → (s : State) (ws : List Write)
    → bit k (get_or (apply_all s ws).cells j 0) ≡ bit k (get_or s.cells j 0)
unheld_kept j k b u =
    run_keeps (λ (s : State). bit k (get_or s.cells j 0))
    (λ s w.
    write_keeps (λ (s : State). bit k (get_or s.cells j 0)) s w (fog_bit s.cells j k b u) (light_bit s.cells j k b u)
    (cell_kept s.cells j k b u w.id w.mask w.value))

-- ".. or an entry beside its low 24"
pub fog_entries_only : (j : ℕ) (s : State) (ws : List Write) → high (get_or (apply_all s ws).fog j 0) ≡ high (get_or s.fog j 0)
fog_entries_only j =
    run_keeps (λ (s : State). high (get_or s.fog j 0))
    (λ s w. write_keeps (λ (s : State). high (get_or s.fog j 0)) s w (fog_high s.cells s.fog w.value j) refl refl)

pub light_entries_only : (j : ℕ) (s : State) (ws : List Write) → high (get_or (apply_all s ws).light j 0) ≡ high (get_or s.light j 0)
light_entries_only j =
    run_keeps (λ (s : State). high (get_or s.light j 0))
    (λ s w. write_keeps (λ (s : State). high (get_or s.light j 0)) s w refl (light_high s.cells s.light w.value j) refl)

-- "Tables 2, 7 and 18h-1Fh aren't named in 000: their entries never change"
pub unnamed_tables : (j : ℕ) → named (j / 256) ≡ false → (s : State) (ws : List Write)
    → get_or (apply_all s ws).light j 0 ≡ get_or s.light j 0
unnamed_tables j u =
    run_keeps (λ (s : State). get_or s.light j 0)
    (λ s w. write_keeps (λ (s : State). get_or s.light j 0) s w refl (light_unnamed s.cells s.light w.value j u) refl)
