-- A state's cells stay 32-bit words, whatever is written. Assumes nothing.
use mathlib.Core.Path.{◌≡◌, refl}
use mathlib.Core.Bool.{Bool, true, false, ◌&&◌}
use mathlib.Core.List.{List, [], ◌∷◌}
use Prim.Native.Nat.{ℕ, ◌<◌}
use native.Mathlib.Decide.{dec_lt}
use native.Mathlib.Omega.{arith}
use lib.Bits.{bit_and, and_le_l}
use lib.Dec.{eqb, ltb}
use lib.ListN.{length, get_or, set}
use lib.Seq.{get_or-set_same, get_or-set_other, set_out}
use borrow.Author.Tests.{eqb-true, eqb-false, ltb-true}
use Rattle.numbers.proofs.Tests.{and_true}
use Rattle.numbers.specs.Pick.{pick}
use Rattle.numbers.specs.Bits.{spread, merge}
use Rattle.numbers.proofs.Picks.{pick_either}
use Rattle.numbers.proofs.Merge.{merge_word}
use Rattle.words.specs.Writes.{Write, fog_data, light_data}
use Rattle.ports.specs.Ports.{rise, fog_cells, light_cells}
use Rattle.registers.specs.State.{State, Words32}
use Rattle.registers.specs.Held.{Row, held, bits_in, bits_of}
use Rattle.registers.specs.Applied.{cells_after, put, apply, apply_all}

-- held bits are below 2^32
small : List Row → Bool
small [] = true
small (r ∷ rs) = ltb r.bits 0x100000000 && small rs

row_small : (rs : List Row) (j : ℕ) → small rs ≡ true → bits_in rs j < 0x100000000
unfolding bits_in small
row_small [] j t = omega arith
row_small (r ∷ rs) j t =
    let u = and_true (ltb r.bits 0x100000000) (small rs) t in
    pick_either (λ n. n < 0x100000000) (eqb r.id j) (ltb-true r.bits 0x100000000 u.0) (row_small rs j u.1)

pub held_small : (j : ℕ) → bits_of j < 0x100000000
unfolding bits_of small held
held_small j = row_small held j refl

set_small : (l : List ℕ) (i v : ℕ) → Words32 l → v < 0x100000000 → Words32 (set l i v)
set_small l i v h b j = go (eqb j i) refl (dec_lt i (length l))
  where
    go : (t : Bool) → eqb j i ≡ t → Dec (i < length l) → get_or (set l i v) j 0 < 0x100000000
    go false d q = rw (get_or-set_other l i j v 0 (eqb-false j i d)) (h j)
    go true d (yes q) = rw (eqb-true j i d, get_or-set_same l i v 0 q) b
    go true d (no q) = rw (set_out l i v (omega arith)) (h j)

pub fog_words : (c : List ℕ) → Words32 c → Words32 (fog_cells c)
unfolding fog_cells
fog_words c h j = set_small c 0xE6 (rise 128 (get_or c 0xE6 0)) h (omega (arith, h 0xE6)) j

pub light_words : (c : List ℕ) → Words32 c → Words32 (light_cells c)
unfolding light_cells
light_words c h j = set_small c 0x1C5 (rise 256 (get_or c 0x1C5 0)) h (omega (arith, h 0x1C5)) j

pub cell_words : (c : List ℕ) (i e v : ℕ) → Words32 c → Words32 (cells_after c i e v)
unfolding cells_after
cell_words c i e v h j = go (eqb (bits_of i) 0)
  where
    go : (b : Bool) → get_or (pick b c (set c i (merge (bit_and (bits_of i) e) (get_or c i 0) v))) j 0 < 0x100000000
    go true = h j
    go false =
        set_small c i (merge (bit_and (bits_of i) e) (get_or c i 0) v) h
        (merge_word (bit_and (bits_of i) e) (get_or c i 0) v (omega (arith, held_small i, and_le_l (bits_of i) e))) j

-- the same of a state, before and after any run of writes
abbrev pub Words : State → Type 0
Words s = Words32 s.cells

pub write_words : (s : State) (w : Write) → Words s → Words (apply s w)
unfolding put
write_words s w h =
    let P : State → Type 0 = Words in
    pick_either P (fog_data w.id) (fog_words s.cells h)
    (pick_either P (light_data w.id) (light_words s.cells h)
    (cell_words s.cells w.id (spread w.mask) w.value h))

pub run_words : (s : State) (ws : List Write) → Words s → Words (apply_all s ws)
unfolding apply_all
run_words s [] h = h
run_words s (w ∷ ws) h = run_words (apply s w) ws (write_words s w h)
