-- Laws that a reader may hold the definitions to. Assumes nothing.
use mathlib.Core.Path.{◌≡◌, refl, ◌∙◌}
use mathlib.Core.Bool.{Bool, true, false}
use mathlib.Core.List.{List}
use Prim.Native.Nat.{ℕ, zero, suc, ◌/◌, ◌^◌, ◌<◌, ◌≤◌}
use native.Mathlib.Decide.{dec_lt}
use native.Mathlib.Omega.{arith}
use lib.Bits.{bit_and, and_le_r, and_zero_l, and_zero_r}
use lib.Dec.{eqb}
use lib.ListN.{length, get_or, set}
use lib.Seq.{get_or-set_same, get_or-set_other, set-set, set_out}
use Rattle.numbers.specs.Bits.{bit, spread, merge, pick_bit}
use Rattle.numbers.specs.Answer.{answered, refused, unless_fault}
use Rattle.numbers.proofs.Merge.{and_bit, merge_bit, merge_twice, spread_bit}
use Rattle.words.specs.Writes.{Write, fog_data, light_data}
use Rattle.registers.specs.State.{State, st}
use Rattle.registers.specs.Held.{bits_of}
use Rattle.registers.specs.Applied.{cells_after, put, apply, difference}
use Rattle.registers.specs.Single.{refusal_of, unless, write_answer, write_state}

-- A WRITE THAT IS REFUSED CHANGES NOTHING
keeps : (f d n p : ℕ) (changed kept : State) → unless_fault f 0 (answered d) ≡ refused n p → unless f changed kept ≡ kept
keeps zero d n p changed kept e = absurd (let z : ◌≡◌ {A = ℕ} 0 1 = cc in omega arith)
keeps (suc f) d n p changed kept e = refl

pub refused_keeps : (s : State) (w : Write) (n p : ℕ) → write_answer s w ≡ refused n p → write_state s w ≡ s
refused_keeps s w n p e = keeps (refusal_of s w) (difference s w) n p (apply s w) s e

-- what a write to an id that is no port's data leaves
pub beside_ports : (s : State) (i e v : ℕ) → fog_data i ≡ false → light_data i ≡ false
    → put s i e v ≡ st (cells_after s.cells i e v) s.fog s.light
unfolding put
beside_ports s i e v f g = rw (f, g)

module _ (cells : List ℕ) (i m v : ℕ) where
  -- the bits that the write replaces
  abbrev chosen : ℕ
  chosen = bit_and (bits_of i) (spread m)

  chosen_word : chosen < 2 ^ 32
  chosen_word = omega (arith, and_le_r (bits_of i) (spread m))

  after_held : eqb (bits_of i) 0 ≡ false → cells_after cells i (spread m) v ≡ set cells i (merge chosen (get_or cells i 0) v)
  unfolding cells_after
  after_held h = rw h

  after_free : eqb (bits_of i) 0 ≡ true → cells_after cells i (spread m) v ≡ cells
  unfolding cells_after
  after_free h = rw h

  -- BIT BY BIT: a bit that is held and stands in a byte whose mask bit is 1 takes the value's, any other keeps its own
  pub cell_bit : eqb (bits_of i) 0 ≡ false → i < length cells → m < 16 → (k : ℕ) → k < 32
      → bit k (get_or (cells_after cells i (spread m) v) i 0)
      ≡ pick_bit (bit_and (bit k (bits_of i)) (bit (k / 8) m)) (bit k v) (bit k (get_or cells i 0))
  cell_bit h l n k b =
      rw (
        after_held h,
        get_or-set_same cells i (merge chosen (get_or cells i 0) v) 0 l,
        merge_bit k chosen (get_or cells i 0) v chosen_word b,
        and_bit k (bits_of i) (spread m),
        spread_bit k m b n,
      )

  -- a held bit outside the mask keeps its value
  pub unmasked_keeps : eqb (bits_of i) 0 ≡ false → i < length cells → m < 16 → (k : ℕ) → k < 32 → bit (k / 8) m ≡ 0
      → bit k (get_or (cells_after cells i (spread m) v) i 0) ≡ bit k (get_or cells i 0)
  unmasked_keeps h l n k b z = cell_bit h l n k b ∙ rw (z, and_zero_r (bit k (bits_of i)))

  -- a bit beside the held ones keeps its value
  pub unheld_keeps : eqb (bits_of i) 0 ≡ false → i < length cells → m < 16 → (k : ℕ) → k < 32 → bit k (bits_of i) ≡ 0
      → bit k (get_or (cells_after cells i (spread m) v) i 0) ≡ bit k (get_or cells i 0)
  unheld_keeps h l n k b z = cell_bit h l n k b ∙ rw (z, and_zero_l (bit (k / 8) m))

  -- the cell of another id keeps its value
  by_hold : (b : Bool) → eqb (bits_of i) 0 ≡ b → (j : ℕ) → (j ≡ i → ⊥) → get_or (cells_after cells i (spread m) v) j 0 ≡ get_or cells j 0
  by_hold true h j d = rw (after_free h)
  by_hold false h j d = rw (after_held h) (get_or-set_other cells i j (merge chosen (get_or cells i 0) v) 0 d)

  pub other_keeps : (j : ℕ) → (j ≡ i → ⊥) → get_or (cells_after cells i (spread m) v) j 0 ≡ get_or cells j 0
  other_keeps = by_hold (eqb (bits_of i) 0) refl

-- WRITING TWICE THE SAME IS WRITING ONCE, ports' data apart
module _ (cells : List ℕ) (i m v : ℕ) where
  set_twice : (e : ℕ) → e < 2 ^ 32 → Dec (i < length cells)
      → set (set cells i (merge e (get_or cells i 0) v)) i (merge e (get_or (set cells i (merge e (get_or cells i 0) v)) i 0) v)
      ≡ set cells i (merge e (get_or cells i 0) v)
  set_twice e h (yes l) =
      let x = get_or cells i 0 in
      rw (set-set cells i (merge e x v), get_or-set_same cells i (merge e x v) 0 l, merge_twice e x v h)
  set_twice e h (no l) =
      let o : length cells ≤ i = omega arith in
      rw (set_out cells i (merge e (get_or cells i 0) v) o) (set_out cells i _ o)

  by_bits : (b : Bool) → eqb (bits_of i) 0 ≡ b
      → cells_after (cells_after cells i (spread m) v) i (spread m) v ≡ cells_after cells i (spread m) v
  by_bits true h = after_free (cells_after cells i (spread m) v) i m v h
  by_bits false h =
      after_held (cells_after cells i (spread m) v) i m v h
      ∙ rw (after_held cells i m v h) (set_twice (bit_and (bits_of i) (spread m)) (chosen_word cells i m v) (dec_lt i (length cells)))

  pub cells_twice : cells_after (cells_after cells i (spread m) v) i (spread m) v ≡ cells_after cells i (spread m) v
  cells_twice = by_bits (eqb (bits_of i) 0) refl

pub apply_twice : (s : State) (w : Write) → fog_data w.id ≡ false → light_data w.id ≡ false → apply (apply s w) w ≡ apply s w
apply_twice s w f g =
    let i = w.id in
    let e = spread w.mask in
    let v = w.value in
    let once = st (cells_after s.cells i e v) s.fog s.light in
    rw (beside_ports s i e v f g, beside_ports once i e v f g, cells_twice s.cells i w.mask v)
