-- Whether a write makes a difference goes by the held bits alone: on two states that agree on them it makes one on both or on neither.
-- Assumes nothing; cells are asked to be 32-bit words, as those of a lent buffer are, since a masked replacement cuts larger numbers.
use mathlib.Core.Path.{◌≡◌, refl, sym, ap, ◌∙◌}
use mathlib.Core.Bool.{Bool, true, false}
use mathlib.Core.List.{List, [], ◌∷◌}
use Prim.Native.Nat.{ℕ, zero, suc, ◌^◌, ◌<◌}
use native.Mathlib.Omega.{arith}
use lib.Bits.{bit_and, and_le_l, and_le_r, and_mask}
use lib.Dec.{eqb}
use lib.ListN.{get_or}
use borrow.Author.Tests.{eqb-true, eqb-false, eq-eqb, ne_eqb}
use Rattle.numbers.specs.Bits.{bit, spread, merge, pick_bit}
use Rattle.numbers.proofs.Merge.{and_bit, bits_equal, merge_bit, merge_word}
use Rattle.words.specs.Writes.{Write, fog_data, light_data}
use Rattle.registers.specs.Held.{bits_of}
use Rattle.registers.specs.State.{State, sized}
use Rattle.registers.specs.Applied.{apply, difference, differences}
use Rattle.registers.proofs.Lookup.{held_has}
use Rattle.registers.proofs.Sizes.{lengths}
use Rattle.registers.proofs.Differences.{differs_fog_data, differs_light_data, differs_held, differs_free}
use Rattle.registers.proofs.Differences.{differences_none, differences_more}
use Rattle.demands.proofs.Lengths.{apply_sized}
use Rattle.demands.proofs.Alike.{Alike}
use Rattle.demands.proofs.NeverRead.{write_alike}
use Rattle.demands.proofs.Taken.{Words, write_words}

-- ONE BIT: it stays where the value's is the same, or where it isn't replaced
pick_kept : (e v o : ℕ) → (0 < e → v ≡ o) → pick_bit e v o ≡ o
pick_kept zero v o h = refl
pick_kept (suc e) v o h = h (omega arith)

pick_told : (e v o : ℕ) → pick_bit e v o ≡ o → 0 < e → v ≡ o
pick_told zero v o h p = absurd (omega arith)
pick_told (suc e) v o h p = h

-- and of two that agree where it is held
bit_held : (h o p : ℕ) → 0 < h → h < 2 → o < 2 → p < 2 → bit_and o h ≡ bit_and p h → o ≡ p
bit_held h o p a b c d e =
    let one : h ≡ 1 = omega (arith, a, b) in
    let f : bit_and o 1 ≡ bit_and p 1 = rw one at e in
    omega (arith, f, and_mask o 1, and_mask p 1, c, d)

-- A CELL is as it was after a masked replacement exactly when each bit that is replaced was the value's already
module _ (e o v : ℕ) (w : e < 2 ^ 32) where
  pub merge_keeps : o < 0x100000000 → ((k : ℕ) → k < 32 → 0 < bit k e → bit k v ≡ bit k o) → merge e o v ≡ o
  merge_keeps x h =
      bits_equal 32 (merge e o v) o (merge_word e o v w) (omega (arith, x))
      (λ k l. merge_bit k e o v w l ∙ pick_kept (bit k e) (bit k v) (bit k o) (h k l))

  pub merge_kept : merge e o v ≡ o → (k : ℕ) → k < 32 → 0 < bit k e → bit k v ≡ bit k o
  merge_kept s k l = pick_told (bit k e) (bit k v) (bit k o) (sym (merge_bit k e o v w l) ∙ ap (λ (z : ℕ). bit k z) s)

-- and so is another with the same held bits
module _ (H m v o p : ℕ) (q : bit_and o H ≡ bit_and p H) (y : p < 0x100000000) where
  abbrev e : ℕ
  e = bit_and H (spread m)

  e_word : e < 2 ^ 32
  e_word = omega (arith, and_le_r H (spread m))

  same_held : (k : ℕ) → 0 < bit k e → bit k o ≡ bit k p
  same_held k b =
      let h : 0 < bit k H = omega (arith, b, and_bit k H (spread m), and_le_l (bit k H) (bit k (spread m))) in
      bit_held (bit k H) (bit k o) (bit k p) h (omega arith) (omega arith) (omega arith)
      (sym (and_bit k o H) ∙ ap (λ (z : ℕ). bit k z) q ∙ and_bit k p H)

  merge_same : merge e o v ≡ o → merge e p v ≡ p
  merge_same s = merge_keeps e p v e_word y (λ k l b. merge_kept e o v e_word s k l b ∙ same_held k b)

-- so it changes both or neither
merge_changes : (H m v o p : ℕ) → bit_and o H ≡ bit_and p H → o < 0x100000000 → p < 0x100000000
    → eqb (merge (bit_and H (spread m)) o v) o ≡ eqb (merge (bit_and H (spread m)) p v) p
merge_changes H m v o p q x y = go (eqb (merge (bit_and H (spread m)) o v) o) refl
  where
    go : (b : Bool) → eqb (merge (bit_and H (spread m)) o v) o ≡ b → b ≡ eqb (merge (bit_and H (spread m)) p v) p
    go true t = sym (eq-eqb _ p (merge_same H m v o p q y (eqb-true _ o t)))
    go false t = sym (ne_eqb _ p (λ s. eqb-false _ o t (merge_same H m v p o (sym q) x s)))

-- ONE WRITE
module _ (s t : State) (a : Alike s t) (u : Words s) (v : Words t) (y : sized s ≡ true) (z : sized t ≡ true) (w : Write) where
  abbrev i : ℕ
  i = w.id

  by_kind : (f g b : Bool) → fog_data i ≡ f → light_data i ≡ g → eqb (bits_of i) 0 ≡ b → difference s w ≡ difference t w
  by_kind true g b f d h =
      rw (differs_fog_data s i (spread w.mask) w.value f, differs_fog_data t i (spread w.mask) w.value f)
  by_kind false true b f d h =
      rw (differs_light_data s i (spread w.mask) w.value f d, differs_light_data t i (spread w.mask) w.value f d)
  by_kind false false true f d h =
      let n = eqb-true (bits_of i) 0 h in
      rw (differs_free s i (spread w.mask) w.value f d n, differs_free t i (spread w.mask) w.value f d n)
  by_kind false false false f d h =
      let n = eqb-false (bits_of i) 0 h in
      let k = (held_has i n).small in
      rw (
        differs_held s i (spread w.mask) w.value n (omega (arith, k, (lengths s y).0)),
        differs_held t i (spread w.mask) w.value n (omega (arith, k, (lengths t z).0)),
        merge_changes (bits_of i) w.mask w.value (get_or s.cells i 0) (get_or t.cells i 0) (a.cells i) (u i) (v i),
      )

  pub difference_alike : difference s w ≡ difference t w
  difference_alike = by_kind (fog_data i) (light_data i) (eqb (bits_of i) 0) refl refl refl

-- A RUN
pub differences_alike : (s t : State) → Alike s t → Words s → Words t → sized s ≡ true → sized t ≡ true → (ws : List Write)
    → differences s ws ≡ differences t ws
differences_alike s t a u v y z [] = differences_none s ∙ sym (differences_none t)
differences_alike s t a u v y z (w ∷ ws) =
    let r = differences_alike (apply s w) (apply t w) (write_alike s t a w) (write_words s w u) (write_words t w v)
    (apply_sized s w ∙ y) (apply_sized t w ∙ z) ws in
    differences_more s w ws ∙ rw (difference_alike s t a u v y z w, r) (sym (differences_more t w ws))
