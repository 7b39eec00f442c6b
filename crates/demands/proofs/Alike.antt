-- States that agree on what is held: the relation, and that a masked replacement keeps it. Assumes nothing.
use mathlib.Core.Path.{◌≡◌, refl, sym, ap, ◌∙◌}
use mathlib.Core.Bool.{Bool, true, false}
use mathlib.Core.List.{List}
use Prim.Native.Nat.{ℕ, zero, suc, ◌%◌, ◌^◌, ◌<◌}
use native.Mathlib.Decide.{dec_lt}
use native.Mathlib.Omega.{arith}
use lib.Bits.{bit_and, and_le_r}
use lib.Dec.{eqb}
use lib.ListN.{length, get_or, set}
use lib.Seq.{get_or-set_same, get_or-set_other, set_out}
use borrow.Author.Tests.{eqb-true, eqb-false}
use Rattle.numbers.specs.Bits.{bit, spread, merge, pick_bit}
use Rattle.numbers.proofs.Merge.{and_bit, bits_equal, merge_bit}
use Rattle.registers.specs.State.{State}
use Rattle.registers.specs.Held.{bits_of}
pub use Rattle.registers.proofs.Words.{held_small}

-- what is read of a cell and of an entry
abbrev pub held_in : List ℕ → ℕ → ℕ
held_in cells j = bit_and (get_or cells j 0) (bits_of j)

abbrev pub low : List ℕ → ℕ → ℕ
low entries j = get_or entries j 0 % 0x1000000

-- two states of the same lengths that agree on that
pub record Alike (s t : State) : Type 0 where
  pub cells : (j : ℕ) → held_in s.cells j ≡ held_in t.cells j
  pub fog : (j : ℕ) → low s.fog j ≡ low t.fog j
  pub light : (j : ℕ) → low s.light j ≡ low t.light j
  pub cells_long : length s.cells ≡ length t.cells
  pub fog_long : length s.fog ≡ length t.fog
  pub light_long : length s.light ≡ length t.light

-- elements that are set, or others, as f sees them
pub set_alike : (f : ℕ → ℕ) (l m : List ℕ) (i j x y : ℕ) → length l ≡ length m → f (get_or l j 0) ≡ f (get_or m j 0) → (j ≡ i → f x ≡ f y)
    → f (get_or (set l i x) j 0) ≡ f (get_or (set m i y) j 0)
set_alike f l m i j x y n h e = go (eqb j i) refl (dec_lt i (length l))
  where
    go : (b : Bool) → eqb j i ≡ b → Dec (i < length l) → f (get_or (set l i x) j 0) ≡ f (get_or (set m i y) j 0)
    go false d q = rw (get_or-set_other l i j x 0 (eqb-false j i d), get_or-set_other m i j y 0 (eqb-false j i d)) h
    go true d (yes q) =
        let c = eqb-true j i d in
        let r : i < length m = omega arith in
        rw (c, get_or-set_same l i x 0 q, get_or-set_same m i y 0 r) (e c)
    go true d (no q) = rw (set_out l i x (omega arith), set_out m i y (omega arith)) h

-- A CELL: the held bits of a masked replacement go by the held bits alone
pick_alike : (e v o p h : ℕ) → bit_and o h ≡ bit_and p h → bit_and (pick_bit e v o) h ≡ bit_and (pick_bit e v p) h
pick_alike zero v o p h q = q
pick_alike (suc e) v o p h q = refl

pub merge_alike : (j m v o p : ℕ) → bit_and o (bits_of j) ≡ bit_and p (bits_of j)
    → bit_and (merge (bit_and (bits_of j) (spread m)) o v) (bits_of j) ≡ bit_and (merge (bit_and (bits_of j) (spread m)) p v) (bits_of j)
merge_alike j m v o p q =
    let H = bits_of j in
    let e = bit_and H (spread m) in
    let b = held_small j in
    let w : e < 2 ^ 32 = omega (arith, and_le_r H (spread m)) in
    let small : (x : ℕ) → bit_and (merge e x v) H < 2 ^ 32 = λ x. omega (arith, and_le_r (merge e x v) H) in
    bits_equal 32 (bit_and (merge e o v) H) (bit_and (merge e p v) H) (small o) (small p)
    (λ k l.
    rw (and_bit k (merge e o v) H, and_bit k (merge e p v) H, merge_bit k e o v w l, merge_bit k e p v w l)
    (pick_alike (bit k e) (bit k v) (bit k o) (bit k p) (bit k H) (sym (and_bit k o H) ∙ ap (λ (x : ℕ). bit k x) q ∙ and_bit k p H)))
