-- What isn't held: bits of cells beside the held ones, cells of other ids, an entry's high 8 bits. No write and no taking changes them.
-- Assumes nothing.
use mathlib.Core.Path.{◌≡◌, refl, sym, ◌∙◌}
use mathlib.Core.Bool.{Bool, true, false}
use mathlib.Core.List.{List}
use Prim.Native.Nat.{ℕ, zero, suc, ◌^◌, ◌<◌}
use native.Mathlib.Decide.{dec_lt}
use native.Mathlib.Nat.{zero-div}
use native.Mathlib.Omega.{arith}
use lib.Dec.{eqb}
use lib.ListN.{length, get_or}
use lib.Seq.{ext_get_or}
use borrow.Author.Tests.{eqb-true}
use Rattle.numbers.specs.Pick.{pick}
use Rattle.numbers.specs.Bits.{bit, merge, pick_bit}
use Rattle.numbers.proofs.Merge.{bits_equal, merge_bit, merge_word}
use Rattle.words.specs.Writes.{Write}
use Rattle.registers.specs.State.{State, sized}
use Rattle.registers.specs.Held.{bits_of}
use Rattle.registers.specs.Applied.{apply_all}
use Rattle.registers.proofs.Sizes.{lengths}
use Rattle.copies.specs.Copy.{cell_taking, entry_taking, taking, taken}
use Rattle.copies.proofs.Copies.{taking_long, taking_done, taking_later, taken_is}
use Rattle.demands.proofs.Alike.{held_small}
use Rattle.demands.proofs.Unheld.{high, unheld_kept, fog_entries_only, light_entries_only}
use Rattle.demands.proofs.Taken.{Words}

-- two states agree on all that isn't held
pub record Beside (s t : State) : Type 0 where
  pub cells : (j k : ℕ) → k < 32 → bit k (bits_of j) ≡ 0 → bit k (get_or s.cells j 0) ≡ bit k (get_or t.cells j 0)
  pub fog : (j : ℕ) → high (get_or s.fog j 0) ≡ high (get_or t.fog j 0)
  pub light : (j : ℕ) → high (get_or s.light j 0) ≡ high (get_or t.light j 0)

pub beside_same : (s : State) → Beside s s
beside_same s = record { cells = λ j k b u. refl; fog = λ j. refl; light = λ j. refl }

pub beside_run : (s : State) (ws : List Write) → Beside (apply_all s ws) s
beside_run s ws =
    record {
      cells = λ j k b u. unheld_kept j k b u s ws;
      fog = λ j. fog_entries_only j s ws;
      light = λ j. light_entries_only j s ws;
    }

-- TAKING

taking_kept : {A : Type 0} (f : ℕ → ℕ → ℕ → ℕ) (see : ℕ → A) (n j : ℕ) (to from : List ℕ) → length to ≡ n
    → ((o v : ℕ) → see (f j o v) ≡ see o) → see (get_or (taking f n to from) j 0) ≡ see (get_or to j 0)
taking_kept f see n j to from a e = go (dec_lt j n)
  where
    go : Dec (j < n) → see (get_or (taking f n to from) j 0) ≡ see (get_or to j 0)
    go (yes h) = rw (taking_done f to from n j h (omega arith)) (e (get_or to j 0) (get_or from j 0))
    go (no h) = rw (taking_later f to from n j (omega arith))

unheld_bit : (h o n : ℕ) → h ≡ 0 → pick_bit h n o ≡ o
unheld_bit zero o n e = refl
unheld_bit (suc h) o n e = absurd (omega arith)

cell_bit : (b : Bool) (j k o n : ℕ) → k < 32 → bit k (bits_of j) ≡ 0 → bit k (pick b o (merge (bits_of j) o n)) ≡ bit k o
cell_bit true j k o n l u = refl
cell_bit false j k o n l u = merge_bit k (bits_of j) o n (held_small j) l ∙ unheld_bit (bit k (bits_of j)) (bit k o) (bit k n) u

pub beside_taken : (to from : State) → sized to ≡ true → Beside (taken to from) to
beside_taken to from t =
    let p = lengths to t in
    rw (taken_is to from)
    (record {
      cells =
          λ j k b u.
          taking_kept cell_taking (λ x. bit k x) 768 j to.cells from.cells p.0
          (λ o v. cell_bit (eqb (bits_of j) 0) j k o v b u);
      fog = λ j. taking_kept entry_taking high 128 j to.fog from.fog p.1 (λ o v. omega arith);
      light = λ j. taking_kept entry_taking high 6144 j to.light from.light p.2 (λ o v. omega arith);
    })

-- STATES THAT AGREE SO, and take of the same, are then equal
module _ (s t from : State) (a : sized s ≡ true) (b : sized t ≡ true) (v : Words s) (w : Words t) (e : Beside s t) where
  taking_same : (f : ℕ → ℕ → ℕ → ℕ) (n : ℕ) (l m from : List ℕ) → length l ≡ n → length m ≡ n
      → ((j x : ℕ) → f j (get_or l j 0) x ≡ f j (get_or m j 0) x) → taking f n l from ≡ taking f n m from
  taking_same f n l m from p q g =
      let x = taking_long f l from n in
      let y = taking_long f m from n in
      ext_get_or 0 (taking f n l from) (taking f n m from) (x ∙ p ∙ sym q ∙ sym y)
      (λ j h.
      taking_done f l from n j (omega arith) (omega arith) ∙ g j (get_or from j 0)
      ∙ sym (taking_done f m from n j (omega arith) (omega arith)))

  bit_same : (h n o p : ℕ) → (h ≡ 0 → o ≡ p) → pick_bit h n o ≡ pick_bit h n p
  bit_same zero n o p g = g refl
  bit_same (suc h) n o p g = refl

  cell_same : (c : Bool) (j n : ℕ) → eqb (bits_of j) 0 ≡ c
      → pick c (get_or s.cells j 0) (merge (bits_of j) (get_or s.cells j 0) n)
      ≡ pick c (get_or t.cells j 0) (merge (bits_of j) (get_or t.cells j 0) n)
  cell_same true j n d =
      let z = eqb-true (bits_of j) 0 d in
      bits_equal 32 (get_or s.cells j 0) (get_or t.cells j 0) (v j) (w j) (λ k l. e.cells j k l (rw (z, zero-div (2 ^ k))))
  cell_same false j n d =
      let H = bits_of j in
      let o = get_or s.cells j 0 in
      let p = get_or t.cells j 0 in
      let small = held_small j in
      bits_equal 32 (merge H o n) (merge H p n) (merge_word H o n small) (merge_word H p n small)
      (λ k l.
      merge_bit k H o n small l ∙ bit_same (bit k H) (bit k n) (bit k o) (bit k p) (λ z. e.cells j k l z)
      ∙ sym (merge_bit k H p n small l))

  pub taken_same : taken s from ≡ taken t from
  taken_same =
      let p = lengths s a in
      let q = lengths t b in
      taken_is s from
      ∙ rw (
        taking_same cell_taking 768 s.cells t.cells from.cells p.0 q.0 (λ j x. cell_same (eqb (bits_of j) 0) j x refl),
        taking_same entry_taking 128 s.fog t.fog from.fog p.1 q.1 (λ j x. omega (arith, e.fog j)),
        taking_same entry_taking 6144 s.light t.light from.light p.2 q.2 (λ j x. omega (arith, e.light j)),
      )
      (sym (taken_is t from))
