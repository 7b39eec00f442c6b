-- What one state takes of another: it is then alike to it in all that is read, and keeps all that isn't. Assumes nothing.
use mathlib.Core.Path.{◌≡◌, refl, sym, ap, ◌∙◌}
use mathlib.Core.Bool.{Bool, true, false}
use mathlib.Core.List.{List, [], ◌∷◌}
use Prim.Native.Nat.{ℕ, zero, suc, ◌%◌, ◌^◌, ◌<◌}
use native.Mathlib.Nat.{zero-div}
use native.Mathlib.Decide.{dec_lt}
use native.Mathlib.Omega.{arith}
use lib.Bits.{bit_and, and_mask, and_le_r, and_zero_r}
use lib.Dec.{eqb}
use lib.ListN.{length, get_or, get_or-eq_default}
use lib.Seq.{ext_get_or}
use borrow.Author.Tests.{eqb-true}
use Rattle.numbers.specs.Pick.{pick}
use Rattle.numbers.specs.Bits.{bit, spread, merge, pick_bit}
use Rattle.numbers.proofs.Picks.{pick_either}
use Rattle.numbers.proofs.Merge.{and_bit, bits_equal, merge_bit, merge_word}
use Rattle.words.specs.Writes.{Write, fog_data, light_data}
use Rattle.registers.specs.State.{State, sized}
use Rattle.registers.specs.Held.{bits_of}
use Rattle.registers.specs.Applied.{put, apply, apply_all}
use Rattle.registers.proofs.Sizes.{lengths}
use Rattle.copies.specs.Copy.{cell_taking, entry_taking, taking, taken}
use Rattle.copies.proofs.Copies.{taking_long, taking_done, taking_later, taken_is}
use Rattle.demands.proofs.Alike.{Alike}
use Rattle.registers.proofs.Words.{held_small}
pub use Rattle.registers.proofs.Words.{Words, write_words, run_words}
use Rattle.demands.proofs.Lengths.{apply_sized}
use Rattle.demands.proofs.Unheld.{run_keeps, unheld_kept, fog_entries_only, light_entries_only}

-- LENGTHS stay, by any run of writes
pub sized_kept : (s : State) (ws : List Write) → sized (apply_all s ws) ≡ sized s
sized_kept = run_keeps sized apply_sized

-- WHAT IS TAKEN
held_taken_bit : (h o n : ℕ) → bit_and (pick_bit h n o) h ≡ bit_and n h
held_taken_bit zero o n = rw (and_zero_r n) (and_zero_r o)
held_taken_bit (suc h) o n = refl

-- the held bits of a cell that takes are those of the cell that it takes of
cell_held : (b : Bool) (j o n : ℕ) → eqb (bits_of j) 0 ≡ b
    → bit_and (pick b o (merge (bits_of j) o n)) (bits_of j) ≡ bit_and n (bits_of j)
cell_held true j o n t = rw (eqb-true (bits_of j) 0 t, and_zero_r o) (sym (and_zero_r n))
cell_held false j o n t =
    let H = bits_of j in
    let b = held_small j in
    bits_equal 32 (bit_and (merge H o n) H) (bit_and n H) (omega (arith, and_le_r (merge H o n) H)) (omega (arith, and_le_r n H))
    (λ k l. rw (and_bit k (merge H o n) H, and_bit k n H, merge_bit k H o n b l) (held_taken_bit (bit k H) (bit k o) (bit k n)))

-- what f sees of elements that took, all n of them
taking_seen : (f : ℕ → ℕ → ℕ → ℕ) (see : ℕ → ℕ) (n j : ℕ) (to from : List ℕ) → length to ≡ n
    → length from ≡ n
    → ((o v : ℕ) → see (f j o v) ≡ see v) → see (get_or (taking f n to from) j 0) ≡ see (get_or from j 0)
taking_seen f see n j to from a b e = go (dec_lt j n)
  where
    go : Dec (j < n) → see (get_or (taking f n to from) j 0) ≡ see (get_or from j 0)
    go (yes h) = rw (taking_done f to from n j h (omega arith)) (e (get_or to j 0) (get_or from j 0))
    go (no h) =
        rw (
          taking_later f to from n j (omega arith),
          get_or-eq_default to 0 {n = j} (omega arith),
          get_or-eq_default from 0 {n = j} (omega arith),
        )

module _ (to from : State) (t : sized to ≡ true) (f : sized from ≡ true) where
  -- a state that takes is alike
  pub taken_alike : Alike (taken to from) from
  taken_alike =
      let p = lengths to t in
      let q = lengths from f in
      rw (taken_is to from)
      (record {
        cells =
            λ j.
            taking_seen cell_taking (λ x. bit_and x (bits_of j)) 768 j to.cells from.cells p.0 q.0
            (λ o v. cell_held (eqb (bits_of j) 0) j o v refl);
        fog = λ j. taking_seen entry_taking (λ x. x % 0x1000000) 128 j to.fog from.fog p.1 q.1 (λ o v. omega arith);
        light = λ j. taking_seen entry_taking (λ x. x % 0x1000000) 6144 j to.light from.light p.2 q.2 (λ o v. omega arith);
        cells_long = taking_long cell_taking to.cells from.cells 768 ∙ p.0 ∙ sym q.0;
        fog_long = taking_long entry_taking to.fog from.fog 128 ∙ p.1 ∙ sym q.1;
        light_long = taking_long entry_taking to.light from.light 6144 ∙ p.2 ∙ sym q.2;
      })

  pub taken_sized : sized (taken to from) ≡ true
  taken_sized =
      rw (
        taken_is to from,
        taking_long cell_taking to.cells from.cells 768,
        taking_long entry_taking to.fog from.fog 128,
        taking_long entry_taking to.light from.light 6144,
      )
      t

-- a state of words is one after it took
taken_word : (b : Bool) (j o n : ℕ) → o < 0x100000000 → pick b o (merge (bits_of j) o n) < 0x100000000
taken_word true j o n h = h
taken_word false j o n h = merge_word (bits_of j) o n (held_small j)

pub taken_words : (to from : State) → sized to ≡ true → Words to → Words (taken to from)
taken_words to from t w j = rw (taken_is to from) (go (dec_lt j 768))
  where
    go : Dec (j < 768) → get_or (taking cell_taking 768 to.cells from.cells) j 0 < 0x100000000
    go (yes h) =
        rw (taking_done cell_taking to.cells from.cells 768 j h (omega (arith, (lengths to t).0)))
        (taken_word (eqb (bits_of j) 0) j (get_or to.cells j 0) (get_or from.cells j 0) (w j))
    go (no h) = rw (taking_later cell_taking to.cells from.cells 768 j (omega arith)) (w j)

-- A STATE THAT TAKES OF WHAT IS ALIKE TO ITSELF AFTER A RUN OF WRITES is that state after that run: no bit beside the held ones differs
one_bit : (h k o n x : ℕ) → h < 2 → n < 2 → x < 2 → (h ≡ 0 → x ≡ o) → bit_and n h ≡ bit_and x h → pick_bit h n o ≡ x
one_bit zero k o n x a b c z e = sym (z refl)
one_bit (suc zero) k o n x a b c z e = omega (arith, sym (and_mask n 1) ∙ e ∙ and_mask x 1)
one_bit (suc (suc h)) k o n x a b c z e = absurd (omega arith)

module _ (live s : State) (ws : List Write) (t : sized live ≡ true) (f : sized s ≡ true) (w : Words live)
    (a : Alike s (apply_all live ws)) where
  abbrev done : State
  done = apply_all live ws

  same_bits : (j x : ℕ) → x < 0x100000000 → ((k : ℕ) → k < 32 → bit k x ≡ bit k (get_or done.cells j 0))
      → x ≡ get_or done.cells j 0
  same_bits j x h b = bits_equal 32 x (get_or done.cells j 0) h (run_words live ws w j) b

  cell_taken : (b : Bool) (j : ℕ) → eqb (bits_of j) 0 ≡ b
      → pick b (get_or live.cells j 0) (merge (bits_of j) (get_or live.cells j 0) (get_or s.cells j 0)) ≡ get_or done.cells j 0
  cell_taken true j e =
      let z = eqb-true (bits_of j) 0 e in
      same_bits j (get_or live.cells j 0) (w j) (λ k l. sym (unheld_kept j k l (rw (z, zero-div (2 ^ k))) live ws))
  cell_taken false j e =
      let H = bits_of j in
      let o = get_or live.cells j 0 in
      let n = get_or s.cells j 0 in
      let x = get_or done.cells j 0 in
      same_bits j (merge H o n) (merge_word H o n (held_small j))
      (λ k l.
      merge_bit k H o n (held_small j) l
      ∙ one_bit (bit k H) k (bit k o) (bit k n) (bit k x) (omega arith) (omega arith) (omega arith) (λ z. unheld_kept j k l z live ws)
      (sym (and_bit k n H) ∙ ap (λ (y : ℕ). bit k y) (a.cells j) ∙ and_bit k x H))

  taken_list : (g : ℕ → ℕ → ℕ → ℕ) (n : ℕ) (to from end : List ℕ) → length to ≡ n → length end ≡ n
      → ((j : ℕ) → g j (get_or to j 0) (get_or from j 0) ≡ get_or end j 0) → taking g n to from ≡ end
  taken_list g n to from end p q e =
      ext_get_or 0 (taking g n to from) end (taking_long g to from n ∙ p ∙ sym q)
      (λ j h. taking_done g to from n j (omega (arith, taking_long g to from n)) (omega (arith, taking_long g to from n)) ∙ e j)

  pub taken_done : taken live s ≡ done
  taken_done =
      let p = lengths live t in
      let q = lengths done (sized_kept live ws ∙ t) in
      taken_is live s
      ∙ rw (
        taken_list cell_taking 768 live.cells s.cells done.cells p.0 q.0 (λ j. cell_taken (eqb (bits_of j) 0) j refl),
        taken_list entry_taking 128 live.fog s.fog done.fog p.1 q.1
            (λ j. omega (arith, a.fog j, fog_entries_only j live ws)),
        taken_list entry_taking 6144 live.light s.light done.light p.2 q.2
            (λ j. omega (arith, a.light j, light_entries_only j live ws)),
      )
