-- The look-up's rule: a row whose id is the one looked for has its bits; an id without such a row holds none. One test, computed over the
-- 768 ids.
-- Assumes nothing.
use mathlib.Core.Path.{◌≡◌, refl, sym, ◌∙◌}
use mathlib.Core.Bool.{Bool, true, false, not, ◌&&◌, false≢true}
use mathlib.Core.List.{List, [], ◌∷◌}
use Prim.Native.Nat.{ℕ, ◌+◌, ◌*◌, ◌%◌, ◌<◌, ◌≤◌}
use native.Mathlib.Decide.{dec_lt}
use native.Mathlib.Omega.{arith}
use lib.Dec.{eqb, ltb}
use lib.ListN.{get_or, replicate, length-replicate}
use borrow.Author.Tests.{eq-eqb, ne_eqb, ltb-true, eqb-true, eqb-false, not-true}
use Rattle.numbers.specs.Pick.{pick}
use Rattle.numbers.proofs.Tests.{is_true, and_true}
use Rattle.numbers.proofs.Table.{at}
use Rattle.words.specs.Writes.{fog_data, light_data}
use Rattle.registers.specs.Held.{Row, held, bits_in, bits_of}
use Rattle.registers.specs.Tables.{row_words, held_table, row_in, slot_table}

-- the row that is looked at for id k: its id, and its bits
abbrev pub id_at : ℕ → ℕ
id_at k = get_or held_table (2 * get_or slot_table (k % 256) 0) 0

abbrev pub bits_at : ℕ → ℕ
bits_at k = get_or held_table (2 * get_or slot_table (k % 256) 0 + 1) 0

-- a row of k has the bits of k, which are some, and k is no port's data; else k holds none
right : ℕ → Bool
right k =
    pick (eqb (id_at k) k) (eqb (bits_at k) (bits_of k) && not (eqb (bits_of k) 0) && not (fog_data k) && not (light_data k))
    (eqb (bits_of k) 0)

rule : (k : ℕ) → k < 768 → right k ≡ true
unfolding right slot_table held_table row_words bits_of bits_in row_in held
rule k h = is_true (right k) (at (λ k _. right k) (replicate 768 0) tt k (omega (arith, length-replicate {A = ℕ} 768 0)))

-- the row looked at is one of the table's, and its id is at most 2FFh
pub slot_small : (j : ℕ) → j < 256 → get_or slot_table j 0 < 66
unfolding slot_table row_in held
slot_small j h = ltb-true (get_or slot_table j 0) 66 (is_true _ (at (λ _ r. ltb r 66) slot_table tt j h))

id_small : (j : ℕ) → j < 256 → get_or held_table (2 * get_or slot_table j 0) 0 < 768
unfolding slot_table held_table row_words row_in held
id_small j h =
    ltb-true (get_or held_table (2 * get_or slot_table j 0) 0) 768
    (is_true _ (at (λ _ r. ltb (get_or held_table (2 * r) 0) 768) slot_table tt j h))

pub record Has (k : ℕ) : Type 0 where
  pub some : bits_of k ≡ 0 → ⊥
  pub small : k < 768
  pub no_fog : fog_data k ≡ false
  pub no_light : light_data k ≡ false

-- a row whose id is k has the bits of k
pub row_right : (k : ℕ) → id_at k ≡ k → (bits_at k ≡ bits_of k) × Has k
unfolding right
row_right k e =
    let l : k < 768 = omega (arith, e, id_small (k % 256) (omega arith)) in
    let B = eqb (bits_at k) (bits_of k) in
    let S = not (eqb (bits_of k) 0) in
    let F = not (fog_data k) in
    let p = and_true (B && S && F) (not (light_data k)) (rw (eq-eqb (id_at k) k e) at (rule k l)) in
    let q = and_true (B && S) F p.0 in
    let r = and_true B S q.0 in (
      eqb-true (bits_at k) (bits_of k) r.0,
      record {
        some = eqb-false (bits_of k) 0 (not-true (eqb (bits_of k) 0) r.1);
        small = l;
        no_fog = not-true (fog_data k) q.1;
        no_light = not-true (light_data k) p.1;
      },
    )

pub row_bits : (k : ℕ) → id_at k ≡ k → bits_at k ≡ bits_of k
row_bits k e = (row_right k e).0

-- no row has an id above 2FFh
below : List Row → Bool
below [] = true
below (r ∷ rs) = ltb r.id 768 && below rs

none_above : (rs : List Row) (k : ℕ) → below rs ≡ true → 768 ≤ k → bits_in rs k ≡ 0
unfolding bits_in below
none_above [] k t h = refl
none_above (r ∷ rs) k t h =
    let u = and_true (ltb r.id 768) (below rs) t in
    let l = ltb-true r.id 768 u.0 in
    rw (ne_eqb r.id k (λ e. omega arith)) (none_above rs k u.1 h)

above_none : (k : ℕ) → 768 ≤ k → bits_of k ≡ 0
unfolding bits_of below held
above_none k h = none_above held k refl h

by_size : (k : ℕ) → Dec (k < 768) → (id_at k ≡ k → ⊥) → bits_of k ≡ 0
unfolding right
by_size k (yes l) e = eqb-true (bits_of k) 0 (rw (ne_eqb (id_at k) k e) at (rule k l))
by_size k (no l) e = above_none k (omega arith)

-- without one it holds none
pub row_none : (k : ℕ) → (id_at k ≡ k → ⊥) → bits_of k ≡ 0
row_none k e = by_size k (dec_lt k 768) e

-- a register that holds bits has a cell, and is no port's data
by_row : (k : ℕ) (b : Bool) → eqb (id_at k) k ≡ b → (bits_of k ≡ 0 → ⊥) → Has k
by_row k true e h = (row_right k (eqb-true (id_at k) k e)).1
by_row k false e h = absurd (h (row_none k (λ t. false≢true (sym e ∙ eq-eqb (id_at k) k t))))

pub held_has : (k : ℕ) → (bits_of k ≡ 0 → ⊥) → Has k
held_has k h = by_row k (eqb (id_at k) k) refl h
