-- How often values change a cell, value by value. Assumes nothing.
use mathlib.Core.Path.{◌≡◌, refl, ◌∙◌}
use mathlib.Core.List.{List}
use Prim.Native.Nat.{ℕ, zero, suc, ◌+◌, ◌-◌, ◌≤◌, ◌<◌, min}
use native.Mathlib.Numerals.{sub-one}
use native.Mathlib.Omega.{arith}
use lib.ListN.{length, get_or, take, drop}
use borrow.Author.Tests.{eq-eqb}
use Rattle.std.proofs.lemmas.List.{get_or-take, get_or-drop, length-drop, length-take-le}
use Rattle.numbers.specs.Bits.{merge}
use Rattle.commands.specs.Changes.{change, changes}

pub no_change : (c : ℕ) → change c c ≡ 0
no_change c = rw (eq-eqb c c refl)

module _ (e old : ℕ) (l : List ℕ) where
  -- what the cell holds after the value at j
  abbrev after : ℕ → ℕ
  after j = merge e old (get_or l j 0)

  pub changes_none : (c j n : ℕ) → n ≤ 0 → changes e old c l j n ≡ 0
  unfolding changes
  changes_none c j zero z = refl
  changes_none c j (suc n) z = absurd (omega arith)

  pub changes_next : (c j n : ℕ) → 0 < n → changes e old c l j n ≡ change c (after j) + changes e old (after j) l (j + 1) (n - 1)
  unfolding changes
  changes_next c j zero p = absurd (omega arith)
  changes_next c j (suc n) p = rw (sub-one (suc n))

  -- ONE TO THREE VALUES: the second is at k, the third at m, and where there are fewer these are the last's places
  pub by_three : (c j k m n : ℕ) → 0 < n → n ≤ 3 → k ≡ j + min (n - 1) 1 → m ≡ j + (n - 1)
      → change c (after j) + change (after j) (after k) + change (after k) (after m) ≡ changes e old c l j n
  by_three c j k m zero p q f g = absurd (omega arith)
  by_three c j k m (suc zero) p q f g =
      let a : k ≡ j = omega (arith, f) in
      let b : m ≡ j = omega (arith, g) in
      rw (a, b, no_change (after j))
      (omega (arith, changes_next c j 1 (omega arith), changes_none (after j) (j + 1) (1 - 1) (omega arith)))
  by_three c j k m (suc (suc zero)) p q f g =
      let a : k ≡ j + 1 = omega (arith, f) in
      let b : m ≡ j + 1 = omega (arith, g) in
      rw (a, b, no_change (after (j + 1)))
      (omega (
        arith,
        changes_next c j 2 (omega arith),
        changes_next (after j) (j + 1) (2 - 1) (omega arith),
        changes_none (after (j + 1)) (j + 1 + 1) (2 - 1 - 1) (omega arith),
      ))
  by_three c j k m (suc (suc (suc zero))) p q f g =
      let a : k ≡ j + 1 = omega (arith, f) in
      let b : m ≡ j + 1 + 1 = omega (arith, g) in
      rw (a, b)
      (omega (
        arith,
        changes_next c j 3 (omega arith),
        changes_next (after j) (j + 1) (3 - 1) (omega arith),
        changes_next (after (j + 1)) (j + 1 + 1) (3 - 1 - 1) (omega arith),
        changes_none (after (j + 1 + 1)) (j + 1 + 1 + 1) (3 - 1 - 1 - 1) (omega arith),
      ))
  by_three c j k m (suc (suc (suc (suc n)))) p q f g = absurd (omega arith)

-- THE VALUES AS A PART OF A LIST: by the values alone
module _ (e old : ℕ) (l m : List ℕ) where
  same_values : (n c i j : ℕ) → ((k : ℕ) → k < n → get_or l (i + k) 0 ≡ get_or m (j + k) 0) → changes e old c l i n ≡ changes e old c m j n
  unfolding changes
  same_values zero c i j h = refl
  same_values (suc n) c i j h =
      let x : i + 0 ≡ i = omega arith in
      let y : j + 0 ≡ j = omega arith in
      let v : get_or l i 0 ≡ get_or m j 0 = rw (x, y) at (h 0 (omega arith)) in
      let rest : (k : ℕ) → k < n → get_or l (i + 1 + k) 0 ≡ get_or m (j + 1 + k) 0 =
      λ k p.
      let s : i + (k + 1) ≡ i + 1 + k = omega arith in
      let t : j + (k + 1) ≡ j + 1 + k = omega arith in
      rw (s, t) at (h (k + 1) (omega arith)) in
      rw (v, same_values n (merge e old (get_or m j 0)) (i + 1) (j + 1) rest)

pub changes_part : (e old c : ℕ) (l : List ℕ) (j n : ℕ) → j + n ≤ length l
    → changes e old c (take (j + n - j) (drop j l)) 0 (length (take (j + n - j) (drop j l))) ≡ changes e old c l j n
changes_part e old c l j n h =
    let f : j + n - j ≡ n = omega arith in
    let long : length (take n (drop j l)) ≡ n = length-take-le n (drop j l) (omega (arith, h, length-drop j l)) in
    rw (f, long)
    (same_values e old (take n (drop j l)) l n c 0 j
    (λ k p. let z : 0 + k ≡ k = omega arith in rw z (get_or-take n (drop j l) k 0 p ∙ get_or-drop j l k 0)))
