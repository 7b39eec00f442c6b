-- Uploads, word by word and stretch by stretch. Assumes nothing.
use mathlib.Core.Path.{◌≡◌, refl, ◌∙◌}
use mathlib.Core.Bool.{Bool, true, false}
use mathlib.Core.List.{List}
use Prim.Native.Nat.{ℕ, zero, suc, ◌+◌, ◌-◌, ◌≤◌, ◌<◌}
use native.Mathlib.Decide.{dec_lt}
use native.Mathlib.Omega.{arith}
use lib.Dec.{ltb}
use borrow.Author.Tests.{lt-ltb, le-ltb, ltb-true}
use Rattle.numbers.specs.Pick.{pick}
use Rattle.ports.specs.Uploads.{with_entry, filled, wrapped, uploaded}

-- WORD BY WORD

pub filled_done : (es : List ℕ) (e : ℕ) (l : List ℕ) (j n : ℕ) → n ≤ 0 → filled es e l j n ≡ es
unfolding filled
filled_done es e l j zero z = refl
filled_done es e l j (suc n) z = absurd (omega arith)

pub filled_next : (es : List ℕ) (e : ℕ) (l : List ℕ) (j n : ℕ) → 0 < n
    → filled es e l j n ≡ filled (with_entry es e l j) (e + 1) l (j + 1) (n - 1)
unfolding filled
filled_next es e l j zero z = absurd (omega arith)
filled_next es e l j (suc n) z = let d : suc n - 1 ≡ n = omega arith in rw d

-- THE TABLE'S END

pub wrapped_inside : (size i : ℕ) → i < size → wrapped size i ≡ i
wrapped_inside size i h = rw (lt-ltb i size h)

pub wrapped_end : (size i : ℕ) → size ≤ i → wrapped size i ≡ 0
wrapped_end size i h = rw (le-ltb i size h)

within_by : (b : Bool) (size i : ℕ) → ltb i size ≡ b → 0 < size → pick b i 0 < size
within_by true size i e h = ltb-true i size e
within_by false size i e h = h

pub wrapped_within : (size i : ℕ) → 0 < size → wrapped size i < size
wrapped_within size i h = within_by (ltb i size) size i refl h

module _ (size table : ℕ) where
  pub uploaded_done : (i : ℕ) (es l : List ℕ) (j n : ℕ) → n ≤ 0 → uploaded size table i es l j n ≡ es
  unfolding uploaded
  uploaded_done i es l j zero z = refl
  uploaded_done i es l j (suc n) z = absurd (omega arith)

  pub uploaded_next : (i : ℕ) (es l : List ℕ) (j n : ℕ) → 0 < n
      → uploaded size table i es l j n ≡ uploaded size table (wrapped size (i + 1)) (with_entry es (table + i) l j) l (j + 1) (n - 1)
  unfolding uploaded
  uploaded_next i es l j zero z = absurd (omega arith)
  uploaded_next i es l j (suc n) z = let d : suc n - 1 ≡ n = omega arith in rw d

  -- STRETCH BY STRETCH: n of the words, up to the table's end, fill entries in a row

  Stretch : ℕ → ℕ → ℕ → List ℕ → List ℕ → ℕ → Type 0
  Stretch n m i es l j =
      uploaded size table i es l j (n + m) ≡ uploaded size table (wrapped size (i + n)) (filled es (table + i) l j n) l (j + n) m

  no_stretch : (m i : ℕ) (es l : List ℕ) (j : ℕ) → i < size → Stretch 0 m i es l j
  unfolding Stretch
  no_stretch m i es l j h =
      let a : i + 0 ≡ i = omega arith in
      let d : j + 0 ≡ j = omega arith in
      let z : 0 + m ≡ m = omega arith in
      rw (a, d, z, wrapped_inside size i h, filled_done es (table + i) l j 0 (omega arith))

  longer : (n m i : ℕ) (es l : List ℕ) (j : ℕ) → i + suc n ≤ size → Dec (i + 1 < size)
      → (i + 1 < size → Stretch n m (i + 1) (with_entry es (table + i) l j) l (j + 1)) → Stretch (suc n) m i es l j
  unfolding Stretch
  longer n m i es l j b (yes t) ih =
      let s : suc n + m - 1 ≡ n + m = omega arith in
      let r : suc n - 1 ≡ n = omega arith in
      let a : i + 1 + n ≡ i + suc n = omega arith in
      let d : j + 1 + n ≡ j + suc n = omega arith in
      let e : table + (i + 1) ≡ table + i + 1 = omega arith in
      uploaded_next i es l j (suc n + m) (omega arith)
      ∙ rw (s, wrapped_inside size (i + 1) t, filled_next es (table + i) l j (suc n) (omega arith), r) (rw (a, d, e) at (ih t))
  longer n m i es l j b (no t) ih =
      let s : suc n + m - 1 ≡ m = omega arith in
      let r : suc n - 1 ≡ 0 = omega arith in
      let a : i + suc n ≡ i + 1 = omega arith in
      let d : j + suc n ≡ j + 1 = omega arith in
      let f = filled_next es (table + i) l j (suc n) (omega arith) in
      let z = filled_done (with_entry es (table + i) l j) (table + i + 1) l (j + 1) 0 (omega arith) in
      uploaded_next i es l j (suc n + m) (omega arith) ∙ rw (s, a, d, f, r, z)

  by_stretch : (n m i : ℕ) (es l : List ℕ) (j : ℕ) → i < size → i + n ≤ size → Stretch n m i es l j
  by_stretch zero m i es l j h b = no_stretch m i es l j h
  by_stretch (suc n) m i es l j h b =
      longer n m i es l j b (dec_lt (i + 1) size) (λ t. by_stretch n m (i + 1) (with_entry es (table + i) l j) l (j + 1) t (omega arith))

  pub uploaded_stretch : (n m i : ℕ) (es l : List ℕ) (j : ℕ) → i < size → i + n ≤ size
      → uploaded size table i es l j (n + m) ≡ uploaded size table (wrapped size (i + n)) (filled es (table + i) l j n) l (j + n) m
  unfolding Stretch
  uploaded_stretch n m i es l j h b = by_stretch n m i es l j h b
