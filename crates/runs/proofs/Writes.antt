-- Three buffers of one length as writes: by index, and their values. Assumes nothing.
use mathlib.Core.Path.{◌≡◌, refl, ap}
use mathlib.Core.List.{List, [], ◌∷◌}
use Prim.Native.Nat.{ℕ, zero, suc, ◌+◌, ◌<◌}
use native.Mathlib.Numerals.{add-one}
use native.Mathlib.Omega.{arith}
use lib.ListN.{length, get_or, drop}
use Rattle.words.specs.Writes.{Write, writing, ids_in, masks_in, values_in}
use Rattle.runs.specs.PackedList.{writes}

pub writes_length : (is ms vs : List ℕ) → length is ≡ length ms → length is ≡ length vs → length (writes is ms vs) ≡ length is
writes_length [] ms vs e f = refl
writes_length (i ∷ is) [] vs e f = absurd (omega arith)
writes_length (i ∷ is) (m ∷ ms) [] e f = absurd (omega arith)
writes_length (i ∷ is) (m ∷ ms) (v ∷ vs) e f = ap suc (writes_length is ms vs (omega arith) (omega arith))

cons : (is ms vs : List ℕ) (j : ℕ) → length is ≡ length ms → length is ≡ length vs → j < length is
    → drop j (writes is ms vs) ≡ writing (get_or is j 0) (get_or ms j 0) (get_or vs j 0) ∷ drop (suc j) (writes is ms vs)
cons [] ms vs j e f h = absurd (omega arith)
cons (i ∷ is) [] vs j e f h = absurd (omega arith)
cons (i ∷ is) (m ∷ ms) [] j e f h = absurd (omega arith)
cons (i ∷ is) (m ∷ ms) (v ∷ vs) zero e f h = refl
cons (i ∷ is) (m ∷ ms) (v ∷ vs) (suc j) e f h = cons is ms vs j (omega arith) (omega arith) (omega arith)

-- write j, and those after it
pub writes_at : (is ms vs : List ℕ) (j : ℕ) → length is ≡ length ms → length is ≡ length vs → j < length is
    → drop j (writes is ms vs) ≡ writing (get_or is j 0) (get_or ms j 0) (get_or vs j 0) ∷ drop (j + 1) (writes is ms vs)
writes_at is ms vs j e f h = rw add-one (cons is ms vs j e f h)

-- the rows of the writes are the buffers, and the writes of a run's rows are the run
pub rows_of : (is ms vs : List ℕ) → length is ≡ length ms → length is ≡ length vs
    → (ids_in (writes is ms vs) ≡ is) × (masks_in (writes is ms vs) ≡ ms) × (values_in (writes is ms vs) ≡ vs)
rows_of [] [] [] e f = (refl, refl, refl)
rows_of [] [] (v ∷ vs) e f = absurd (omega arith)
rows_of [] (m ∷ ms) vs e f = absurd (omega arith)
rows_of (i ∷ is) [] vs e f = absurd (omega arith)
rows_of (i ∷ is) (m ∷ ms) [] e f = absurd (omega arith)
rows_of (i ∷ is) (m ∷ ms) (v ∷ vs) e f =
    let r = rows_of is ms vs (omega arith) (omega arith) in
    (ap (λ (x : List ℕ). i ∷ x) r.0, ap (λ (x : List ℕ). m ∷ x) r.1, ap (λ (x : List ℕ). v ∷ x) r.2)

pub writes_rows : (ws : List Write) → writes (ids_in ws) (masks_in ws) (values_in ws) ≡ ws
writes_rows [] = refl
writes_rows (w ∷ ws) = ap (λ (x : List Write). w ∷ x) (writes_rows ws)

-- the values from write j on
pub values_from : (is ms vs : List ℕ) (j : ℕ) → length is ≡ length ms → length is ≡ length vs
    → values_in (drop j (writes is ms vs)) ≡ drop j vs
values_from [] ms [] zero e f = refl
values_from [] ms [] (suc j) e f = refl
values_from [] ms (v ∷ vs) j e f = absurd (omega arith)
values_from (i ∷ is) [] vs j e f = absurd (omega arith)
values_from (i ∷ is) (m ∷ ms) [] j e f = absurd (omega arith)
values_from (i ∷ is) (m ∷ ms) (v ∷ vs) zero e f = ap (λ (x : List ℕ). v ∷ x) (values_from is ms vs zero (omega arith) (omega arith))
values_from (i ∷ is) (m ∷ ms) (v ∷ vs) (suc j) e f = values_from is ms vs j (omega arith) (omega arith)
