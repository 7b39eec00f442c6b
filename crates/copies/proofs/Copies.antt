-- What is taken, element by element. Assumes nothing.
use mathlib.Core.Path.{◌≡◌, refl, ◌∙◌}
use mathlib.Core.List.{List}
use Prim.Native.Nat.{ℕ, zero, suc, ◌+◌, ◌≤◌, ◌<◌}
use native.Mathlib.Decide.{dec_lt}
use native.Mathlib.Numerals.{add-one}
use native.Mathlib.Omega.{arith}
use lib.ListN.{length, get_or, set, length-set}
use lib.Seq.{get_or-set_same, get_or-set_other}
use Rattle.registers.specs.State.{State, st}
use Rattle.copies.specs.Copy.{cell_taking, entry_taking, taking, taken}

module _ (f : ℕ → ℕ → ℕ → ℕ) (to from : List ℕ) where
  pub taking_none : taking f 0 to from ≡ to
  unfolding taking
  taking_none = refl

  taking_suc : (n : ℕ)
      → taking f (suc n) to from ≡ set (taking f n to from) n (f n (get_or (taking f n to from) n 0) (get_or from n 0))
  unfolding taking
  taking_suc n = refl

  pub taking_next : (n : ℕ)
      → taking f (n + 1) to from ≡ set (taking f n to from) n (f n (get_or (taking f n to from) n 0) (get_or from n 0))
  taking_next n = rw (add-one n) (taking_suc n)

  pub taking_long : (n : ℕ) → length (taking f n to from) ≡ length to
  taking_long zero = rw taking_none
  taking_long (suc n) =
      let t = taking f n to from in
      rw (taking_suc n, length-set t n (f n (get_or t n 0) (get_or from n 0))) (taking_long n)

  -- an element from the n-th on stays
  pub taking_later : (n j : ℕ) → n ≤ j → get_or (taking f n to from) j 0 ≡ get_or to j 0
  taking_later zero j h = rw taking_none
  taking_later (suc n) j h =
      let t = taking f n to from in
      rw (taking_suc n, get_or-set_other t n j (f n (get_or t n 0) (get_or from n 0)) 0 (λ e. omega arith)) (taking_later n j (omega arith))

  -- one before it takes
  pub taking_done : (n j : ℕ) → j < n → j < length to → get_or (taking f n to from) j 0 ≡ f j (get_or to j 0) (get_or from j 0)
  taking_done zero j h l = absurd (omega arith)
  taking_done (suc n) j h l = rw (taking_suc n) (go (dec_lt j n) (λ k. taking_done n j k l))
    where
      go : Dec (j < n) → (j < n → get_or (taking f n to from) j 0 ≡ f j (get_or to j 0) (get_or from j 0))
          → get_or (set (taking f n to from) n (f n (get_or (taking f n to from) n 0) (get_or from n 0))) j 0 ≡ f j (get_or to j 0)
          (get_or from j 0)
      go (yes k) before =
          let t = taking f n to from in
          get_or-set_other t n j (f n (get_or t n 0) (get_or from n 0)) 0 (λ e. omega arith) ∙ before k
      go (no k) before =
          let t = taking f n to from in
          let e : j ≡ n = omega arith in
          let same = get_or-set_same t n (f n (get_or t n 0) (get_or from n 0)) 0 (omega (arith, taking_long n)) in
          rw (e, same, taking_later n n (omega arith))

pub taken_is : (to from : State)
    → taken to from
    ≡ st (taking cell_taking 768 to.cells from.cells) (taking entry_taking 128 to.fog from.fog)
    (taking entry_taking 6144 to.light from.light)
unfolding taken
taken_is to from = refl
