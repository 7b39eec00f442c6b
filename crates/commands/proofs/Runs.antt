-- Runs of writes, and that the writes of a command in a list, mask 0 too, are one. Assumes nothing.
use mathlib.Core.Path.{◌≡◌, refl}
use mathlib.Core.List.{List, [], ◌∷◌}
use Prim.Native.Nat.{ℕ, zero, suc, ◌+◌, ◌-◌, ◌≤◌, ◌<◌}
use native.Mathlib.Numerals.{sub-one}
use native.Mathlib.Omega.{arith}
use lib.ListN.{length, get_or}
use borrow.Author.Tests.{ne_eqb}
use Rattle.words.specs.Header.{id_of, mask_of, count_of, step_of}
use Rattle.words.specs.Writes.{writing}
use Rattle.words.specs.Commands.{header_at, param_at, run, expand}
use Rattle.words.proofs.Laws.{run_done, run_next, OneMask}
use Rattle.words.specs.declared.Header.{Header}
use Rattle.commands.specs.Run.{run_from, run_with}

pub run_from_done : (l : List ℕ) (j n i m d : ℕ) → n ≤ 0 → run_from l j n i m d ≡ []
unfolding run_from
run_from_done l j zero i m d h = refl
run_from_done l j (suc n) i m d h = absurd (omega arith)

pub run_from_next : (l : List ℕ) (j n i m d : ℕ) → 0 < n
    → run_from l j n i m d ≡ writing i m (get_or l j 0) ∷ run_from l (j + 1) (n - 1) (i + d) m d
unfolding run_from
run_from_next l j zero i m d h = absurd (omega arith)
run_from_next l j (suc n) i m d h = rw (sub-one (suc n))

pub run_from_length : (l : List ℕ) (j n i m d : ℕ) → length (run_from l j n i m d) ≡ n
run_from_length l j zero i m d = rw (run_from_done l j 0 i m d (omega arith))
run_from_length l j (suc n) i m d =
    let e : suc n - 1 ≡ n = omega arith in
    rw (run_from_next l j (suc n) i m d (omega arith), e, run_from_length l (j + 1) n (i + d) m d)

-- they have one mask
run_from_mask : (l : List ℕ) (j n i m d : ℕ) → OneMask m (run_from l j n i m d)
unfolding run_from
run_from_mask l j zero i m d = tt
run_from_mask l j (suc n) i m d = (refl, run_from_mask l (j + 1) n (i + d) m d)

pub with_mask : (h : Header) (v : ℕ) (l : List ℕ) (j : ℕ) → OneMask h.mask (run_with h v l j)
with_mask h v l j = (refl, run_from_mask l j h.count (h.id + h.step) h.mask h.step)

-- THE WRITES OF A COMMAND IN A LIST
module _ (l : List ℕ) (at : ℕ) where
  abbrev h : ℕ
  h = header_at l at

  -- the parameters after the first stand after the header
  pub param_later : (k j : ℕ) → 0 < k → j ≡ at + 1 + k → get_or l j 0 ≡ param_at l at k
  param_later k j p e = rw (e, ne_eqb k 0 (λ z. omega arith))

  pub run_from_law : (n k i j : ℕ) → 0 < k → j ≡ at + 1 + k → run l at n k i ≡ run_from l j n i (mask_of h) (step_of h)
  run_from_law zero k i j p e = rw (run_done l at 0 k i (omega arith), run_from_done l j 0 i (mask_of h) (step_of h) (omega arith))
  run_from_law (suc n) k i j p e =
      let m : suc n - 1 ≡ n = omega arith in
      rw (
        run_next l at (suc n) k i (omega arith),
        run_from_next l j (suc n) i (mask_of h) (step_of h) (omega arith),
        m,
        param_later k j p e,
        run_from_law n (k + 1) (i + step_of h) (j + 1) (omega arith) (omega arith),
      )

  -- the first value stands before the header, the others after it
  pub expand_from : expand l at
      ≡ writing (id_of h) (mask_of h) (get_or l at 0) ∷ run_from l (at + 2) (count_of h) (id_of h + step_of h) (mask_of h) (step_of h)
  expand_from =
      let n : count_of h + 1 - 1 ≡ count_of h = omega arith in
      rw (
        run_next l at (count_of h + 1) 0 (id_of h) (omega arith),
        n,
        run_from_law (count_of h) 1 (id_of h + step_of h) (at + 2) (omega arith) (omega arith),
      )
