-- The promise of each function that another crate can call settles its calls: any two answers that it allows are equal, and so are the
-- sizes then in the room lent for them, for the writes of the run. What is left in `least`, and in `extra` past the run, is not promised.
-- Assumes nothing.
use mathlib.Core.Path.{◌≡◌, refl, sym, ◌∙◌}
use mathlib.Core.List.{List, [], ◌∷◌}
use Prim.Native.Nat.{ℕ, zero, suc, ◌<◌}
use native.Mathlib.Omega.{arith}
use lib.ListN.{length, get_or}
use borrow.Fn.Kinds.{Dens}
use contract.Lifetimes.{Lfts}
use Rattle.numbers.specs.Settled.{Settles, settled}
use Rattle.cuts.specs.Cuts.{words}
use Rattle.runs.proofs.Writes.{writes_length}
use Rattle.planning.proofs.words_of.Reads as words_of_reads
use Rattle.planning.proofs.words_of.Kinds as words_of_kinds
use Rattle.planning.proofs.plan_run.Reads as plan_run_reads
use Rattle.planning.proofs.plan_run.Kinds as plan_run_kinds

pub words_of_settled : (κs : Lfts 0) (a : Dens κs words_of_kinds.ps) → Settles (λ e. tt {0}) (words_of_reads.Post κs a)
words_of_settled κs a = settled _ _ (λ r. r) (λ r r' e. e) (words a.0) tt (λ r e p. (p, refl))

-- the first n entries, from the last of them
abbrev pub entries : ℕ → List ℕ → List ℕ
entries zero l = []
entries (suc n) l = get_or l n 0 ∷ entries n l

entries_same : (n : ℕ) (l m : List ℕ) → ((j : ℕ) → j < n → get_or l j 0 ≡ get_or m j 0) → entries n l ≡ entries n m
entries_same zero l m h = refl
entries_same (suc n) l m h = rw (h n (omega arith), entries_same n l m (λ j p. h j (omega arith)))

-- `plan_run` requires that there is a mask for each id
pub plan_run_settled : (κs : Lfts 4) (a : Dens κs plan_run_kinds.ps) → length a.0.now ≡ length a.1.0.now
    → Settles (λ e. entries (length a.0.now) e.1.1.1.0.now) (plan_run_reads.Post κs a)
plan_run_settled κs a m r r' e e' p q =
    let is = a.0.now in
    let n = writes_length is a.1.0.now is m refl in
    let P = p is refl in
    let Q = q is refl in (
      P.words ∙ sym Q.words,
      entries_same (length is) e.1.1.1.0.now e'.1.1.1.0.now
          (λ j h. let k = P.sizes j (omega arith) ∙ sym (Q.sizes j (omega arith)) in omega arith),
    )
