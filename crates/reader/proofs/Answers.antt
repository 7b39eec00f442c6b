-- What a reading gives and leaves, by the tests that code makes. Assumes nothing.
use mathlib.Core.Path.{◌≡◌}
use mathlib.Core.Bool.{true, false}
use mathlib.Core.List.{List}
use Prim.Native.Nat.{ℕ, ◌≤◌, ◌<◌}
use lib.ListN.{length}
use borrow.Author.Tests.{le-leb, lt-leb}
use Rattle.numbers.specs.Answer.{answered, refused, Answers, both, neither}
use Rattle.words.specs.Commands.{expansion}
use Rattle.registers.specs.State.{State, sized}
use Rattle.registers.specs.Applied.{apply_all, differences}
use Rattle.reader.specs.ListVerdict.{verdict}
use Rattle.reader.specs.Read.{read_answer, read_answers, read_state}

-- the reading of l into s gives a and leaves t
pub record Gives (s : State) (l : List ℕ) (a : Answers) (t : State) : Type 0 where
  pub answers : a ≡ read_answers s l
  pub state : t ≡ read_state s l

module _ (s : State) (l : List ℕ) where
  pub wrong_lengths : sized s ≡ false → Gives s l (neither 6 0) s
  unfolding read_answer read_answers read_state
  wrong_lengths e = record { answers = rw e; state = rw e }

  pub too_long : sized s ≡ true → 65536 < length l → Gives s l (neither 1 0) s
  unfolding read_answer read_answers read_state
  too_long e h = let n = lt-leb (length l) 65536 h in record { answers = rw (e, n); state = rw (e, n) }

  -- a refused list leaves all three buffers as they were
  pub list_refused : sized s ≡ true → length l ≤ 65536 → (n p : ℕ) → verdict l ≡ refused n p → Gives s l (neither n p) s
  unfolding read_answer read_answers read_state
  list_refused e h n p v = let k = le-leb (length l) 65536 h in record { answers = rw (e, k, v); state = rw (e, k, v) }

  -- an accepted one leaves what its expansion leaves
  pub list_accepted : sized s ≡ true → length l ≤ 65536 → (n : ℕ) → verdict l ≡ answered n
      → Gives s l (both n (differences s (expansion l))) (apply_all s (expansion l))
  unfolding read_answer read_answers read_state
  list_accepted e h n v = let k = le-leb (length l) 65536 h in record { answers = rw (e, k, v); state = rw (e, k, v) }
