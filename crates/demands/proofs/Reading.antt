-- DEMANDS 1 AND 2 of a list that is read, and of a single write. Assumes nothing.
use mathlib.Core.Path.{◌≡◌, refl, sym, ◌∙◌}
use mathlib.Core.Bool.{Bool, true, false}
use mathlib.Core.List.{List}
use Prim.Native.Nat.{ℕ, ◌%◌, ◌≤◌}
use lib.Dec.{leb}
use lib.ListN.{length}
use borrow.Author.Tests.{leb-true, le-leb, eq-eqb, eqb-true}
use Rattle.numbers.specs.Pick.{pick}
use Rattle.numbers.specs.Answer.{answered, refused}
use Rattle.numbers.proofs.Answers.{told_apart}
use Rattle.words.specs.Writes.{Write}
use Rattle.words.specs.Commands.{all_writes, expansion, legal, well_formed}
use Rattle.registers.specs.State.{State, sized}
use Rattle.registers.specs.Applied.{apply_all}
use Rattle.registers.specs.Single.{write_answer, write_state}
use Rattle.registers.proofs.Laws.{refused_keeps}
use Rattle.reader.specs.ListVerdict.{verdict, all_allowed}
use Rattle.reader.specs.Read.{read_answer, read_state}
use Rattle.reader.proofs.Accepted.{legal_judged, verdict_accepted, verdict_accepts}

-- "A refused list leaves all three buffers as they were, also when its last command is the bad one."
pub refused_list : (s : State) (l : List ℕ) (n p : ℕ) → read_answer s l ≡ refused n p → read_state s l ≡ s
unfolding read_state
refused_list s l n p e = rw e

-- A refused write leaves them as they were.
pub refused_write : (s : State) (w : Write) (n p : ℕ) → write_answer s w ≡ refused n p → write_state s w ≡ s
refused_write = refused_keeps

-- what an accepted list has
pub legal_accepted : (l : List ℕ) (n : ℕ) → verdict l ≡ answered n
    → (legal l ≡ true) × (well_formed l ≡ true) × (all_allowed (all_writes l) ≡ true) × (n ≡ length (expansion l))
legal_accepted l n e =
    let v = verdict_accepted l n e in (eq-eqb (length l % 4) 0 (legal_judged l n e).0, v.0, v.1, v.2)

-- a list that is read has passed the tests of 6 and 1, and its verdict
by_tests : (s : State) (l : List ℕ) (n : ℕ) (a b : Bool) → sized s ≡ a → leb (length l) 65536 ≡ b
    → pick a (pick b (verdict l) (refused 1 0)) (refused 6 0) ≡ answered n
    → (sized s ≡ true) × (length l ≤ 65536) × (verdict l ≡ answered n)
by_tests s l n true true t u e = (t, leb-true _ _ u, e)
by_tests s l n true false t u e = absurd (told_apart (sym e))
by_tests s l n false b t u e = absurd (told_apart (sym e))

pub read_tested : (s : State) (l : List ℕ) (n : ℕ) → read_answer s l ≡ answered n
    → (sized s ≡ true) × (length l ≤ 65536) × (verdict l ≡ answered n)
unfolding read_answer
read_tested s l n e = by_tests s l n (sized s) (leb (length l) 65536) refl refl e

module _ (s : State) (l : List ℕ) (fits : sized s ≡ true) (short : length l ≤ 65536) where
  -- with buffers of the right lengths, a list of at most 65,536 words has the answer that its verdict has
  answer_is : read_answer s l ≡ verdict l
  unfolding read_answer
  answer_is = rw (fits, le-leb (length l) 65536 short)

  -- "A list is accepted exactly when it is well formed and each write is allowed", those of mask 0 too, and, by request 3, its words are a
  -- multiple of 4: if it is, it is
  pub accepted : legal l ≡ true → well_formed l ≡ true → all_allowed (all_writes l) ≡ true → read_answer s l ≡ answered
      (length (expansion l))
  accepted m f a = answer_is ∙ verdict_accepts l (eqb-true _ _ m) f a

  -- and only then, with the number of the writes in its expansion
  pub accepted_only : (n : ℕ) → read_answer s l ≡ answered n
      → (legal l ≡ true) × (well_formed l ≡ true) × (all_allowed (all_writes l) ≡ true) × (n ≡ length (expansion l))
  accepted_only n e = legal_accepted l n (sym answer_is ∙ e)

  -- "what it leaves is what its expansion leaves, one masked write after another"
  pub leaves : (n : ℕ) → read_answer s l ≡ answered n → read_state s l ≡ apply_all s (expansion l)
  unfolding read_state
  leaves n e = rw e
