-- The writes of a list, over the definitions: when they are given, and that each refusal is one of the rows for that call.
-- Assumes nothing.
use mathlib.Core.Path.{◌≡◌, refl, sym, ap, ◌∙◌}
use mathlib.Core.Bool.{Bool, true, false, false≢true}
use mathlib.Core.List.{List}
use mathlib.Core.Logic.{inl, inr}
use Prim.Native.Nat.{ℕ, ◌≤◌}
use lib.Dec.{leb}
use lib.ListN.{length}
use borrow.Author.Tests.{leb-true, leb-false, eqb-true}
use Rattle.numbers.specs.Pick.{pick}
use Rattle.numbers.specs.Answer.{Answer, answered, refused}
use Rattle.numbers.specs.Room.{level, and_then, if_room}
use Rattle.numbers.proofs.Answers.{told_apart, number_one, place_one}
use Rattle.numbers.proofs.Room.{level_lengths, lengths_level, room_answered, room_refused}
use Rattle.words.specs.Commands.{all_writes, expansion, legal, well_formed}
use Rattle.registers.specs.State.{State, sized}
use Rattle.reader.specs.ListVerdict.{verdict, all_allowed}
use Rattle.reader.specs.Read.{read_answer}
use Rattle.reader.proofs.Accepted.{verdict_accepted, verdict_accepts}
use Rattle.writes.specs.Listed.{writes_answer, writes_ids, writes_masks, writes_values}
use Rattle.writes.proofs.Listed.{room}
use Rattle.demands.specs.Refusals.{OneLength, WritesRefused}
use Rattle.demands.proofs.Reading.{legal_accepted}
use Rattle.demands.proofs.Refusals.{verdict_row}

module _ (l is ms vs : List ℕ) where
  abbrev need : ℕ
  need = length (expansion l)

  -- AN ANSWER: the tests are passed, and there are places for the writes
  by_room : (n : ℕ) (a : Answer) → verdict l ≡ a → and_then a (if_room 22 need (length is)) ≡ answered n
      → (verdict l ≡ answered n) × (n ≤ length is)
  by_room n (answered m) v e =
      let r = room_answered 22 need (length is) n e in (v ∙ ap answered ((verdict_accepted l m v).2 ∙ sym r.0), r.1)
  by_room n (refused m p) v e = absurd (told_apart (sym e))

  by_tests : (n : ℕ) (a b : Bool) → level is ms vs ≡ a → leb (length l) 65536 ≡ b
      → pick a (pick b (and_then (verdict l) (if_room 22 need (length is))) (refused 1 0)) (refused 7 0) ≡ answered n
      → OneLength is ms vs × (length l ≤ 65536) × (verdict l ≡ answered n) × (n ≤ length is)
  by_tests n true true t u e =
      let r = by_room n (verdict l) refl e in (level_lengths is ms vs t, leb-true _ _ u, r.0, r.1)
  by_tests n true false t u e = absurd (told_apart (sym e))
  by_tests n false b t u e = absurd (told_apart (sym e))

  pub writes_tested : (n : ℕ) → writes_answer l is ms vs ≡ answered n
      → OneLength is ms vs × (length l ≤ 65536) × (verdict l ≡ answered n) × (n ≤ length is)
  unfolding writes_answer
  writes_tested n e = by_tests n (level is ms vs) (leb (length l) 65536) refl refl e

  -- and where they are, it comes
  pub writes_given : OneLength is ms vs → length l ≤ 65536 → legal l ≡ true → well_formed l ≡ true
      → all_allowed (all_writes l) ≡ true → need ≤ length is
      → writes_answer l is ms vs ≡ answered need
  writes_given o h m f a k =
      let v = verdict_accepts l (eqb-true _ _ m) f a in
      let t = lengths_level is ms vs o.0 o.1 in
      sym (room l is ms vs t h need v k _ _ _ refl refl refl).answer

  -- A REFUSAL keeps the buffers
  pub refused_writes : (n p : ℕ) → writes_answer l is ms vs ≡ refused n p
      → (writes_ids l is ms vs ≡ is) × (writes_masks l is ms vs ≡ ms) × (writes_values l is ms vs ≡ vs)
  refused_writes n p e = rw e (refl, refl, refl)

  -- is the reader's, where it refuses the list and not its state
  by_reading : (s : State) (n p : ℕ) (b : Bool) → level is ms vs ≡ true
      → pick b (verdict l) (refused 1 0) ≡ refused n p
      → pick b (and_then (verdict l) (if_room 22 need (length is))) (refused 1 0) ≡ refused n p
  by_reading s n p true t e = rw e
  by_reading s n p false t e = e

  pub as_read : (s : State) → sized s ≡ true → OneLength is ms vs → (n p : ℕ) → read_answer s l ≡ refused n p
      → writes_answer l is ms vs ≡ refused n p
  unfolding writes_answer read_answer
  as_read s z o n p e =
      let t = lengths_level is ms vs o.0 o.1 in
      let r = rw z at e in
      rw t (by_reading s n p (leb (length l) 65536) t r)

  -- and is one of the rows
  differ : level is ms vs ≡ false → OneLength is ms vs → ⊥
  differ t o = false≢true (sym t ∙ lengths_level is ms vs o.0 o.1)

  by_verdict : (n p : ℕ) (a : Answer) → level is ms vs ≡ true → length l ≤ 65536 → verdict l ≡ a
      → and_then a (if_room 22 need (length is)) ≡ refused n p → WritesRefused l is ms vs n p
  by_verdict n p (answered m) t u v e =
      let r = room_refused 22 need (length is) n p e in
      let a = legal_accepted l m v in
      inr (inr (inr (r.0, level_lengths is ms vs t, u, a.0, a.1, a.2, r.1, r.2)))
  by_verdict n p (refused m q) t u v e = inr (inr (inl (level_lengths is ms vs t, u, verdict_row l n p (v ∙ e))))

  by_lengths : (n p : ℕ) (a b : Bool) → level is ms vs ≡ a → leb (length l) 65536 ≡ b
      → pick a (pick b (and_then (verdict l) (if_room 22 need (length is))) (refused 1 0)) (refused 7 0) ≡ refused n p
      → WritesRefused l is ms vs n p
  by_lengths n p true true t u e = by_verdict n p (verdict l) t (leb-true _ _ u) refl e
  by_lengths n p true false t u e =
      inr (inl (sym (number_one e), sym (place_one e), level_lengths is ms vs t, leb-false _ _ u))
  by_lengths n p false b t u e = inl (sym (number_one e), sym (place_one e), differ t)

  pub writes_row : (n p : ℕ) → writes_answer l is ms vs ≡ refused n p → WritesRefused l is ms vs n p
  unfolding writes_answer
  writes_row n p e = by_lengths n p (level is ms vs) (leb (length l) 65536) refl refl e
