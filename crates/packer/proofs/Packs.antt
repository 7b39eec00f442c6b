-- What packing answers and leaves, by the tests that code makes. Assumes nothing.
use Rattle.std.proofs.Common.{◌≡◌, ℕ, ◌<◌, ◌≤◌, List, length, sym, refl, ap, ◌∙◌}
use Rattle.numbers.specs.Answer.{Answer, answered, refused}
use Rattle.numbers.specs.Room.{if_room, space_after}
use Rattle.numbers.proofs.Room.{room_enough, room_short}
use Rattle.runs.specs.PackedList.{writes, written}
use Rattle.filling.specs.Putting.{Puts}
use Rattle.packer.specs.Checks.{check_answer}
use Rattle.packer.specs.Packing.{pack_answer, pack_space}

-- WHAT WAS PUT goes by the room, and so does the answer
module _ (l old new : List ℕ) (n : ℕ) (p : Puts l n old new) where
  by_answer : (a : Answer) → a ≡ if_room 10 (length l) (length old)
      → (a ≡ if_room 10 (length l) (length old)) × (new ≡ space_after a l old)
  by_answer a e = (e, p.space ∙ ap (λ (x : Answer). space_after x l old) (sym e))

  pub put_short : length old < n → (refused 10 n ≡ if_room 10 (length l) (length old)) × (new ≡ space_after (refused 10 n) l old)
  put_short h = by_answer (refused 10 n) (room_short 10 (length l) (length old) n p.words h)

  pub put_enough : n ≤ length old → (answered n ≡ if_room 10 (length l) (length old)) × (new ≡ space_after (answered n) l old)
  put_enough h = by_answer (answered n) (room_enough 10 (length l) (length old) n p.words h)

-- THE WHOLE ANSWER
module _ (is ms vs old : List ℕ) where
  -- a refusal of the writes stands, and keeps the space
  pub pack_refused : (n p : ℕ) → check_answer is ms vs ≡ refused n p
      → (refused n p ≡ pack_answer is ms vs (length old)) × (old ≡ pack_space is ms vs old)
  unfolding pack_answer
  pack_refused n p e = rw e (refl, refl)

  -- else it goes by the room
  pub pack_room : (n : ℕ) (a : Answer) (new : List ℕ) → check_answer is ms vs ≡ answered n
      → a ≡ if_room 10 (length (written (writes is ms vs))) (length old)
      → new ≡ space_after a (written (writes is ms vs)) old → (a ≡ pack_answer is ms vs (length old)) × (new ≡ pack_space is ms vs old)
  unfolding pack_answer
  pack_room n a new e f g = rw (e, ← f) (refl, g)
