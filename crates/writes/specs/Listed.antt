-- What is answered for the writes of a list, and what the three buffers then hold. The call is ours: document 01 defines the expansion
-- and has no call that gives it. 22 is the number that document 02 gives too few places, for text; we take it here too.
use Rattle.std.specs.Prelude.{List, ℕ, leb, length}
use Rattle.numbers.specs.Pick.{pick}
use Rattle.numbers.specs.Answer.{Answer, refused}
use Rattle.numbers.specs.Room.{level, and_then, if_room, space_after}
use Rattle.words.specs.Writes.{ids_in, masks_in, values_in}
use Rattle.words.specs.Commands.{expansion}
use Rattle.reader.specs.ListVerdict.{verdict}

-- for a list and three buffers, ids, masks and values: 7 where they differ in length; then the reader's refusals of the list, 1, 15
-- and then the commands'; then the number of writes in its expansion where there are places for them, else 22 with the places needed
unfoldable pub writes_answer : List ℕ → List ℕ → List ℕ → List ℕ → Answer
writes_answer l is ms vs =
    pick (level is ms vs)
    (pick (leb (length l) 65536) (and_then (verdict l) (if_room 22 (length (expansion l)) (length is))) (refused 1 0))
    (refused 7 0)

-- the ids, masks and values of the expansion stand at the start of the buffers, and the places past them keep their contents; on a refusal
-- all places do
abbrev pub writes_ids : List ℕ → List ℕ → List ℕ → List ℕ → List ℕ
writes_ids l is ms vs = space_after (writes_answer l is ms vs) (ids_in (expansion l)) is

abbrev pub writes_masks : List ℕ → List ℕ → List ℕ → List ℕ → List ℕ
writes_masks l is ms vs = space_after (writes_answer l is ms vs) (masks_in (expansion l)) ms

abbrev pub writes_values : List ℕ → List ℕ → List ℕ → List ℕ → List ℕ
writes_values l is ms vs = space_after (writes_answer l is ms vs) (values_in (expansion l)) vs
