-- DEMAND 3, and demand 2 of a packed list, over what the reader accepts. Assumes nothing.
use mathlib.Core.Path.{◌≡◌, refl, sym, ap, ◌∙◌}
use mathlib.Core.Bool.{true}
use mathlib.Core.List.{List, ◌++◌}
use mathlib.Core.Logic.{◌⊎◌, inl, inr, ⊎_elim}
use Prim.Native.Nat.{ℕ, ◌+◌, ◌*◌, ◌≤◌, ◌<◌}
use native.Mathlib.Omega.{arith}
use lib.ListN.{length, drop}
use Rattle.numbers.specs.Answer.{Answer, answered, refused}
use Rattle.numbers.specs.Room.{and_then, if_room, space_after}
use Rattle.numbers.proofs.Answers.{told_apart, number_one}
use Rattle.numbers.proofs.Room.{room_enough, room_short, room_answered, room_refused}
use Rattle.words.specs.Writes.{Write, kept}
use Rattle.words.specs.Commands.{expansion}
use Rattle.registers.specs.State.{State, sized}
use Rattle.registers.specs.Applied.{apply_all}
use Rattle.reader.specs.Read.{read_answer, read_state}
use Rattle.runs.specs.PackedList.{writes, PackableRun, written}
use Rattle.runs.specs.Shortest.{Shortest}
use Rattle.runs.proofs.Writes.{writes_length}
use Rattle.runs.proofs.Shortest.{says_of, written_shortest, written_short}
use Rattle.packer.specs.Checks.{check_answer}
use Rattle.packer.specs.Packing.{pack_answer, pack_space}
use Rattle.packer.proofs.Checks.{check_given, given_check}
use Rattle.packer.proofs.Packs.{pack_room}
use Rattle.demands.specs.Said.{Said}
use Rattle.demands.specs.Refusals.{OneLength}
use Rattle.demands.proofs.Reading.{legal_accepted, read_tested, accepted, leaves}
use Rattle.demands.proofs.RunRefusals.{check_row, run_below}
use Rattle.demands.proofs.Said.{said_packable, packable_said}

-- "No lent memory changes on any refusal"
stays : (a : Answer) (l old : List ℕ) (n p : ℕ) → a ≡ refused n p → space_after a l old ≡ old
stays (answered m) l old n p e = absurd (told_apart e)
stays (refused m q) l old n p e = refl

pub refused_pack : (is ms vs old : List ℕ) (n p : ℕ) → pack_answer is ms vs (length old) ≡ refused n p → pack_space is ms vs old ≡ old
refused_pack is ms vs old n p e = stays (pack_answer is ms vs (length old)) (written (writes is ms vs)) old n p e

-- AN ANSWER goes by the writes, and then by the room
module _ (is ms vs : List ℕ) where
  abbrev list : List ℕ
  list = written (writes is ms vs)

  -- either the writes can be packed, or the refusal is one of the writes
  abbrev ByRoom : ℕ → Answer → Type 0
  ByRoom room a = PackableRun is ms vs × (if_room 10 (length list) room ≡ a)

  from_check : (room : ℕ) (a b : Answer) → check_answer is ms vs ≡ b → and_then b (if_room 10 (length list) room) ≡ a
      → ByRoom room a ⊎ ((n : ℕ) × (p : ℕ) × (a ≡ refused n p) × (n < 10))
  from_check room a (answered m) c e = inl (check_given is ms vs m c, e)
  from_check room a (refused m p) c e = inr (m, p, sym e, run_below is ms vs m p (check_row is ms vs m p c))

  cases : (room : ℕ) (a : Answer) → pack_answer is ms vs room ≡ a
      → ByRoom room a ⊎ ((n : ℕ) × (p : ℕ) × (a ≡ refused n p) × (n < 10))
  unfolding pack_answer
  cases room a e = from_check room a (check_answer is ms vs) refl e

  -- an answer is the length of the list written, for which there is room, of a run that can be packed
  pub answered_then : (room n : ℕ) → pack_answer is ms vs room ≡ answered n → PackableRun is ms vs × (n ≡ length list) × (n ≤ room)
  answered_then room n e =
      ⊎_elim (λ g. let r = room_answered 10 (length list) room n g.1 in (g.0, r.0, r.1))
      (λ x. absurd (told_apart x.2)) (cases room (answered n) e)

  -- "no room" is said for its length, for which there is none
  pub no_room_then : (room n : ℕ) → pack_answer is ms vs room ≡ refused 10 n → PackableRun is ms vs × (n ≡ length list) × (room < n)
  no_room_then room n e =
      ⊎_elim (λ g. let r = room_refused 10 (length list) room 10 n g.1 in (g.0, r.1, r.2))
      (λ x. absurd (omega (arith, x.3, number_one x.2))) (cases room (refused 10 n) e)

-- a run that is packed, or for which there is no room, is one that some accepted list carries
pub given_said : (is ms vs : List ℕ) → PackableRun is ms vs → Said (writes is ms vs)
given_said is ms vs G =
    packable_said (writes is ms vs) (omega (arith, writes_length is ms vs G.masks G.values, G.few)) G.packable

-- THE DEMAND: of at most 4,096 writes, mask 0 too, in three buffers of one length, that some accepted list carries
module _ (is ms vs : List ℕ) (level : OneLength is ms vs) (few : length is ≤ 4096)
    (said : Said (writes is ms vs)) where
  abbrev ws : List Write
  ws = writes is ms vs

  pub given : PackableRun is ms vs
  given = record { masks = level.0; values = level.1; few = few; packable = said_packable ws said }

  best : Shortest (kept ws) (written ws)
  best = written_shortest ws given.packable

  -- "The bound becomes two words a write plus two", of all writes given
  pub two_a_write : length (written ws) ≤ 2 * length ws + 2
  two_a_write = written_short ws

  pub short : length (written ws) ≤ 65536
  short = omega (arith, two_a_write, few, writes_length is ms vs level.0 level.1)

  -- "A packed list reads back as the writes that were given", but for those of mask 0: any state accepts it, with their number, and it
  -- leaves what they leave
  pub reads_back : (s : State) → sized s ≡ true
      → (read_answer s (written ws) ≡ answered (length (kept ws))) × (expansion (written ws) ≡ kept ws)
      × (read_state s (written ws) ≡ apply_all s (kept ws))
  reads_back s e =
      let v = legal_accepted (written ws) (length (kept ws)) best.says.accepted in
      let x = best.says.writes in
      let a : read_answer s (written ws) ≡ answered (length (kept ws)) =
      accepted s (written ws) e short v.0 v.1 v.2 ∙ ap (λ (l : List Write). answered (length l)) x in
      (a, x, leaves s (written ws) e short (length (kept ws)) a ∙ ap (λ (l : List Write). apply_all s l) x)

  -- "the packer's list has exactly that expansion, and no accepted list with that expansion has fewer words"
  pub no_fewer : (s : State) (l : List ℕ) (n : ℕ) → read_answer s l ≡ answered n → expansion l ≡ kept ws → length (written ws) ≤ length l
  no_fewer s l n a x = best.least l (says_of (kept ws) l n (read_tested s l n a).2 x)

  -- ""No room" always and only when the lent space is shorter than that, with the words needed"
  pub room : (old : List ℕ) → length (written ws) ≤ length old
      → (pack_answer is ms vs (length old) ≡ answered (length (written ws)))
      × (pack_space is ms vs old ≡ written ws ++ drop (length (written ws)) old)
  room old h =
      let r = pack_room is ms vs old 0 _ _ (given_check is ms vs given) (room_enough 10 (length (written ws)) (length old) _ refl h) refl in
      (sym r.0, sym r.1)

  pub no_room : (old : List ℕ) → length old < length (written ws) → pack_answer is ms vs (length old) ≡ refused 10 (length (written ws))
  no_room old h =
      sym (pack_room is ms vs old 0 _ _ (given_check is ms vs given) (room_short 10 (length (written ws)) (length old) _ refl h) refl).0
