-- What is answered for the writes of a list and what the buffers then hold, by the tests that code makes. Assumes nothing.
use mathlib.Core.Path.{◌≡◌}
use mathlib.Core.Bool.{true, false}
use mathlib.Core.List.{List, ◌++◌}
use Prim.Native.Nat.{ℕ, ◌≤◌, ◌<◌}
use lib.ListN.{length, drop, length-map}
use borrow.Author.Tests.{le-leb, lt-leb}
use Rattle.numbers.specs.Answer.{Answer, answered, refused}
use Rattle.numbers.specs.Room.{level, if_room}
use Rattle.numbers.proofs.Room.{room_enough, room_short}
use Rattle.words.specs.Writes.{Write, ids_in, masks_in, values_in}
use Rattle.words.specs.Commands.{expansion}
use Rattle.reader.specs.ListVerdict.{verdict}
use Rattle.reader.proofs.Accepted.{verdict_accepted}
use Rattle.writes.specs.Listed.{writes_answer, writes_ids, writes_masks, writes_values}

-- for the list l, lent is, ms and vs, the answer is a and the buffers are then these
pub record Listing (l is ms vs : List ℕ) (a : Answer) (is' ms' vs' : List ℕ) : Type 0 where
  pub answer : a ≡ writes_answer l is ms vs
  pub ids : is' ≡ writes_ids l is ms vs
  pub masks : ms' ≡ writes_masks l is ms vs
  pub values : vs' ≡ writes_values l is ms vs

module _ (l is ms vs : List ℕ) where
  -- a refusal keeps the buffers
  keeps : (r p : ℕ) → refused r p ≡ writes_answer l is ms vs → Listing l is ms vs (refused r p) is ms vs
  keeps r p e = record { answer = e; ids = rw (← e); masks = rw (← e); values = rw (← e) }

  pub lengths_differ : level is ms vs ≡ false → Listing l is ms vs (refused 7 0) is ms vs
  unfolding writes_answer
  lengths_differ t = keeps 7 0 (rw t)

  module _ (t : level is ms vs ≡ true) where
    pub too_long : 65536 < length l → Listing l is ms vs (refused 1 0) is ms vs
    unfolding writes_answer
    too_long h = keeps 1 0 (rw (t, lt-leb (length l) 65536 h))

    module _ (h : length l ≤ 65536) where
      pub list_refused : (r p : ℕ) → verdict l ≡ refused r p → Listing l is ms vs (refused r p) is ms vs
      unfolding writes_answer
      list_refused r p v = keeps r p (rw (t, le-leb (length l) 65536 h, v))

      -- an accepted list goes by the room
      module _ (n : ℕ) (v : verdict l ≡ answered n) where
        by_room : (a : Answer) → (n ≡ length (expansion l) → a ≡ if_room 22 (length (expansion l)) (length is)) → a
            ≡ writes_answer l is ms vs
        unfolding writes_answer
        by_room a e = rw (t, le-leb (length l) 65536 h, v) (e (verdict_accepted l n v).2)

        pub no_room : length is < n → Listing l is ms vs (refused 22 n) is ms vs
        no_room k = keeps 22 n (by_room (refused 22 n) (λ e. room_short 22 (length (expansion l)) (length is) n e k))

        pub room : n ≤ length is → (is' ms' vs' : List ℕ)
            → (is' ≡ ids_in (expansion l) ++ drop (length (expansion l)) is)
            → (ms' ≡ masks_in (expansion l) ++ drop (length (expansion l)) ms)
            → (vs' ≡ values_in (expansion l) ++ drop (length (expansion l)) vs) → Listing l is ms vs (answered n) is' ms' vs'
        room k is' ms' vs' a b c =
            let e = by_room (answered n) (λ e. room_enough 22 (length (expansion l)) (length is) n e k) in
            let E = expansion l in (
            record {
              answer = e;
              ids = rw (← e, length-map E (λ (w : Write). w.id)) a;
              masks = rw (← e, length-map E (λ (w : Write). w.mask)) b;
              values = rw (← e, length-map E (λ (w : Write). w.value)) c;
            }
            )
