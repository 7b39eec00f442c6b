-- What is put, and what the code that puts it knows on its way. Not of the document.
use Rattle.std.specs.Prelude.{◌≡◌, List, ℕ, ◌≤◌, length, drop}
use Rattle.numbers.specs.Room.{if_room, space_after}
use Rattle.words.specs.Writes.{Write, kept}
use Rattle.runs.specs.PackedList.{writes}

-- a list of n words is put into a space that was `old` and is `new`, where there is room for it; else the space stays
pub record Puts (l : List ℕ) (n : ℕ) (old new : List ℕ) : Type 0 where
  pub words : n ≡ length l
  pub space : new ≡ space_after (if_room 10 (length l) (length old)) l old

-- from the place r on, three buffers of one length hold the writes of ws that are kept
pub record Keeps (ws : List Write) (r : ℕ) (is ms vs : List ℕ) : Type 0 where
  pub within : r ≤ length is
  pub masks : length is ≡ length ms
  pub values : length is ≡ length vs
  pub writes : writes (drop r is) (drop r ms) (drop r vs) ≡ kept ws
