-- What is asked of the list written: a statement about the lists that the reader accepts, and, on which of them it is, about lists before
-- filling.
use Rattle.std.specs.Prelude.{◌≡◌, true, List, [], ◌∷◌, map, ℕ, ◌+◌, ◌*◌, ◌/◌, ◌%◌, ◌≤◌, ◌<◌, length, get_or}
use Rattle.numbers.specs.Answer.{answered}
use Rattle.words.specs.Header.{count_of, step_of}
use Rattle.words.specs.Writes.{Write}
use Rattle.words.specs.Commands.{header_at, commands, all_writes, expansion, well_formed}
use Rattle.reader.specs.ListVerdict.{verdict}
use Rattle.cuts.specs.Cuts.{Most}
use Rattle.runs.specs.PackedList.{filled}

-- how many writes the commands at these places carry
abbrev pub carried : List ℕ → List ℕ → List ℕ
carried l ps = map (λ (p : ℕ). count_of (header_at l p) + 1) ps

-- THE SIZES OF A LIST'S COMMANDS, as the reader finds them
abbrev pub sizes_of : List ℕ → List ℕ
sizes_of l = carried l (commands l 0)

-- what the packer's own commands keep besides: a lone write has bit 31 clear, unused bits and a padding word are 0
pub record Tidy (l : List ℕ) (p : ℕ) : Type 0 where
  pub lone : count_of (header_at l p) ≡ 0 → step_of (header_at l p) ≡ 0
  pub unused : header_at l p / 0x10000000 % 8 ≡ 0
  pub padding : count_of (header_at l p) % 2 ≡ 1 → get_or l (p + 2 + count_of (header_at l p)) 0 ≡ 0

abbrev pub AllTidy : List ℕ → List ℕ → Type 0
AllTidy l [] = Unit {0}
AllTidy l (p ∷ ps) = Tidy l p × AllTidy l ps

-- the verdict accepts a list, and its expansion is the run, whoever packed it. The verdict asks for a legal length; commands of mask 0 may
-- stand anywhere. Over 65,536 words a reading refuses the list all the same
pub record Says (ws : List Write) (l : List ℕ) : Type 0 where
  pub accepted : verdict l ≡ answered (length ws)
  pub writes : expansion l ≡ ws

-- a list before filling says a run as document 01 has it: it is well formed, of any length, and all its writes are the run
pub record SaysUnfilled (ws : List Write) (l : List ℕ) : Type 0 where
  pub formed : well_formed l ≡ true
  pub writes : all_writes l ≡ ws

-- DOCUMENT 01'S RULE, on lists before filling: it says the run; none that says it has fewer words; among those of its length its first
-- command carries the most writes, then its second, and so on; it is never longer than two words a write
pub record Rule (ws : List Write) (l : List ℕ) : Type 0 where
  pub says : SaysUnfilled ws l
  pub least : (other : List ℕ) → SaysUnfilled ws other → length l ≤ length other
  pub most : (other : List ℕ) → SaysUnfilled ws other → length other ≤ length l → Most (sizes_of l) (sizes_of other)
  pub tidy : AllTidy l (commands l 0)
  pub short : length l ≤ 2 * length ws

-- THE SHORTEST LIST of a run, which has no writes of mask 0: it says the run; no accepted list that says it has fewer words; it is the list
-- that document 01's rule names, filled; it is never longer than two words a write plus two
pub record Shortest (ws : List Write) (l : List ℕ) : Type 0 where
  pub says : Says ws l
  pub least : (other : List ℕ) → Says ws other → length l ≤ length other
  pub unfilled : List ℕ
  pub rule : Rule ws unfilled
  pub fills : l ≡ filled unfilled
  pub short : length l ≤ 2 * length ws + 2

-- a list of 32-bit words; in a list of naturals a header of 2³² or more could say the same command
abbrev pub Words32 : List ℕ → Type 0
Words32 l = (j : ℕ) → get_or l j 0 < 0x100000000
