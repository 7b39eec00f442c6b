-- What putting a command's writes goes by: places for them, and a buffer with a row of them. Not of the document.
use Rattle.std.specs.Prelude.{List, ℕ, ◌+◌, ◌≤◌, length}
use Rattle.std.proofs.Math.Seq.{paste}
use Rattle.words.specs.Header.{count_of, words_of}
use Rattle.words.specs.Writes.{Write}
use Rattle.words.specs.Commands.{header_at, expand}

-- the words of the command at `at` are all there, and a buffer has places for its writes from k on
abbrev pub CommandFits : List ℕ → ℕ → List ℕ → ℕ → Type 0
CommandFits l at old k = (at + words_of (header_at l at) ≤ length l) × (k + (count_of (header_at l at) + 1) ≤ length old)

-- a buffer with a row of its writes, their ids, masks or values, from place k on
abbrev pub with_row : (List Write → List ℕ) → List ℕ → ℕ → List ℕ → ℕ → List ℕ
with_row row l at old k = paste old k (row (expand l at)) (count_of (header_at l at) + 1)
