-- What planning a run finds: its words, and the size of the first command from each write on. Not of the document.
use Rattle.std.specs.Prelude.{◌≡◌, ◌&&◌, List, ℕ, ◌+◌, ◌-◌, ◌%◌, ◌≤◌, ◌<◌, min, eqb, ltb, length, get_or, drop}
use Rattle.numbers.specs.Pick.{pick}
use Rattle.words.specs.Writes.{Write}
use Rattle.cuts.specs.Cuts.{size, after, least, first}
use Rattle.runs.specs.Span.{span}
use Rattle.planning.specs.declared.Choice.{Choice}

-- THE CODE'S CHOICE where a command can carry n writes, `last` are the words of what is left after them and `before` after n - 1 of them:
-- one fewer where n is even and what is left takes less than two words more with the last of them in it (contract of `choose`)
abbrev pub size_by : ℕ → ℕ → ℕ → ℕ
size_by n last before = pick (eqb (n % 2) 0 && ltb before (last + 2)) (n - 1) n

-- and the words with it: an even n takes those of one fewer, by either size
abbrev pub words_by : ℕ → ℕ → ℕ → ℕ
words_by n last before = pick (eqb (n % 2) 0) (n + before) (n + 1 + last)

-- the first command's size and the words of the run, where it can carry n writes and t has the words of what is left after 1, 2, .. writes
pub record Chose (n : ℕ) (t : List ℕ) (c : Choice) : Type 0 where
  pub size : c.size ≡ size n t
  pub words : c.words ≡ after t c.size

-- words of what is left, after one write more and before: they fall, by two at most
abbrev pub Near : ℕ → ℕ → Type 0
Near fewer more = (fewer ≤ more) × (more ≤ fewer + 2)

-- what the code holds of a run of writes from i on that one command could carry, were it not for the limit of 256, by the table t of the
-- words of what is left: those after it and after all of it but one write, and those from i on
pub record Longest (t : List ℕ) (i run last before words : ℕ) : Type 0 where
  pub some : 1 ≤ run
  pub within : i + min 256 run < length t
  pub few : i + min 256 run ≤ 4096
  pub near : 2 ≤ run → Near (get_or t (i + min 256 run) 0) (get_or t (i + min 256 run - 1) 0)
  pub lasts : 2 ≤ run → run ≤ 256 → last ≡ get_or t (i + run) 0
  pub befores : 2 ≤ run → run ≤ 256 → before ≡ get_or t (i + run - 1) 0
  pub needed : run ≤ 256 → words ≡ words_by run (get_or t (i + run) 0) (get_or t (i + run - 1) 0)
  pub small : last ≤ 8192

-- from write i on: the least words of what is left, and one fewer than the size of its first command
pub record PlannedFrom (i : ℕ) (ws : List Write) (table extra : List ℕ) : Type 0 where
  pub words : (j : ℕ) → i ≤ j → j ≤ length ws → get_or table j 0 ≡ least span (drop j ws)
  pub sizes : (j : ℕ) → i ≤ j → j < length ws → get_or extra j 0 + 1 ≡ first span (drop j ws)

-- from each write on, one fewer than the size of the first command
abbrev pub Sizes : List Write → List ℕ → Type 0
Sizes ws extra = (j : ℕ) → j < length ws → get_or extra j 0 + 1 ≡ first span (drop j ws)

-- the whole run: its least words, and the sizes
pub record Planned (ws : List Write) (need : ℕ) (extra : List ℕ) : Type 0 where
  pub words : need ≡ least span ws
  pub sizes : Sizes ws extra
