-- What a list of words says: its commands, their writes, and which of these are its expansion; and its form.
use Rattle.std.specs.Prelude.{Bool, true, ◌&&◌, List, [], ◌∷◌, ◌++◌, ℕ, zero, suc, ◌+◌, ◌-◌, ◌%◌, ltb, leb, eqb, length, get_or}
use Rattle.numbers.specs.Pick.{pick}
use Rattle.words.specs.Header.{id_of, mask_of, count_of, step_of, words_of}
use Rattle.words.specs.Writes.{Write, writing, kept}

-- the header of the command whose first word stands at `at`
abbrev pub header_at : List ℕ → ℕ → ℕ
header_at l at = get_or l (at + 1) 0

-- its parameter k: the word before the header, then those after it
abbrev pub param_at : List ℕ → ℕ → ℕ → ℕ
param_at l at k = pick (eqb k 0) (get_or l at 0) (get_or l (at + 1 + k) 0)

-- its words are all there, the padding word too; a header that isn't there reads as 0, which asks for two words, so a lone word fails
abbrev pub whole : List ℕ → ℕ → Bool
whole l at = leb (at + words_of (header_at l at)) (length l)

-- n of its writes, from parameter k on, the first of them to i
unfoldable pub run : List ℕ → ℕ → ℕ → ℕ → ℕ → List Write
run l at zero k i = []
run l at (suc n) k i =
    writing i (mask_of (header_at l at)) (param_at l at k) ∷ run l at n (k + 1) (i + step_of (header_at l at))

-- THE WRITES OF A COMMAND, whose words are all there: one for each parameter in order, each with the command's mask
abbrev pub expand : List ℕ → ℕ → List Write
expand l at = run l at (count_of (header_at l at) + 1) 0 (id_of (header_at l at))

-- the places of the first words of the commands from `at` on, one after another to the list's end, the last perhaps lacking words; at
-- most n commands
unfoldable pub places : ℕ → List ℕ → ℕ → List ℕ
places zero l at = []
places (suc n) l at =
    let rest = places n l (at + words_of (header_at l at)) in pick (ltb at (length l)) (at ∷ rest) []

-- THE COMMANDS OF A LIST from `at` on, each by the place of its first word; there are no more of them than words
unfoldable pub commands : List ℕ → ℕ → List ℕ
commands l at = places (length l - at) l at

-- THE WRITES OF A LIST, which is well formed, join those of its commands; all of them are checked
unfoldable pub join : List ℕ → List ℕ → List Write
join l [] = []
join l (p ∷ ps) = expand l p ++ join l ps

unfoldable pub all_writes : List ℕ → List Write
all_writes l = join l (commands l 0)

-- THE EXPANSION OF A LIST: its writes, but for those of mask 0
unfoldable pub expansion : List ℕ → List Write
expansion l = kept (all_writes l)

-- a legal length: the words are a multiple of 4, which is sixteen bytes
abbrev pub legal : List ℕ → Bool
legal l = eqb (length l % 4) 0

-- commands fill the list: none lacks words. The empty list is well formed
unfoldable pub full : List ℕ → List ℕ → Bool
full l [] = true
full l (p ∷ ps) = whole l p && full l ps

unfoldable pub well_formed : List ℕ → Bool
well_formed l = full l (commands l 0)
