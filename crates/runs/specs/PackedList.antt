-- The list that the packer writes for the writes given.
use Rattle.std.specs.Prelude.{◌≡◌, true, List, [], ◌∷◌, ◌++◌, ℕ, ◌+◌, ◌*◌, ◌-◌, ◌%◌, ◌≤◌, leb, eqb, length, take, drop, replicate}
use Rattle.numbers.specs.Pick.{pick}
use Rattle.words.specs.Writes.{Write, writing, kept, values_in, allowed}
use Rattle.cuts.specs.Cuts.{words, sizes}
use Rattle.runs.specs.Span.{chain, span}

-- three buffers of one length, ids, masks and values, as writes
abbrev pub writes : List ℕ → List ℕ → List ℕ → List Write
writes [] ms vs = []
writes (i ∷ is) [] vs = []
writes (i ∷ is) (m ∷ ms) [] = []
writes (i ∷ is) (m ∷ ms) (v ∷ vs) = writing i m v ∷ writes is ms vs

-- a run that can be packed: no mask is above 15, and every write is allowed
abbrev pub Packable : List Write → Type 0
Packable [] = Unit {0}
Packable (w ∷ l) = (w.mask ≤ 15) × (allowed w.id w.mask ≡ true) × Packable l

-- writes that are not refused: buffers of one length, no more than 4,096 writes, each of them allowed with a mask of at most 15
pub record PackableRun (is ms vs : List ℕ) : Type 0 where
  pub masks : length is ≡ length ms
  pub values : length is ≡ length vs
  pub few : length is ≤ 4096
  pub packable : Packable (writes is ms vs)

-- bit 31 of a command of the first k writes, where one command can carry them: clear where they have one id, as a lone write has
abbrev pub step_for : ℕ → List Write → ℕ
step_for k l = pick (leb k (chain 0 l)) 0 1

-- a header: id, mask, k - 1 extra parameters, step; the unused bits are 0
abbrev pub header : ℕ → ℕ → ℕ → ℕ → ℕ
header i m k s = i + m * 0x10000 + (k - 1) * 0x100000 + s * 0x80000000

-- A COMMAND of the first k writes: first parameter, header, extra parameters, and the padding word 0 if the words so far are odd in number
abbrev pub command : ℕ → List Write → List ℕ
command k [] = []
command k (w ∷ l) =
    w.value ∷ header w.id w.mask k (step_for k (w ∷ l)) ∷ take (k - 1) (values_in l) ++ replicate ((k + 1) % 2) 0

-- one command can carry the first k writes of a run, with what follows from that for whoever writes it. Not of the document
pub record OneCommand (ws : List Write) (k : ℕ) : Type 0 where
  pub low : 1 ≤ k
  pub cap : k ≤ 256
  pub carried : k ≤ span ws
  pub fits : k ≤ length ws
  pub long : length (command k ws) ≡ words k

-- commands of these sizes, one after another
abbrev pub laid : List ℕ → List Write → List ℕ
laid [] l = []
laid (k ∷ ks) l = command k l ++ laid ks (drop k l)

-- THE PACKED LIST of a run, before it is filled
unfoldable pub packed : List Write → List ℕ
packed l = laid (sizes span l) l

-- at most one pair fills a list, parameter 0 and header 0: where its words are no multiple of 4. A packed list's are even in number
abbrev pub filling : List ℕ → List ℕ
filling l = pick (eqb (length l % 4) 0) [] (0 ∷ 0 ∷ [])

unfoldable pub filled : List ℕ → List ℕ
filled l = l ++ filling l

-- THE LIST WRITTEN for the writes given: those of mask 0 are dropped, the others packed, and the list filled
abbrev pub written : List Write → List ℕ
written ws = filled (packed (kept ws))
