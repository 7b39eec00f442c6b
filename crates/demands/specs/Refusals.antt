-- The table "Numbers given back", call by call: when a call refuses with a number, and what the place that it gives then means. The
-- writes of a list are a call of ours, with 22 of document 02; 15 is that document's too.
use Rattle.std.specs.Prelude.{◌≡◌, true, false, List, [], ◌∷◌, ◌++◌, ◌⊎◌, ℕ, ◌≤◌, ◌<◌, length, get_or}
use Rattle.words.specs.Writes.{Write, fault_of}
use Rattle.words.specs.Commands.{whole, expand, commands, all_writes, expansion, legal, well_formed}
use Rattle.registers.specs.State.{State, sized}
use Rattle.reader.specs.ListVerdict.{first_fault, command_fault, all_allowed}
use Rattle.runs.specs.PackedList.{writes, PackableRun, written}
use Rattle.packer.specs.Checks.{wrong}

-- x is one of these
abbrev pub In : ℕ → List ℕ → Type 0
In x [] = ⊥
In x (y ∷ l) = (x ≡ y) ⊎ In x l

-- the numbers of a write's fault: 3 id above 2FFh, 4 id 23Ch or 23Dh, 5 port data with a mask that is not Fh
abbrev pub FaultNumber : ℕ → Type 0
FaultNumber n = In n (3 ∷ 4 ∷ 5 ∷ [])

-- none of the commands at these places is at fault
abbrev pub Faultless : List ℕ → List ℕ → Type 0
Faultless l [] = Unit {0}
Faultless l (q ∷ qs) = (command_fault l q ≡ 0) × Faultless l qs

-- of the commands at the places ps the one at p, "its first word", is the first at fault: 2 where it needs more words than are left, else
-- by its first write at fault
pub record FirstAtFault (l ps : List ℕ) (n p : ℕ) : Type 0 where
  pub earlier : List ℕ
  pub later : List ℕ
  pub place : ps ≡ earlier ++ p ∷ later
  pub first : Faultless l earlier
  pub why : ((n ≡ 2) × (whole l p ≡ false)) ⊎ ((whole l p ≡ true) × FaultNumber n × (first_fault (expand l p) ≡ n))

abbrev pub CommandRefused : List ℕ → ℕ → ℕ → Type 0
CommandRefused l n p = FirstAtFault l (commands l 0) n p

-- A LIST of at most 65,536 words: 15 where its words aren't a multiple of 4, then its commands
abbrev pub ListRefused : List ℕ → ℕ → ℕ → Type 0
ListRefused l n p = ((n ≡ 15) × (p ≡ 0) × (legal l ≡ false)) ⊎ ((legal l ≡ true) × CommandRefused l n p)

-- READING a list into a state: 6, 1, then 15 and its commands
abbrev pub ReadRefused : State → List ℕ → ℕ → ℕ → Type 0
ReadRefused s l n p =
    ((n ≡ 6) × (p ≡ 0) × (sized s ≡ false)) ⊎ ((n ≡ 1) × (p ≡ 0) × (sized s ≡ true) × (65536 < length l))
    ⊎ ((sized s ≡ true) × (length l ≤ 65536) × ListRefused l n p)

-- three buffers, ids, masks and values, are of one length
abbrev pub OneLength : List ℕ → List ℕ → List ℕ → Type 0
OneLength is ms vs = (length is ≡ length ms) × (length is ≡ length vs)

-- THE WRITES OF A LIST: 7, then the list, 1, 15 and its commands, then 22 with the places needed, which the buffers are shorter than
abbrev pub WritesRefused : List ℕ → List ℕ → List ℕ → List ℕ → ℕ → ℕ → Type 0
WritesRefused l is ms vs n p =
    ((n ≡ 7) × (p ≡ 0) × (OneLength is ms vs → ⊥)) ⊎ ((n ≡ 1) × (p ≡ 0) × OneLength is ms vs × (65536 < length l))
    ⊎ (OneLength is ms vs × (length l ≤ 65536) × ListRefused l n p)
    ⊎ ((n ≡ 22) × OneLength is ms vs × (length l ≤ 65536) × (legal l ≡ true) × (well_formed l ≡ true)
    × (all_allowed (all_writes l) ≡ true) × (p ≡ length (expansion l)) × (length is < p))

-- A SINGLE WRITE: 6, 9, then its fault; the place is 0
pub record WriteRefused (s : State) (w : Write) (n p : ℕ) : Type 0 where
  pub place : p ≡ 0
  pub why : ((n ≡ 6) × (sized s ≡ false)) ⊎ ((n ≡ 9) × (sized s ≡ true) × (15 < w.mask))
      ⊎ ((sized s ≡ true) × (w.mask ≤ 15) × FaultNumber n × (fault_of w.id w.mask ≡ n))

-- the write p is the first of a run that is refused
pub record OneRefused (is ms : List ℕ) (n p : ℕ) : Type 0 where
  pub place : p < length is
  pub first : (k : ℕ) → k < p → wrong (get_or is k 0) (get_or ms k 0) ≡ 0
  pub why : In n (9 ∷ 3 ∷ 4 ∷ 5 ∷ []) × (wrong (get_or is p 0) (get_or ms p 0) ≡ n)

-- THE WRITES OF A RUN: 7, 8, then the first write that is refused, with its index. "Refusal 8, .. the index in a packer's refusal .. still
-- count every write given .., mask 0 too"
abbrev pub RunRefused : List ℕ → List ℕ → List ℕ → ℕ → ℕ → Type 0
RunRefused is ms vs n p =
    ((n ≡ 7) × (p ≡ 0) × (OneLength is ms vs → ⊥)) ⊎ ((n ≡ 8) × (p ≡ 0) × OneLength is ms vs × (4096 < length is))
    ⊎ (OneLength is ms vs × (length is ≤ 4096) × OneRefused is ms n p)

-- PACKING: the writes, then 10 with the words needed, the pair's too, which the space is shorter than
abbrev pub PackRefused : List ℕ → List ℕ → List ℕ → ℕ → ℕ → ℕ → Type 0
PackRefused is ms vs room n p =
    RunRefused is ms vs n p ⊎ ((n ≡ 10) × PackableRun is ms vs × (p ≡ length (written (writes is ms vs))) × (room < p))
