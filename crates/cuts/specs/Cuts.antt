-- Packing a run of writes: the cuts of the run into commands, the words they take, and which of the shortest is the answer.
-- All goes by one function, `span`: how many of the first writes of a run one command can carry.
use Rattle.std.specs.Prelude.{◌≡◌, List, [], ◌∷◌, ◌⊎◌, ℕ, zero, suc, ◌+◌, ◌-◌, ◌%◌, ◌≤◌, ◌<◌, ltb, length, get_or, drop}
use Rattle.numbers.specs.Pick.{pick}

-- what is asked of `span`, for the theory alone: a command carries at least one write, no more than there are, and, without its first
-- write, the others
pub record Spans {A : Type 0} (span : List A → ℕ) : Type 0 where
  pub pos : (a : A) (l : List A) → 1 ≤ span (a ∷ l)
  pub fits : (l : List A) → span l ≤ length l
  pub tail : (a : A) (l : List A) → span (a ∷ l) ≤ suc (span l)

-- the words of a command of k writes: the first parameter, the header, k - 1 extra parameters, and one padding word if the words so far
-- are odd in number
abbrev pub words : ℕ → ℕ
words k = k + 1 + (k + 1) % 2

-- the words of commands of these sizes
abbrev pub total : List ℕ → ℕ
total [] = 0
total (k ∷ ks) = words k + total ks

-- A CUT: commands of these sizes, one after another, carry exactly the writes l
abbrev pub Cut : {A : Type 0} → (List A → ℕ) → List A → List ℕ → Type 0
Cut span l [] = l ≡ []
Cut span l (k ∷ ks) = (1 ≤ k) × (k ≤ span l) × Cut span (drop k l) ks

-- THE TIE RULE: the first command carries the most writes, then the second, and so on; at the first difference the left cut has the
-- larger command
abbrev pub Most : List ℕ → List ℕ → Type 0
Most [] js = js ≡ []
Most (k ∷ ks) [] = ⊥
Most (k ∷ ks) (j ∷ js) = (j < k) ⊎ ((j ≡ k) × Most ks js)

-- NOT OF THE DOCUMENT: how the answer is found. That it is the document's, the fewest words and then the most writes in the first
-- command, is said by laws alone: `least_low`, `sizes_least`, `sizes_most`, and of lists by `packed_rule` of crate runs

-- the words of a run whose first command carries k writes, where t has the words of what is left after 1, 2, .. writes
abbrev pub after : List ℕ → ℕ → ℕ
after t k = words k + get_or t (k - 1) 0

-- the size of the first command: n, the most that it can carry, or one fewer where that takes fewer words; never none, since a command of
-- no write would take the words of one (law `size_lone`)
abbrev pub size : ℕ → List ℕ → ℕ
size n t = pick (ltb (after t (n - 1)) (after t n)) (n - 1) n

-- the least words of a run, then of what is left after 1, 2, .. writes, down to none
unfoldable pub table : {A : Type 0} → (List A → ℕ) → List A → List ℕ
table span [] = 0 ∷ []
table span (a ∷ l) = let t = table span l in let k = size (span (a ∷ l)) t in after t k ∷ t

-- THE LEAST WORDS of a run, before filling: by this choice, and that no cut takes fewer is law `least_low`
abbrev pub least : {A : Type 0} → (List A → ℕ) → List A → ℕ
least span l = get_or (table span l) 0 0

-- the size of its first command
abbrev pub first : {A : Type 0} → (List A → ℕ) → List A → ℕ
first span [] = 0
first span (a ∷ l) = size (span (a ∷ l)) (table span l)

-- the sizes of the commands of what is left after n writes
unfoldable pub sizes_from : {A : Type 0} → (List A → ℕ) → ℕ → List A → List ℕ
sizes_from span n [] = []
sizes_from span zero (a ∷ l) = let k = first span (a ∷ l) in k ∷ sizes_from span (k - 1) l
sizes_from span (suc n) (a ∷ l) = sizes_from span n l

-- THE SIZES of its commands
abbrev pub sizes : {A : Type 0} → (List A → ℕ) → List A → List ℕ
sizes span l = sizes_from span 0 l
