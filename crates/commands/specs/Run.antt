-- The writes of a command whose values stand at any place, and not after its header. Not of the document: law `expand_from` says that the
-- writes of a command in a list are such a run.
use Rattle.std.specs.Prelude.{List, [], ◌∷◌, ℕ, zero, suc, ◌+◌, get_or}
use Rattle.words.specs.Writes.{Write, writing}
use Rattle.words.specs.declared.Header.{Header}

-- n writes in the bytes m to ids from i on, which rise by d, of the values that stand in l from j on
unfoldable pub run_from : List ℕ → ℕ → ℕ → ℕ → ℕ → ℕ → List Write
run_from l j zero i m d = []
run_from l j (suc n) i m d = writing i m (get_or l j 0) ∷ run_from l (j + 1) n (i + d) m d

-- the writes of a command with the header h: the first of the value v, the others of those that stand in l from j on
abbrev pub run_with : Header → ℕ → List ℕ → ℕ → List Write
run_with h v l j = writing h.id h.mask v ∷ run_from l j h.count (h.id + h.step) h.mask h.step
