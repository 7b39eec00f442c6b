-- The rule of a table, at each of its entries, from one test that is computed over the whole of it. Assumes nothing.
use mathlib.Core.Path.{◌≡◌}
use mathlib.Core.Bool.{Bool, true, ◌&&◌}
use mathlib.Core.List.{List, [], ◌∷◌}
use Prim.Native.Nat.{ℕ, zero, suc, ◌+◌, ◌<◌}
use native.Mathlib.Omega.{arith}
use lib.Dec.{T}
use lib.ListN.{length, get_or}
use Rattle.numbers.proofs.Tests.{both}

-- the test f passes at each place, counted from i, and its entry
abbrev pub every : (ℕ → ℕ → Bool) → ℕ → List ℕ → Bool
every f i [] = true
every f i (x ∷ xs) = f i x && every f (suc i) xs

from : (f : ℕ → ℕ → Bool) (xs : List ℕ) (i : ℕ) → T (every f i xs) → (k n : ℕ) → n ≡ i + k → k < length xs → T (f n (get_or xs k 0))
from f [] i t k n e h = absurd (omega arith)
from f (x ∷ xs) i t zero n e h = let d : n ≡ i = omega arith in rw d (both (f i x) (every f (suc i) xs) t).0
from f (x ∷ xs) i t (suc k) n e h = from f xs (suc i) (both (f i x) (every f (suc i) xs) t).1 k n (omega arith) (omega arith)

pub at : (f : ℕ → ℕ → Bool) (xs : List ℕ) → T (every f 0 xs) → (k : ℕ) → k < length xs → T (f k (get_or xs k 0))
at f xs t k h = from f xs 0 t k k (omega arith) h
