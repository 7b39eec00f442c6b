-- Words laid out one group behind another. Assumes nothing.
use mathlib.Core.Path.{◌≡◌, sym, ◌∙◌}
use mathlib.Core.List.{List, ◌++◌, append_assoc}
use Prim.Native.Nat.{ℕ, ◌+◌}
use native.Mathlib.Omega.{arith}
use lib.ListN.{length, take}
use lib.Seq.{take_all}

-- the first group: the words ws behind those that stood there
pub first : (ws old W new : List ℕ) (at n : ℕ) → take (at + length W) new ≡ take at old ++ W → W ≡ ws → at + length ws ≡ n
    → take n new ≡ take at old ++ ws
first ws old W new at n h e k = rw (← k, ← e) h

-- one group more
pub more : (front done ws old W new : List ℕ) (at n : ℕ)
    → take at old ≡ front ++ done → take (at + length W) new ≡ take at old ++ W → W ≡ ws → at + length ws ≡ n
    → take n new ≡ front ++ (done ++ ws)
more front done ws old W new at n d h e k = rw (← k, ← e) (h ∙ rw d (append_assoc front done W))

-- all of them
pub whole : (l ws : List ℕ) (n : ℕ) → length l ≡ n → take n l ≡ ws → l ≡ ws
whole l ws n e h = sym (take_all n l (omega arith)) ∙ h
