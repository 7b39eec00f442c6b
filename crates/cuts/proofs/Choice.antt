-- The choice of the first command's size: the most that it can carry, or one fewer. Assumes nothing.
use mathlib.Core.Path.{◌≡◌, subst}
use mathlib.Core.List.{List}
use Prim.Native.Nat.{ℕ, zero, suc, ◌+◌, ◌-◌, ◌≤◌, ◌<◌}
use native.Mathlib.Decide.{dec_lt}
use native.Mathlib.Omega.{arith}
use lib.ListN.{get_or, drop}
use lib.Seq.{get_or-drop}
use borrow.Author.Tests.{lt-ltb, le-ltb}
use Rattle.cuts.specs.Cuts.{words, after, size}

-- WHAT A TEST SAYS OF THE CHOICE

-- the most, unless one fewer takes fewer words
pub size_whole : (n : ℕ) (t : List ℕ) → after t n ≤ after t (n - 1) → n ≡ size n t
size_whole n t h = rw le-ltb

-- else one fewer
pub size_fewer : (n : ℕ) (t : List ℕ) → after t (n - 1) < after t n → n - 1 ≡ size n t
size_fewer n t h = rw lt-ltb

-- a lone write leaves no choice
pub size_lone : (n : ℕ) (t : List ℕ) → n ≡ 1 → n ≡ size n t
size_lone n t e = size_whole n t (rw e (omega arith))

-- WHAT THE CHOICE LOOKS AT

-- no entry but the first n
pub size_same : (n : ℕ) (t u : List ℕ) → 1 ≤ n → ((j : ℕ) → j < n → get_or t j 0 ≡ get_or u j 0) → size n t ≡ size n u
size_same n t u h e = rw (e (n - 1) (omega arith), e (n - 1 - 1) (omega arith))

-- from a table xs of a whole run: for what is left after i writes, the rest after k more is entry i + k
pub after_drop : (xs : List ℕ) (i k m : ℕ) → 1 ≤ k → m ≡ i + k → after (drop (i + 1) xs) k ≡ words k + get_or xs m 0
after_drop xs i k m h e = let f : i + 1 + (k - 1) ≡ m = omega arith in rw (get_or-drop, f)

-- WHAT IS CHOSEN: k writes take no more words than n or n - 1 do, and any larger number takes more
pub record Chosen (n : ℕ) (t : List ℕ) (k : ℕ) : Type 0 where
  pub low : 1 ≤ k
  pub high : k ≤ n
  pub whole : after t k ≤ after t n
  pub fewer : 2 ≤ n → after t k ≤ after t (n - 1)
  pub larger : (j : ℕ) → k < j → j ≤ n → after t k < after t j

-- one fewer takes fewer words only where it leaves a write
fewer_leaves : (n : ℕ) (t : List ℕ) → after t (n - 1) < after t n → 2 ≤ n
fewer_leaves zero t q = absurd (omega arith)
fewer_leaves (suc zero) t q = absurd (omega arith)
fewer_leaves (suc (suc n)) t q = omega arith

pub size_chosen : (n : ℕ) (t : List ℕ) → 1 ≤ n → Chosen n t (size n t)
size_chosen n t h = go (dec_lt (after t (n - 1)) (after t n))
  where
    go : Dec (after t (n - 1) < after t n) → Chosen n t (size n t)
    go (yes q) =
        let two = fewer_leaves n t q in
        subst (Chosen n t) (size_fewer n t q)
        (record {
          low = omega arith;
          high = omega arith;
          whole = omega arith;
          fewer = λ p. omega arith;
          larger = λ j u v. let e : j ≡ n = omega arith in rw e q;
        })
    go (no q) =
        subst (Chosen n t) (size_whole n t (omega arith))
        (record { low = h; high = omega arith; whole = omega arith; fewer = λ p. omega arith; larger = λ j u v. absurd (omega arith) })

-- THE TWO ARE ENOUGH: where two writes more never take more words, no size takes fewer than the chosen one
pub chosen_least :
    {n : ℕ} {t : List ℕ} {k : ℕ} → Chosen n t k → ((j : ℕ) → 1 ≤ j → j + 2 ≤ n → after t (j + 2) ≤ after t j)
    → (j : ℕ) → 1 ≤ j → j ≤ n → after t k ≤ after t j
chosen_least {n} {t} {k} c two j p q = go (n - j) j p (omega arith)
  where
    go : (d j : ℕ) → 1 ≤ j → j + d ≡ n → after t k ≤ after t j
    go zero j p e = let f : j ≡ n = omega arith in rw f c.whole
    go (suc zero) j p e = let f : j ≡ n - 1 = omega arith in rw f (c.fewer (omega arith))
    go (suc (suc d)) j p e = omega (arith, go d (j + 2) (omega arith) (omega arith), two j p (omega arith))
