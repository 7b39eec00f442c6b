-- The laws of `chain` and `span`: what the theory of cuts asks, and how a chain goes on. Assumes nothing.
use mathlib.Core.Path.{◌≡◌, refl}
use mathlib.Core.Bool.{Bool, true, false}
use mathlib.Core.List.{List, [], ◌∷◌, ◌++◌}
use mathlib.Core.Logic.{◌⊎◌, inl, inr, ⊎_elim}
use Prim.Native.Nat.{ℕ, zero, suc, ◌+◌, ◌-◌, ◌≤◌, ◌<◌, min, max}
use native.Mathlib.Decide.{dec_lt}
use native.Mathlib.Numerals.{add-one}
use native.Mathlib.Omega.{arith}
use lib.Dec.{eqb, leb}
use lib.ListN.{length}
use borrow.Author.Tests.{eqb-true, eq-eqb, leb-true, leb-false, le-leb, lt-leb}
use Rattle.numbers.specs.Pick.{pick}
use Rattle.numbers.proofs.Tests.{and_true}
use Rattle.words.specs.Writes.{Write, writing}
use Rattle.words.specs.Header.{mask_of, count_of, step_of, id_of}
use Rattle.words.specs.Commands.{header_at, param_at, run, expand}
use Rattle.cuts.specs.Cuts.{Spans}
use Rattle.runs.specs.Span.{leads, chain, span}
use Rattle.runs.specs.PackedList.{step_for}

-- WHAT THE THEORY OF CUTS ASKS

picked : (b : Bool) (n : ℕ) → (1 ≤ pick b (suc n) 1) × (pick b (suc n) 1 ≤ suc n)
picked true n = omega arith
picked false n = omega arith

pub chain_pos : (s : ℕ) (a : Write) (l : List Write) → 1 ≤ chain s (a ∷ l)
unfolding chain
chain_pos s a l = (picked (leads s a l) (chain s l)).0

chain_tail : (s : ℕ) (a : Write) (l : List Write) → chain s (a ∷ l) ≤ suc (chain s l)
unfolding chain
chain_tail s a l = (picked (leads s a l) (chain s l)).1

pub chain_fits : (s : ℕ) (l : List Write) → chain s l ≤ length l
unfolding chain
chain_fits s [] = omega arith
chain_fits s (a ∷ l) = omega (arith, picked (leads s a l) (chain s l), chain_fits s l)

pub spans : Spans span
unfolding span
spans =
    record {
      pos = λ a l. omega (arith, chain_pos 0 a l);
      fits = λ l. omega (arith, chain_fits 0 l, chain_fits 1 l);
      tail = λ a l. omega (arith, chain_tail 0 a l, chain_tail 1 a l, chain_pos 0 a l);
    }

-- the span, by the two chains
pub span_is : (l : List Write) (a b : ℕ) → a ≡ chain 0 l → b ≡ chain 1 l → min 256 (max a b) ≡ span l
unfolding span
span_is l a b p q = rw (p, q)

pub span_cap : (l : List Write) → span l ≤ 256
unfolding span
span_cap l = omega arith

-- HOW A CHAIN GOES ON

pub chain_nil : (s : ℕ) (l : List Write) → length l ≡ 0 → chain s l ≡ 0
unfolding chain
chain_nil s [] h = refl
chain_nil s (a ∷ l) h = absurd (omega arith)

pub chain_cons : (s : ℕ) (a : Write) (l : List Write) → chain s (a ∷ l) ≡ pick (leads s a l) (chain s l + 1) 1
unfolding chain
chain_cons s a l = rw (add-one (chain s l))

long : (b : Bool) (n m : ℕ) → suc (suc n) ≤ pick b (suc m) 1 → (b ≡ true) × (suc n ≤ m)
long true n m h = (refl, omega arith)
long false n m h = absurd (omega arith)

-- a chain of two or more: the second write has the same mask, its id is s further, and the rest of the chain starts there
pub chain_next : (s : ℕ) (a b : Write) (l : List Write) (n : ℕ) → suc (suc n) ≤ chain s (a ∷ b ∷ l)
    → (b.id ≡ a.id + s) × (b.mask ≡ a.mask) × (suc n ≤ chain s (b ∷ l))
unfolding chain
chain_next s a b l n h =
    let d = long (leads s a (b ∷ l)) n (chain s (b ∷ l)) h in
    let e = and_true (eqb b.id (a.id + s)) (eqb b.mask a.mask) d.0 in
    (eqb-true b.id (a.id + s) e.0, eqb-true b.mask a.mask e.1, d.1)

-- the step of a header says which of the two chains the writes are
pub step_chain : (k : ℕ) (l : List Write) → k ≤ span l → (k ≤ chain (step_for k l) l) × (step_for k l < 2)
unfolding span
step_chain k l h = go (leb k (chain 0 l)) refl
  where
    go : (t : Bool) → leb k (chain 0 l) ≡ t → (k ≤ chain (pick t 0 1) l) × (pick t 0 1 < 2)
    go true e = (leb-true k (chain 0 l) e, omega arith)
    go false e = omega (arith, leb-false k (chain 0 l) e)

pub step_lone : (k : ℕ) (a : Write) (l : List Write) → k ≤ 1 → step_for k (a ∷ l) ≡ 0
step_lone k a l h = let p = chain_pos 0 a l in rw (le-leb k (chain 0 (a ∷ l)) (omega arith))

-- of two writes or more it goes by the first two ids
module _ (k : ℕ) (a b : Write) (l : List Write) (two : 2 ≤ k) (fits : k ≤ span (a ∷ b ∷ l)) where
  next_id : (s : ℕ) → k ≤ chain s (a ∷ b ∷ l) → b.id ≡ a.id + s
  next_id s h = (chain_next s a b l (k - 2) (omega arith)).0

  either : (k ≤ chain 0 (a ∷ b ∷ l)) ⊎ (k ≤ chain 1 (a ∷ b ∷ l))
  unfolding span
  either = go (dec_lt (chain 0 (a ∷ b ∷ l)) k)
    where
      go : Dec (chain 0 (a ∷ b ∷ l) < k) → (k ≤ chain 0 (a ∷ b ∷ l)) ⊎ (k ≤ chain 1 (a ∷ b ∷ l))
      go (yes q) = inr (omega arith)
      go (no q) = inl (omega arith)

  pub step_same : b.id ≡ a.id → step_for k (a ∷ b ∷ l) ≡ 0
  step_same e = ⊎_elim (λ h. rw (le-leb k (chain 0 (a ∷ b ∷ l)) h)) (λ h. absurd (omega (arith, next_id 1 h))) either

  pub step_rise : (b.id ≡ a.id → ⊥) → step_for k (a ∷ b ∷ l) ≡ 1
  step_rise n = rw (lt-leb k (chain 0 (a ∷ b ∷ l)) (go (dec_lt (chain 0 (a ∷ b ∷ l)) k)))
    where
      go : Dec (chain 0 (a ∷ b ∷ l) < k) → chain 0 (a ∷ b ∷ l) < k
      go (yes q) = q
      go (no q) = absurd (n (omega (arith, next_id 0 (omega arith))))

-- A COMMAND'S WRITES ARE A CHAIN, whatever comes after them
module _ (l : List ℕ) (at : ℕ) (ws : List Write) where
  chain_run : (n k i : ℕ) → n ≤ chain (step_of (header_at l at)) (run l at n k i ++ ws)
  unfolding chain run
  chain_run zero k i = omega arith
  chain_run (suc zero) k i =
      let w = writing i (mask_of (header_at l at)) (param_at l at k) in
      (picked (leads (step_of (header_at l at)) w ws) (chain (step_of (header_at l at)) ws)).0
  chain_run (suc (suc n)) k i =
      let s = step_of (header_at l at) in
      let m = mask_of (header_at l at) in
      rw (eq-eqb (i + s) (i + s) refl, eq-eqb m m refl) (omega (arith, chain_run (suc n) (k + 1) (i + s)))

  step_two : (s : ℕ) (l : List Write) → s < 2 → chain s l ≤ max (chain 0 l) (chain 1 l)
  step_two zero l h = omega arith
  step_two (suc zero) l h = omega arith
  step_two (suc (suc s)) l h = absurd (omega arith)

  pub expand_span : count_of (header_at l at) + 1 ≤ span (expand l at ++ ws)
  unfolding span
  expand_span =
      let h = header_at l at in
      omega (arith, chain_run (count_of h + 1) 0 (id_of h), step_two (step_of h) (expand l at ++ ws) (omega arith))
