-- The chain of writes that go on by one step, from what is known of the writes after one to what is known with it. Assumes nothing.
use mathlib.Core.Path.{◌≡◌, refl, sym, ◌∙◌}
use mathlib.Core.Bool.{Bool, true, false, ◌&&◌}
use mathlib.Core.List.{List}
use Prim.Native.Nat.{ℕ, zero, suc, ◌+◌, ◌-◌, ◌≤◌, ◌<◌, min}
use native.Mathlib.Decide.{dec_lt}
use native.Mathlib.Omega.{arith}
use lib.Dec.{eqb}
use lib.ListN.{length, get_or, drop, length-drop}
use borrow.Author.Tests.{eqb-true, eqb-false, ne_eqb}
use Rattle.numbers.specs.Pick.{pick}
use Rattle.words.specs.Writes.{Write, writing}
use Rattle.runs.specs.Span.{leads, chain, span}
use Rattle.runs.specs.PackedList.{writes}
use Rattle.runs.proofs.Chain.{chain_nil, chain_cons, span_is}
use Rattle.runs.proofs.Writes.{writes_length, writes_at}

-- THE CHAINS

either : (b c : Bool) (n : ℕ) → n ≡ 0 → pick b (n + 1) 1 ≡ pick c (n + 1) 1
either true true n e = refl
either true false n e = omega arith
either false true n e = omega arith
either false false n e = refl

-- the chain from write j on, where the code holds the id and the mask of the next write, if there is one
module _ (s : ℕ) (is ms vs : List ℕ) (j next mask : ℕ) (e : length is ≡ length ms) (f : length is ≡ length vs) (h : j < length is)
    (held : j + 1 < length is → (next ≡ get_or is (j + 1) 0) × (mask ≡ get_or ms (j + 1) 0)) where
  abbrev rest : List Write
  rest = drop (j + 1) (writes is ms vs)

  abbrev test : Bool
  test = eqb next (get_or is j 0 + s) && eqb mask (get_or ms j 0)

  abbrev here : Write
  here = writing (get_or is j 0) (get_or ms j 0) (get_or vs j 0)

  by_next : Dec (j + 1 < length is) → pick (leads s here rest) (chain s rest + 1) 1 ≡ pick test (chain s rest + 1) 1
  by_next (yes q) = rw (writes_at is ms vs (j + 1) e f q, (held q).0, (held q).1)
  by_next (no q) =
      let n : length rest ≡ 0 = length-drop (j + 1) (writes is ms vs) ∙ omega (arith, writes_length is ms vs e f) in
      either (leads s here rest) test (chain s rest) (chain_nil s rest n)

  pub chain_step : chain s (drop j (writes is ms vs)) ≡ pick test (chain s rest + 1) 1
  chain_step = rw (writes_at is ms vs j e f h) (chain_cons s here rest ∙ by_next (dec_lt (j + 1) (length is)))

-- the same of what the code finds
pub chain_linked : (s : ℕ) (is ms vs : List ℕ) (m j next mask n r : ℕ) → length is ≡ length ms → length is ≡ length vs
    → m ≡ j + 1
    → j < length is → (m < length is → (next ≡ get_or is m 0) × (mask ≡ get_or ms m 0)) → n ≡ chain s (drop m (writes is ms vs))
    → r ≡ pick (eqb next (get_or is j 0 + s) && eqb mask (get_or ms j 0)) (n + 1) 1 → r ≡ chain s (drop j (writes is ms vs))
chain_linked s is ms vs m j next mask n r e f g h held p q =
    let k = rw g at p in q ∙ rw k (sym (chain_step s is ms vs j next mask e f h (rw g at held)))

-- THE STEP to the next id is that of a chain of more than one write, if there is one: by the other the write is alone

step_small : (b : Bool) → pick b 1 0 < 2
step_small true = omega arith
step_small false = omega arith

pub step_two : (next id step : ℕ) → step ≡ pick (eqb next (id + 1)) 1 0 → step < 2
step_two next id step e = rw e (step_small (eqb next (id + 1)))

other_step : (a b : ℕ) → a < 2 → b < 2 → (a ≡ b → ⊥) → a ≡ 1 - b
other_step zero zero p q n = absurd (n refl)
other_step zero (suc zero) p q n = refl
other_step (suc zero) zero p q n = refl
other_step (suc zero) (suc zero) p q n = absurd (n refl)
other_step (suc (suc a)) b p q n = absurd (omega arith)
other_step zero (suc (suc b)) p q n = absurd (omega arith)
other_step (suc zero) (suc (suc b)) p q n = absurd (omega arith)

other_apart : (next id step : ℕ) → step ≡ pick (eqb next (id + 1)) 1 0 → eqb next (id + (1 - step)) ≡ false
other_apart next id step e = go (eqb next (id + 1)) refl
  where
    go : (b : Bool) → eqb next (id + 1) ≡ b → eqb next (id + (1 - step)) ≡ false
    go true t = let z : step ≡ 1 = e ∙ rw t in let n = eqb-true next (id + 1) t in rw z (ne_eqb next (id + 0) (λ q. omega arith))
    go false t = let z : step ≡ 0 = e ∙ rw t in rw z t

-- the chain by the step found goes on as it was by that step, or one write does
pub chain_on : (ws : List Write) (m was run next id step rest : ℕ) → was < 2 → run ≡ chain was (drop m ws)
    → (m < length ws → chain (1 - was) (drop m ws) ≡ 1) → (length ws ≤ m → (was ≡ 0) × (next ≡ 0))
    → step ≡ pick (eqb next (id + 1)) 1 0
    → rest ≡ pick (eqb step was) run 1 → rest ≡ chain step (drop m ws)
chain_on ws m was run next id step rest w p other end e f = go (eqb step was) refl
  where
    apart : (step ≡ was → ⊥) → Dec (m < length ws) → 1 ≡ chain step (drop m ws)
    apart n (yes q) = let z = other_step step was (step_two next id step e) w n in rw z (sym (other q))
    apart n (no q) =
        let d = end (omega arith) in
        let z : step ≡ 0 = e ∙ rw (ne_eqb next (id + 1) (λ t. omega (arith, d.1))) in
        absurd (n (z ∙ sym d.0))

    go : (b : Bool) → eqb step was ≡ b → rest ≡ chain step (drop m ws)
    go true t = let z = eqb-true step was t in f ∙ rw (t, z) p
    go false t = f ∙ rw t (apart (eqb-false step was t) (dec_lt m (length ws)))

-- by the other step the write is alone
pub chain_apart : (is ms vs : List ℕ) (m j next mask step : ℕ) → length is ≡ length ms → length is ≡ length vs → m ≡ j + 1
    → j < length is
    → (m < length is → (next ≡ get_or is m 0) × (mask ≡ get_or ms m 0)) → step ≡ pick (eqb next (get_or is j 0 + 1)) 1 0
    → chain (1 - step) (drop j (writes is ms vs)) ≡ 1
chain_apart is ms vs m j next mask step e f g h held p =
    chain_step (1 - step) is ms vs j next mask e f h (rw g at held) ∙ rw (other_apart next (get_or is j 0) step p)

-- the span is the longer of the two
pub span_run : (l : List Write) (step run : ℕ) → step < 2 → 1 ≤ run → run ≡ chain step l → chain (1 - step) l ≡ 1
    → min 256 run ≡ span l
span_run l zero run h s p o = omega (arith, span_is l run 1 p (sym o))
span_run l (suc zero) run h s p o = omega (arith, span_is l 1 run (sym o) p)
span_run l (suc (suc step)) run h s p o = absurd (omega arith)

-- a run has a write, and one of three or more is one write longer than it was
pub run_some : (b : Bool) (rest r : ℕ) → r ≡ pick b (rest + 1) 1 → 1 ≤ r
run_some true rest r e = omega arith
run_some false rest r e = omega arith

pub run_longer : (b c : Bool) (n rest r : ℕ) → rest ≡ pick c n 1 → r ≡ pick b (rest + 1) 1 → 2 < r → r ≡ n + 1
run_longer true true n rest r e f h = omega arith
run_longer true false n rest r e f h = absurd (omega arith)
run_longer false c n rest r e f h = absurd (omega arith)
