-- The words that have come are counted, held at 65,537. Assumes nothing.
use Rattle.std.proofs.Common.{◌≡◌, ℕ, suc, ◌+◌, ◌<◌, Bool, true, false, eqb, ltb, List, [], ◌∷◌, length, sym, refl, ap, ◌∙◌, arith, le-ltb, lt-ltb}
use native.Mathlib.Decide.{dec_lt}
use Rattle.numbers.specs.Pick.{pick}
use Rattle.parts.specs.Progress.{moved, past, extra, padding, headed, started, passed, next, after, held_at, counted}
use Rattle.parts.specs.declared.Progress.{Progress}
use Rattle.parts.proofs.Steps.{after_none, after_more}

-- HOW MANY WORDS HAVE COME
next_come : (p : Progress) (x : ℕ) → (next p x).come ≡ pick (ltb 65535 p.come) 65537 (p.come + 1)
unfolding next
next_come p x = go (ltb 65535 p.come) (ltb 0 p.left) (ltb 0 p.pad) (ltb 0 p.begun) (eqb p.fault 0)
  where
    go : (a b c d e : Bool)
        → (pick a (past p) (pick b (extra p) (pick c (padding p) (pick d (headed p x) (pick e (started p x) (passed p)))))).come
        ≡ pick a 65537 (p.come + 1)
    go true b c d e = refl
    go false true c d e = refl
    go false false true d e = refl
    go false false false true e = refl
    go false false false false true = refl
    go false false false false false = refl

next_held : (p : Progress) (x : ℕ) → Dec (65535 < p.come) → (next p x).come ≡ held_at (p.come + 1)
next_held p x (yes h) = next_come p x ∙ rw (lt-ltb 65535 p.come h, lt-ltb 65536 (p.come + 1) (omega arith))
next_held p x (no h) = next_come p x ∙ rw (le-ltb 65535 p.come (omega arith), le-ltb 65536 (p.come + 1) (omega arith))

held_more : (n m : ℕ) → Dec (65536 < n) → Dec (65536 < n + m) → held_at (held_at n + m) ≡ held_at (n + m)
held_more n m (yes h) d = rw (lt-ltb 65536 n h, lt-ltb 65536 (n + m) (omega arith), lt-ltb 65536 (65537 + m) (omega arith))
held_more n m (no h) d = rw (le-ltb 65536 n (omega arith))

pub held_twice : (n : ℕ) → Dec (65536 < n) → held_at n ≡ held_at (held_at n)
held_twice n (yes h) = rw (lt-ltb 65536 n h)
held_twice n (no h) = let t = le-ltb 65536 n (omega arith) in rw (t, t)

pub come_held : (p : Progress) (l : List ℕ) → p.come ≡ held_at p.come → (after p l).come ≡ held_at (p.come + length l)
come_held p [] h = let z : p.come + 0 ≡ p.come = omega arith in rw (after_none p, z) h
come_held p (x ∷ l) h =
    let n = next_held p x (dec_lt 65535 p.come) in
    let e : p.come + 1 + length l ≡ p.come + suc (length l) = omega arith in
    let m : (next p x).come ≡ held_at (next p x).come = rw n (held_twice (p.come + 1) (dec_lt 65536 (p.come + 1))) in
    rw (after_more p x l)
    (come_held (next p x) l m
    ∙ rw n (held_more (p.come + 1) (length l) (dec_lt 65536 (p.come + 1)) (dec_lt 65536 (p.come + 1 + length l)) ∙ rw e))

-- and a count that is held stays as it is
pub counted_same : (p : Progress) → p.come ≡ held_at p.come → counted p ≡ p
counted_same p h = ap (λ (n : ℕ). moved p n p.id p.left p.pad p.fault) (sym h)
