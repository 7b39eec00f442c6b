-- Laws of the masked replacement, bit by bit. Assumes nothing.
use mathlib.Core.Path.{◌≡◌, refl, sym, ◌∙◌}
use mathlib.Core.Bool.{Bool}
use Prim.Native.Nat.{ℕ, zero, suc, ◌+◌, ◌-◌, ◌*◌, ◌/◌, ◌%◌, ◌^◌, ◌<◌}
use native.Mathlib.Nat.{pow-succ', div-div-eq-div-mul}
use native.Mathlib.Omega.{arith}
use lib.Bits.{bit_and, bit_or, and_shr, and_mod, or_shr, or_mod, and_le_r, or_lt}
use lib.Dec.{T, eqb, eqb→eq}
use lib.ListN.{replicate, length-replicate}
use Rattle.numbers.specs.Bits.{bit, spread, merge, pick_bit}
use Rattle.numbers.proofs.Table.{at}

-- a bit of a conjunction or a disjunction is that of the bits
pub and_bit : (k a b : ℕ) → bit k (bit_and a b) ≡ bit_and (bit k a) (bit k b)
and_bit k a b = rw (and_shr a b k, and_mod (a / 2 ^ k) (b / 2 ^ k) 1)

pub or_bit : (k a b : ℕ) → bit k (bit_or a b) ≡ bit_or (bit k a) (bit k b)
or_bit k a b = rw (or_shr a b k, or_mod (a / 2 ^ k) (b / 2 ^ k) 1)

-- the bits of x but its lowest are those of its half
bit_suc : (k x : ℕ) → bit (suc k) x ≡ bit k (x / 2)
bit_suc k x = rw (pow-succ' 2 k, div-div-eq-div-mul x 2 (2 ^ k))

-- a bit of the complement in n bits
comp_bit : (n k e : ℕ) → e < 2 ^ n → k < n → bit k (2 ^ n - 1 - e) ≡ 1 - bit k e
comp_bit zero k e h l = absurd (omega arith)
comp_bit (suc n) zero e h l = omega (arith, pow-succ' 2 n)
comp_bit (suc n) (suc k) e h l =
    let p = pow-succ' 2 n in
    let half : (2 ^ suc n - 1 - e) / 2 ≡ 2 ^ n - 1 - e / 2 = omega arith in
    rw (bit_suc k (2 ^ suc n - 1 - e), bit_suc k e, half) (comp_bit n k (e / 2) (omega arith) (omega arith))

-- numbers of n bits that agree in each bit are equal
pub bits_equal : (n a b : ℕ) → a < 2 ^ n → b < 2 ^ n → ((k : ℕ) → k < n → bit k a ≡ bit k b) → a ≡ b
bits_equal zero a b ha hb same = omega arith
bits_equal (suc n) a b ha hb same =
    let p = pow-succ' 2 n in
    let low : a % 2 ≡ b % 2 = omega (arith, same 0 (omega arith)) in
    let high : a / 2 ≡ b / 2 =
    bits_equal n (a / 2) (b / 2) (omega arith) (omega arith) (λ k h. sym (bit_suc k a) ∙ same (suc k) (omega arith) ∙ bit_suc k b) in
    omega arith

-- one bit of a replacement: one test of the eight cases
one_right : ℕ → ℕ → ℕ → Bool
one_right e o n = eqb (bit_or (bit_and o (1 - e)) (bit_and n e)) (pick_bit e n o)

one_bit : (e o n : ℕ) → e < 2 → o < 2 → n < 2 → bit_or (bit_and o (1 - e)) (bit_and n e) ≡ pick_bit e n o
unfolding one_right
one_bit e o n he ho hn =
    let i = e * 4 + o * 2 + n in
    let t : T (one_right (i / 4) (i / 2 % 2) (i % 2)) =
    at (λ i _. one_right (i / 4) (i / 2 % 2) (i % 2)) (replicate 8 0) tt i (omega (arith, length-replicate {A = ℕ} 8 0)) in
    let p : i / 4 ≡ e = omega arith in
    let q : i / 2 % 2 ≡ o = omega arith in
    let r : i % 2 ≡ n = omega arith in
    eqb→eq _ _ (rw (p, q, r) at t)

-- a bit of `merge e old new` is that of new where e has a 1, else that of old
pub merge_bit : (k e old new : ℕ) → e < 2 ^ 32 → k < 32 → bit k (merge e old new) ≡ pick_bit (bit k e) (bit k new) (bit k old)
merge_bit k e old new h l =
    or_bit k (bit_and old (0xFFFFFFFF - e)) (bit_and new e)
    ∙ rw (and_bit k old (0xFFFFFFFF - e), and_bit k new e, comp_bit 32 k e h l)
    (one_bit (bit k e) (bit k old) (bit k new) (omega arith) (omega arith) (omega arith))

pub merge_word : (e old new : ℕ) → e < 2 ^ 32 → merge e old new < 2 ^ 32
merge_word e old new h =
    or_lt 32 (bit_and old (0xFFFFFFFF - e)) (bit_and new e) (omega (arith, and_le_r old (0xFFFFFFFF - e))) (omega (arith, and_le_r new e))

pick_twice : (e o n : ℕ) → pick_bit e n (pick_bit e n o) ≡ pick_bit e n o
pick_twice zero o n = refl
pick_twice (suc e) o n = refl

-- the same replacement twice is that replacement
pub merge_twice : (e old new : ℕ) → e < 2 ^ 32 → merge e (merge e old new) new ≡ merge e old new
merge_twice e old new h =
    bits_equal 32 (merge e (merge e old new) new) (merge e old new) (merge_word e (merge e old new) new h) (merge_word e old new h)
    (λ k l. merge_bit k e (merge e old new) new h l ∙ rw (merge_bit k e old new h l) (pick_twice (bit k e) (bit k old) (bit k new)))

-- bit k of a spread mask is the mask's bit for byte k / 8: one test of the 32 bits of the 16 masks
spread_right : ℕ → ℕ → Bool
spread_right k m = eqb (bit k (spread m)) (bit (k / 8) m)

pub spread_bit : (k m : ℕ) → k < 32 → m < 16 → bit k (spread m) ≡ bit (k / 8) m
unfolding spread_right
spread_bit k m h l =
    let i = k * 16 + m in
    let t : T (spread_right (i / 16) (i % 16)) =
    at (λ i _. spread_right (i / 16) (i % 16)) (replicate 512 0) tt i (omega (arith, length-replicate {A = ℕ} 512 0)) in
    let p : i / 16 ≡ k = omega arith in
    let q : i % 16 ≡ m = omega arith in
    eqb→eq _ _ (rw (p, q) at t)
