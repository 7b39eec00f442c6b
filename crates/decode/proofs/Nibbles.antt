-- Tests on the codes of a word, four bits each, all at once by bitwise operations, whatever the test. Assumes nothing.
use mathlib.Core.Path.{◌≡◌, refl, sym, ◌∙◌, ap}
use mathlib.Core.Bool.{Bool, true, false, not, ◌&&◌, ◌||◌, false≢true}
use Prim.Native.Nat.{ℕ, zero, suc, ◌+◌, ◌*◌, ◌/◌, ◌%◌, ◌<◌}
use native.Mathlib.Omega.{arith}
use lib.Bits.{bit_and, bit_or, bit_xor, and_shr, and_mod, or_shr, or_mod, xor_shr, xor_mod, and_block, and_mask, and_zero_r}
use lib.Dec.{eqb}
use borrow.Author.Tests.{eq-eqb, ne_eqb, eqb-true, eqb-false}
use Rattle.numbers.proofs.Tests.{and_true}

-- TESTS

eqb_by : (a b c d : ℕ) → (a ≡ b → c ≡ d) → (c ≡ d → a ≡ b) → (t : Bool) → eqb a b ≡ t → t ≡ eqb c d
eqb_by a b c d f g true e = sym (eq-eqb c d (f (eqb-true a b e)))
eqb_by a b c d f g false e = sym (ne_eqb c d (λ q. eqb-false a b e (g q)))

eqb_same : (a b c d : ℕ) → (a ≡ b → c ≡ d) → (c ≡ d → a ≡ b) → eqb a b ≡ eqb c d
eqb_same a b c d f g = eqb_by a b c d f g (eqb a b) refl

pub or_false : (b : Bool) → (b || false) ≡ b
or_false true = refl
or_false false = refl

-- a number that is not 0, by its low four bits and the rest
split : (a b : ℕ) → b < 2 → not (eqb (a * 16 + b) 0) ≡ (eqb b 1 || not (eqb a 0))
split a zero h = ap not (eqb_same (a * 16 + 0) 0 a 0 (λ e. omega arith) (λ e. omega arith))
split a (suc zero) h = ap not (ne_eqb (a * 16 + 1) 0 (λ e. omega arith))
split a (suc (suc b)) h = absurd (omega arith)

shift : (a : ℕ) → not (eqb (a * 16) 0) ≡ not (eqb a 0)
shift a = ap not (eqb_same (a * 16) 0 a 0 (λ e. omega arith) (λ e. omega arith))

split_32 : (a b : ℕ) → not (eqb (a * 0x100000000 + b) 0) ≡ (not (eqb b 0) || not (eqb a 0))
split_32 a zero = ap not (eqb_same (a * 0x100000000 + 0) 0 a 0 (λ e. omega arith) (λ e. omega arith))
split_32 a (suc b) = rw (ne_eqb (a * 0x100000000 + suc b) 0 (λ e. omega arith), ne_eqb (suc b) 0 (λ e. omega arith))

-- a test over the sixteen codes
unfoldable pub same : Bool → Bool → Bool
same true b = b
same false b = not b

same_true : (a b : Bool) → same a b ≡ true → a ≡ b
unfolding same
same_true true true e = refl
same_true true false e = absurd (false≢true e)
same_true false true e = absurd (false≢true e)
same_true false false e = refl

unfoldable pub up_to : ℕ → (ℕ → Bool) → Bool
up_to zero p = true
up_to (suc k) p = p k && up_to k p

up_to_at : (k : ℕ) (p : ℕ → Bool) → p k ≡ true → ((n : ℕ) → n < k → p n ≡ true)
    → (n : ℕ) → n < suc k → (t : Bool) → eqb n k ≡ t → p n ≡ true
up_to_at k p u f n h true e = rw (eqb-true n k e) u
up_to_at k p u f n h false e = let d : n ≡ k → ⊥ = eqb-false n k e in f n (omega arith)

up_to_law : (k : ℕ) (p : ℕ → Bool) → up_to k p ≡ true → (n : ℕ) → n < k → p n ≡ true
unfolding up_to
up_to_law zero p e n h = absurd (omega arith)
up_to_law (suc k) p e n h = let u = and_true (p k) (up_to k p) e in up_to_at k p u.0 (up_to_law k p u.1) n h (eqb n k) refl

-- THE MASK

low_bit : (y : ℕ) → bit_and (y % 16) 1 ≡ y % 2
low_bit y = and_mask (y % 16) 1 ∙ omega arith

mask_one : (y m : ℕ) → bit_and y (m * 16 + 1) ≡ bit_and (y / 16) m * 16 + y % 2
mask_one y m =
    let e : y ≡ y / 16 * 16 + y % 16 = omega arith in
    ap (λ (z : ℕ). bit_and z (m * 16 + 1)) e ∙ and_block 4 (y / 16) m (y % 16) 1 (omega arith) (omega arith) ∙ rw (low_bit y)

mask_none : (y m : ℕ) → bit_and y (m * 16) ≡ bit_and (y / 16) m * 16
mask_none y m =
    let e : y ≡ y / 16 * 16 + y % 16 = omega arith in
    let d : m * 16 ≡ m * 16 + 0 = omega arith in
    rw d
    (ap (λ (z : ℕ). bit_and z (m * 16 + 0)) e ∙ and_block 4 (y / 16) m (y % 16) 0 (omega arith) (omega arith) ∙
    rw (and_zero_r (y % 16)) (omega arith))

mask_halves : (y m k : ℕ) → k < 0x100000000
    → bit_and y (m * 0x100000000 + k) ≡ bit_and (y / 0x100000000) m * 0x100000000 + bit_and (y % 0x100000000) k
mask_halves y m k h =
    let e : y ≡ y / 0x100000000 * 0x100000000 + y % 0x100000000 = omega arith in
    ap (λ (z : ℕ). bit_and z (m * 0x100000000 + k)) e ∙
    and_block 32 (y / 0x100000000) m (y % 0x100000000) k (omega arith) h

mask_low : (y k : ℕ) → k < 0x100000000 → bit_and y k ≡ bit_and (y % 0x100000000) k
mask_low y k h =
    let d : k ≡ 0 * 0x100000000 + k = omega arith in
    ap (bit_and y) d ∙ mask_halves y 0 k h ∙ rw (and_zero_r (y / 0x100000000)) (omega arith)

-- NIBBLE BY NIBBLE

-- bit 0 of each four bits of f x goes by those four bits of x
pub record Nibblewise (f : ℕ → ℕ) : Type 0 where
  pub up : (x : ℕ) → f x / 16 ≡ f (x / 16)
  pub low : (x : ℕ) → f x % 2 ≡ f (x % 16) % 2

-- what shifts and bitwise operations give is so
pub by_1 : Nibblewise (λ x. x)
by_1 = record { up = λ x. refl; low = λ x. omega arith }

pub by_2 : Nibblewise (λ x. x / 2)
by_2 = record { up = λ x. omega arith; low = λ x. omega arith }

pub by_4 : Nibblewise (λ x. x / 4)
by_4 = record { up = λ x. omega arith; low = λ x. omega arith }

pub by_8 : Nibblewise (λ x. x / 8)
by_8 = record { up = λ x. omega arith; low = λ x. omega arith }

pub and_wise : {f g : ℕ → ℕ} → Nibblewise f → Nibblewise g → Nibblewise (λ x. bit_and (f x) (g x))
and_wise {f} {g} p q =
    record {
      up = λ x. rw (and_shr (f x) (g x) 4, p.up x, q.up x);
      low = λ x. rw (and_mod (f x) (g x) 1, and_mod (f (x % 16)) (g (x % 16)) 1, p.low x, q.low x);
    }

pub or_wise : {f g : ℕ → ℕ} → Nibblewise f → Nibblewise g → Nibblewise (λ x. bit_or (f x) (g x))
or_wise {f} {g} p q =
    record {
      up = λ x. rw (or_shr (f x) (g x) 4, p.up x, q.up x);
      low = λ x. rw (or_mod (f x) (g x) 1, or_mod (f (x % 16)) (g (x % 16)) 1, p.low x, q.low x);
    }

pub xor_wise : {f g : ℕ → ℕ} → Nibblewise f → Nibblewise g → Nibblewise (λ x. bit_xor (f x) (g x))
xor_wise {f} {g} p q =
    record {
      up = λ x. rw (xor_shr (f x) (g x) 4, p.up x, q.up x);
      low = λ x. rw (xor_mod (f x) (g x) 1, xor_mod (f (x % 16)) (g (x % 16)) 1, p.low x, q.low x);
    }

-- so a word of 64 bits goes by its two halves
module _ (f : ℕ → ℕ) (w : Nibblewise f) where
  up_16 : (x : ℕ) → f x / 65536 ≡ f (x / 65536)
  up_16 x =
      let e : f x / 65536 ≡ f x / 16 / 16 / 16 / 16 = omega arith in
      let d : x / 16 / 16 / 16 / 16 ≡ x / 65536 = omega arith in
      rw (e, w.up x, w.up (x / 16), w.up (x / 16 / 16), w.up (x / 16 / 16 / 16), d)

  up_32 : (x : ℕ) → f x / 0x100000000 ≡ f (x / 0x100000000)
  up_32 x =
      let e : f x / 0x100000000 ≡ f x / 65536 / 65536 = omega arith in
      let d : x / 65536 / 65536 ≡ x / 0x100000000 = omega arith in
      rw (e, up_16 x, up_16 (x / 65536), d)

  pub halves : (k m x : ℕ) → k < 0x100000000
      → not (eqb (bit_and (f x) (m * 0x100000000 + k)) 0)
      ≡ (not (eqb (bit_and (f x) k) 0) || not (eqb (bit_and (f (x / 0x100000000)) m) 0))
  halves k m x h =
      rw (mask_halves (f x) m k h, mask_low (f x) k h, split_32 (bit_and (f x / 0x100000000) m) (bit_and (f x % 0x100000000) k), up_32 x)

-- where f says of each of the sixteen codes what the test does, f under a mask says it of all the codes that the mask names
module _ (f : ℕ → ℕ) (w : Nibblewise f) (test : ℕ → Bool) (all : up_to 16 (λ n. same (eqb (f n % 2) 1) (test n)) ≡ true) where
  nibble : (x : ℕ) → eqb (f x % 2) 1 ≡ test (x % 16)
  nibble x =
      rw (w.low x)
      (same_true (eqb (f (x % 16) % 2) 1) (test (x % 16))
      (up_to_law 16 (λ n. same (eqb (f n % 2) 1) (test n)) all (x % 16) (omega arith)))

  one : (x m : ℕ) → not (eqb (bit_and (f x) (m * 16 + 1)) 0) ≡ (test (x % 16) || not (eqb (bit_and (f (x / 16)) m) 0))
  one x m = rw (mask_one (f x) m, split (bit_and (f x / 16) m) (f x % 2) (omega arith), nibble x, w.up x)

  skip : (x m : ℕ) → not (eqb (bit_and (f x) (m * 16)) 0) ≡ not (eqb (bit_and (f (x / 16)) m) 0)
  skip x m = rw (mask_none (f x) m, shift (bit_and (f x / 16) m), w.up x)

  last : (x : ℕ) → not (eqb (bit_and (f x) 1) 0) ≡ test (x % 16)
  last x = one x 0 ∙ rw (and_zero_r (f (x / 16))) (or_false (test (x % 16)))

  pub three : (x : ℕ) → not (eqb (bit_and (f x) 0x111) 0) ≡ (test (x % 16) || (test (x / 16 % 16) || test (x / 256 % 16)))
  three x =
      let e : x / 16 / 16 ≡ x / 256 = omega arith in
      one x 0x11 ∙ rw (one (x / 16) 1, last (x / 16 / 16), e)

  pub six : (x : ℕ)
      → not (eqb (bit_and (f x) 0x1110111) 0)
      ≡ (test (x % 16) || (test (x / 16 % 16) || (test (x / 256 % 16)
      || (test (x / 65536 % 16) || (test (x / 1048576 % 16) || test (x / 16777216 % 16))))))
  six x =
      let e : x / 16 / 16 ≡ x / 256 = omega arith in
      let d : x / 256 / 16 / 16 ≡ x / 65536 = omega arith in
      one x 0x111011 ∙ rw (one (x / 16) 0x11101, one (x / 16 / 16) 0x1110, e, skip (x / 256 / 16) 0x111, d, three (x / 65536))
      (let g : x / 65536 / 16 ≡ x / 1048576 = omega arith in
      let h : x / 65536 / 256 ≡ x / 16777216 = omega arith in
      rw (g, h))

  pub two : (x : ℕ) → not (eqb (bit_and (f x) 0x10001) 0) ≡ (test (x % 16) || test (x / 65536 % 16))
  two x =
      let e : x / 16 / 16 / 16 / 16 ≡ x / 65536 = omega arith in
      one x 0x1000 ∙ rw (skip (x / 16) 0x100, skip (x / 16 / 16) 0x10, skip (x / 16 / 16 / 16) 1, last (x / 16 / 16 / 16 / 16), e)
