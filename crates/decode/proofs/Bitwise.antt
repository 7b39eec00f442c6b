-- The registers whose codes are tested all at once, and words of such tests joined. Assumes nothing.
use mathlib.Core.Path.{◌≡◌, refl, sym, ap, ◌∙◌}
use mathlib.Core.Bool.{Bool, true, false, not, ◌||◌}
use Prim.Native.Nat.{ℕ, zero, suc, ◌+◌, ◌*◌, ◌/◌, ◌%◌, ◌^◌, ◌<◌}
use native.Mathlib.Omega.{arith}
use lib.Bits.{bit_and, bit_or, bit_xor, or_zero_r, or_add_and, and_le_l}
use lib.Dec.{eqb}
use borrow.Author.Tests.{ne_eqb}
use Rattle.settings.specs.Ranges.{bits}
use Rattle.settings.specs.Stages.{source_in, operand_in, scale_in}
use Rattle.decode.specs.Codes.{no_source, no_operand, no_scale, source_lacks, operand_lacks, scale_lacks}
use Rattle.decode.proofs.Nibbles.{Nibblewise, by_1, by_2, by_4, by_8, and_wise, or_wise, xor_wise, halves}
use Rattle.decode.proofs.Nibbles.{up_to, same, three, six, two, or_false}

-- WORDS JOINED

pub or_true : (b : Bool) → (b || true) ≡ true
or_true true = refl
or_true false = refl

pub or_any : (a b : ℕ) → not (eqb (bit_or a b) 0) ≡ (not (eqb a 0) || not (eqb b 0))
or_any a zero = rw (or_zero_r a) (sym (or_false (not (eqb a 0))))
or_any a (suc b) =
    let d : bit_or a (suc b) ≡ 0 → ⊥ = λ e. omega (arith, or_add_and a (suc b), and_le_l a (suc b)) in
    rw (ne_eqb (bit_or a (suc b)) 0 d, ne_eqb (suc b) 0 (λ e. omega arith)) (sym (or_true (not (eqb a 0))))

pub or_assoc : (a b c : Bool) → ((a || b) || c) ≡ (a || (b || c))
or_assoc true b c = refl
or_assoc false b c = refl

of_three : (a b c : Bool) → (a || (b || c)) ≡ (a || b || c)
of_three a b c = simp or_assoc

of_six : (a b c d e f : Bool) → (a || (b || (c || (d || (e || f))))) ≡ (a || b || c || d || e || f)
of_six a b c d e f = simp or_assoc

-- THE REGISTERS, in the code's own words

abbrev pair : ℕ → ℕ → ℕ
pair x y = x + y * 0x100000000

high : (x y : ℕ) → x < 0x100000000 → pair x y / 0x100000000 ≡ y
high x y h = omega arith

-- the low word's fields
low_4 : (x y : ℕ) → pair x y / 2 ^ 4 % 16 ≡ x / 2 ^ 4 % 16
low_4 x y = let e : pair x y / 2 ^ 4 ≡ x / 2 ^ 4 + y * 0x10000000 = omega arith in omega arith

low_8 : (x y : ℕ) → pair x y / 2 ^ 8 % 16 ≡ x / 2 ^ 8 % 16
low_8 x y = let e : pair x y / 2 ^ 8 ≡ x / 2 ^ 8 + y * 0x1000000 = omega arith in omega arith

low_16 : (x y : ℕ) → pair x y / 2 ^ 16 % 16 ≡ x / 2 ^ 16 % 16
low_16 x y = let e : pair x y / 2 ^ 16 ≡ x / 2 ^ 16 + y * 0x10000 = omega arith in omega arith

low_20 : (x y : ℕ) → pair x y / 2 ^ 20 % 16 ≡ x / 2 ^ 20 % 16
low_20 x y = let e : pair x y / 2 ^ 20 ≡ x / 2 ^ 20 + y * 0x1000 = omega arith in omega arith

low_24 : (x y : ℕ) → pair x y / 2 ^ 24 % 16 ≡ x / 2 ^ 24 % 16
low_24 x y = let e : pair x y / 2 ^ 24 ≡ x / 2 ^ 24 + y * 0x100 = omega arith in omega arith

abbrev source_bits : ℕ → ℕ
source_bits x = bit_and (bit_xor (x / 8) (bit_and (x / 4) (bit_or (x / 2) x))) (bit_or (x / 8) (bit_and (x / 2) x))

source_wise : Nibblewise source_bits
source_wise = and_wise (xor_wise by_8 (and_wise by_4 (or_wise by_2 by_1))) (or_wise by_8 (and_wise by_2 by_1))

one_source : (x : ℕ) → not (eqb (bit_and (source_bits x) 0x1110111) 0) ≡ source_lacks (source_in (bits x))
unfolding up_to same
one_source x =
    six source_bits source_wise no_source refl x ∙
    of_six (no_source (bits x 0 3)) (no_source (bits x 4 7)) (no_source (bits x 8 11))
    (no_source (bits x 16 19)) (no_source (bits x 20 23)) (no_source (bits x 24 27))

low_source : (x y : ℕ) → source_lacks (source_in (bits (pair x y))) ≡ source_lacks (source_in (bits x))
low_source x y =
    let e : pair x y % 16 ≡ x % 16 = omega arith in
    rw (e, low_4 x y, low_8 x y, low_16 x y, low_20 x y, low_24 x y)

pub source_codes : (x y : ℕ) → x < 0x100000000
    → not (eqb (bit_and (source_bits (pair x y)) 0x111011101110111) 0)
    ≡ (source_lacks (source_in (bits x)) || source_lacks (source_in (bits y)))
source_codes x y h =
    halves source_bits source_wise 0x1110111 0x1110111 (pair x y) (omega arith) ∙
    rw (high x y h, one_source (pair x y), one_source y) (ap (λ t. t || source_lacks (source_in (bits y))) (low_source x y))

abbrev operand_bits : ℕ → ℕ
operand_bits x = bit_and (x / 2) (bit_or (x / 4) (x / 8))

operand_wise : Nibblewise operand_bits
operand_wise = and_wise by_2 (or_wise by_4 by_8)

one_operand : (x : ℕ) → not (eqb (bit_and (operand_bits x) 0x111) 0) ≡ operand_lacks (operand_in (bits x))
unfolding up_to same
one_operand x =
    three operand_bits operand_wise no_operand refl x ∙
    of_three (no_operand (bits x 0 3)) (no_operand (bits x 4 7)) (no_operand (bits x 8 11))

low_operand : (x y : ℕ) → operand_lacks (operand_in (bits (pair x y))) ≡ operand_lacks (operand_in (bits x))
low_operand x y =
    let e : pair x y % 16 ≡ x % 16 = omega arith in
    rw (e, low_4 x y, low_8 x y)

pub operand_codes : (x y : ℕ) → x < 0x100000000
    → not (eqb (bit_and (operand_bits (pair x y)) 0x11100000111) 0)
    ≡ (operand_lacks (operand_in (bits x)) || operand_lacks (operand_in (bits y)))
operand_codes x y h =
    halves operand_bits operand_wise 0x111 0x111 (pair x y) (omega arith) ∙
    rw (high x y h, one_operand (pair x y), one_operand y) (ap (λ t. t || operand_lacks (operand_in (bits y))) (low_operand x y))

abbrev scale_bits : ℕ → ℕ
scale_bits x = bit_and x (x / 2)

scale_wise : Nibblewise scale_bits
scale_wise = and_wise by_1 by_2

-- a scale is two bits of its four
one_scale : (x : ℕ) → not (eqb (bit_and (scale_bits x) 0x10001) 0) ≡ scale_lacks (scale_in (bits x))
unfolding up_to same
one_scale x =
    let e : x % 16 % 4 ≡ x % 4 = omega arith in
    let d : x / 65536 % 16 % 4 ≡ x / 65536 % 4 = omega arith in
    two scale_bits scale_wise (λ n. no_scale (n % 4)) refl x ∙ rw (e, d)

low_two : (x y : ℕ) → pair x y / 2 ^ 16 % 4 ≡ x / 2 ^ 16 % 4
low_two x y =
    let e : pair x y / 2 ^ 16 ≡ x / 2 ^ 16 + y * 0x10000 = omega arith in
    rw e (omega arith)

low_scale : (x y : ℕ) → scale_lacks (scale_in (bits (pair x y))) ≡ scale_lacks (scale_in (bits x))
low_scale x y =
    let e : pair x y % 4 ≡ x % 4 = omega arith in
    rw (e, low_two x y)

pub scale_codes : (x y : ℕ) → x < 0x100000000
    → not (eqb (bit_and (scale_bits (pair x y)) 0x1000100010001) 0)
    ≡ (scale_lacks (scale_in (bits x)) || scale_lacks (scale_in (bits y)))
scale_codes x y h =
    halves scale_bits scale_wise 0x10001 0x10001 (pair x y) (omega arith) ∙
    rw (high x y h, one_scale (pair x y), one_scale y) (ap (λ t. t || scale_lacks (scale_in (bits y))) (low_scale x y))
