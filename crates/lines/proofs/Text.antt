-- Laws of text in lent space and of decimal numbers. Assumes nothing.
use mathlib.Core.Path.{◌≡◌, refl, sym, ap, ◌∙◌}
use mathlib.Core.Bool.{Bool, true, false}
use mathlib.Core.List.{List, [], ◌∷◌, ◌++◌, append_assoc}
use Prim.Native.Nat.{ℕ, zero, suc, ◌+◌, ◌/◌, ◌%◌, ◌^◌, ◌≤◌, ◌<◌}
use native.Mathlib.Omega.{arith}
use lib.Dec.{ltb}
use lib.ListN.{length, take, drop, length-append}
use lib.Seq.{take_at, drop-append-add, drop-drop, length-take-le}
use borrow.Author.Tests.{lt-ltb, le-ltb, ltb-false}
use Rattle.numbers.specs.Pick.{pick}
use Rattle.std.specs.Fmt.{decimal as printed}
use Rattle.std.proofs.lemmas.Fmt.{AppendsLastDigit, decimal_from_appends, length-decimal-le, length-decimal-le_succ}
use Rattle.lines.specs.Text.{digits, decimal, over, Put}

-- TEXT OVER TEXT

module _ (old : List ℕ) (at : ℕ) where
  -- a text right after another is the two together
  pub over_more : (a b : List ℕ) → at + length a + length b ≤ length old
      → over (over old at a) (at + length a) b ≡ over old at (a ++ b)
  over_more a b h =
      let head = take at old ++ a in
      let n : length head ≡ at + length a = rw (length-append (take at old) a, length-take-le at old (omega arith)) in
      let d : drop (at + length a + length b) (head ++ drop (at + length a) old) ≡ drop (at + length a + length b) old =
      rw (← n) (drop-append-add head (drop (length head) old) (length b) ∙ drop-drop (length b) (length head) old) in
      let m : at + length (a ++ b) ≡ at + length a + length b = omega (arith, length-append a b) in
      rw (take_at head (drop (at + length a) old) (at + length a) n, d, m, ← append_assoc (take at old) a b)

-- DECIMAL NUMBERS

digits_cong : (b : Bool) (x y z : List ℕ) → (b ≡ false → x ≡ y) → pick b [] x ++ z ≡ pick b [] y ++ z
digits_cong true x y z h = refl
digits_cong false x y z h = ap (λ (f : List ℕ). f ++ z) (h refl)

-- a bound on the number of digits that is enough makes no difference
enough : (j k n : ℕ) → n < j → n < k → digits j n ≡ digits k n
unfolding digits
enough zero k n h g = absurd (omega arith)
enough (suc j) zero n h g = absurd (omega arith)
enough (suc j) (suc k) n h g =
    digits_cong (ltb n 10) _ _ _ (λ t. let m = ltb-false n 10 t in enough j k (n / 10) (omega arith) (omega arith))

-- one digit
pub decimal_digit : (n : ℕ) → n < 10 → decimal n ≡ (48 + n % 10) ∷ []
unfolding decimal digits
decimal_digit n h = rw (lt-ltb n 10 h)

-- or more: those of a tenth, and the last
pub decimal_more : (n : ℕ) → 10 ≤ n → decimal n ≡ decimal (n / 10) ++ ((48 + n % 10) ∷ [])
unfolding decimal digits
decimal_more n h = rw (le-ltb n 10 h, enough n (suc (n / 10)) (n / 10) (omega arith) (omega arith))

appends : AppendsLastDigit digits
unfolding digits
appends =
    record {
      one = λ k n h. let e : n % 10 ≡ n = omega arith in rw (lt-ltb n 10 h, e);
      more = λ k n h. rw (le-ltb n 10 h);
    }

-- it is what std prints
pub decimal_printed : (n : ℕ) → n < 2 ^ 64 → decimal n ≡ printed n
unfolding decimal
decimal_printed n h =
    enough (suc n) (n + 1) n (omega arith) (omega arith)
    ∙ decimal_from_appends digits appends (n + 1) n h (omega (arith, length-decimal-le_succ n h))

-- a number of 64 bits has at most 20
pub length_64 : (n : ℕ) → n < 2 ^ 64 → length (decimal n) ≤ 20
length_64 n h = rw (decimal_printed n h) (length-decimal-le 20 n (omega arith) (omega arith) h)

-- A LINE PUT TOGETHER

-- its first text
pub put_first : (old : List ℕ) {line : List ℕ} {r : ℕ} (text : List ℕ) → (r ≡ 0 + length text) × (line ≡ over old 0 text)
    → Put old text r line
put_first old {line} {r} text e =
    let n : r ≡ length text = omega (arith, e.0) in
    let w : r ≤ length line = rw e.1 (omega (arith, length-append text (drop (0 + length text) old))) in
    record { number = n; bytes = e.1; within = w; counted = sym (length-take-le r line w) }

-- a text right after the others
pub put_next : {old a line line' : List ℕ} {r r' : ℕ} → Put old a r line → (b : List ℕ) → r + length b ≤ length old
    → (r' ≡ r + length b) × (line' ≡ over line r b) → Put old (a ++ b) r' line'
put_next {old} {a} {line} {line'} {r} p b h e =
    let n : r ≡ 0 + length a = omega (arith, p.number) in
    put_first old (a ++ b)
    (omega (arith, length-append a b, p.number, e.0), e.1 ∙ rw (p.bytes, n) (over_more old 0 a b (omega arith)))
