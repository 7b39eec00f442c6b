-- An answer is no refusal, and what is known of a fault that refuses or doesn't. Assumes nothing.
use mathlib.Core.Path.{◌≡◌, refl}
use Prim.Native.Nat.{ℕ, zero, suc}
use native.Mathlib.Omega.{arith}
use Rattle.numbers.specs.Answer.{Answer, answered, refused, unless_fault}

pub told_apart : {n m p : ℕ} → answered m ≡ refused n p → ⊥
told_apart e = let z : ◌≡◌ {A = ℕ} 0 1 = cc in omega arith

pub number_one : {n m p q : ℕ} → refused n p ≡ refused m q → n ≡ m
number_one e = cc

pub place_one : {n m p q : ℕ} → refused n p ≡ refused m q → p ≡ q
place_one e = cc

pub unless_refuses : (f p : ℕ) (rest : Answer) → (f ≡ 0 → ⊥) → unless_fault f p rest ≡ refused f p
unless_refuses zero p rest h = absurd (h refl)
unless_refuses (suc f) p rest h = refl

pub unless_answered : (f p n : ℕ) (rest : Answer) → unless_fault f p rest ≡ answered n → (f ≡ 0) × (rest ≡ answered n)
unless_answered zero p n rest e = (refl, e)
unless_answered (suc f) p n rest e = absurd (let z : ◌≡◌ {A = ℕ} 0 1 = cc in omega arith)
