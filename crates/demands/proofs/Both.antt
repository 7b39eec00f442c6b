-- An answer and its second number, put together and taken apart. Assumes nothing.
use mathlib.Core.Path.{◌≡◌, refl, sym, ap, ◌∙◌}
use Prim.Native.Nat.{ℕ}
use native.Mathlib.Omega.{arith}
use Rattle.numbers.specs.Answer.{Answer, answered, refused, both, neither, besides, alone}
use Rattle.pica.specs.Calls.{answer, answers}

pub alone_besides : (a : Answer) (d : ℕ) → alone (besides a d) ≡ a
alone_besides (answered n) d = refl
alone_besides (refused r p) d = refl

-- a C function's one number is the answer's
pub answers_besides : (a : Answer) (d : ℕ) → answers (besides a d) ≡ answer a
answers_besides (answered n) d = refl
answers_besides (refused r p) d = refl

-- where both numbers are given the call answered, and the second is d
pub both_given : (a : Answer) (n d e : ℕ) → both n e ≡ besides a d → (a ≡ answered n) × (e ≡ d)
both_given (answered m) n d e h = let x : n ≡ m = cc in let y : e ≡ d = cc in (ap answered (sym x), y)
both_given (refused r p) n d e h = let z : ◌≡◌ {A = ℕ} 0 1 = cc in absurd (omega arith)

pub neither_given : (a : Answer) (r p d : ℕ) → neither r p ≡ besides a d → a ≡ refused r p
neither_given a r p d h = sym (alone_besides a d) ∙ ap alone (sym h)
