-- "Numbers given back": a call answers, or refuses with a number and a place.
use Rattle.std.specs.Prelude.{ℕ, zero, suc}

pub data Answer : Type 0 where
  answered : ℕ → Answer
  refused : ℕ → ℕ → Answer

-- a fault, which is not 0, refuses with its number at a place; without one the rest decides
abbrev pub unless_fault : ℕ → ℕ → Answer → Answer
unless_fault zero p rest = rest
unless_fault (suc f) p rest = refused (suc f) p

-- Some calls give a second number besides their answer: `both n d`. A refusal gives neither of the two: `neither r p` is the refusal with
-- number r and place p.
pub data Answers : Type 0 where
  both : ℕ → ℕ → Answers
  neither : ℕ → ℕ → Answers

-- the answer with d as the second number
abbrev pub besides : Answer → ℕ → Answers
besides (answered n) d = both n d
besides (refused r p) d = neither r p

-- the answer without its second number
abbrev pub alone : Answers → Answer
alone (both n d) = answered n
alone (neither r p) = refused r p
