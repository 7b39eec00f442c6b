-- The choice by a test that definitions are written with, and the test of a range.
use Rattle.std.specs.Prelude.{Bool, true, false, ◌&&◌, ℕ, leb}

-- a where the test holds, else b
abbrev pub pick : {A : Type 0} → Bool → A → A → A
pick true a b = a
pick false a b = b

-- x is one of lo..hi
abbrev pub within : ℕ → ℕ → ℕ → Bool
within lo hi x = leb lo x && leb x hi
