-- The comparisons of the alpha, stencil and depth tests, on unsigned numbers of any width.
use Rattle.std.specs.Prelude.{Bool, true, false, not, [], ◌∷◌, ℕ, ◌%◌, get_or, eqb, leb, ltb}
use Rattle.numbers.specs.Pick.{pick}

-- codes 0-7: never, always, equal, unequal, less, at most, greater, at least
abbrev pub compared : ℕ → ℕ → ℕ → Bool
compared code a b =
    get_or (false ∷ true ∷ eqb a b ∷ not (eqb a b) ∷ ltb a b ∷ leb a b ∷ ltb b a ∷ leb b a ∷ []) (code % 8) false

-- not of the document: how a stands to b, 0 less, 1 equal, 2 greater
abbrev pub order_of : ℕ → ℕ → ℕ
order_of a b = pick (ltb a b) 0 (pick (eqb a b) 1 2)
