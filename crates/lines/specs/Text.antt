-- Text as bytes: a quoted text, a number in decimal, and a text put into lent space.
use Rattle.std.specs.Prelude.{◌≡◌, List, [], ◌∷◌, ◌++◌, ℕ, zero, suc, ◌+◌, ◌/◌, ◌%◌, ◌≤◌, ltb, length, take, drop}
use Prim.Native.Char.{code}
use Prim.Native.String.{String, [] as none, ◌∷◌ as ◌then◌}
use Rattle.numbers.specs.Pick.{pick}

-- the bytes of a quoted text, one for each character
abbrev pub ascii : String → List ℕ
ascii none = []
ascii (c then s) = code c ∷ ascii s

-- the digits of n in decimal, without leading zeros, for an n of at most k digits; 48 is the character 0
unfoldable pub digits : ℕ → ℕ → List ℕ
digits zero n = []
digits (suc k) n = let front = digits k (n / 10) in pick (ltb n 10) [] front ++ ((48 + n % 10) ∷ [])

-- A NUMBER IN DECIMAL: it has no more digits than its value and one more. Laws `decimal_digit` and `decimal_more` say the
-- same without a count
unfoldable pub decimal : ℕ → List ℕ
decimal n = digits (suc n) n

-- old, with text in place of what stood there from `at` on
abbrev pub over : List ℕ → ℕ → List ℕ → List ℕ
over old at text = take at old ++ text ++ drop (at + length text) old

-- A TEXT PUT AT THE START of lent space, where the call answers r: its length; the space past it keeps its contents. The
-- last two facts follow from the others, and are stated so that a caller can lend `&line[..r]` on without a proof
pub record Put (old text : List ℕ) (r : ℕ) (line : List ℕ) : Type 0 where
  pub number : r ≡ length text
  pub bytes : line ≡ over old 0 text
  pub within : r ≤ length line
  pub counted : r ≡ length (take r line)
