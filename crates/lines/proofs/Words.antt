-- Words gathered from bytes, one after another. Assumes nothing.
use mathlib.Core.Path.{◌≡◌, refl}
use mathlib.Core.List.{List, [], ◌∷◌, ◌++◌}
use Prim.Native.Nat.{ℕ, suc, ◌+◌, ◌<◌}
use native.Mathlib.Numerals.{add-one}
use lib.ListN.{length, take, set}
use lib.Seq.{take-suc-set}
use Rattle.lines.specs.Lines.{word_at, first_words}

pub no_words : (bytes words : List ℕ) → take 0 words ≡ first_words bytes 0
unfolding first_words
no_words bytes words = refl

first_next : (bytes : List ℕ) (i : ℕ) → first_words bytes (suc i) ≡ first_words bytes i ++ (word_at bytes i ∷ [])
unfolding first_words
first_next bytes i = refl

-- word i stored after those before it
pub next_word : (bytes words : List ℕ) (i x : ℕ) → i < length words → x ≡ word_at bytes i → take i words ≡ first_words bytes i
    → take (i + 1) (set words i x) ≡ first_words bytes (i + 1)
next_word bytes words i x h e t = rw (add-one i, first_next bytes i, ← t, ← e) (take-suc-set words i x h)
