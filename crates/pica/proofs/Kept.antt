-- A reader's twelve words are a progress and a progress is twelve words; what refusal 6 leaves of them. Assumes nothing.
use mathlib.Core.Path.{◌≡◌, refl, sym, ap, ◌∙◌}
use mathlib.Core.Bool.{true, false}
use mathlib.Core.List.{List, [], ◌∷◌}
use Prim.Native.Nat.{ℕ, zero, suc, ◌+◌}
use native.Mathlib.Omega.{arith}
use lib.ListN.{length, get_or, drop, replicate}
use lib.Seq.{drop-cons, drop-length}
use Rattle.registers.specs.State.{State, sized}
use Rattle.pieces.specs.Pieces.{both_sized, opening, feeding, close_progress}
use Rattle.parts.specs.declared.Progress.{Progress}
use Rattle.pica.specs.Readers.{progress_of, words_of, reader_after}

pub progress_of_words : (p : Progress) → progress_of (words_of p) ≡ p
progress_of_words p = refl

-- n words from a place on
from : ℕ → ℕ → List ℕ → List ℕ
from zero at l = []
from (suc n) at l = get_or l at 0 ∷ from n (suc at) l

from_all : (n at : ℕ) (l : List ℕ) → at + n ≡ length l → from n at l ≡ drop at l
unfolding from
from_all zero at l e = let z : at ≡ length l = omega arith in rw z (sym (drop-length l))
from_all (suc n) at l e =
    ap (λ r. get_or l at 0 ∷ r) (from_all n (suc at) l (omega arith)) ∙ sym (drop-cons l at 0 (omega arith))

pub words_of_progress : (ws : List ℕ) → length ws ≡ 12 → words_of (progress_of ws) ≡ ws
unfolding from
words_of_progress ws e = from_all 12 0 ws (sym e)

-- REFUSAL 6 LEAVES THE READER'S WORDS AS THEY WERE
module _ (ws : List ℕ) (live spare : State) where
  pub open_keeps_reader : both_sized live spare ≡ false → reader_after (opening live spare) ws ≡ ws
  unfolding opening
  open_keeps_reader e = rw e

  pub feed_keeps_reader : (l : List ℕ) → sized spare ≡ false → reader_after (feeding (progress_of ws) spare l) ws ≡ ws
  unfolding feeding
  feed_keeps_reader l e = rw e

  pub close_keeps_reader : length ws ≡ 12 → both_sized live spare ≡ false → words_of (close_progress (progress_of ws) live spare) ≡ ws
  unfolding close_progress
  close_keeps_reader n e = rw e (words_of_progress ws n)

  -- and after any other opening or close they are zeros
  pub open_clears_reader : both_sized live spare ≡ true → reader_after (opening live spare) ws ≡ replicate 12 0
  unfolding opening
  open_clears_reader e = rw e

  pub close_clears_reader : both_sized live spare ≡ true → words_of (close_progress (progress_of ws) live spare) ≡ replicate 12 0
  unfolding close_progress
  close_clears_reader e = rw e
