-- Induction along the commands of a list: from the end back to any place. Assumes nothing.
use mathlib.Core.List.{List}
use Prim.Native.Nat.{ℕ, zero, suc, ◌+◌, ◌-◌, ◌≤◌, ◌<◌}
use native.Mathlib.Decide.{dec_lt}
use native.Mathlib.Omega.{arith}
use lib.ListN.{length}
use Rattle.words.specs.Header.{words_of}
use Rattle.words.specs.Commands.{header_at}

-- what holds past the end, and of a place where it holds after the command there, holds of every place
module _ (l : List ℕ) (P : ℕ → Type 0) (end : (at : ℕ) → length l ≤ at → P at)
    (step : (at : ℕ) → at < length l → P (at + words_of (header_at l at)) → P at) where
  place : (at : ℕ) → (at < length l → P (at + words_of (header_at l at))) → P at
  place at rest = go (dec_lt at (length l))
    where
      go : Dec (at < length l) → P at
      go (yes q) = step at q (rest q)
      go (no q) = end at (omega arith)

  within : (n at : ℕ) → length l - at ≤ n → P at
  within zero at h = end at (omega arith)
  within (suc n) at h = place at (λ q. within n (at + words_of (header_at l at)) (omega arith))

  pub by_places : (at : ℕ) → P at
  by_places at = within (length l - at) at (omega arith)
