-- What each call answers and leaves, by the tests that code makes. Assumes nothing.
use mathlib.Core.Path.{◌≡◌, refl}
use mathlib.Core.Bool.{Bool, true, false, ◌&&◌, and-false}
use mathlib.Core.List.{List}
use Prim.Native.Nat.{ℕ}
use Rattle.numbers.specs.Pick.{pick}
use Rattle.numbers.specs.Answer.{answered, refused, both, neither}
use Rattle.registers.specs.State.{State, sized}
use Rattle.registers.specs.Applied.{apply_all}
use Rattle.parts.specs.Progress.{fresh, after, made, held_at, closing}
use Rattle.copies.specs.Copy.{taken}
use Rattle.pieces.specs.Pieces.{told, wrong_length, both_sized, opening, open_answer, opened_spare, fed, feeding, feed_answer, fed_spare}
use Rattle.pieces.specs.Pieces.{close_answer, close_answers, close_progress, closed_live, closed_spare}
use Rattle.parts.specs.declared.Progress.{Progress}
use Rattle.std.specs.Prelude.{Ok}

-- FEEDING
module _ (p : Progress) (s : State) (l : List ℕ) where
  pub feed_wrong : sized s ≡ false → (wrong_length ≡ feeding p s l) × (s ≡ fed_spare p s l)
  unfolding feeding fed_spare
  feed_wrong e = rw e (refl, refl)

  pub feed_right : sized s ≡ true → (Ok (fed p s l) ≡ feeding p s l) × (apply_all s (made p l) ≡ fed_spare p s l)
  unfolding feeding fed_spare
  feed_right e = rw e (refl, refl)

-- WHAT OPENING AND FEEDING TELL
pub open_told : (live spare : State) → told (opening live spare) ≡ open_answer live spare
unfolding opening open_answer
open_told live spare = go (both_sized live spare)
  where
    go : (b : Bool) → told (pick b (Ok fresh) wrong_length) ≡ pick b (answered 0) (refused 6 0)
    go true = refl
    go false = refl

pub feed_told : (p : Progress) (s : State) (l : List ℕ) → told (feeding p s l) ≡ feed_answer p s l
unfolding feeding feed_answer
feed_told p s l = go (sized s)
  where
    go : (b : Bool) → told (pick b (Ok (fed p s l)) wrong_length) ≡ pick b (answered (held_at (after p l).come)) (refused 6 0)
    go true = refl
    go false = refl

module _ (live spare : State) where
  -- both states have their lengths, or one hasn't
  pub wrong_live : sized live ≡ false → both_sized live spare ≡ false
  wrong_live e = rw e

  pub wrong_spare : sized spare ≡ false → both_sized live spare ≡ false
  wrong_spare e = let f : (sized live && sized spare) ≡ false = rw e (and-false (sized live)) in f

  pub right_both : sized live ≡ true → sized spare ≡ true → both_sized live spare ≡ true
  right_both a b = rw (a, b)

  -- OPENING
  pub open_wrong : both_sized live spare ≡ false → (wrong_length ≡ opening live spare) × (spare ≡ opened_spare live spare)
  unfolding opening opened_spare
  open_wrong e = rw e (refl, refl)

  pub open_right : both_sized live spare ≡ true → (Ok fresh ≡ opening live spare) × (taken spare live ≡ opened_spare live spare)
  unfolding opening opened_spare
  open_right e = rw e (refl, refl)

  -- CLOSING
  pub close_wrong : (p : Progress) → both_sized live spare ≡ false
      → (neither 6 0 ≡ close_answers p live spare) × (p ≡ close_progress p live spare) × (live ≡ closed_live p live spare)
      × (spare ≡ closed_spare p live spare)
  unfolding close_answer close_answers close_progress closed_live closed_spare
  close_wrong p e = rw e (refl, refl, refl, refl)

  pub close_refused : (p : Progress) (n q : ℕ) → both_sized live spare ≡ true → refused n q ≡ closing p
      → (neither n q ≡ close_answers p live spare) × (fresh ≡ close_progress p live spare) × (live ≡ closed_live p live spare)
      × (taken spare live ≡ closed_spare p live spare)
  unfolding close_answer close_answers close_progress closed_live closed_spare
  close_refused p n q e c = rw (e, ← c) (refl, refl, refl, refl)

  pub close_accepted : (p : Progress) (n : ℕ) → both_sized live spare ≡ true → answered n ≡ closing p
      → (both n p.differences ≡ close_answers p live spare) × (fresh ≡ close_progress p live spare)
      × (taken live spare ≡ closed_live p live spare) × (spare ≡ closed_spare p live spare)
  unfolding close_answer close_answers close_progress closed_live closed_spare
  close_accepted p n e c = rw (e, ← c) (refl, refl, refl, refl)
