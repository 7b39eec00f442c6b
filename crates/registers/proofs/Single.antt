-- What a single write answers and leaves, by the tests that code makes. Assumes nothing.
use mathlib.Core.Path.{◌≡◌, refl}
use mathlib.Core.Bool.{Bool, true, false, not}
use Prim.Native.Nat.{ℕ, zero, suc, ◌<◌, ◌≤◌}
use lib.Dec.{eqb}
use borrow.Author.Tests.{lt-ltb, le-ltb}
use Rattle.numbers.specs.Bits.{spread}
use Rattle.numbers.specs.Pick.{pick}
use Rattle.numbers.specs.Answer.{answered, refused, unless_fault}
use Rattle.words.specs.Writes.{Write, fault_of}
use Rattle.registers.specs.State.{State, sized}
use Rattle.registers.specs.Applied.{apply, differs, difference}
use Rattle.registers.specs.Single.{refusal_of, unless, write_answer, write_state}

module _ (s : State) (w : Write) where
  refuse : (n : ℕ) → (n ≡ 0 → ⊥) → (refused n 0 ≡ unless_fault n 0 (answered (difference s w))) × (s ≡ unless n (apply s w) s)
  refuse zero h = absurd (h refl)
  refuse (suc n) h = (refl, refl)

  -- a refusal with a number gives that number at place 0, and keeps the state
  pub write_refused : (n : ℕ) → (n ≡ 0 → ⊥) → refusal_of s w ≡ n → (refused n 0 ≡ write_answer s w) × (s ≡ write_state s w)
  write_refused n h e = rw e (refuse n h)

  pub write_done : refusal_of s w ≡ 0 → (answered (difference s w) ≡ write_answer s w) × (apply s w ≡ write_state s w)
  write_done e = rw e (refl, refl)

  -- a difference as a test, and told as a number again
  one_bit : (b : Bool) → ◌≡◌ {A = ℕ} (pick (not (eqb (pick b 1 0) 0)) 1 0) (pick b 1 0)
  one_bit true = refl
  one_bit false = refl

  pub difference_told : (r : ℕ) → r ≡ difference s w → ◌≡◌ {A = ℕ} (pick (not (eqb r 0)) 1 0) (difference s w)
  difference_told r e = rw e (one_bit (differs s w.id (spread w.mask) w.value))

  pub length_refusal_law : sized s ≡ false → refusal_of s w ≡ 6
  unfolding refusal_of
  length_refusal_law e = rw e

  pub mask_refusal : sized s ≡ true → 15 < w.mask → refusal_of s w ≡ 9
  unfolding refusal_of
  mask_refusal e h = rw (e, lt-ltb 15 w.mask h)

  pub fault_refusal : sized s ≡ true → w.mask ≤ 15 → refusal_of s w ≡ fault_of w.id w.mask
  unfolding refusal_of
  fault_refusal e h = rw (e, le-ltb 15 w.mask h)
