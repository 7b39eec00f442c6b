-- What a run of writes leaves, write by write, and how many of them made a difference. Assumes nothing.
use mathlib.Core.Path.{◌≡◌, refl, ◌∙◌}
use mathlib.Core.Bool.{Bool, true, false}
use mathlib.Core.List.{List, [], ◌∷◌, ◌++◌}
use Prim.Native.Nat.{ℕ, zero, suc, ◌+◌, ◌-◌, ◌≤◌, ◌<◌}
use native.Mathlib.Omega.{arith}
use lib.ListN.{get_or}
use Rattle.numbers.specs.Bits.{spread}
use Rattle.numbers.specs.Pick.{pick}
use Rattle.words.specs.Writes.{Write}
use Rattle.words.specs.declared.Header.{Header}
use Rattle.registers.specs.State.{State}
use Rattle.registers.specs.Applied.{put, apply, apply_all, differs, differences}
use Rattle.registers.proofs.Differences.{differences_none, differences_more, differences_most}
use Rattle.commands.specs.Run.{run_from, run_with}
use Rattle.commands.proofs.Runs.{run_from_done, run_from_next, run_from_length}

pub apply_none : (s : State) → apply_all s [] ≡ s
unfolding apply_all
apply_none s = refl

pub apply_more : (s : State) (w : Write) (ws : List Write) → apply_all s (w ∷ ws) ≡ apply_all (apply s w) ws
unfolding apply_all
apply_more s w ws = refl

pub apply_append : (s : State) (a b : List Write) → apply_all s (a ++ b) ≡ apply_all (apply_all s a) b
apply_append s [] b = rw (apply_none s)
apply_append s (w ∷ a) b = apply_more s w (a ++ b) ∙ apply_append (apply s w) a b ∙ rw (apply_more s w a)

-- all of so many, or none
no_more : (b : Bool) → ◌≡◌ {A = ℕ} 0 (pick b 0 0)
no_more true = refl
no_more false = refl

one_more : (b : Bool) (n : ℕ) → pick b 1 0 + pick b n 0 ≡ pick b (suc n) 0
one_more true n = omega arith
one_more false n = refl

-- A RUN, of the values that stand in l from j on
module _ (l : List ℕ) (m : ℕ) where
  pub run_applied : (s : State) (j n i d : ℕ) → n ≤ 0 → apply_all s (run_from l j n i m d) ≡ s
  run_applied s j n i d z = rw (run_from_done l j n i m d z) (apply_none s)

  pub run_applies : (s : State) (j n i d : ℕ) → 0 < n
      → apply_all s (run_from l j n i m d) ≡ apply_all (put s i (spread m) (get_or l j 0)) (run_from l (j + 1) (n - 1) (i + d) m d)
  run_applies s j n i d p = rw (run_from_next l j n i m d p) (apply_more s _ _)

  pub run_counted : (s : State) (j n i d : ℕ) → n ≤ 0 → differences s (run_from l j n i m d) ≡ 0
  run_counted s j n i d z = rw (run_from_done l j n i m d z) (differences_none s)

  pub run_counts : (s : State) (j n i d : ℕ) → 0 < n
      → differences s (run_from l j n i m d)
      ≡ pick (differs s i (spread m) (get_or l j 0)) 1 0
      + differences (put s i (spread m) (get_or l j 0)) (run_from l (j + 1) (n - 1) (i + d) m d)
  run_counts s j n i d p = rw (run_from_next l j n i m d p) (differences_more s _ _)

  -- to one id
  pub same_applies : (s : State) (j n i : ℕ) → 0 < n
      → apply_all s (run_from l j n i m 0) ≡ apply_all (put s i (spread m) (get_or l j 0)) (run_from l (j + 1) (n - 1) i m 0)
  same_applies s j n i p = let e : i + 0 ≡ i = omega arith in rw e at (run_applies s j n i 0 p)

  pub same_counts : (s : State) (j n i : ℕ) → 0 < n
      → differences s (run_from l j n i m 0)
      ≡ pick (differs s i (spread m) (get_or l j 0)) 1 0
      + differences (put s i (spread m) (get_or l j 0)) (run_from l (j + 1) (n - 1) i m 0)
  same_counts s j n i p = let e : i + 0 ≡ i = omega arith in rw e at (run_counts s j n i 0 p)

  -- where all writes make a difference, or none does, in whatever state
  pub alike_counts : (b : Bool) (i : ℕ) → ((s : State) (v : ℕ) → differs s i (spread m) v ≡ b) → (s : State) (j n : ℕ)
      → differences s (run_from l j n i m 0) ≡ pick b n 0
  alike_counts b i a s j zero = run_counted s j 0 i 0 (omega arith) ∙ no_more b
  alike_counts b i a s j (suc n) =
      let t : suc n - 1 ≡ n = omega arith in
      let r = alike_counts b i a (put s i (spread m) (get_or l j 0)) (j + 1) n in
      same_counts s j (suc n) i (omega arith) ∙ rw (t, a s (get_or l j 0), r) (one_more b n)

-- A COMMAND: no more than its writes make a difference
pub command_few : (s : State) (h : Header) (v : ℕ) (l : List ℕ) (j : ℕ) → differences s (run_with h v l j) ≤ suc h.count
command_few s h v l j =
    let n = run_from_length l j h.count (h.id + h.step) h.mask h.step in
    rw n at (differences_most s (run_with h v l j))

-- A COMMAND TO ONE ID: its first write, and then the rest
pub same_first : (h : Header) → h.step ≡ 0 → (s : State) (v : ℕ) (l : List ℕ) (j : ℕ)
    → apply_all s (run_with h v l j)
    ≡ apply_all (put s h.id (spread h.mask) v) (run_from l j h.count h.id h.mask 0)
same_first h one s v l j = let i : h.id + h.step ≡ h.id = omega arith in rw (i, one) (apply_more s _ _)

pub same_first_counts : (h : Header) → h.step ≡ 0 → (s : State) (v : ℕ) (l : List ℕ) (j : ℕ)
    → differences s (run_with h v l j)
    ≡ pick (differs s h.id (spread h.mask) v) 1 0
    + differences (put s h.id (spread h.mask) v) (run_from l j h.count h.id h.mask 0)
same_first_counts h one s v l j = let i : h.id + h.step ≡ h.id = omega arith in rw (i, one) (differences_more s _ _)

pub same_alike_counts : (h : Header) → h.step ≡ 0 → (b : Bool) → ((s : State) (v : ℕ) → differs s h.id (spread h.mask) v ≡ b)
    → (s : State) (v : ℕ) (l : List ℕ) (j : ℕ) → differences s (run_with h v l j) ≡ pick b (suc h.count) 0
same_alike_counts h one b a s v l j =
    let r = alike_counts l h.mask b h.id a (put s h.id (spread h.mask) v) j h.count in
    same_first_counts h one s v l j ∙ rw (a s v, r) (one_more b h.count)
