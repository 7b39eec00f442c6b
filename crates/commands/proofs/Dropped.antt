-- Allowed writes of mask 0 leave a state of 32-bit cells as it is and make no difference. So whoever applies a command needn't ask for its
-- mask: what it adds to the expansion leaves what all its writes leave. Assumes nothing.
use mathlib.Core.Path.{◌≡◌, refl, sym, ◌∙◌}
use mathlib.Core.Bool.{Bool, true, false, not, ◌&&◌, ◌||◌, false≢true}
use mathlib.Core.List.{List, [], ◌∷◌}
use Prim.Native.Nat.{ℕ, zero, suc, ◌+◌, ◌≤◌, ◌<◌}
use native.Mathlib.Omega.{arith}
use lib.Bits.{bit_and, and_zero_r, or_zero_r, and_mask}
use lib.Dec.{leb, eqb}
use lib.ListN.{length, get_or}
use borrow.Author.Tests.{eq-eqb, eqb-true, eqb-false}
use Rattle.numbers.specs.Bits.{spread, merge}
use Rattle.numbers.proofs.Tests.{and_true}
use Rattle.words.specs.Writes.{Write, kept, jumps, fog_data, light_data, port_data, allowed, fault_of}
use Rattle.words.specs.declared.Header.{Header}
use Rattle.words.proofs.Laws.{OneMask, kept_dropped, kept_all, allowed_fault}
use Rattle.registers.specs.Held.{bits_of}
use Rattle.registers.specs.State.{State}
use Rattle.registers.specs.declared.lent.Lent.{Lent}
use Rattle.registers.specs.Applied.{apply, apply_all, differs, difference, differences}
use Rattle.registers.proofs.Whole.{cells_long, cells_words}
use Rattle.registers.proofs.Lookup.{held_has}
use Rattle.registers.proofs.Differences.{differs_held, differs_free, no_difference_same, differences_none, differences_more}
use Rattle.commands.specs.Run.{run_from, run_with}
use Rattle.commands.specs.Clear.{last_id}
use Rattle.commands.proofs.Clearing.{last_on, first_within}
use Rattle.commands.proofs.Applying.{apply_none, apply_more}

-- an allowed write of mask 0 is no port's data
neither : (f g : Bool) → (not (f || g) || false) ≡ true → (f ≡ false) × (g ≡ false)
neither true g e = absurd (false≢true e)
neither false true e = absurd (false≢true e)
neither false false e = (refl, refl)

no_data : (i : ℕ) → allowed i 0 ≡ true → (fog_data i ≡ false) × (light_data i ≡ false)
no_data i a =
    neither (fog_data i) (light_data i) (and_true (leb i 0x2FF && not (jumps i)) (not (port_data i) || eqb 0 15) a).1

-- each write of a run is allowed
abbrev pub AllAllowed : List Write → Type 0
AllAllowed [] = Unit {0}
AllAllowed (w ∷ ws) = (allowed w.id w.mask ≡ true) × AllAllowed ws

-- a masked replacement of no bits
no_bits : (old v : ℕ) → old < 0x100000000 → merge 0 old v ≡ old
no_bits old v h =
    let m : bit_and old 0xFFFFFFFF ≡ old = and_mask old 32 ∙ omega arith in
    rw (and_zero_r v, or_zero_r (bit_and old 0xFFFFFFFF)) m

-- the cells of a state are 32-bit words, and as many as there are
pub record Cells32 (cells : List ℕ) : Type 0 where
  pub long : length cells ≡ 768
  pub small : (i : ℕ) → get_or cells i 0 < 0x100000000

pub lent_cells : (l : Lent) → Cells32 l.cells.now
lent_cells l = record { long = cells_long l; small = cells_words l }

module _ (s : State) (c : Cells32 s.cells) where
  -- ONE WRITE
  module _ (i v : ℕ) (a : allowed i 0 ≡ true) where
    by_bits : (b : Bool) → eqb (bits_of i) 0 ≡ b → differs s i (spread 0) v ≡ false
    by_bits true e = differs_free s i (spread 0) v (no_data i a).0 (no_data i a).1 (eqb-true _ _ e)
    by_bits false e =
        let some = eqb-false (bits_of i) 0 e in
        let low = (held_has i some).small in
        let was = get_or s.cells i 0 in
        let none : bit_and (bits_of i) (spread 0) ≡ 0 = and_zero_r (bits_of i) in
        differs_held s i (spread 0) v some (omega (arith, low, c.long)) ∙ rw (none, no_bits was v (c.small i), eq-eqb was was refl)

    differs_not : differs s i (spread 0) v ≡ false
    differs_not = by_bits (eqb (bits_of i) 0) refl

  pub mask_0_same : (w : Write) → w.mask ≡ 0 → allowed w.id w.mask ≡ true → (difference s w ≡ 0) × (apply s w ≡ s)
  mask_0_same w m a =
      let b : allowed w.id 0 ≡ true = rw m at a in
      let d : difference s w ≡ 0 = rw (m, differs_not w.id w.value b) in
      (d, no_difference_same s w (no_data w.id b).0 (no_data w.id b).1 d)

  -- A RUN of one mask
  run_same : (m : ℕ) (ws : List Write) → OneMask m ws → m ≡ 0 → AllAllowed ws → (differences s ws ≡ 0) × (apply_all s ws ≡ s)
  run_same m [] o z a = (differences_none s, apply_none s)
  run_same m (w ∷ ws) o z a =
      let one = mask_0_same w (o.0 ∙ z) a.0 in
      let rest = run_same m ws o.1 z a.1 in
      let d = differences_more s w ws in
      let e : differences (apply s w) ws ≡ 0 = rw one.1 rest.0 in
      (omega (arith, d, one.0, e), apply_more s w ws ∙ rw one.1 rest.1)

  pub kept_same : (m : ℕ) (ws : List Write) → OneMask m ws → AllAllowed ws
      → (differences s (kept ws) ≡ differences s ws) × (apply_all s (kept ws) ≡ apply_all s ws)
  kept_same m ws o a = go (eqb m 0) refl
    where
      go : (b : Bool) → eqb m 0 ≡ b → (differences s (kept ws) ≡ differences s ws) × (apply_all s (kept ws) ≡ apply_all s ws)
      go true e =
          let z = eqb-true m 0 e in
          let r = run_same m ws o z a in
          rw (kept_dropped m ws o z) (differences_none s ∙ sym r.0, apply_none s ∙ sym r.1)
      go false e = rw (kept_all m ws o (eqb-false m 0 e)) (refl, refl)

-- A COMMAND whose ids are none at fault has allowed writes
module _ (l : List ℕ) (m d : ℕ) (low : d ≤ 1) where
  abbrev Good : ℕ → ℕ → Type 0
  Good i n = (k : ℕ) → i ≤ k → k ≤ last_id i n d → fault_of k m ≡ 0

  one_allowed : (i n : ℕ) → Good i n → allowed i m ≡ true
  one_allowed i n g = allowed_fault i m ∙ eq-eqb (fault_of i m) 0 (g i (omega arith) (first_within d i n))

  later_allowed : (n j i : ℕ) → Good i n → AllAllowed (run_from l j n (i + d) m d)
  unfolding run_from
  later_allowed zero j i g = tt
  later_allowed (suc n) j i g =
      let rest : Good (i + d) n = λ k p q. g k (omega arith) (rw (← (last_on d i n low)) q) in
      (one_allowed (i + d) n rest, later_allowed n (j + 1) (i + d) rest)

pub with_allowed : (h : Header) (v : ℕ) (l : List ℕ) (j : ℕ) → h.step ≤ 1
    → ((k : ℕ) → h.id ≤ k → k ≤ last_id h.id h.count h.step → fault_of k h.mask ≡ 0) → AllAllowed (run_with h v l j)
with_allowed h v l j low g =
    (one_allowed l h.mask h.step low h.id h.count g, later_allowed l h.mask h.step low h.count j h.id g)
