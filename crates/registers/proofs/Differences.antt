-- When a write made a difference, case by case, and how many writes of a run did; the laws that a reader may hold the count to. Assumes
-- nothing.
use mathlib.Core.Path.{◌≡◌, refl, sym, ap, ◌∙◌}
use mathlib.Core.Bool.{Bool, true, false, not}
use mathlib.Core.List.{List, [], ◌∷◌, ◌++◌}
use Prim.Native.Nat.{ℕ, ◌+◌, ◌≤◌, ◌<◌}
use native.Mathlib.Decide.{dec_lt}
use native.Mathlib.Omega.{arith}
use lib.Bits.{bit_and}
use lib.Dec.{eqb}
use lib.ListN.{length, get_or, set}
use lib.Seq.{get_or-set_same, set-get_or, set_out}
use borrow.Author.Tests.{ne_eqb, eq-eqb, eqb-true}
use Rattle.numbers.specs.Pick.{pick}
use Rattle.numbers.specs.Bits.{spread, merge}
use Rattle.words.specs.Writes.{Write, fog_data, light_data}
use Rattle.ports.specs.Ports.{rise, fog_cells, light_cells}
use Rattle.registers.specs.State.{State, sized}
use Rattle.registers.specs.Held.{bits_of}
use Rattle.registers.specs.Applied.{cells_after, apply, apply_all, differs, difference, differences}
use Rattle.registers.proofs.Lookup.{held_has}
use Rattle.registers.proofs.Sizes.{lengths}
use Rattle.registers.proofs.Puts.{put_fog_data, put_light_data}
use Rattle.registers.proofs.Laws.{beside_ports}

-- ONE WRITE, by the tests that code makes
module _ (s : State) (i e v : ℕ) where
  pub differs_fog_data : fog_data i ≡ true → differs s i e v ≡ true
  unfolding differs
  differs_fog_data f = rw f

  pub differs_light_data : fog_data i ≡ false → light_data i ≡ true → differs s i e v ≡ true
  unfolding differs
  differs_light_data f g = rw (f, g)

  -- ports' data apart the cell tells
  differs_cell : fog_data i ≡ false → light_data i ≡ false
      → differs s i e v ≡ not (eqb (get_or (cells_after s.cells i e v) i 0) (get_or s.cells i 0))
  unfolding differs
  differs_cell f g = rw (f, g)

  pub differs_held : (bits_of i ≡ 0 → ⊥) → i < length s.cells
      → differs s i e v ≡ not (eqb (merge (bit_and (bits_of i) e) (get_or s.cells i 0) v) (get_or s.cells i 0))
  unfolding cells_after
  differs_held h l =
      let b = held_has i h in
      let x = merge (bit_and (bits_of i) e) (get_or s.cells i 0) v in
      differs_cell b.no_fog b.no_light ∙ rw (ne_eqb (bits_of i) 0 h, get_or-set_same s.cells i x 0 l)

  pub differs_free : fog_data i ≡ false → light_data i ≡ false → bits_of i ≡ 0 → differs s i e v ≡ false
  unfolding cells_after
  differs_free f g b = differs_cell f g ∙ rw (b, eq-eqb (get_or s.cells i 0) (get_or s.cells i 0) refl)

-- where the cell is what it was, all cells are
module _ (cells : List ℕ) (i e v : ℕ) where
  set_same : (x : ℕ) → get_or (set cells i x) i 0 ≡ get_or cells i 0 → Dec (i < length cells) → set cells i x ≡ cells
  set_same x h (yes l) = rw (sym (get_or-set_same cells i x 0 l) ∙ h) (set-get_or cells i 0)
  set_same x h (no l) = set_out cells i x (omega arith)

  cells_same : (b : Bool) → eqb (bits_of i) 0 ≡ b → get_or (cells_after cells i e v) i 0 ≡ get_or cells i 0 → cells_after cells i e v
      ≡ cells
  unfolding cells_after
  cells_same true z h = rw z
  cells_same false z h = rw z (set_same _ (rw z at h) (dec_lt i (length cells)))

not_apart : (b : Bool) → ◌≡◌ {A = ℕ} (pick (not b) 1 0) 0 → b ≡ true
not_apart true e = refl
not_apart false e = absurd (omega arith)

-- A WRITE THAT ISN'T PORT DATA MADE A DIFFERENCE EXACTLY WHEN THE STATE AFTER IT IS ANOTHER, told by the opposite: none exactly when it is
-- the same
module _ (s : State) (w : Write) (f : fog_data w.id ≡ false) (g : light_data w.id ≡ false) where
  abbrev i : ℕ
  i = w.id

  abbrev e : ℕ
  e = spread w.mask

  pub no_difference_same : difference s w ≡ 0 → apply s w ≡ s
  no_difference_same d =
      let t = not_apart _ (rw (differs_cell s i e w.value f g) at d) in
      beside_ports s i e w.value f g ∙ rw (cells_same s.cells i e w.value (eqb (bits_of i) 0) refl (eqb-true _ _ t))

  pub same_no_difference : apply s w ≡ s → difference s w ≡ 0
  same_no_difference h =
      let c : cells_after s.cells i e w.value ≡ s.cells =
      ap (λ (t : State). t.cells) (sym (beside_ports s i e w.value f g) ∙ h) in
      rw (differs_cell s i e w.value f g, c, eq-eqb (get_or s.cells i 0) (get_or s.cells i 0) refl)

-- port data made one always
data_difference : (s : State) (w : Write) (a b : Bool) → fog_data w.id ≡ a → light_data w.id ≡ b → difference s w ≡ 0
    → (fog_data w.id ≡ false) × (light_data w.id ≡ false)
data_difference s w true b f g d =
    absurd (let z : 1 ≡ 0 = rw (differs_fog_data s w.id (spread w.mask) w.value f) at d in omega arith)
data_difference s w false true f g d =
    absurd (let z : 1 ≡ 0 = rw (differs_light_data s w.id (spread w.mask) w.value f g) at d in omega arith)
data_difference s w false false f g d = (f, g)

pub no_difference_no_data : (s : State) (w : Write) → difference s w ≡ 0 → (fog_data w.id ≡ false) × (light_data w.id ≡ false)
no_difference_no_data s w d = data_difference s w (fog_data w.id) (light_data w.id) refl refl d

-- A RUN
pub differences_none : (s : State) → differences s [] ≡ 0
unfolding differences
differences_none s = refl

pub differences_more : (s : State) (w : Write) (ws : List Write) → differences s (w ∷ ws) ≡ difference s w + differences (apply s w) ws
unfolding differences
differences_more s w ws = refl

applied_none : (s : State) → apply_all s [] ≡ s
unfolding apply_all
applied_none s = refl

applied_more : (s : State) (w : Write) (ws : List Write) → apply_all s (w ∷ ws) ≡ apply_all (apply s w) ws
unfolding apply_all
applied_more s w ws = refl

pub differences_append : (s : State) (a b : List Write) → differences s (a ++ b) ≡ differences s a + differences (apply_all s a) b
differences_append s [] b = rw (differences_none s, applied_none s) (omega arith)
differences_append s (w ∷ a) b =
    let m = differences_more s w (a ++ b) in
    let r = differences_append (apply s w) a b in
    rw (differences_more s w a, applied_more s w a) (omega (arith, m, r))

pick_most : (b : Bool) → pick b 1 0 ≤ 1
pick_most true = omega arith
pick_most false = omega arith

pub difference_most : (s : State) (w : Write) → difference s w ≤ 1
difference_most s w = pick_most (differs s w.id (spread w.mask) w.value)

-- THE COUNT OF A RUN IS AT MOST ITS LENGTH
pub differences_most : (s : State) (ws : List Write) → differences s ws ≤ length ws
differences_most s [] = omega (arith, differences_none s)
differences_most s (w ∷ ws) =
    omega (arith, differences_more s w ws, difference_most s w, differences_most (apply s w) ws)

-- A RUN WITHOUT DIFFERENCES LEAVES THE STATE AS IT WAS
pub no_differences_same : (s : State) (ws : List Write) → differences s ws ≡ 0 → apply_all s ws ≡ s
no_differences_same s [] d = applied_none s
no_differences_same s (w ∷ ws) d =
    let m = differences_more s w ws in
    let z : difference s w ≡ 0 = omega (arith, m, d) in
    let n = no_difference_no_data s w z in
    let k = no_difference_same s w n.0 n.1 z in
    let r : differences s ws ≡ 0 = rw k at (let q : differences (apply s w) ws ≡ 0 = omega (arith, m, d) in q) in
    applied_more s w ws ∙ rw k (no_differences_same s ws r)

-- A RUN WHOSE COUNT IS 0 HOLDS NO PORT DATA, whichever write of it is looked at
pub no_differences_no_data : (s : State) (a b : List Write) (w : Write) → differences s (a ++ w ∷ b) ≡ 0
    → (fog_data w.id ≡ false) × (light_data w.id ≡ false)
no_differences_no_data s a b w d =
    let p = differences_append s a (w ∷ b) in
    let m = differences_more (apply_all s a) w b in
    no_difference_no_data (apply_all s a) w (omega (arith, p, m, d))

-- ON A STATE OF THE RIGHT LENGTHS no exception is left: a write that made a difference leaves another state, port data too, since an index
-- that rises is never where it was
module _ (s : State) (w : Write) (z : sized s ≡ true) where
  fog_moves : apply s w ≡ s → fog_data w.id ≡ true → ⊥
  unfolding fog_cells
  fog_moves h f =
      let x = get_or s.cells 0xE6 0 in
      let c : set s.cells 0xE6 (rise 128 x) ≡ s.cells =
      ap (λ (t : State). t.cells) (sym (put_fog_data s w.id (spread w.mask) w.value f) ∙ h) in
      let e : rise 128 x ≡ x =
      sym (get_or-set_same s.cells 0xE6 (rise 128 x) 0 (omega (arith, (lengths s z).0))) ∙ ap (λ (l : List ℕ). get_or l 0xE6 0) c in
      omega (arith, e)

  light_moves : apply s w ≡ s → fog_data w.id ≡ false → light_data w.id ≡ true → ⊥
  unfolding light_cells
  light_moves h f g =
      let x = get_or s.cells 0x1C5 0 in
      let c : set s.cells 0x1C5 (rise 256 x) ≡ s.cells =
      ap (λ (t : State). t.cells) (sym (put_light_data s w.id (spread w.mask) w.value f g) ∙ h) in
      let e : rise 256 x ≡ x =
      sym (get_or-set_same s.cells 0x1C5 (rise 256 x) 0 (omega (arith, (lengths s z).0))) ∙ ap (λ (l : List ℕ). get_or l 0x1C5 0) c in
      omega (arith, e)

  by_port : (a b : Bool) → fog_data w.id ≡ a → light_data w.id ≡ b → apply s w ≡ s → difference s w ≡ 0
  by_port true b f g h = absurd (fog_moves h f)
  by_port false true f g h = absurd (light_moves h f g)
  by_port false false f g h = same_no_difference s w f g h

  pub difference_another : difference s w ≡ 1 → apply s w ≡ s → ⊥
  difference_another d h =
      let q = by_port (fog_data w.id) (light_data w.id) refl refl h in omega (arith, d, q)
