-- That a run can be packed has one proof at most, as is asked of what a value keeps. Not of the document.
use Rattle.std.specs.Prelude.{◌≡◌, true, List, [], ◌∷◌, ℕ, ◌≤◌, length}
use Rattle.std.specs.Coded.{×_prop, Unit-prop, le_prop}
use mathlib.Core.Path.{ap}
use Rattle.std.proofs.Math.Bool.{Bool-set}
use Rattle.std.proofs.Math.Nat.{ℕ_set}
use Rattle.words.specs.Writes.{Write, allowed}
use Rattle.runs.specs.PackedList.{writes, Packable, PackableRun}

pub packable_prop : (ws : List Write) → IsProp (Packable ws)
packable_prop [] = Unit-prop
packable_prop (w ∷ l) =
    let A : Type 0 = (w.mask ≤ 15) × ((allowed w.id w.mask ≡ true) × Packable l) in
    let from : A → Packable (w ∷ l) = λ p. (p.0, p.1.0, p.1.1) in
    λ x y. ap from (×_prop le_prop (×_prop (Bool-set _ _) (packable_prop l)) (x.0, (x.1, x.2)) (y.0, (y.1, y.2)))

pub packable_run_prop : (is ms vs : List ℕ) → IsProp (PackableRun is ms vs)
packable_run_prop is ms vs x y =
    let A : Type 0 =
    (length is ≡ length ms) × ((length is ≡ length vs) × ((length is ≤ 4096) × Packable (writes is ms vs))) in
    let from : A → PackableRun is ms vs = λ p. record { masks = p.0; values = p.1.0; few = p.1.1.0; packable = p.1.1.1 } in
    let all : IsProp A =
    ×_prop (ℕ_set _ _) (×_prop (ℕ_set _ _) (×_prop le_prop (packable_prop (writes is ms vs)))) in
    ap from (all (x.masks, (x.values, (x.few, x.packable))) (y.masks, (y.values, (y.few, y.packable))))
