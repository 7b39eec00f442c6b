-- Each way out is one case of `put` and of `differs`. Assumes nothing.
use mathlib.Core.Path.{◌≡◌, refl, sym, ◌∙◌}
use Prim.Native.Nat.{ℕ}
use native.Mathlib.Omega.{arith}
use Rattle.registers.specs.Lent.{lent}
use Rattle.registers.specs.Held.{bits_of}
use Rattle.registers.proofs.Lookup.{Has, held_has}
use Rattle.registers.proofs.Puts.{put_held, put_fog_data, put_light_data, put_free}
use Rattle.registers.proofs.Differences.{differs_held, differs_fog_data, differs_light_data, differs_free}
use Rattle.registers.proofs.Whole.{fog_whole, light_whole, cells_long}
use Rattle.registers.proofs.lent.Lent.put_one.Goals as goal

-- an id with a row is held, and so has a cell
some : (id bits : ℕ) → (bits ≡ bits_of id) × (bits ≡ 0 → ⊥) → bits_of id ≡ 0 → ⊥
some id bits b z = b.1 (b.0 ∙ z)

has : (id bits : ℕ) → (bits ≡ bits_of id) × (bits ≡ 0 → ⊥) → Has id
has id bits b = held_has id (some id bits b)

pub bounds-self-i : goal.bounds-self-i
bounds-self-i c = (has c.args.id _ c.in-Some.ensures).small

pub bounds-self-i-in-Some : goal.bounds-self-i-in-Some
bounds-self-i-in-Some c = (has c.args.id _ c.in-Some.ensures).small

pub returns-in-Some : goal.returns-in-Some
returns-in-Some c =
    let a = c.args in
    let s = lent a.self.now in
    let r = c.in-Some.ensures in
    let h = has a.id _ r in
    let m = rw r.0 at c.merged-new.ensures in
    let p = put_held s a.id a.bytes a.value h.some in
    let d = differs_held s a.id a.bytes a.value h.some (omega (arith, h.small, cells_long a.self.now)) in
    let n = rw m at c.changed.ensures in
    record { same = refl; count = (rw (n.0, d), omega (arith, n.1)); state = rw (p, m) }

pub returns-then-id : goal.returns-then-id
returns-then-id c =
    let a = c.args in
    let s = lent a.self.now in
    let put = c.put_fog.ensures in
    let t = c.if-id.true in
    record {
      same = refl;
      count = (rw (differs_fog_data s a.id a.bytes a.value t), omega arith);
      state = rw (put_fog_data s a.id a.bytes a.value t, put.0, put.1);
    }

pub returns-then-id-2 : goal.returns-then-id-2
returns-then-id-2 c =
    let a = c.args in
    let s = lent a.self.now in
    let f = c.if-id.false in
    let g = c.if-id-2.true in
    let put = c.put_light.ensures in
    record {
      same = refl;
      count = (rw (differs_light_data s a.id a.bytes a.value f g), omega arith);
      state = rw (put_light_data s a.id a.bytes a.value f g, put.0, put.1);
    }

pub returns : goal.returns
returns c =
    let a = c.args in
    let s = lent a.self.now in
    let z = c.in_default.ensures in
    let f = c.if-id.false in
    let g = c.if-id-2.false in
    record {
      same = refl;
      count = (rw (differs_free s a.id a.bytes a.value f g z) (omega arith), omega arith);
      state = sym (put_free s a.id a.bytes a.value f g z);
    }

pub invariant_of-self-then-id : goal.invariant_of-self-then-id
invariant_of-self-then-id c =
    let a = c.args.self.now in
    let p = c.put_fog.ensures in
    record { whole = rw (p.0, p.1) (fog_whole a.cells.now a.fog.now a.light.now c.args.value a.whole) }

pub invariant_of-self-then-id-2 : goal.invariant_of-self-then-id-2
invariant_of-self-then-id-2 c =
    let a = c.args.self.now in
    let p = c.put_light.ensures in
    record { whole = rw (p.0, p.1) (light_whole a.cells.now a.fog.now a.light.now c.args.value a.whole) }
