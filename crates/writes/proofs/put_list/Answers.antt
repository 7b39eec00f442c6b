-- The writes of the commands before `at` stand in the first k places, and each command that is left has its words. Assumes nothing.
use mathlib.Core.Path.{◌≡◌, sym, ◌∙◌}
use Prim.Native.Nat.{ℕ}
use native.Mathlib.Omega.{arith}
use Rattle.words.proofs.Laws.{formed_of}
use Rattle.reader.proofs.Applying.{full_next}
use Rattle.writes.proofs.Standing.{stands_none, stands_dropped, next_within, stands_next, stands_all}
use Rattle.writes.proofs.put_list.Goals as goal

some : {m n : ℕ} → m ≡ n → (m ≡ 0 → ⊥) → n ≡ 0 → ⊥
some e h z = h (e ∙ z)

pub loop-at-init : goal.loop-at-init
loop-at-init c =
    let a = c.args in (
      sym (formed_of a.list.now) ∙ c.requires.list_value,
      stands_none a.list.now a.ids.now a.masks.now
          a.values.now,
    )

pub bounds-list-at : goal.bounds-list-at
bounds-list-at c =
    let o = c.loop-at in
    omega (arith, (full_next c.args.list.now o.at c.loop-at-test.true o.invariant.0).0)

-- a command of mask 0
pub loop-at-preserved-then-unmasked : goal.loop-at-preserved-then-unmasked
loop-at-preserved-then-unmasked c =
    let a = c.args in
    let l = a.list.now in
    let o = c.loop-at in
    let t = c.loop-at-test.true in
    let p = c.parts-h.ensures in
    let w = c.words_taken-taken.ensures in
    let n = full_next l o.at t o.invariant.0 in
    let s = stands_dropped l a.ids.now a.masks.now a.values.now o.at o.k _ _ _ o.invariant.1 t
    (sym p.1 ∙ c.if-unmasked.true) in
    (rw (w, p.2) n.1, rw (w, p.2) s)

pub put_command-requires : goal.put_command-requires
put_command-requires c =
    let a = c.args in
    let o = c.loop-at in
    let t = c.loop-at-test.true in
    let m = some c.parts-h.ensures.1 c.if-unmasked.false in
    let w = next_within a.list.now a.ids.now a.masks.now a.values.now o.at o.k _ _ _ o.invariant.1 t m in
    record {
      command_fits = ((full_next a.list.now o.at t o.invariant.0).0, omega (arith, w, c.requires.list_in_bounds.0, o.auto.ids));
      ids_len = (
        omega (arith, c.requires.list_in_bounds.1, o.auto.ids, o.auto.masks),
        omega (arith, c.requires.list_in_bounds.2, o.auto.ids, o.auto.values),
      );
    }

-- any other
pub loop-at-preserved : goal.loop-at-preserved
loop-at-preserved c =
    let a = c.args in
    let l = a.list.now in
    let o = c.loop-at in
    let t = c.loop-at-test.true in
    let p = c.parts-h.ensures in
    let w = c.words_taken-taken.ensures in
    let q = c.put_command in
    let n = full_next l o.at t o.invariant.0 in
    let m = some p.1 c.if-unmasked.false in
    let s = stands_next l a.ids.now a.masks.now a.values.now o.at o.k _ _ _ o.invariant.1 t m _ _ _ q.ensures.ids
    q.ensures.masks q.ensures.values in
    (rw (w, p.2) n.1, rw (w, p.2) s)

pub returns : goal.returns
returns c =
    let a = c.args in
    let o = c.loop-at in
    let s = stands_all a.list.now a.ids.now a.masks.now a.values.now o.at o.k _ _ _ o.invariant.1
    c.loop-at-test.false in
    record {
      ids = s.0;
      masks = s.1;
      values = s.2;
    }
