-- By whether the id is held, and whether there are values. Assumes nothing.
use mathlib.Core.Path.{◌≡◌, sym, ◌∙◌}
use Prim.Native.Nat.{◌≤◌, ◌<◌}
use native.Mathlib.Omega.{arith}
use lib.Bits.{bit_and}
use lib.ListN.{length, get_or}
use Rattle.registers.specs.Held.{bits_of}
use Rattle.registers.specs.State.{st}
use Rattle.registers.proofs.Lookup.{held_has}
use Rattle.commands.proofs.Applying.{run_applied, run_counted}
use Rattle.commands.proofs.Changes.{changes_part}
use Rattle.commands.proofs.Same.{free_run, free_run_counts, values_applied, values_counted}
use Rattle.commands.proofs.apply_values.Goals as goal
use Rattle.commands.proofs.apply_values.Goals.{Else-bits-eq0}

-- the header's id, whose register holds bits
some : (c : Else-bits-eq0) → bits_of c.args.h.id ≡ 0 → ⊥
some c e = c.if-bits-eq0.false (c.bits_of-bits.ensures ∙ e)

inside : (c : Else-bits-eq0)
    → c.args.h.id < length c.args.cells.now
inside c = omega (arith, (held_has _ (some c)).small, c.told-cells)

pub returns-then-bits-eq0 : goal.returns-then-bits-eq0
returns-then-bits-eq0 c =
    let a = c.args in
    let z = sym c.bits_of-bits.ensures ∙ c.if-bits-eq0.true in
    let t = c.requires.to_one.0 in
    record {
      count = λ fog light. sym (free_run_counts a.h t a.list.now z (st a.cells.now fog light) a.from a.h.count);
      state = λ fog light. sym (free_run a.h t a.list.now z (st a.cells.now fog light) a.from a.h.count);
    }

pub returns-then-h-eq0 : goal.returns-then-h-eq0
returns-then-h-eq0 c =
    let a = c.args in
    let h = a.h in
    let z : h.count ≤ 0 = omega (arith, c.if-h-eq0.true) in
    record {
      count = λ fog light. sym (run_counted a.list.now h.mask (st a.cells.now fog light) a.from h.count h.id 0 z);
      state = λ fog light. sym (run_applied a.list.now h.mask (st a.cells.now fog light) a.from h.count h.id 0 z);
    }

pub bounds-cells-i : goal.bounds-cells-i
bounds-cells-i c = omega (arith, inside (goal.at.bounds-cells-i c).Else-bits-eq0)

pub bounds-cells-i-2 : goal.bounds-cells-i-2
bounds-cells-i-2 c = omega (arith, inside (goal.at.bounds-cells-i-2 c).Else-bits-eq0)

pub returns : goal.returns
returns c =
    let a = c.args in
    let h = a.h in
    let t = c.requires.to_one.0 in
    let l = a.list.now in
    let bits = c.bits_of-bits.ensures in
    let bytes = c.spread_mask.ensures in
    let e = bit_and c.bits_of-bits.result c.spread_mask.result in
    let old = get_or a.cells.now h.id 0 in
    let part = changes_part e old old l a.from h.count c.requires.to_one.2 in
    let p : 0 < h.count = omega (arith, c.if-h-eq0.false) in
    record {
      count = λ fog light. rw (c.many_changes.ensures.0 ∙ part, bits, bytes)
          (sym (values_counted h t l (some (goal.at.returns c).Else-bits-eq0) a.cells.now fog light
          (inside (goal.at.returns c).Else-bits-eq0) a.from h.count p));
      state = λ fog light. rw (c.merged.ensures, bits, bytes)
          (sym (values_applied h t l (some (goal.at.returns c).Else-bits-eq0) a.cells.now fog light
          (inside (goal.at.returns c).Else-bits-eq0) a.from h.count p));
    }
