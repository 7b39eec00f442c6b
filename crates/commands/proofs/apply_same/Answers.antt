-- By whether the id is held. Assumes nothing.
use mathlib.Core.Path.{◌≡◌, sym, ◌∙◌}
use Prim.Native.Nat.{◌<◌}
use native.Mathlib.Omega.{arith}
use lib.Bits.{bit_and}
use lib.ListN.{length, get_or}
use Rattle.numbers.specs.Bits.{merge}
use Rattle.registers.specs.Held.{bits_of}
use Rattle.registers.specs.State.{st}
use Rattle.registers.proofs.Lookup.{held_has}
use Rattle.commands.proofs.Changes.{changes_part}
use Rattle.commands.proofs.Same.{free_command, free_counts, held_command, held_counts}
use Rattle.commands.proofs.apply_same.Goals as goal
use Rattle.commands.proofs.apply_same.Goals.{Else-bits-eq0}

-- the header's id, whose register holds bits
some : (c : Else-bits-eq0) → bits_of c.args.h.id ≡ 0 → ⊥
some c e = c.if-bits-eq0.false (c.bits_of-bits.ensures ∙ e)

inside : (c : Else-bits-eq0)
    → c.args.h.id < length c.args.cells.now
inside c = omega (arith, (held_has _ (some c)).small, c.told-cells)

pub returns-then-bits-eq0 : goal.returns-then-bits-eq0
returns-then-bits-eq0 c =
    let a = c.args in
    let z = sym c.bits_of-bits.ensures ∙ c.if-bits-eq0.true in
    let t = c.requires.to_one.0 in
    record {
      count = λ fog light. sym (free_counts a.h t a.list.now z (st a.cells.now fog light) a.first a.from);
      state = λ fog light. sym (free_command a.h t a.list.now z (st a.cells.now fog light) a.first a.from);
    }

pub bounds-cells-i : goal.bounds-cells-i
bounds-cells-i c = omega (arith, inside (goal.at.bounds-cells-i c).Else-bits-eq0)

pub bounds-cells-i-2 : goal.bounds-cells-i-2
bounds-cells-i-2 c = omega (arith, inside (goal.at.bounds-cells-i-2 c).Else-bits-eq0)

pub returns : goal.returns
returns c =
    let a = c.args in
    let t = c.requires.to_one.0 in
    let bits = c.bits_of-bits.ensures in
    let bytes = c.spread_mask.ensures in
    let e = bit_and c.bits_of-bits.result c.spread_mask.result in
    let old = get_or a.cells.now a.h.id 0 in
    let part = changes_part e old (merge e old a.first) a.list.now a.from a.h.count c.requires.to_one.2 in
    record {
      count = λ fog light. rw (c.count_changes.ensures, part, bits, bytes)
          (sym (held_counts a.h t a.list.now (some (goal.at.returns c).Else-bits-eq0) a.cells.now fog light
          (inside (goal.at.returns c).Else-bits-eq0) a.first a.from));
      state = λ fog light. rw (c.merged.ensures, bits, bytes, c.last_value-value.ensures)
          (sym (held_command a.h t a.list.now (some (goal.at.returns c).Else-bits-eq0) a.cells.now fog light
          (inside (goal.at.returns c).Else-bits-eq0) a.first a.from));
    }
