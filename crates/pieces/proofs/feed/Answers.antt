-- Each way out is one case of the feeding. Assumes nothing.
use mathlib.Core.Path.{sym, ap, ◌∙◌}
use borrow.Author.Rules.{rules}
use native.Mathlib.Omega.{arith}
use Rattle.registers.specs.State.{st}
use Rattle.registers.specs.Lent.{lent}
use Rattle.registers.proofs.Sizes.{lengths, taken_whole, whole_taken, all_back}
use Rattle.pieces.specs.Pieces.{told}
use Rattle.pieces.proofs.Calls.{feed_told, feed_wrong, feed_right}
use Rattle.pieces.proofs.feed.Goals as goal

pub returns-then-not-is_sized : goal.returns-then-not-is_sized
returns-then-not-is_sized c =
    let a = c.args in
    let s = st a.cells.now a.fog.now a.light.now in
    let r = feed_wrong a.p s a.part.now (sym c.is_sized.ensures.sized ∙ c.if-not-is_sized.true) in
    record {
      answer = r.0;
      state = r.1;
      numbers = ap told r.0 ∙ feed_told a.p s a.part.now;
    }

pub unwrap-fog-requires : goal.unwrap-fog-requires
unwrap-fog-requires c =
    let a = c.args in
    let k = lengths (st a.cells.now a.fog.now a.light.now) (sym c.is_sized.ensures.sized ∙ c.if-not-is_sized.false) in
    c.first_chunk_mut-2.ensures.variant.1 (omega (arith, k.1))

pub invariant_of-state : goal.invariant_of-state
invariant_of-state c =
    let a = c.args in
    record {
      whole = whole_taken (st a.cells.now a.fog.now a.light.now) _ _ _ (sym c.is_sized.ensures.sized ∙ c.if-not-is_sized.false)
          c.is_sized.ensures.words
          (rw c.unwrap-cells.ensures at c.first_chunk_mut.ensures.cases)
          (rw c.unwrap-fog.ensures at c.first_chunk_mut-2.ensures.cases)
          (rw c.unwrap-light.ensures at c.first_chunk_mut-3.ensures.cases);
    }

pub returns : goal.returns
returns c =
    let a = c.args in
    let s = st a.cells.now a.fog.now a.light.now in
    let k = sym c.is_sized.ensures.sized ∙ c.if-not-is_sized.false in
    let l = lengths s k in
    let r = feed_right a.p s a.part.now k in
    let cells = taken_whole 768 a.cells.now l.0 _ (rw c.unwrap-cells.ensures at c.first_chunk_mut.ensures.cases) in
    let fog = taken_whole 128 a.fog.now l.1 _ (rw c.unwrap-fog.ensures at c.first_chunk_mut-2.ensures.cases) in
    let light = taken_whole 6144 a.light.now l.2 _ (rw c.unwrap-light.ensures at c.first_chunk_mut-3.ensures.cases) in
    let w = rw (cells, fog, light) at c.take_part.ensures in
    record {
      answer = rw (c.held_count.ensures, w.progress) r.0;
      state = all_back s _ _ _ (lent c.take_part.new.state) l (search rules) (search rules) (search rules) ∙ w.state ∙ r.1;
      numbers = rw (c.held_count.ensures, w.progress) (ap told r.0 ∙ feed_told a.p s a.part.now);
    }
