-- One word is one step. Assumes nothing.
use Rattle.std.proofs.Common.{◌+◌, refl, arith}
use Rattle.registers.specs.Lent.{lent}
use Rattle.parts.proofs.Ways.{by_word, leads_by}
use Rattle.parts.proofs.take_one.Goals as goal

pub returns : goal.returns
returns c =
    let a = c.args in
    let w = c.take_word-w.ensures in
    let part = a.part.now in
    record {
      same = w.same;
      further = omega arith;
      leads = rw w.progress
          (leads_by part a.p _ a.at (a.at + 1) (lent a.state.now) _ _ _
          (by_word part a.p _ a.at _ c.requires.at_in_bounds (record { progress = refl; writes = refl }))
          (omega (arith, c.requires.at_in_bounds)) w.state w.difference);
    }
