-- The invariant: the cells before i have taken. Assumes nothing.
use mathlib.Core.Path.{sym}
use Rattle.copies.specs.Copy.{cell_taking}
use Rattle.copies.proofs.Copies.{taking_none, taking_next}
use borrow.Author.Rules.{rules}
use Rattle.copies.proofs.take_cells.Goals as goal

pub loop-id-init : goal.loop-id-init
loop-id-init c =
    let a = c.args in
    (search rules, sym (taking_none cell_taking a.to.now a.from.now))

pub loop-id-preserved : goal.loop-id-preserved
loop-id-preserved c =
    let a = c.args in
    let o = c.loop-id in
    let n = taking_next cell_taking a.to.now a.from.now o.id in
    (search rules, rw (c.cell_taken.ensures, o.invariant.1) (sym n))
