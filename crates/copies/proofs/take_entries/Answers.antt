-- The invariant: the elements before i have taken. Assumes nothing.
use mathlib.Core.Path.{sym}
use Rattle.copies.specs.Copy.{entry_taking}
use Rattle.copies.proofs.Copies.{taking_none, taking_next}
use borrow.Author.Rules.{rules}
use Rattle.copies.proofs.take_entries.Goals as goal

pub loop-i-init : goal.loop-i-init
loop-i-init c =
    let a = c.args in
    (search rules, sym (taking_none entry_taking a.to.now a.from.now))

pub loop-i-preserved : goal.loop-i-preserved
loop-i-preserved c =
    let a = c.args in
    let o = c.loop-i in
    let n = taking_next entry_taking a.to.now a.from.now o.i in
    (search rules, rw (c.entered.ensures, o.invariant.1) (sym n))
