-- The three parts that are packed hold the writes that are kept. Assumes nothing.
use native.Mathlib.Omega.{arith}
use Rattle.filling.proofs.Keeping.{parts_few, parts_given}
use Rattle.filling.proofs.fill_kept.Goals as goal

pub invariant_of-kept : goal.invariant_of-kept
invariant_of-kept g c = record { packable = parts_given _ _ _ _ _ _ _ c.keep-at.ensures c.args.given.packable }

pub fill-requires : goal.fill-requires
fill-requires g c =
    let r = c.args.given in
    let n = parts_few r.ids.now r.masks.now r.values.now _ _ _ _ c.keep-at.ensures r.packable in
    (omega (arith, n, c.requires, c.told-least), omega (arith, n, c.requires, c.told-extra))
