-- The invariant: what is left of the part leads from here to where the whole part leads, and counts, with what was counted so far, what the
-- whole part counts. Assumes nothing.
use Rattle.std.proofs.Common.{◌≡◌, ℕ, sym, ◌∙◌, arith}
use Rattle.registers.specs.Lent.{lent}
use Rattle.parts.specs.Progress.{after, tallied}
use Rattle.parts.specs.declared.Progress.{Progress}
use Rattle.parts.proofs.Makes.{part_end}
use Rattle.parts.proofs.take_part.Goals as goal

tally : (p q : Progress) (a b : ℕ) → p ≡ q → a ≡ b → tallied p a ≡ tallied q b
tally p q a b e f = rw (e, f)

pub loop-at-preserved : goal.loop-at-preserved
loop-at-preserved c =
    let o = c.loop-at in
    let w = c.take_some-r in
    let e = w.ensures.leads in (
      w.ensures.same ∙ o.invariant.0,
      e.inside,
      e.progress ∙ o.invariant.2,
      e.state ∙ o.invariant.3,
      omega (arith, e.counts, o.invariant.4),
      omega (arith, e.few, o.invariant.5),
    )

pub returns : goal.returns
returns c =
    let a = c.args in
    let o = c.loop-at in
    let s = lent o.state in
    let g = part_end s o.q a.part.now o.at c.loop-at-test.false in
    record {
      same = o.invariant.0;
      progress = tally o.q (after a.p a.part.now) _ _ (sym g.0 ∙ o.invariant.2) (omega (arith, g.2, o.invariant.4));
      state = sym g.1 ∙ o.invariant.3;
    }
