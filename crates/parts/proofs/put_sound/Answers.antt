-- Nothing where there is a fault or the mask is 0, else one write. Assumes nothing.
use Rattle.std.proofs.Common.{refl, ◌∙◌, arith}
use Rattle.words.specs.Writes.{writing}
use Rattle.registers.specs.Lent.{lent}
use Rattle.parts.proofs.Makes.{sound_none, sound_dropped, sound_one, counts_none, counts_dropped, counts_one}
use Rattle.parts.proofs.put_sound.Goals as goal

pub returns-then-fault-ne0 : goal.returns-then-fault-ne0
returns-then-fault-ne0 c =
    record { same = refl; difference = counts_none _ _ _ c.if-fault-ne0.true; state = sound_none _ _ _ c.if-fault-ne0.true }

pub returns-then-unmasked : goal.returns-then-unmasked
returns-then-unmasked c =
    let a = c.args in
    let s = lent a.state.now in
    let w = writing a.id a.mask a.value in
    let f = c.if-fault-ne0.false in
    record { same = refl; difference = counts_dropped s a.fault w f c.if-unmasked.true; state = sound_dropped s a.fault w f c.if-unmasked.true }

pub returns : goal.returns
returns c =
    let a = c.args in
    let s = lent a.state.now in
    let w = writing a.id a.mask a.value in
    let e = c.put_one.ensures in
    let b = c.spread_mask-bytes.ensures in
    record {
      same = e.same;
      difference = omega (arith, rw b at e.count.0, counts_one s a.fault w c.if-fault-ne0.false c.if-unmasked.false);
      state = rw b at e.state ∙ sound_one s a.fault w c.if-fault-ne0.false c.if-unmasked.false;
    }
