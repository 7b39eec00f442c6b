-- Each way out is one of the six cases of a word. Assumes nothing.
use Rattle.std.proofs.Common.{refl, sym, ◌∙◌}
use Rattle.registers.proofs.Differences.{differences_none}
use Rattle.commands.proofs.Applying.{apply_none}
use Rattle.parts.proofs.Steps.{takes_past, takes_extra, takes_padding, takes_header, takes_first, takes_nothing}
use Rattle.parts.proofs.take_word.Goals as goal

pub returns-then-p-gt65535 : goal.returns-then-p-gt65535
returns-then-p-gt65535 c =
    let a = c.args in
    let t = takes_past a.p a.x c.if-p-gt65535.true in
    record {
      same = refl;
      progress = sym t.progress;
      difference = rw t.writes (sym (differences_none _));
      state = rw t.writes (sym (apply_none _));
    }

pub returns-then-p-gt0 : goal.returns-then-p-gt0
returns-then-p-gt0 c =
    let a = c.args in
    let t = takes_extra a.p a.x c.if-p-gt65535.false c.if-p-gt0.true in
    let f = c.first_fault-fault.ensures in
    let w = c.put_sound-difference.ensures in
    record {
      same = w.same;
      progress = rw f (sym t.progress);
      difference = rw (t.writes, ← f) w.difference;
      state = rw (t.writes, ← f) w.state;
    }

pub returns-then-p-gt0-2 : goal.returns-then-p-gt0-2
returns-then-p-gt0-2 c =
    let a = c.args in
    let t = takes_padding a.p a.x c.if-p-gt65535.false c.if-p-gt0.false c.if-p-gt0-2.true in
    record {
      same = refl;
      progress = sym t.progress;
      difference = rw t.writes (sym (differences_none _));
      state = rw t.writes (sym (apply_none _));
    }

pub returns-then-p-gt0-3 : goal.returns-then-p-gt0-3
returns-then-p-gt0-3 c =
    let a = c.args in
    let t = takes_header a.p a.x c.if-p-gt65535.false c.if-p-gt0.false c.if-p-gt0-2.false c.if-p-gt0-3.true in
    let h = c.take_header.ensures in
    record {
      same = h.same;
      progress = h.progress ∙ sym t.progress;
      difference = rw t.writes h.difference;
      state = rw t.writes h.state;
    }

pub returns-then-p-eq0 : goal.returns-then-p-eq0
returns-then-p-eq0 c =
    let a = c.args in
    let t = takes_first a.p a.x c.if-p-gt65535.false c.if-p-gt0.false c.if-p-gt0-2.false c.if-p-gt0-3.false c.if-p-eq0.true in
    record {
      same = refl;
      progress = sym t.progress;
      difference = rw t.writes (sym (differences_none _));
      state = rw t.writes (sym (apply_none _));
    }

pub returns : goal.returns
returns c =
    let a = c.args in
    let t = takes_nothing a.p a.x c.if-p-gt65535.false c.if-p-gt0.false c.if-p-gt0-2.false c.if-p-gt0-3.false c.if-p-eq0.false in
    record {
      same = refl;
      progress = sym t.progress;
      difference = rw t.writes (sym (differences_none _));
      state = rw t.writes (sym (apply_none _));
    }
