-- Each way out is one case of the close. Assumes nothing.
use mathlib.Core.Path.{sym, ap, ◌∙◌}
use Rattle.registers.specs.State.{st}
use Rattle.reader.specs.Read.{told}
use Rattle.pieces.proofs.Calls.{wrong_live, wrong_spare, right_both, close_wrong, close_refused, close_accepted}
use Rattle.pieces.proofs.close.Goals as goal

pub returns-then-not-is_sized : goal.returns-then-not-is_sized
returns-then-not-is_sized c =
    let a = c.args in
    let s = st a.cells.now a.fog.now a.light.now in
    let t = st a.spare_cells.now a.spare_fog.now a.spare_light.now in
    let r = close_wrong s t a.p (wrong_live s t (sym c.is_sized.ensures.sized ∙ c.if-not-is_sized.true)) in
    let w = c.wrong_length.ensures in
    record {
      answer = w.verdict ∙ r.0;
      progress = w.progress ∙ r.1;
      live = r.2;
      spare = r.3;
    }

pub returns-then-not-is_sized-2 : goal.returns-then-not-is_sized-2
returns-then-not-is_sized-2 c =
    let a = c.args in
    let s = st a.cells.now a.fog.now a.light.now in
    let t = st a.spare_cells.now a.spare_fog.now a.spare_light.now in
    let r = close_wrong s t a.p (wrong_spare s t (sym c.is_sized-2.ensures.sized ∙ c.if-not-is_sized-2.true)) in
    let w = c.wrong_length-then-not-is_sized-2.ensures in
    record {
      answer = w.verdict ∙ r.0;
      progress = w.progress ∙ r.1;
      live = r.2;
      spare = r.3;
    }

pub returns-in-Err : goal.returns-in-Err
returns-in-Err c =
    let a = c.args in
    let s = st a.cells.now a.fog.now a.light.now in
    let t = st a.spare_cells.now a.spare_fog.now a.spare_light.now in
    let k = right_both s t (sym c.is_sized.ensures.sized ∙ c.if-not-is_sized.false)
    (sym c.is_sized-2.ensures.sized ∙ c.if-not-is_sized-2.false) in
    let v = sym (ap told c.in-Err.is) ∙ c.verdict_so_far.ensures in
    let r = close_refused s t a.p _ _ k v in
    record {
      answer = r.0;
      progress = c.fresh_progress-progress.ensures ∙ r.1;
      live = r.2;
      spare = c.take_state.ensures ∙ r.3;
    }

pub returns-in-Ok : goal.returns-in-Ok
returns-in-Ok c =
    let a = c.args in
    let s = st a.cells.now a.fog.now a.light.now in
    let t = st a.spare_cells.now a.spare_fog.now a.spare_light.now in
    let k = right_both s t (sym c.is_sized.ensures.sized ∙ c.if-not-is_sized.false)
    (sym c.is_sized-2.ensures.sized ∙ c.if-not-is_sized-2.false) in
    let v = sym (ap told c.in-Ok.is) ∙ c.verdict_so_far.ensures in
    let r = close_accepted s t a.p _ k v in
    record {
      answer = r.0;
      progress = c.fresh_progress-progress.ensures ∙ r.1;
      live = c.take_state-in-Ok.ensures ∙ r.2;
      spare = r.3;
    }
