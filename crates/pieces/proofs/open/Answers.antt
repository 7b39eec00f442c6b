-- Each way out is one case of the opening. Assumes nothing.
use mathlib.Core.Path.{sym, ap, ◌∙◌}
use Rattle.registers.specs.State.{st}
use Rattle.pieces.specs.Pieces.{told}
use Rattle.pieces.proofs.Calls.{open_told, wrong_live, wrong_spare, right_both, open_wrong, open_right}
use Rattle.pieces.proofs.open.Goals as goal

pub returns-then-not-is_sized : goal.returns-then-not-is_sized
returns-then-not-is_sized c =
    let a = c.args in
    let s = st a.cells.now a.fog.now a.light.now in
    let t = st a.spare_cells.now a.spare_fog.now a.spare_light.now in
    let r = open_wrong s t (wrong_live s t (sym c.is_sized.ensures.sized ∙ c.if-not-is_sized.true)) in
    record {
      answer = r.0;
      spare = r.1;
      numbers = ap told r.0 ∙ open_told s t;
    }

pub returns-then-not-is_sized-2 : goal.returns-then-not-is_sized-2
returns-then-not-is_sized-2 c =
    let a = c.args in
    let s = st a.cells.now a.fog.now a.light.now in
    let t = st a.spare_cells.now a.spare_fog.now a.spare_light.now in
    let r = open_wrong s t (wrong_spare s t (sym c.is_sized-2.ensures.sized ∙ c.if-not-is_sized-2.true)) in
    record {
      answer = r.0;
      spare = r.1;
      numbers = ap told r.0 ∙ open_told s t;
    }

pub returns : goal.returns
returns c =
    let a = c.args in
    let s = st a.cells.now a.fog.now a.light.now in
    let t = st a.spare_cells.now a.spare_fog.now a.spare_light.now in
    let k = right_both s t (sym c.is_sized.ensures.sized ∙ c.if-not-is_sized.false)
    (sym c.is_sized-2.ensures.sized ∙ c.if-not-is_sized-2.false) in
    let r = open_right s t k in
    record {
      answer = rw c.fresh_progress.ensures r.0;
      spare = c.take_state.ensures ∙ r.1;
      numbers = rw c.fresh_progress.ensures (ap told r.0 ∙ open_told s t);
    }
