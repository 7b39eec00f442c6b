-- Each way out is one case of the answer. Assumes nothing.
use mathlib.Core.Path.{sym, ap, ◌∙◌}
use native.Mathlib.Omega.{arith}
use Rattle.std.proofs.Common.{◌≡◌, Err, rules}
use lib.Dec.{eqb}
use lib.ListN.{length}
use borrow.Author.Tests.{eqb-true}
use Rattle.numbers.proofs.Tests.{and_true}
use Rattle.words.specs.Reasons.{told}
use Rattle.reader.proofs.Accepted.{verdict_accepted}
use Rattle.writes.proofs.Listed.{lengths_differ, too_long, list_refused, no_room, room}
use Rattle.writes.proofs.writes_of.Goals as goal

pub returns-then-not-room-masks : goal.returns-then-not-room-masks
returns-then-not-room-masks c =
    let a = c.args in
    let r = lengths_differ a.list.now a.ids.now a.masks.now a.values.now c.if-not-room-masks.true in
    record {
      answer = r.answer;
      ids = r.ids;
      masks = r.masks;
      values = r.values;
    }

pub returns-then-list-gt65536 : goal.returns-then-list-gt65536
returns-then-list-gt65536 c =
    let a = c.args in
    let t = c.if-not-room-masks.false in
    let r = too_long a.list.now a.ids.now a.masks.now a.values.now t c.if-list-gt65536.true in
    record {
      answer = r.answer;
      ids = r.ids;
      masks = r.masks;
      values = r.values;
    }

pub returns-in_err-n : goal.returns-in_err-n
returns-in_err-n c =
    let a = c.args in
    let why = c.in_err-n.field-0.0 in
    let t = c.if-not-room-masks.false in
    let v = sym c.judge_list.ensures ∙ ap told c.in_err-n.was in
    let e : c.from_residual.result ≡ Err why = search rules in
    let r = list_refused a.list.now a.ids.now a.masks.now a.values.now t c.if-list-gt65536.false _ _ v in
    record {
      answer = ap told e ∙ r.answer;
      ids = r.ids;
      masks = r.masks;
      values = r.values;
    }

pub returns-then-room-n : goal.returns-then-room-n
returns-then-room-n c =
    let a = c.args in
    let t = c.if-not-room-masks.false in
    let v = sym c.judge_list.ensures ∙ ap told c.in_ok-n.was in
    let r = no_room a.list.now a.ids.now a.masks.now a.values.now t c.if-list-gt65536.false _ v c.if-room-n.true in
    record {
      answer = r.answer;
      ids = r.ids;
      masks = r.masks;
      values = r.values;
    }

pub put_list-requires : goal.put_list-requires
put_list-requires c =
    let a = c.args in
    let t = and_true (eqb (length a.ids.now) (length a.masks.now)) (eqb (length a.ids.now) (length a.values.now))
    c.if-not-room-masks.false in
    let v = verdict_accepted a.list.now _ (sym c.judge_list.ensures ∙ ap told c.in_ok-n.was) in
    record { list_value = v.0; list_in_bounds = (omega (arith, v.2, c.if-room-n.false), eqb-true _ _ t.0, eqb-true _ _ t.1) }

pub returns : goal.returns
returns c =
    let a = c.args in
    let t = c.if-not-room-masks.false in
    let v = sym c.judge_list.ensures ∙ ap told c.in_ok-n.was in
    let p = c.put_list.ensures in
    let r = room a.list.now a.ids.now a.masks.now a.values.now t c.if-list-gt65536.false _ v c.if-room-n.false _ _ _ p.ids
    p.masks p.values in
    record {
      answer = r.answer;
      ids = r.ids;
      masks = r.masks;
      values = r.values;
    }
