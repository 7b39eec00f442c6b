-- Each way out is one case of the reading. Assumes nothing.
use mathlib.Core.Path.{◌≡◌, sym, ap, ◌∙◌}
use borrow.Author.Rules.{rules}
use Rattle.std.specs.Prelude.{Err}
use Rattle.numbers.specs.Answer.{both}
use Rattle.registers.specs.State.{st}
use Rattle.registers.specs.Lent.{lent}
use native.Mathlib.Omega.{arith}
use Rattle.registers.proofs.Sizes.{lengths, taken_whole, whole_taken, all_back}
use Rattle.reader.specs.Read.{told, told_both}
use Rattle.reader.proofs.Accepted.{verdict_accepted}
use Rattle.reader.proofs.Answers.{wrong_lengths, too_long, list_refused, list_accepted}
use Rattle.reader.proofs.read.Goals as goal

pub returns-then-not-is_sized : goal.returns-then-not-is_sized
returns-then-not-is_sized c =
    let a = c.args in
    let s = st a.cells.now a.fog.now a.light.now in
    let r = wrong_lengths s a.list.now (sym c.is_sized.ensures.sized ∙ c.if-not-is_sized.true) in
    record { answer = r.answers; state = r.state }

pub returns-then-too_long : goal.returns-then-too_long
returns-then-too_long c =
    let a = c.args in
    let s = st a.cells.now a.fog.now a.light.now in
    let k = sym c.is_sized.ensures.sized ∙ c.if-not-is_sized.false in
    let r = too_long s a.list.now k c.if-too_long.true in
    record { answer = r.answers; state = r.state }

pub apply_list-differences-requires : goal.apply_list-differences-requires
apply_list-differences-requires c =
    let v = sym c.judge_list.ensures ∙ ap told c.in_ok-writes.was in
    let w = verdict_accepted c.args.list.now _ v in
    record { lengths = c.if-too_long.false; list_value = (w.0, w.1) }

pub returns-in_err-writes : goal.returns-in_err-writes
returns-in_err-writes c =
    let a = c.args in
    let s = st a.cells.now a.fog.now a.light.now in
    let k = sym c.is_sized.ensures.sized ∙ c.if-not-is_sized.false in
    let why = c.in_err-writes.field-0.0 in
    let v = sym c.judge_list.ensures ∙ ap told c.in_err-writes.was in
    let r = list_refused s a.list.now k c.if-too_long.false _ _ v in
    let e : c.from_residual.result ≡ Err why = search rules in
    record { answer = ap told_both e ∙ r.answers; state = r.state }

pub unwrap-fog-requires : goal.unwrap-fog-requires
unwrap-fog-requires c =
    let a = c.args in
    let k = lengths (st a.cells.now a.fog.now a.light.now) (sym c.is_sized.ensures.sized ∙ c.if-not-is_sized.false) in
    c.first_chunk_mut-2.ensures.variant.1 (omega (arith, k.1))

pub invariant_of-state : goal.invariant_of-state
invariant_of-state c =
    let a = c.args in
    record {
      whole = whole_taken (st a.cells.now a.fog.now a.light.now) _ _ _ (sym c.is_sized.ensures.sized ∙ c.if-not-is_sized.false)
          c.is_sized.ensures.words
          (rw c.unwrap-cells.ensures at c.first_chunk_mut.ensures.cases)
          (rw c.unwrap-fog.ensures at c.first_chunk_mut-2.ensures.cases)
          (rw c.unwrap-light.ensures at c.first_chunk_mut-3.ensures.cases);
    }

pub returns : goal.returns
returns c =
    let a = c.args in
    let s = st a.cells.now a.fog.now a.light.now in
    let k = sym c.is_sized.ensures.sized ∙ c.if-not-is_sized.false in
    let l = lengths s k in
    let v = sym c.judge_list.ensures ∙ ap told c.in_ok-writes.was in
    let r = list_accepted s a.list.now k c.if-too_long.false _ v in
    let n = c.in_ok-writes.writes in
    let cells = taken_whole 768 a.cells.now l.0 _ (rw c.unwrap-cells.ensures at c.first_chunk_mut.ensures.cases) in
    let fog = taken_whole 128 a.fog.now l.1 _ (rw c.unwrap-fog.ensures at c.first_chunk_mut-2.ensures.cases) in
    let light = taken_whole 6144 a.light.now l.2 _ (rw c.unwrap-light.ensures at c.first_chunk_mut-3.ensures.cases) in
    let e = rw (cells, fog, light) at c.apply_list-differences.ensures in
    record {
      answer = ap (both n) e.count ∙ r.answers;
      state = all_back s _ _ _ (lent c.apply_list-differences.new.state) l (search rules) (search rules) (search rules)
          ∙ e.state
          ∙ r.state;
    }
