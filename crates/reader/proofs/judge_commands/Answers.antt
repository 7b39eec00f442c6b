-- Two invariants: what is left of the list has the verdict on its commands, and what is left of a command has the command's fault.
-- Assumes nothing.
use mathlib.Core.Path.{◌≡◌, sym, ap, ◌∙◌}
use Prim.Native.Nat.{◌+◌, ◌-◌, ◌≤◌, ◌<◌}
use native.Mathlib.Omega.{arith}
use borrow.Author.Rules.{rules}
use Rattle.words.specs.Header.{mask_of}
use Rattle.words.specs.Writes.{fault_of}
use Rattle.words.specs.Commands.{header_at, expand}
use Rattle.std.specs.Prelude.{Err}
use Rattle.words.specs.declared.Reason.TheVariants.{WordsMissing}
use Rattle.words.specs.Reasons.{number_of, numbered}
use Rattle.words.proofs.Once.{reason_numbered}
use Rattle.words.proofs.Heads.{Whole, whole_of, short_of, head_short}
use Rattle.reader.specs.ListVerdict.{first_fault}
use Rattle.commands.specs.Clear.{last_id, clear}
use Rattle.reader.proofs.Judging.{deciding_most, run_none, run_good, run_bad, deciding_fault}
use Rattle.reader.proofs.Judging.{judge_end, judge_short, judge_fault, judge_pass}
use Rattle.reader.proofs.Accepted.{judged_of_law}
use Rattle.reader.proofs.judge_commands.Goals as goal
use Rattle.reader.proofs.judge_commands.Goals.{In-Ok}

known : (c : In-Ok)
    → Whole c.args.list.now c.commands.at c.in-Ok.h
known c = whole_of _ _ _ (sym c.head_at-head.ensures.answer ∙ c.in-Ok.is)

pub commands-init : goal.commands-init
commands-init c =
    (search rules, search rules, sym (judged_of_law c.args.list.now))

pub deciding-end-requires : goal.deciding-end-requires
deciding-end-requires c =
    let w = known (goal.at.deciding-end-requires c).In-Ok in omega arith

pub loop-init : goal.loop-init
loop-init c =
    let w = known (goal.at.loop-init c).In-Ok in
    let d = c.deciding-end.ensures in
    let l = c.args.list.now in
    let at = c.commands.at in
    let h = c.in-Ok.h in
    let last = last_id h.id h.count h.step in
    let m : c.deciding-end.result ≤ h.count + 1 = rw d (deciding_most (clear h.id last h.mask) h.count) in
    let z : c.deciding-end.result - 0 ≡ c.deciding-end.result = omega arith in
    (m, omega arith, rw (z, d, w.step, w.count, w.id, w.mask) (sym (deciding_fault l at)))

pub overflow_add-id : goal.overflow_add-id
overflow_add-id c = let w = known (goal.at.overflow_add-id c).In-Ok in omega arith

pub loop-preserved : goal.loop-preserved
loop-preserved c =
    let w = known (goal.at.loop-preserved c).In-Ok in
    let l = c.args.list.now in
    let at = c.commands.at in
    let o = c.loop in
    let left = c.deciding-end.result - o.counter in
    let t : 0 < left = omega (arith, c.loop-test.true) in
    let k : c.deciding-end.result - (o.counter + 1) ≡ left - 1 = omega arith in
    let f : fault_of o.id (mask_of (header_at l at)) ≡ 0 =
    rw (← w.mask) (sym c.fault.ensures ∙ ap numbered c.in_default-fault.is) in
    (omega arith, omega arith, rw (k, w.step) (sym (run_good l at left _ o.id t f) ∙ o.invariant.2))

pub added-requires : goal.added-requires
added-requires c = let w = known (goal.at.added-requires c).In-Ok in omega arith

pub commands-preserved : goal.commands-preserved
commands-preserved c =
    let w = known (goal.at.commands-preserved c).In-Ok in
    let l = c.args.list.now in
    let at = c.commands.at in
    let o = c.loop in
    let e : first_fault (expand l at) ≡ 0 =
    sym o.invariant.2 ∙ run_none l at (c.deciding-end.result - o.counter) _ o.id (omega (arith, c.loop-test.false)) in
    let p = judge_pass l at c.commands.n c.if-list-at.false w.fits e in
    let d = c.added.ensures in (
      omega arith,
      omega (arith, d.1, w.fits, w.count),
      rw (c.words_taken-at.ensures, d.0, w.mask, w.count) (sym p ∙ c.commands.invariant.2),
    )

pub returns-then-list-at : goal.returns-then-list-at
returns-then-list-at c =
    let l = c.args.list.now in
    sym (judge_end l c.commands.at c.commands.n c.if-list-at.true) ∙ c.commands.invariant.2

pub returns-in_default : goal.returns-in_default
returns-in_default c =
    let l = c.args.list.now in
    let at = c.commands.at in
    let h = c.head_at-head.ensures.answer in
    let s = short_of l at _ (sym h ∙ c.in_default.is) in
    let r : c.in_default.field-0 ≡ record { reason = WordsMissing; place = at } = cc (c.in_default.is, h, head_short l at s) in
    let m : c.map_or.result ≡ Err c.in_default.field-0 = search rules in
    rw (m, r) (sym (judge_short l at c.commands.n c.if-list-at.false s) ∙ c.commands.invariant.2)

pub returns-in-Some : goal.returns-in-Some
returns-in-Some c =
    let w = known (goal.at.returns-in-Some c).In-Ok in
    let l = c.args.list.now in
    let at = c.commands.at in
    let o = c.loop in
    let left = c.deciding-end.result - o.counter in
    let n = number_of c.in-Some.reason in
    let f : n ≡ fault_of o.id (mask_of (header_at l at)) = rw (← w.mask) (sym (ap numbered c.in-Some.is) ∙ c.fault.ensures) in
    let named = reason_numbered c.in-Some.reason in
    let b = run_bad l at left _ o.id (omega (arith, c.loop-test.true)) (λ z. named (f ∙ z)) in
    let e : first_fault (expand l at) ≡ n = sym o.invariant.2 ∙ b ∙ sym f in
    sym (judge_fault l at c.commands.n _ c.if-list-at.false w.fits e named) ∙ c.commands.invariant.2
