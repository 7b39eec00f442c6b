-- Each way out is one case of `check_answer`; what is passed at once has no mask 0. The loop: no write before i is refused, so what is
-- left decides. Assumes nothing.
use Rattle.std.proofs.Common.{◌≡◌, true, drop, refl, ◌∙◌, arith}
use mathlib.Core.Bool.{false≢true}
use Rattle.runs.specs.PackedList.{writes}
use Rattle.packer.specs.Checks.{first_wrong, check_answer}
use Rattle.words.proofs.Once.{reason_numbered}
use Rattle.numbers.specs.Room.{level}
use Rattle.numbers.proofs.Room.{level_lengths}
use Rattle.packer.proofs.Checks.{check_lengths, check_many, check_writes, wrong_none, wrong_here, wrong_end}
use Rattle.packer.proofs.look.Goals as goal
use Rattle.packer.proofs.look.Goals.{At-loop-i}

one_length : (c : At-loop-i)
    → level c.args.ids.now c.args.masks.now c.args.values.now ≡ true
one_length c = c.if-not-n-masks.false

from_i : (c : At-loop-i)
    → check_answer c.args.ids.now c.args.masks.now c.args.values.now
    ≡ first_wrong c.loop-i.i
    (drop c.loop-i.i (writes c.args.ids.now c.args.masks.now c.args.values.now))
from_i c = check_writes _ _ _ (one_length c) c.if-n-gt4096.false ∙ c.loop-i.invariant

pub returns-then-not-n-masks : goal.returns-then-not-n-masks
returns-then-not-n-masks c =
    check_lengths _ _ _ (c.if-not-n-masks.true)

pub returns-then-n-gt4096 : goal.returns-then-n-gt4096
returns-then-n-gt4096 c =
    check_many _ _ _ (c.if-not-n-masks.false) c.if-n-gt4096.true

pub returns-then-all_right : goal.returns-then-all_right
returns-then-all_right c =
    let a = c.args in
    let t = c.if-not-n-masks.false in
    let l = level_lengths a.ids.now a.masks.now a.values.now t in
    let d = c.all_right.ensures a.values.now l.1 c.if-all_right.true in
    (check_writes _ _ _ t c.if-n-gt4096.false ∙ d.right, (λ e. d.live))

pub returns-in-Some : goal.returns-in-Some
returns-in-Some c =
    let a = c.args in
    let e = one_length (goal.at.returns-in-Some c).At-loop-i in
    from_i (goal.at.returns-in-Some c).At-loop-i
    ∙ wrong_here a.ids.now a.masks.now a.values.now _ e c.loop-i-test.true _ c.in-Some.ensures (reason_numbered _)

pub loop-i-preserved : goal.loop-i-preserved
loop-i-preserved c =
    let a = c.args in
    let e = one_length (goal.at.loop-i-preserved c).At-loop-i in
    c.loop-i.invariant ∙ wrong_none a.ids.now a.masks.now a.values.now _ e c.loop-i-test.true 0 c.in_default.ensures refl

pub returns : goal.returns
returns c =
    let a = c.args in
    let e = wrong_end a.ids.now a.masks.now a.values.now _ (one_length (goal.at.returns c).At-loop-i) c.loop-i-test.false in
    (from_i (goal.at.returns c).At-loop-i ∙ e, (λ t. absurd (false≢true t)))
