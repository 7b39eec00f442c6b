-- The plan gives the length of the list before filling; each way out puts what its tests say. Assumes nothing.
use mathlib.Core.Path.{◌≡◌, refl, sym, ◌∙◌}
use mathlib.Core.List.{List}
use Prim.Native.Nat.{◌+◌, ◌-◌, ◌%◌, ◌≤◌}
use native.Mathlib.Omega.{arith}
use lib.ListN.{length}
use Rattle.words.specs.Writes.{Write}
use Rattle.runs.specs.PackedList.{packed}
use Rattle.runs.proofs.PackedList.{packed_length, packed_short}
use Rattle.planning.specs.RunWrites.{run_writes}
use Rattle.planning.proofs.RunWrites.{run_length}
use Rattle.filling.proofs.Pair.{puts_short, puts_empty, puts_filled}
use Rattle.filling.proofs.fill.Goals as goal
use Rattle.filling.proofs.fill.Goals.{After-plan_run-laid}

-- the run, and what was planned of it
abbrev run : (c : After-plan_run-laid) → List Write
run c = run_writes c.args.given

planned : (c : After-plan_run-laid) → c.plan_run-laid.result ≡ length (packed (run c))
planned c = (c.plan_run-laid.ensures c.args.given.values.now c.args.given.packable.values).words ∙ sym (packed_length (run c))

few : (c : After-plan_run-laid) → c.plan_run-laid.result ≤ 8192
few c = omega (arith, planned c, packed_short (run c), run_length c.args.given, c.args.given.packable.few)

pub overflow_add-need : goal.overflow_add-need
overflow_add-need c = omega (arith, few (goal.at.overflow_add-need c).After-plan_run-laid)

pub returns-then-space-need : goal.returns-then-space-need
returns-then-space-need c =
    puts_short (run (goal.at.returns-then-space-need c).After-plan_run-laid) _ _
    (planned (goal.at.returns-then-space-need c).After-plan_run-laid) refl _ c.if-space-need.true

pub returns-then-need-lt2 : goal.returns-then-need-lt2
returns-then-need-lt2 c =
    puts_empty (run (goal.at.returns-then-need-lt2 c).After-plan_run-laid) _ _
    (planned (goal.at.returns-then-need-lt2 c).After-plan_run-laid) refl c.if-need-lt2.true _ c.if-space-need.false

pub lay_out-requires : goal.lay_out-requires
lay_out-requires c =
    let o = c.plan_run-laid in
    let s = (o.ensures c.args.given.values.now c.args.given.packable.values).sizes in
    let l = c.put_pair.auto.space in
    let h = c.if-space-need.false in (
      omega (arith, o.auto.extra, c.requires.1),
      s,
      omega (arith, planned (goal.at.lay_out-requires c).After-plan_run-laid, h, l),
    )

pub returns : goal.returns
returns c =
    let h = c.if-space-need.false in
    let u = c.if-need-lt2.false in
    let n = c.plan_run-laid.result in
    let q = c.put_pair.ensures in
    puts_filled (run (goal.at.returns c).After-plan_run-laid) n (n + n % 4) (planned (goal.at.returns c).After-plan_run-laid) refl
    (n + n % 4 - 2) (omega (arith, u)) _ _ _ h q c.lay_out.ensures
