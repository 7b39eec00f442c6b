-- Each way out is one kind of command. Assumes nothing.
use Rattle.std.proofs.Common.{◌≡◌, refl, sym, arith}
use Rattle.registers.specs.State.{st}
use Rattle.registers.specs.Lent.{lent}
use Rattle.registers.specs.Applied.{apply_all}
use Rattle.registers.proofs.Whole.{cells_long, is_whole}
use Rattle.commands.specs.Run.{run_with}
use Rattle.commands.proofs.Uploads.{fog_command, light_command, fog_counts, light_counts}
use Rattle.commands.proofs.apply_run.Goals as goal
use Rattle.commands.proofs.apply_run.Goals.{After-upload_fog, After-upload_light}

-- what each leaves
fog_leaves : (c : After-upload_fog) →
    let a = c.args in
    st c.upload_fog.new.cells c.upload_fog.new.fog a.state.now.light.now
    ≡ apply_all (lent a.state.now) (run_with a.h a.first a.list.now a.from)
fog_leaves c =
    let a = c.args in
    let b = a.state.now in
    let up = c.upload_fog.ensures in
    let first = c.put_fog.ensures in
    rw (up.0, up.1, first.0, first.1)
    (sym (fog_command a.h c.if-rises.false a.first a.list.now a.from b.cells.now b.fog.now b.light.now c.if-id.true
    (omega (arith, cells_long b))))

light_leaves : (c : After-upload_light) →
    let a = c.args in
    st c.upload_light.new.cells a.state.now.fog.now c.upload_light.new.light
    ≡ apply_all (lent a.state.now) (run_with a.h a.first a.list.now a.from)
light_leaves c =
    let a = c.args in
    let b = a.state.now in
    let up = c.upload_light.ensures in
    let first = c.put_light.ensures in
    rw (up.0, up.1, first.0, first.1)
    (sym (light_command a.h c.if-rises.false a.first a.list.now a.from b.cells.now b.fog.now b.light.now c.if-id-2.true
    (omega (arith, cells_long b))))

pub invariant_of-state : goal.invariant_of-state
invariant_of-state c = record { whole = is_whole _ _ _ c.args.state.now.whole (fog_leaves c) }

pub returns-then-id : goal.returns-then-id
returns-then-id c =
    let a = c.args in
    let b = a.state.now in
    record {
      same = refl;
      count = omega (
        arith,
        fog_counts a.h c.if-rises.false a.first a.list.now a.from b.cells.now b.fog.now b.light.now (lent b) c.if-id.true,
      );
      state = fog_leaves (goal.at.returns-then-id c).After-upload_fog;
    }

pub invariant_of-state-then-id-2 : goal.invariant_of-state-then-id-2
invariant_of-state-then-id-2 c = record { whole = is_whole _ _ _ c.args.state.now.whole (light_leaves c) }

pub returns-then-id-2 : goal.returns-then-id-2
returns-then-id-2 c =
    let a = c.args in
    let b = a.state.now in
    record {
      same = refl;
      count = omega (
        arith,
        light_counts a.h c.if-rises.false a.first a.list.now a.from b.cells.now b.fog.now b.light.now (lent b) c.if-id-2.true,
      );
      state = light_leaves (goal.at.returns-then-id-2 c).After-upload_light;
    }

pub invariant_of-state-2 : goal.invariant_of-state-2
invariant_of-state-2 c =
    let b = c.args.state.now in
    record { whole = is_whole _ _ _ b.whole (c.apply_same.ensures.state b.fog.now b.light.now) }
