-- A run to a port's data is an upload, of which each write counts; one to another single id goes by its values. The invariant of rising
-- ids: what is left of the run leads from here to where all of it leads, and counts, with what was counted so far, what all of it counts.
-- Assumes nothing.
use Rattle.std.proofs.Common.{◌≡◌, ◌+◌, ◌-◌, true, refl, sym, ◌∙◌, arith}
use Rattle.registers.specs.State.{st}
use Rattle.registers.specs.Lent.{lent}
use Rattle.registers.specs.Applied.{apply_all}
use Rattle.registers.proofs.Whole.{cells_long, is_whole}
use Rattle.numbers.specs.Bits.{spread}
use Rattle.registers.proofs.Differences.{differs_fog_data, differs_light_data, differences_most}
use Rattle.commands.specs.Run.{run_from}
use Rattle.commands.proofs.Applying.{run_applied, run_applies, run_counted, run_counts, alike_counts}
use Rattle.commands.proofs.Runs.{run_from_length}
use Rattle.commands.proofs.Uploads.{fog_run, light_run}
use Rattle.parts.proofs.put_run.Goals as goal
use Rattle.parts.proofs.put_run.Goals.{After-upload_fog, After-upload_light}

-- what an upload leaves
fog_leaves : (c : After-upload_fog) →
    let a = c.args in
    st c.upload_fog.new.cells c.upload_fog.new.fog a.state.now.light.now
    ≡ apply_all (lent a.state.now) (run_from a.list.now a.from a.h.count a.h.id a.h.mask a.h.step)
fog_leaves c =
    let a = c.args in
    let b = a.state.now in
    let u = c.upload_fog.ensures in
    rw (u.0, u.1, c.if-h-eq0.true)
    (sym (fog_run a.list.now a.h.mask a.h.count a.from a.h.id b.cells.now b.fog.now b.light.now c.if-id.true
    (omega (arith, cells_long b))))

light_leaves : (c : After-upload_light) →
    let a = c.args in
    st c.upload_light.new.cells a.state.now.fog.now c.upload_light.new.light
    ≡ apply_all (lent a.state.now) (run_from a.list.now a.from a.h.count a.h.id a.h.mask a.h.step)
light_leaves c =
    let a = c.args in
    let b = a.state.now in
    let u = c.upload_light.ensures in
    rw (u.0, u.1, c.if-h-eq0.true)
    (sym (light_run a.list.now a.h.mask a.h.count a.from a.h.id b.cells.now b.fog.now b.light.now c.if-id-2.true
    (omega (arith, cells_long b))))

pub invariant_of-state : goal.invariant_of-state
invariant_of-state c = record { whole = is_whole _ _ _ c.args.state.now.whole (fog_leaves c) }

pub returns-then-id : goal.returns-then-id
returns-then-id c =
    let a = c.args in
    record {
      same = refl;
      count = (
        rw c.if-h-eq0.true
            (sym (alike_counts a.list.now a.h.mask true a.h.id
            (λ s v. differs_fog_data s a.h.id (spread a.h.mask) v c.if-id.true)
            (lent a.state.now) a.from a.h.count)),
        omega arith,
      );
      state = fog_leaves (goal.at.returns-then-id c).After-upload_fog;
    }

pub invariant_of-state-then-id-2 : goal.invariant_of-state-then-id-2
invariant_of-state-then-id-2 c = record { whole = is_whole _ _ _ c.args.state.now.whole (light_leaves c) }

pub returns-then-id-2 : goal.returns-then-id-2
returns-then-id-2 c =
    let a = c.args in
    record {
      same = refl;
      count = (
        rw c.if-h-eq0.true
            (sym (alike_counts a.list.now a.h.mask true a.h.id
            (λ s v. differs_light_data s a.h.id (spread a.h.mask) v c.if-id.false c.if-id-2.true)
            (lent a.state.now) a.from a.h.count)),
        omega arith,
      );
      state = light_leaves (goal.at.returns-then-id-2 c).After-upload_light;
    }

pub invariant_of-state-then-h-eq0 : goal.invariant_of-state-then-h-eq0
invariant_of-state-then-h-eq0 c =
    let b = c.args.state.now in
    record { whole = is_whole _ _ _ b.whole (c.apply_values.ensures.state b.fog.now b.light.now) }

pub returns-then-h-eq0 : goal.returns-then-h-eq0
returns-then-h-eq0 c =
    let a = c.args in
    let h = a.h in
    let e = c.apply_values.ensures in
    let b = a.state.now in
    let s = lent b in
    let n = e.count b.fog.now b.light.now in
    let ws = run_from a.list.now a.from h.count h.id h.mask 0 in
    let few = run_from_length a.list.now a.from h.count h.id h.mask 0 in
    record {
      same = refl;
      count = rw c.if-h-eq0.true ((n, omega (arith, n, few, differences_most s ws)));
      state = rw c.if-h-eq0.true (e.state b.fog.now b.light.now);
    }

pub loop-k-preserved : goal.loop-k-preserved
loop-k-preserved c =
    let o = c.loop-k in
    let a = c.args in
    let h = a.h in
    let p = rw c.spread_mask-bytes.ensures at c.put_one-n.ensures in
    let s = lent o.own in
    let j : a.from + (o.k + 1) ≡ a.from + o.k + 1 = omega arith in
    let r : h.count - (o.k + 1) ≡ h.count - o.k - 1 = omega arith in
    let i : h.id + (o.k + 1) ≡ h.id + o.k + 1 = omega arith in
    let e = run_applies a.list.now h.mask s (a.from + o.k) (h.count - o.k) (h.id + o.k) 1 (omega arith) in
    let k = run_counts a.list.now h.mask s (a.from + o.k) (h.count - o.k) (h.id + o.k) 1 (omega arith) in (
      p.same ∙ o.invariant.0,
      omega (arith, o.invariant.1, p.count.1),
      rw (p.state, j, r, i) (sym e ∙ o.invariant.2),
      rw (p.state, j, r, i) (omega (arith, k, p.count.0, o.invariant.3)),
    )

pub returns : goal.returns
returns c =
    let o = c.loop-k in
    let a = c.args in
    let h = a.h in
    let s = lent o.own in
    let one : h.step ≡ 1 = omega (arith, c.requires.id_bound.2, c.if-h-eq0.false) in
    let z = run_counted a.list.now h.mask s (a.from + o.k) (h.count - o.k) (h.id + o.k) 1 (omega arith) in
    let d = run_applied a.list.now h.mask s (a.from + o.k) (h.count - o.k) (h.id + o.k) 1 (omega arith) in
    record {
      same = refl;
      count = rw one ((omega (arith, z, o.invariant.3), omega (arith, o.invariant.1)));
      state = rw one (sym d ∙ o.invariant.2);
    }
