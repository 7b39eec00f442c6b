-- The invariant: the commands that are left lead from here to the state that the whole list leads to, with what is counted so far; each has
-- its words and is allowed. Assumes nothing.
use mathlib.Core.Path.{◌≡◌, refl, sym, ap, ◌∙◌}
use mathlib.Core.Bool.{true}
use Prim.Native.Nat.{◌+◌}
use native.Mathlib.Omega.{arith}
use lib.ListN.{get_or}
use Rattle.words.specs.Writes.{kept}
use Rattle.words.specs.Header.{mask_of}
use Rattle.words.specs.Commands.{header_at, expand, commands, join, full}
use Rattle.words.proofs.Laws.{all_of, expansion_of, formed_of, run_mask}
use Rattle.registers.specs.Lent.{lent}
use Rattle.registers.specs.Applied.{apply_all, differences}
use Rattle.commands.specs.Run.{run_with}
use Rattle.commands.proofs.Runs.{expand_from}
use Rattle.commands.proofs.Applying.{command_few}
use Rattle.commands.proofs.Dropped.{lent_cells, kept_same}
use Rattle.reader.proofs.Applying.{join_applied, join_applies, join_counted, join_counts, allowed_next, full_next}
use Rattle.reader.proofs.apply_list.Goals as goal

pub loop-at-init : goal.loop-at-init
loop-at-init c =
    let l = c.args.list.now in
    let p = c.requires in (
      refl,
      sym (formed_of l) ∙ p.list_value.0,
      refl,
      omega arith,
      omega arith,
      omega arith,
      rw (all_of l) at p.list_value.1,
    )

pub bounds-list-at : goal.bounds-list-at
bounds-list-at c =
    let o = c.loop-at in
    omega (arith, (full_next c.args.list.now o.at c.loop-at-test.true o.invariant.1).0)

pub apply_run-n-requires : goal.apply_run-n-requires
apply_run-n-requires c =
    let o = c.loop-at in
    let n = full_next c.args.list.now o.at c.loop-at-test.true o.invariant.1 in
    let h = c.parts-h.ensures in
    record {
      id_bound = (omega (arith, h.0), omega (arith, h.2), omega (arith, h.3), omega (arith, h.2, n.0), omega arith);
    }

pub overflow_add-n : goal.overflow_add-n
overflow_add-n c =
    let a = c.args in
    let o = c.loop-at in
    let h = c.parts-h.result in
    let s = lent o.state in
    omega (
      arith,
      c.apply_run-n.ensures.count,
      command_few s h (get_or a.list.now o.at 0) a.list.now (o.at + 2),
      c.parts-h.ensures.2,
      o.invariant.3,
      o.invariant.4,
      c.requires.lengths,
    )

pub loop-at-preserved : goal.loop-at-preserved
loop-at-preserved c =
    let a = c.args in
    let l = a.list.now in
    let o = c.loop-at in
    let t = c.loop-at-test.true in
    let k = c.apply_run-n in
    let w = c.words_taken-taken.ensures in
    let h = c.parts-h.ensures in
    let s = lent o.state in
    let d = c.parts-h.result in
    let next = o.at + c.words_taken-taken.result in
    let e : run_with d (get_or l o.at 0) l (o.at + 2) ≡ expand l o.at =
    rw (h.0, h.1, h.2, h.3) (sym (expand_from l o.at)) in
    let v = allowed_next l o.at t o.invariant.6 in
    let same = kept_same s (lent_cells o.state) (mask_of (header_at l o.at)) (expand l o.at) (run_mask l o.at _ 0 _) v.0 in
    let p = rw (e, ← same.0, ← same.1) at c.apply_run-n.ensures in
    let n = full_next l o.at t o.invariant.1 in
    let few = command_few s d (get_or l o.at 0) l (o.at + 2) in
    let m : differences s (kept (join l (commands l o.at)))
    ≡ differences s (kept (expand l o.at)) + differences (apply_all s (kept (expand l o.at))) (kept (join l (commands l next))) =
    rw (w, h.2) (join_counts l o.at s t) in
    let f : full l (commands l next) ≡ true = rw (w, h.2) n.1 in
    let j : apply_all (apply_all s (kept (expand l o.at))) (kept (join l (commands l next)))
    ≡ apply_all (lent a.state.now) (kept (join l (commands l 0))) =
    rw (w, h.2) (sym (join_applies l o.at s t) ∙ o.invariant.2) in (
      k.ensures.same ∙ o.invariant.0,
      f,
      ap (λ x. apply_all x (kept (join l (commands l next)))) p.state ∙ j,
      omega (arith, o.invariant.3, c.apply_run-n.ensures.count, few, w),
      omega (arith, n.0, w, h.2),
      rw p.state (omega (arith, o.invariant.5, p.count, m)),
      rw (w, h.2) v.1,
    )

pub returns : goal.returns
returns c =
    let l = c.args.list.now in
    let o = c.loop-at in
    let t = lent o.state in
    let z = c.loop-at-test.false in
    record {
      same = o.invariant.0;
      count = rw (expansion_of l) (omega (arith, o.invariant.5, join_counted l o.at t z));
      state = rw (expansion_of l) (sym (join_applied l o.at t z) ∙ o.invariant.2);
    }
