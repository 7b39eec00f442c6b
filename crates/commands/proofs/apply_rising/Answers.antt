-- The invariant: what is left of the command leads from here to the state that all of it leads to. Assumes nothing.
use mathlib.Core.Path.{◌≡◌, sym, ◌∙◌}
use Prim.Native.Nat.{◌+◌, ◌-◌}
use native.Mathlib.Omega.{arith}
use Rattle.words.specs.Writes.{writing}
use Rattle.registers.specs.Lent.{lent}
use Rattle.registers.proofs.Differences.{differences_more}
use Rattle.commands.specs.Run.{run_from}
use Rattle.commands.proofs.Applying.{apply_more, run_applied, run_applies, run_counted, run_counts}
use Rattle.commands.proofs.apply_rising.Goals as goal

pub loop-k-preserved : goal.loop-k-preserved
loop-k-preserved c =
    let o = c.loop-k in
    let a = c.args in
    let h = a.h in
    let p = rw c.spread_mask-bytes.ensures at c.put_one-n-in-loop-k.ensures in
    let s = lent o.state in
    let j : a.from + (o.k + 1) ≡ a.from + o.k + 1 = omega arith in
    let r : h.count - (o.k + 1) ≡ h.count - o.k - 1 = omega arith in
    let i : h.id + 1 + (o.k + 1) ≡ h.id + 1 + o.k + 1 = omega arith in
    let n = run_applies a.list.now h.mask s (a.from + o.k) (h.count - o.k) (h.id + 1 + o.k) 1 (omega arith) in
    let m = run_counts a.list.now h.mask s (a.from + o.k) (h.count - o.k) (h.id + 1 + o.k) 1 (omega arith) in (
      p.same ∙ o.invariant.0,
      rw (p.state, j, r, i) (sym n ∙ o.invariant.1),
      omega (arith, o.invariant.2, p.count.1),
      rw (p.state, j, r, i) (omega (arith, o.invariant.3, p.count.0, m)),
    )

pub returns : goal.returns
returns c =
    let o = c.loop-k in
    let a = c.args in
    let h = a.h in
    let s = lent a.state.now in
    let t = lent o.state in
    let p = rw c.spread_mask-bytes.ensures at c.put_one-n.ensures in
    let e = c.requires.id_bound.2 in
    let d = run_applied a.list.now h.mask t (a.from + o.k) (h.count - o.k) (h.id + 1 + o.k) 1 (omega arith) in
    let z = run_counted a.list.now h.mask t (a.from + o.k) (h.count - o.k) (h.id + 1 + o.k) 1 (omega arith) in
    let w = writing h.id h.mask a.first in
    let m = differences_more s w (run_from a.list.now a.from h.count (h.id + 1) h.mask 1) in
    let i = rw p.state at o.invariant.3 in
    record {
      same = o.invariant.0 ∙ p.same;
      count = rw e (omega (arith, z, i, p.count.0, m));
      state = sym d ∙ o.invariant.1 ∙ rw (p.state, e) (sym (apply_more s _ _));
    }
