-- The first write, and then the run of the others; those of mask 0 leave what they find. Assumes nothing.
use Rattle.std.proofs.Common.{◌≡◌, ℕ, ◌+◌, ◌≤◌, true, List, sym, ◌∙◌, arith}
use Rattle.words.specs.Writes.{writing, kept}
use Rattle.words.specs.declared.Header.{Header}
use Rattle.registers.specs.declared.lent.Lent.{Lent}
use Rattle.registers.specs.Lent.{lent}
use Rattle.registers.specs.Applied.{put, apply_all, differences}
use Rattle.numbers.specs.Bits.{spread}
use Rattle.registers.proofs.Differences.{differences_more}
use Rattle.commands.specs.Run.{run_from, run_with}
use Rattle.commands.specs.Clear.{last_id, clear}
use Rattle.commands.proofs.Applying.{apply_more, run_applied, run_counted}
use Rattle.commands.proofs.Clearing.{clear_fault}
use Rattle.commands.proofs.Dropped.{lent_cells, kept_same, with_allowed}
use Rattle.commands.proofs.Runs.{with_mask}
use Rattle.parts.proofs.put_command.Goals as goal

-- all writes of the command leave and count what those do that are kept
all_kept : (b : Lent) (h : Header) (first : ℕ) (l : List ℕ) (from : ℕ) → h.step ≤ 1
    → clear h.id (last_id h.id h.count h.step) h.mask ≡ true
    → (differences (lent b) (kept (run_with h first l from)) ≡ differences (lent b) (run_with h first l from))
    × (apply_all (lent b) (kept (run_with h first l from)) ≡ apply_all (lent b) (run_with h first l from))
all_kept b h first l from low sure =
    kept_same (lent b) (lent_cells b) h.mask (run_with h first l from) (with_mask h first l from)
    (with_allowed h first l from low (λ k y z. clear_fault h.id (last_id h.id h.count h.step) k h.mask sure y z))

pub returns-then-h-eq0 : goal.returns-then-h-eq0
returns-then-h-eq0 c =
    let a = c.args in
    let s = lent a.state.now in
    let t = put s a.h.id (spread a.h.mask) a.first in
    let w = writing a.h.id a.h.mask a.first in
    let ws = run_from a.list.now a.from a.h.count (a.h.id + a.h.step) a.h.mask a.h.step in
    let e = c.put_one-n.ensures in
    let same = all_kept a.state.now a.h a.first a.list.now a.from c.requires.id_bound.2 c.requires.sound in
    let none : a.h.count ≤ 0 = omega (arith, c.if-h-eq0.true) in
    record {
      same = e.same;
      count = omega (
        arith,
        rw c.spread_mask-bytes.ensures at e.count.0,
        differences_more s w ws,
        run_counted a.list.now a.h.mask t a.from a.h.count (a.h.id + a.h.step) a.h.step none,
        same.0,
      );
      state = rw c.spread_mask-bytes.ensures at e.state
          ∙ sym (same.1 ∙ apply_more s w ws
          ∙ run_applied a.list.now a.h.mask t a.from a.h.count (a.h.id + a.h.step) a.h.step none);
    }

pub returns : goal.returns
returns c =
    let a = c.args in
    let s = lent a.state.now in
    let w = writing a.h.id a.h.mask a.first in
    let ws = run_from a.list.now a.from a.h.count (a.h.id + a.h.step) a.h.mask a.h.step in
    let e = c.put_one-n.ensures in
    let r = c.put_run.ensures in
    let b = c.spread_mask-bytes.ensures in
    let same = all_kept a.state.now a.h a.first a.list.now a.from c.requires.id_bound.2 c.requires.sound in
    record {
      same = r.same ∙ e.same;
      count = omega (arith, rw b at e.count.0, differences_more s w ws, rw (e.state, b) at r.count.0, same.0);
      state = r.state ∙ rw (e.state, b) (sym (same.1 ∙ apply_more s w ws));
    }
