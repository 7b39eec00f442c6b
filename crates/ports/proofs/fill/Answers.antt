-- The invariant: what is left to fill leads from here to what all of it leads to. Assumes nothing.
use mathlib.Core.Path.{◌≡◌, sym, ◌∙◌}
use Prim.Native.Nat.{◌+◌, ◌-◌}
use native.Mathlib.Omega.{arith}
use borrow.Author.Rules.{rules}
use Rattle.ports.proofs.Uploads.{filled_done, filled_next}
use Rattle.ports.proofs.fill.Goals as goal

pub loop-k-preserved : goal.loop-k-preserved
loop-k-preserved c =
    let o = c.loop-k in
    let a = c.args in
    let x : a.e + (o.k + 1) ≡ a.e + o.k + 1 = omega arith in
    let y : a.j + (o.k + 1) ≡ a.j + o.k + 1 = omega arith in
    let z : a.n - (o.k + 1) ≡ a.n - o.k - 1 = omega arith in (
      search rules,
      rw (x, y, z, c.entered.ensures)
          (sym (filled_next o.entries (a.e + o.k) a.list.now (a.j + o.k) (a.n - o.k) (omega arith)) ∙ o.invariant.1),
    )

pub returns : goal.returns
returns c =
    let o = c.loop-k in
    let a = c.args in
    sym (filled_done o.entries (a.e + o.k) a.list.now (a.j + o.k) (a.n - o.k) (omega arith)) ∙ o.invariant.1
