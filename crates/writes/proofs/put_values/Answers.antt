-- The first j values stand from place k on; the first of them before the loop. Assumes nothing.
use mathlib.Core.Path.{refl, ◌∙◌}
use Prim.Native.Nat.{◌≤◌}
use native.Mathlib.Omega.{arith}
use lib.Seq.{paste-zero}
use Rattle.words.specs.Header.{count_of}
use Rattle.words.specs.Writes.{Write, values_in}
use Rattle.words.specs.Commands.{header_at, expand}
use Rattle.commands.proofs.Runs.{param_later}
use Rattle.writes.proofs.Rows.{value_at, row_next}
use Rattle.writes.proofs.put_values.Goals as goal

pub loop-j-init : goal.loop-j-init
loop-j-init c =
    let a = c.args in
    let l = a.list.now in
    row_next l a.at (λ (w : Write). w.value) a.values.now a.k c.requires.1 a.values.now 0 a.k 1 _ (omega arith) (omega arith) (omega arith)
    (value_at l a.at 0 (omega arith)) (paste-zero a.values.now a.k (values_in (expand l a.at)))

pub loop-j-preserved : goal.loop-j-preserved
loop-j-preserved c =
    let a = c.args in
    let l = a.list.now in
    let o = c.loop-j in
    let q : o.j ≤ count_of (header_at l a.at) = omega (arith, c.parts-h.ensures.2) in
    row_next l a.at (λ (w : Write). w.value) a.values.now a.k c.requires.1 o.values o.j _ _ _ refl refl q
    (param_later l a.at o.j _ (omega (arith, o.auto.j)) refl ∙ value_at l a.at o.j q) o.invariant
