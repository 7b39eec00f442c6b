-- The command's first m writes stand from place k on, and the id of the last of them is held. Assumes nothing.
use mathlib.Core.Path.{◌≡◌, refl, ◌∙◌}
use mathlib.Core.List.{List}
use Prim.Native.Nat.{ℕ, ◌+◌, ◌-◌, ◌≤◌}
use native.Mathlib.Omega.{arith}
use lib.ListN.{length, get_or, set, length-set}
use Rattle.words.specs.Header.{count_of}
use Rattle.words.specs.Commands.{header_at}
use Rattle.commands.proofs.Runs.{param_later}
use Rattle.writes.proofs.Rows.{Put, id_first, id_next, put_none, put_next, put_over, put_back}
use Rattle.writes.proofs.put_short.Goals as goal
use Rattle.writes.proofs.put_short.Goals.{After-parts-h}

-- the buffers with the first write, which stands there before the loop
abbrev first_stands : After-parts-h → List ℕ × List ℕ × List ℕ
first_stands c =
    let a = c.args in
    let p = c.parts-h.result in
    (set a.ids.now a.k p.id, set a.masks.now a.k p.mask, set a.values.now a.k (get_or a.list.now a.at 0))

first : (c : After-parts-h)
    → let a = c.args in
    let s = first_stands c in
    Put a.list.now a.at a.k 1 a.ids.now a.masks.now a.values.now s.0 s.1 s.2
first c =
    let b = c.requires in
    let a = c.args in
    let l = a.list.now in
    let p = c.parts-h.ensures in
    put_next l a.at a.k a.ids.now a.masks.now a.values.now b.command_fits.1 b.ids_len a.ids.now
    a.masks.now a.values.now 0 a.k 1 _ _ _ (omega arith) (omega arith) (omega arith) (p.0 ∙ id_first l a.at) p.1 refl
    (put_none l a.at a.k a.ids.now a.masks.now a.values.now)

long : (c : After-parts-h)
    → let a = c.args in
    let s = first_stands c in
    (length s.0 ≡ length a.ids.now) × (length s.1 ≡ length a.masks.now) × (length s.2 ≡ length a.values.now)
long c = let a = c.args in (length-set a.ids.now _ _, length-set a.masks.now _ _, length-set a.values.now _ _)

pub loop-m-init : goal.loop-m-init
loop-m-init c =
    let b = c.requires in
    let a = c.args in
    let l = a.list.now in
    let p = c.parts-h.ensures in
    let f = first (goal.at.loop-m-init c).After-parts-h in (
      p.0 ∙ id_first l a.at,
      omega (arith, p.0),
      put_back l a.at a.k a.ids.now a.masks.now a.values.now b.command_fits.1 b.ids_len _ _ _ f 1 (omega arith) (omega arith) _ _ _ f,
    )

pub loop-m-preserved : goal.loop-m-preserved
loop-m-preserved c =
    let b = c.requires in
    let a = c.args in
    let l = a.list.now in
    let p = c.parts-h.ensures in
    let o = c.loop-m in
    let q : o.m ≤ count_of (header_at l a.at) = omega (arith, c.loop-m-test.true, p.2) in
    let was : o.m - 1 + 1 ≡ o.m = omega (arith, o.auto.m) in
    let now : o.m + 1 - 1 ≡ o.m = omega arith in
    let next = rw (was, ← p.3) at (id_next l a.at (o.m - 1) o.id (omega (arith, q, o.auto.m)) o.invariant.0) in
    let n = long (goal.at.loop-m-preserved c).After-parts-h in
    let s = first_stands (goal.at.loop-m-preserved c).After-parts-h in
    let room : a.k + (count_of (header_at l a.at) + 1) ≤ length s.0 = omega (arith, b.command_fits.1, n.0) in
    let level : (length s.0 ≡ length s.1) × (length s.0 ≡ length s.2) =
    (omega (arith, b.ids_len.0, n.0, n.1), omega (arith, b.ids_len.1, n.0, n.2)) in (
      rw now next,
      omega (arith, p.3, o.invariant.1),
      put_next l a.at a.k _ _ _ room level o.ids o.masks o.values o.m _ _ _ _ _ refl refl q next p.1
          (param_later l a.at o.m _ (omega (arith, o.auto.m)) refl) o.invariant.2,
    )

pub returns : goal.returns
returns c =
    let b = c.requires in
    let a = c.args in
    let l = a.list.now in
    let o = c.loop-m in
    let p = c.parts-h.ensures in
    let z : o.m ≡ count_of (header_at l a.at) + 1 = omega (arith, c.loop-m-test.false, p.2) in
    let P = put_over l a.at a.k a.ids.now a.masks.now a.values.now b.command_fits.1 b.ids_len _ _ _
    (first (goal.at.returns c).After-parts-h) o.m (omega (arith, o.auto.m)) (omega arith) o.ids o.masks o.values o.invariant.2 in
    record {
      ids = rw z at P.ids;
      masks = rw z at P.masks;
      values = rw z at P.values;
    }
