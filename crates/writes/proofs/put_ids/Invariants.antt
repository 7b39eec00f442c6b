-- The first ids stand in their places, and the next one is at hand. Assumes nothing.
use mathlib.Core.Path.{◌≡◌}
use Prim.Native.Nat.{ℕ, ◌+◌, ◌≤◌, ◌<◌}
use lib.ListN.{get_or}
use Rattle.words.specs.Writes.{ids_in}
use Rattle.words.specs.Commands.{expand}
use Rattle.writes.proofs.put_ids.Given as goal

abbrev pub invariant-loop-id : goal.invariant-loop-id
invariant-loop-id l =
    (l.next ≤ 65535 + l.id-index)
    × (l.id-index < l.n → l.next ≡ get_or (ids_in (expand l.list l.at)) l.id-index 0)
    × ((j : ℕ) → j < l.id-index → get_or l.id-items j 0 ≡ get_or (ids_in (expand l.list l.at)) j 0)
