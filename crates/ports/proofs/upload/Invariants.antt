-- The invariant: what is left to upload leads from here to what all of it leads to. Assumes nothing.
use mathlib.Core.Path.{◌≡◌}
use Prim.Native.Nat.{◌+◌, ◌<◌}
use lib.ListN.{length}
use Rattle.ports.specs.Uploads.{uploaded}
use Rattle.ports.proofs.upload.Given as goal

abbrev pub invariant-loop-left : goal.invariant-loop-left
invariant-loop-left l =
    (length l.entries ≡ length l.initial.entries) × (l.i < l.size) × (l.j + l.left ≡ l.from + l.count)
    × (uploaded l.size l.table l.i l.entries l.list l.j l.left ≡ uploaded l.size l.table l.first l.initial.entries l.list l.from l.count)

abbrev pub decreases-loop-left : goal.decreases-loop-left
decreases-loop-left l =
    l.left
