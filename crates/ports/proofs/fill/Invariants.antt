-- The invariant: what is left to fill leads from here to what all of it leads to. Assumes nothing.
use mathlib.Core.Path.{◌≡◌}
use Prim.Native.Nat.{◌+◌, ◌-◌}
use lib.ListN.{length}
use Rattle.ports.specs.Uploads.{filled}
use Rattle.ports.proofs.fill.Given as goal

abbrev pub invariant-loop-k : goal.invariant-loop-k
invariant-loop-k l =
    (length l.entries ≡ length l.initial.entries)
    × (filled l.entries (l.e + l.k) l.list (l.j + l.k) (l.n - l.k) ≡ filled l.initial.entries l.e l.list l.j l.n)
