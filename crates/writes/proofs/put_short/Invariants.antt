-- The command's first m writes stand from place k on, and the id of the last of them is held. Assumes nothing.
use mathlib.Core.Path.{◌≡◌}
use Prim.Native.Nat.{◌+◌, ◌-◌, ◌<◌}
use lib.ListN.{get_or}
use Rattle.words.specs.Writes.{ids_in}
use Rattle.words.specs.Commands.{expand}
use Rattle.writes.proofs.Rows.{Put}
use Rattle.writes.proofs.put_short.Given as goal

abbrev pub invariant-loop-m : goal.invariant-loop-m
invariant-loop-m l =
    (l.id ≡ get_or (ids_in (expand l.list l.at)) (l.m - 1) 0) × (l.id < 65535 + l.m)
    × Put l.list l.at l.k l.m l.initial.ids l.initial.masks l.initial.values l.ids l.masks l.values
