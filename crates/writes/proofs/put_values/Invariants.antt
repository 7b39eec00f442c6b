-- The first j values stand from place k on. Assumes nothing.
use mathlib.Core.Path.{◌≡◌}
use lib.Seq.{paste}
use Rattle.words.specs.Writes.{values_in}
use Rattle.words.specs.Commands.{expand}
use Rattle.writes.proofs.put_values.Given as goal

abbrev pub invariant-loop-j : goal.invariant-loop-j
invariant-loop-j l = l.values ≡ paste l.fn.values l.k (values_in (expand l.list l.at)) l.j
