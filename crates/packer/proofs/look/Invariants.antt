-- Each way out is one case of `check_answer`; what is passed at once has no mask 0. The loop: no write before i is refused, so what is
-- left decides. Assumes nothing.
use Rattle.std.proofs.Common.{◌≡◌, drop}
use Rattle.runs.specs.PackedList.{writes}
use Rattle.packer.specs.Checks.{first_wrong}
use Rattle.packer.proofs.look.Given as goal

abbrev pub invariant-loop-i : goal.invariant-loop-i
invariant-loop-i l =
    first_wrong 0 (writes l.ids l.masks l.values) ≡ first_wrong l.i (drop l.i (writes l.ids l.masks l.values))
