-- The invariant: what is left of the part leads from here to where the whole part leads, and counts, with what was counted so far, what the
-- whole part counts. Assumes nothing.
use Rattle.std.proofs.Common.{◌≡◌, ◌+◌, ◌-◌, ◌≤◌, length, drop}
use Rattle.registers.specs.Lent.{lent, buffers}
use Rattle.registers.specs.Applied.{apply_all, differences}
use Rattle.parts.specs.Progress.{after, made}
use Rattle.parts.proofs.take_part.Given as goal

abbrev pub invariant-loop-at : goal.invariant-loop-at
invariant-loop-at l =
    (buffers l.state ≡ buffers l.initial.state) × (l.at ≤ length l.part)
    × (after l.q (drop l.at l.part) ≡ after l.initial.q l.part)
    × (apply_all (lent l.state) (made l.q (drop l.at l.part)) ≡ apply_all (lent l.initial.state)
    (made l.initial.q l.part))
    × (l.n + differences (lent l.state) (made l.q (drop l.at l.part)) ≡ differences
    (lent l.initial.state) (made l.initial.q l.part))
    × (l.n ≤ l.at)

abbrev pub decreases-loop-at : goal.decreases-loop-at
decreases-loop-at l = length l.part - l.at
