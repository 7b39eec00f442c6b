-- A state in the three buffers that it is lent in.
use Rattle.std.specs.Prelude.{ℕ}
use Rattle.registers.specs.State.{State, st}
use Rattle.registers.specs.declared.lent.Lent.{Lent}

-- the state that they hold
abbrev pub lent : Lent → State
lent l = st l.cells.now l.fog.now l.light.now

-- which three buffers they are, whatever these hold
abbrev pub buffers : Lent → ℕ × ℕ × ℕ
buffers l = (l.cells.ghost_name, l.fog.ghost_name, l.light.ghost_name)
