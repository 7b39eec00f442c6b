-- Any two answers that the promise of `read_lights` allows are equal; the lent cells are only read. Assumes nothing.
use mathlib.Core.Path.{refl}
use contract.Lifetimes.{Lfts}
use borrow.Fn.Kinds.{Dens}
use Rattle.numbers.specs.Settled.{Settles, settled}
use Rattle.numbers.specs.Ranges.{in_cells}
use Rattle.lights.specs.Lights.{lights_in}
use Rattle.lights.proofs.read_lights.Reads as read_lights_reads
use Rattle.lights.proofs.read_lights.Kinds as read_lights_kinds

pub read_lights_settled : (κs : Lfts 1) (a : Dens κs read_lights_kinds.ps) → Settles (λ e. tt {0}) (read_lights_reads.Post κs a)
read_lights_settled κs a = settled _ _ (λ r. r) (λ r r' e. e) (lights_in (in_cells a.0.now)) tt (λ r e p. (p, refl))
