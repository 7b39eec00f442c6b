-- Any two answers that the promise of `draw` allows are equal; the lent buffers are only read. Assumes nothing.
use mathlib.Core.Path.{refl}
use contract.Lifetimes.{Lfts}
use borrow.Fn.Kinds.{Dens}
use Rattle.numbers.specs.Settled.{Settles, settled}
use Rattle.registers.specs.State.{st}
use Rattle.fragment.specs.Drawn.{drawn_of}
use Rattle.fragment.proofs.draw.Reads as draw_reads
use Rattle.fragment.proofs.draw.Kinds as draw_kinds

pub draw_settled : (κs : Lfts 3) (a : Dens κs draw_kinds.ps) → Settles (λ e. tt {0}) (draw_reads.Post κs a)
draw_settled κs a =
    settled _ _ (λ r. r) (λ r r' e. e)
    (drawn_of (st a.0.now a.1.0.now a.1.1.0.now) a.1.1.1.0 a.1.1.1.1.0 a.1.1.1.1.1.0)
    tt (λ r e p. (p.0, refl))
