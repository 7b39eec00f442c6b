-- Any two answers that the promise of `judge` or of `colour_after` allows are equal. Assumes nothing.
use mathlib.Core.Path.{refl}
use contract.Lifetimes.{Lfts}
use Rattle.settings.specs.Ranges.{in_cells}
use Rattle.settings.specs.Framebuffer.{framebuffer_in}
use borrow.Fn.Kinds.{Dens}
use Rattle.numbers.specs.Settled.{Settles, settled}
use Rattle.stores.specs.Stores.{colour_after, judged_of}
use Rattle.stores.proofs.judge.Reads as judge_reads
use Rattle.stores.proofs.judge.Kinds as judge_kinds
use Rattle.stores.proofs.colour.colour_after.Reads as colour_after_reads
use Rattle.stores.proofs.colour.colour_after.Kinds as colour_after_kinds

pub judge_settled : (κs : Lfts 1) (a : Dens κs judge_kinds.ps) → Settles (λ e. tt {0}) (judge_reads.Post κs a)
judge_settled κs a =
    settled _ _ (λ r. r) (λ r r' e. e)
    (judged_of (framebuffer_in (in_cells a.0.now)) a.1.0 a.1.1.0 a.1.1.1.0 a.1.1.1.1.0) tt (λ r e p. (p, refl))

pub colour_after_settled : (κs : Lfts 1) (a : Dens κs colour_after_kinds.ps) → Settles (λ e. tt {0}) (colour_after_reads.Post κs a)
colour_after_settled κs a =
    settled _ _ (λ r. r) (λ r r' e. e)
    (colour_after (framebuffer_in (in_cells a.0.now)) a.1.0 a.1.1.0 a.1.1.1.0) tt (λ r e p. (p, refl))
