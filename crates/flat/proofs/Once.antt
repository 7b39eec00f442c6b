-- Any two layouts that the promise of `lay_settings` allows are equal. Assumes nothing.
use mathlib.Core.Path.{refl}
use contract.Lifetimes.{Lfts}
use borrow.Fn.Kinds.{Dens}
use Rattle.numbers.specs.Settled.{Settles, settled}
use Rattle.settings.specs.Flat.{flat}
use Rattle.flat.proofs.lay_settings.Reads as lay_settings_reads
use Rattle.flat.proofs.lay_settings.Kinds as lay_settings_kinds

pub lay_settings_settled : (κs : Lfts 1) (a : Dens κs lay_settings_kinds.ps) → Settles (λ e. e.0.now) (lay_settings_reads.Post κs a)
lay_settings_settled κs a = settled _ _ (λ r. r) (λ r r' e. e) tt (flat a.1.0) (λ r e p. (refl, p))
