-- Any two answers that the promise of `read_settings`, `word_of` or `colour_of` allows are equal; the lent cells are only read.
-- Assumes nothing.
use mathlib.Core.Path.{refl}
use contract.Lifetimes.{Lfts}
use borrow.Fn.Kinds.{Dens}
use Rattle.numbers.specs.Settled.{Settles, settled}
use Rattle.settings.specs.Ranges.{in_cells}
use Rattle.settings.specs.Settings.{settings_in}
use Rattle.settings.specs.Colours.{colour_of, word_of}
use Rattle.settings.proofs.read_settings.Reads as read_settings_reads
use Rattle.settings.proofs.read_settings.Kinds as read_settings_kinds
use Rattle.settings.proofs.colours.word_of.Reads as word_of_reads
use Rattle.settings.proofs.colours.word_of.Kinds as word_of_kinds
use Rattle.settings.proofs.colours.colour_of.Reads as colour_of_reads
use Rattle.settings.proofs.colours.colour_of.Kinds as colour_of_kinds

pub read_settings_settled : (κs : Lfts 1) (a : Dens κs read_settings_kinds.ps) → Settles (λ e. tt {0}) (read_settings_reads.Post κs a)
read_settings_settled κs a =
    settled _ _ (λ r. r) (λ r r' e. e) (settings_in (in_cells a.0.now)) tt (λ r e p. (p, refl))

pub word_of_settled : (κs : Lfts 0) (a : Dens κs word_of_kinds.ps) → Settles (λ e. tt {0}) (word_of_reads.Post κs a)
word_of_settled κs a = settled _ _ (λ r. r) (λ r r' e. e) (word_of a.0) tt (λ r e p. (p.0, refl))

pub colour_of_settled : (κs : Lfts 0) (a : Dens κs colour_of_kinds.ps) → Settles (λ e. tt {0}) (colour_of_reads.Post κs a)
colour_of_settled κs a = settled _ _ (λ r. r) (λ r r' e. e) (colour_of a.0) tt (λ r e p. (p, refl))
