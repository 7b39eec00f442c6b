-- Any two answers that the promise of `decode`, of `is_decodable` or of `refusal_of` allows are equal, and any two of `decodable_cells`
-- tell the same; the lent buffers are only read. Assumes nothing.
use mathlib.Core.Path.{◌≡◌, refl, sym, ap, ◌∙◌}
use mathlib.Core.Bool.{true, false}
use contract.Lifetimes.{Lfts}
use borrow.Fn.Kinds.{Dens}
use Rattle.std.specs.Prelude.{List, ℕ, Result, Ok, Err, MatchResult}
use Rattle.numbers.specs.Pick.{pick}
use Rattle.numbers.specs.Settled.{Settles, settled}
use Rattle.words.specs.declared.Refusal.{Refusal}
use Rattle.registers.specs.State.{State, st}
use Rattle.decode.specs.Decoded.{decoded_of, decodable, refusal_of}
use Rattle.decode.proofs.decode.Reads as decode_reads
use Rattle.decode.proofs.decode.Kinds as decode_kinds
use Rattle.decode.proofs.decodable_cells.Reads as decodable_cells_reads
use Rattle.decode.proofs.decodable_cells.Kinds as decodable_cells_kinds
use Rattle.decode.proofs.is_decodable.Reads as is_decodable_reads
use Rattle.decode.proofs.is_decodable.Kinds as is_decodable_kinds
use Rattle.decode.proofs.refusal_of.Reads as refusal_of_reads
use Rattle.decode.proofs.refusal_of.Kinds as refusal_of_kinds

pub decode_settled : (κs : Lfts 3) (a : Dens κs decode_kinds.ps) → Settles (λ e. tt {0}) (decode_reads.Post κs a)
decode_settled κs a =
    settled _ _ (λ r. r) (λ r r' e. e) (decoded_of (st a.0.now a.1.0.now a.1.1.0.now)) tt (λ r e p. (p.0, refl))

pub is_decodable_settled : (κs : Lfts 3) (a : Dens κs is_decodable_kinds.ps) → Settles (λ e. tt {0}) (is_decodable_reads.Post κs a)
is_decodable_settled κs a =
    settled _ _ (λ r. r) (λ r r' e. e) (decodable (st a.0.now a.1.0.now a.1.1.0.now)) tt (λ r e p. (p, refl))

pub refusal_of_settled : (κs : Lfts 3) (a : Dens κs refusal_of_kinds.ps) → Settles (λ e. tt {0}) (refusal_of_reads.Post κs a)
refusal_of_settled κs a =
    settled _ _ (λ r. r) (λ r r' e. e) (refusal_of (st a.0.now a.1.0.now a.1.1.0.now)) tt (λ r e p. (p, refl))

-- what an answer of `decodable_cells` tells: what the cells hold that it lends on, or the refusal
abbrev pub cells_told : {A : Type 0} → (A → List ℕ) → Result A Refusal → Result (List ℕ) Refusal
cells_told now (Ok a) = Ok (now a)
cells_told now (Err why) = Err why

-- what it has to tell of a state
abbrev pub decodable_told : State → Result (List ℕ) Refusal
decodable_told s = pick (decodable s) (Ok s.cells) (Err (refusal_of s))

cells_by : {A : Type 0} (now : A → List ℕ) (s : State) (r : Result A Refusal)
    → MatchResult r
    (λ a. (now a ≡ s.cells) × (decodable s ≡ true))
    (λ why. (why ≡ refusal_of s) × (decodable s ≡ false))
    → cells_told now r ≡ decodable_told s
cells_by now s (Ok a) p = rw p.1 (ap Ok p.0)
cells_by now s (Err why) p = rw p.1 (ap Err p.0)

pub decodable_cells_settled : (κs : Lfts 3) (a : Dens κs decodable_cells_kinds.ps) (r r' : _) (e e' : _)
    → decodable_cells_reads.Post κs a r e
    → decodable_cells_reads.Post κs a r' e'
    → cells_told (λ c. c.now) r ≡ cells_told (λ c. c.now) r'
decodable_cells_settled κs a r r' e e' p q =
    let s = st a.0.now a.1.0.now a.1.1.0.now in
    cells_by (λ c. c.now) s r p ∙ sym (cells_by (λ c. c.now) s r' q)
