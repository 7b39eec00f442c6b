-- Each public function's promise settles its calls: any two answers that it allows are equal. Assumes nothing.
use mathlib.Core.Path.{◌≡◌, refl, sym, ap, ◌∙◌}
use Rattle.std.specs.Prelude.{eqb}
use Rattle.numbers.specs.Pick.{pick}
use Prim.Native.Nat.{ℕ}
use native.Mathlib.Omega.{arith}
use contract.Lifetimes.{Lfts}
use mir.Syntax.{Dict}
use borrow.Fn.Kinds.{Dens}
use denote.RattleType.{RattleType}
use denote.Param.Laws.{Laws}
use Rattle.numbers.specs.Settled.{Settles, settled}
use Rattle.words.specs.Writes.{fault_of}
use Rattle.words.specs.Header.{words_with}
use Rattle.words.specs.Taken.{parts_of, head_of, refusal_in}
use Rattle.words.proofs.Heads.{header_one}
use Rattle.std.specs.Prelude.{Option, Some, None, Result, Ok, Err}
use Rattle.words.specs.Reasons.{number_of, numbered, told}
use Rattle.words.specs.declared.Reason.{Reason}
use Rattle.words.specs.declared.Reason.TheVariants as reason
use Rattle.words.specs.declared.Refusal.{Refusal}
use Rattle.words.specs.declared.Refuses.{Ghosts}
use Rattle.std.specs.declared.convert.From.{Ghosts as From}
use Rattle.words.proofs.parts.Reads as parts_reads
use Rattle.words.proofs.parts.Kinds as parts_kinds
use Rattle.words.proofs.words_taken.Reads as words_taken_reads
use Rattle.words.proofs.words_taken.Kinds as words_taken_kinds
use Rattle.words.proofs.refusal_in.Reads as refusal_in_reads
use Rattle.words.proofs.refusal_in.Kinds as refusal_in_kinds
use Rattle.words.proofs.RefusalRefuses.number.Reads as number_reads
use Rattle.words.proofs.RefusalRefuses.number.Kinds as number_kinds
use Rattle.words.proofs.RefusalRefuses.place.Reads as place_reads
use Rattle.words.proofs.RefusalRefuses.place.Kinds as place_kinds
use Rattle.words.proofs.Tuple2U32UsizeRefuses.number.Reads as pair_number_reads
use Rattle.words.proofs.Tuple2U32UsizeRefuses.number.Kinds as pair_number_kinds
use Rattle.words.proofs.Tuple2U32UsizeRefuses.place.Reads as pair_place_reads
use Rattle.words.proofs.Tuple2U32UsizeRefuses.place.Kinds as pair_place_kinds
use Rattle.words.proofs.RefusalRefuses.at.Reads as at_reads
use Rattle.words.proofs.RefusalRefuses.at.Kinds as at_kinds
use Rattle.words.proofs.Tuple2U32UsizeRefuses.at.Reads as pair_at_reads
use Rattle.words.proofs.Tuple2U32UsizeRefuses.at.Kinds as pair_at_kinds
use Rattle.words.proofs.Tuple2U32UsizeFromRefusal.from.Reads as pair_reads
use Rattle.words.proofs.Tuple2U32UsizeFromRefusal.from.Kinds as pair_kinds
use Rattle.words.proofs.head_at.Reads as head_at_reads
use Rattle.words.proofs.head_at.Kinds as head_at_kinds
use Rattle.words.proofs.fault.Reads as fault_reads
use Rattle.words.proofs.fault.Kinds as fault_kinds

-- the reason of a number; numbers that name none stand here for the last
at_number : ℕ → Option Reason
at_number n =
    pick (eqb n 0) None (
    pick (eqb n 1) (Some reason.ListTooLong) (
    pick (eqb n 2) (Some reason.WordsMissing) (
    pick (eqb n 3) (Some reason.IdAbove2ff) (
    pick (eqb n 4) (Some reason.JumpRegister) (
    pick (eqb n 5) (Some reason.PortMask) (
    pick (eqb n 6) (Some reason.BufferLength) (
    pick (eqb n 7) (Some reason.LengthsDiffer) (
    pick (eqb n 8) (Some reason.TooManyWrites) (
    pick (eqb n 9) (Some reason.MaskAbove15) (
    pick (eqb n 10) (Some reason.NoRoom) (
    pick (eqb n 12) (Some reason.DepthAboveLargest) (
    pick (eqb n 13) (Some reason.CodeWithoutName) (
    pick (eqb n 14) (Some reason.NotBuilt) (
    pick (eqb n 15) (Some reason.IllegalLength) (
    Some reason.TooFewPlaces)))))))))))))))

at_numbered : (r : Option Reason) → at_number (numbered r) ≡ r
unfolding at_number
at_numbered None = refl
at_numbered (Some reason.ListTooLong) = refl
at_numbered (Some reason.WordsMissing) = refl
at_numbered (Some reason.IdAbove2ff) = refl
at_numbered (Some reason.JumpRegister) = refl
at_numbered (Some reason.PortMask) = refl
at_numbered (Some reason.BufferLength) = refl
at_numbered (Some reason.LengthsDiffer) = refl
at_numbered (Some reason.TooManyWrites) = refl
at_numbered (Some reason.MaskAbove15) = refl
at_numbered (Some reason.NoRoom) = refl
at_numbered (Some reason.DepthAboveLargest) = refl
at_numbered (Some reason.CodeWithoutName) = refl
at_numbered (Some reason.NotBuilt) = refl
at_numbered (Some reason.IllegalLength) = refl
at_numbered (Some reason.TooFewPlaces) = refl

-- two reasons of one number are one, also where there may be none
pub numbered_one : (r q : Option Reason) → numbered r ≡ numbered q → r ≡ q
numbered_one r q e = sym (at_numbered r) ∙ ap at_number e ∙ at_numbered q

pub reason_one : (r q : Reason) → number_of r ≡ number_of q → r ≡ q
reason_one r q e = let k = numbered_one (Some r) (Some q) e in cc

-- no reason has the number 0
pub reason_numbered : (r : Reason) → number_of r ≡ 0 → ⊥
reason_numbered r e = let k = numbered_one (Some r) None e in let z : ◌≡◌ {A = ℕ} 0 1 = cc in absurd (omega arith)

-- a refusal is its number and its place
made : Reason → ℕ → Refusal
made n p = record { reason = n; place = p }

pub refusal_one : (r q : Refusal) → number_of r.reason ≡ number_of q.reason → r.place ≡ q.place → r ≡ q
unfolding made
refusal_one r q n p =
    let k = reason_one _ _ n in
    let e : made r.reason r.place ≡ made q.reason q.place = rw (k, p) in e

-- no two answers mean the same
pub told_one_law : (a b : Result ℕ Refusal) → told a ≡ told b → a ≡ b
told_one_law (Ok n) (Ok m) e = cc
told_one_law (Ok n) (Err r) e = let z : ◌≡◌ {A = ℕ} 0 1 = cc in absurd (omega arith)
told_one_law (Err r) (Ok m) e = let z : ◌≡◌ {A = ℕ} 0 1 = cc in absurd (omega arith)
told_one_law (Err r) (Err q) e = ap Err (refusal_one r q (cc) (cc))

pub head_at_settled : (κs : Lfts 1) (a : Dens κs head_at_kinds.ps) → Settles (λ e. tt {0}) (head_at_reads.Post κs a)
head_at_settled κs a = settled _ _ (λ r. r) (λ r r' e. e) (head_of a.0.now a.1.0) tt (λ r e p. (p.0, refl))

pub parts_settled : (κs : Lfts 0) (a : Dens κs parts_kinds.ps) → Settles (λ e. tt {0}) (parts_reads.Post κs a)
parts_settled κs a =
    settled _ _ (λ r. r) (λ r r' e. e) (parts_of a.0) tt (λ r e p. (header_one a.0 r p.0 p.1 p.2 p.3, refl))

pub words_taken_settled : (κs : Lfts 0) (a : Dens κs words_taken_kinds.ps) → Settles (λ e. tt {0}) (words_taken_reads.Post κs a)
words_taken_settled κs a = settled _ _ (λ r. r) (λ r r' e. e) (words_with a.0.count) tt (λ r e p. (p, refl))

-- for whatever refuses
pub refusal_in_settled : (R : RattleType) (l : Laws R) (g : Ghosts R.Denot) (d : Dict) (f : From R.Denot Refusal) (d' d'' : Dict)
    (κs : Lfts 1) (a : Dens κs (refusal_in_kinds.ps R l)) → Settles (λ e. tt {0}) (refusal_in_reads.Post R l g d f d' d'' κs a)
refusal_in_settled R l g d f d' d'' κs a = settled _ _ (λ r. r) (λ r r' e. e) (refusal_in a.0) tt (λ r e p. (p, refl))

pub fault_settled : (κs : Lfts 0) (a : Dens κs fault_kinds.ps) → Settles (λ e. tt {0}) (fault_reads.Post κs a)
fault_settled κs a = settled _ _ numbered numbered_one (fault_of a.0 a.1.0) tt (λ r e p. (p, refl))

-- what refuses: a `Refusal`, and a pair

pub number_settled : (κs : Lfts 1) (a : Dens κs number_kinds.ps) → Settles (λ e. tt {0}) (number_reads.Post κs a)
number_settled κs a = settled _ _ (λ r. r) (λ r r' e. e) (number_of a.0.now.reason) tt (λ r e p. (p, refl))

pub place_settled : (κs : Lfts 1) (a : Dens κs place_kinds.ps) → Settles (λ e. tt {0}) (place_reads.Post κs a)
place_settled κs a = settled _ _ (λ r. r) (λ r r' e. e) a.0.now.place tt (λ r e p. (p, refl))

pub pair_number_settled : (κs : Lfts 1) (a : Dens κs pair_number_kinds.ps) → Settles (λ e. tt {0}) (pair_number_reads.Post κs a)
pair_number_settled κs a = settled _ _ (λ r. r) (λ r r' e. e) a.0.now.0 tt (λ r e p. (p, refl))

pub pair_place_settled : (κs : Lfts 1) (a : Dens κs pair_place_kinds.ps) → Settles (λ e. tt {0}) (pair_place_reads.Post κs a)
pair_place_settled κs a = settled _ _ (λ r. r) (λ r r' e. e) a.0.now.1 tt (λ r e p. (p, refl))

pub at_settled : (κs : Lfts 0) (a : Dens κs at_kinds.ps) → Settles (λ e. tt {0}) (at_reads.Post κs a)
at_settled κs a = settled _ _ (λ r. r) (λ r r' e. e) (record { reason = a.0.reason; place = a.1.0 }) tt (λ r e p. (p, refl))

pub pair_at_settled : (κs : Lfts 0) (a : Dens κs pair_at_kinds.ps) → Settles (λ e. tt {0}) (pair_at_reads.Post κs a)
pair_at_settled κs a = settled _ _ (λ r. r) (λ r r' e. e) (a.0.0, a.1.0) tt (λ r e p. (p, refl))

-- a pair is its two numbers
pair_one : (t : ℕ × ℕ) (n p : ℕ) → (t.0 ≡ n) × (t.1 ≡ p) → t ≡ (n, p)
pair_one t n p e = ap (λ x. (x, t.1)) e.0 ∙ ap (λ y. (n, y)) e.1

pub pair_settled : (κs : Lfts 0) (a : Dens κs pair_kinds.ps) → Settles (λ e. tt {0}) (pair_reads.Post κs a)
pair_settled κs a = settled _ _ (λ r. r) (λ r r' e. e) (number_of a.0.reason, a.0.place) tt (λ r e p. (pair_one r _ _ p, refl))
