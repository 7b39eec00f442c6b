-- The promise of each public function settles its calls: any two answers that it allows, with what is then in the lent space, are equal.
-- Assumes nothing.
use contract.Lifetimes.{Lfts}
use mir.Syntax.{Dict}
use borrow.Fn.Kinds.{Dens}
use denote.RattleType.{RattleType}
use denote.Param.Laws.{Laws}
use lib.ListN.{length}
use Rattle.numbers.specs.Answer.{refused}
use Rattle.numbers.specs.Settled.{Settles, settled}
use Rattle.std.specs.declared.convert.From.{Ghosts as From}
use Rattle.words.specs.declared.Refusal.{Refusal}
use Rattle.words.specs.declared.Refuses.{Ghosts}
use Rattle.words.specs.Reasons.{told_by}
use Rattle.lines.specs.Text.{over}
use Rattle.lines.specs.Lines.{line_for, line_of}
use Rattle.lines.proofs.line_for.Reads as line_for_reads
use Rattle.lines.proofs.line_for.Kinds as line_for_kinds
use Rattle.lines.proofs.put_refused.Reads as put_refused_reads
use Rattle.lines.proofs.put_refused.Kinds as put_refused_kinds
use Rattle.lines.proofs.line_of.Reads as line_of_reads
use Rattle.lines.proofs.line_of.Kinds as line_of_kinds

-- for whatever refuses
pub line_for_settled : (R : RattleType) (l : Laws R) (g : Ghosts R.Denot) (d : Dict) (f : From R.Denot Refusal) (d' d'' : Dict)
    (κs : Lfts 2) (a : Dens κs (line_for_kinds.ps R l)) → Settles (λ e. e.1.0.now) (line_for_reads.Post R l g d f d' d'' κs a)
line_for_settled R l g d f d' d'' κs a =
    let text = line_for (told_by g.number g.place a.0) in
    settled _ _ (λ r. r) (λ r r' e. e) (length text) (over a.1.0.now 0 text) (λ r e p. (p.number, p.bytes))

pub line_of_settled : (κs : Lfts 2) (a : Dens κs line_of_kinds.ps) → Settles (λ e. e.1.0.now) (line_of_reads.Post κs a)
line_of_settled κs a =
    let text = line_of a.0.now in
    settled _ _ (λ r. r) (λ r r' e. e) (length text) (over a.1.0.now 0 text) (λ r e p. (p.number, p.bytes))

pub put_refused_settled : (κs : Lfts 1) (a : Dens κs put_refused_kinds.ps) → Settles (λ e. e.0.now) (put_refused_reads.Post κs a)
put_refused_settled κs a =
    let text = line_for (refused a.1.0 a.1.1.0) in
    settled _ _ (λ r. r) (λ r r' e. e) (length text) (over a.0.now 0 text) (λ r e p. (p.number, p.bytes))
