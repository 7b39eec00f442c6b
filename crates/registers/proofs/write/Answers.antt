-- Each way out is one case of `write_answer` and `write_state`. Assumes nothing.
use mathlib.Core.Path.{sym, ap, ◌∙◌}
use borrow.Author.Rules.{rules}
use native.Mathlib.Omega.{arith}
use Rattle.numbers.specs.Answer.{answered}
use Rattle.words.specs.Reasons.{numbered}
use Rattle.words.specs.Writes.{writing}
use Rattle.words.proofs.Once.{reason_numbered}
use Rattle.registers.specs.State.{st}
use Rattle.registers.specs.Lent.{lent}
use Rattle.registers.proofs.Sizes.{lengths, taken_whole, whole_taken, all_back}
use Rattle.registers.proofs.Single.{write_refused, write_done, difference_told, length_refusal_law, mask_refusal, fault_refusal}
use Rattle.registers.proofs.write.Goals as goal

pub returns-then-not-is_sized : goal.returns-then-not-is_sized
returns-then-not-is_sized c =
    let a = c.args in
    let s = st a.cells.now a.fog.now a.light.now in
    let w = writing a.id a.mask a.value in
    let both = write_refused s w 6 (λ z. omega arith) (length_refusal_law s w (sym c.is_sized.ensures.sized ∙ c.if-not-is_sized.true)) in
    record { answer = both.0; state = both.1 }

pub returns-then-too_wide : goal.returns-then-too_wide
returns-then-too_wide c =
    let a = c.args in
    let s = st a.cells.now a.fog.now a.light.now in
    let w = writing a.id a.mask a.value in
    let k = sym c.is_sized.ensures.sized ∙ c.if-not-is_sized.false in
    let both = write_refused s w 9 (λ z. omega arith) (mask_refusal s w k c.if-too_wide.true) in
    record { answer = both.0; state = both.1 }

pub returns-in-Some : goal.returns-in-Some
returns-in-Some c =
    let a = c.args in
    let s = st a.cells.now a.fog.now a.light.now in
    let w = writing a.id a.mask a.value in
    let k = sym c.is_sized.ensures.sized ∙ c.if-not-is_sized.false in
    let f = fault_refusal s w k c.if-too_wide.false ∙ sym c.fault.ensures ∙ ap numbered c.in-Some.is in
    let both = write_refused s w _ (reason_numbered c.in-Some.reason) f in
    record { answer = both.0; state = both.1 }

pub unwrap-fog-requires : goal.unwrap-fog-requires
unwrap-fog-requires c =
    let a = c.args in
    let k = lengths (st a.cells.now a.fog.now a.light.now) (sym c.is_sized.ensures.sized ∙ c.if-not-is_sized.false) in
    c.first_chunk_mut-2.ensures.variant.1 (omega (arith, k.1))

pub invariant_of-state : goal.invariant_of-state
invariant_of-state c =
    let a = c.args in
    record {
      whole = whole_taken (st a.cells.now a.fog.now a.light.now) _ _ _ (sym c.is_sized.ensures.sized ∙ c.if-not-is_sized.false)
          c.is_sized.ensures.words
          (rw c.unwrap-cells.ensures at c.first_chunk_mut.ensures.cases)
          (rw c.unwrap-fog.ensures at c.first_chunk_mut-2.ensures.cases)
          (rw c.unwrap-light.ensures at c.first_chunk_mut-3.ensures.cases);
    }

pub returns : goal.returns
returns c =
    let a = c.args in
    let s = st a.cells.now a.fog.now a.light.now in
    let w = writing a.id a.mask a.value in
    let k = sym c.is_sized.ensures.sized ∙ c.if-not-is_sized.false in
    let n = lengths s k in
    let d = write_done s w (fault_refusal s w k c.if-too_wide.false ∙ sym c.fault.ensures ∙ ap numbered c.in_default.is) in
    let cells = taken_whole 768 a.cells.now n.0 _ (rw c.unwrap-cells.ensures at c.first_chunk_mut.ensures.cases) in
    let fog = taken_whole 128 a.fog.now n.1 _ (rw c.unwrap-fog.ensures at c.first_chunk_mut-2.ensures.cases) in
    let light = taken_whole 6144 a.light.now n.2 _ (rw c.unwrap-light.ensures at c.first_chunk_mut-3.ensures.cases) in
    let p = rw (c.spread_mask-bytes.ensures, cells, fog, light) at c.put_one-difference.ensures in
    record {
      answer = ap answered (difference_told s w _ (p.count.0 ∙ omega arith)) ∙ d.0;
      state = all_back s _ _ _ (lent c.put_one-difference.new.self) n (search rules) (search rules) (search rules) ∙ p.state ∙ d.1;
    }
