-- The run is a way. Assumes nothing.
use Rattle.std.proofs.Common.{◌≡◌, ◌+◌, ◌-◌, ◌≤◌, sym, ◌∙◌, arith}
use Rattle.registers.specs.Lent.{lent}
use Rattle.words.specs.declared.Header.{Header}
use Rattle.parts.proofs.Ways.{run_way, leads_by}
use Rattle.parts.proofs.Choices.{run_facts}
use Rattle.parts.proofs.take_extras.Goals as goal
use Rattle.parts.proofs.take_extras.Goals.{Else-not-p}

-- the reading is at no fault, its ids stay or rise by one, and it is below the limit
plain : (c : Else-not-p) →
    let p = c.args.p in
    (p.fault ≡ 0) × (p.step ≤ 1) × (p.id ≤ 0xFFFF) × (p.come ≤ 65535)
plain c =
    let p = c.args.p in
    run_facts p.fault p.step p.id p.come c.if-not-p.false

pub returns : goal.returns
returns c =
    let a = c.args in
    let l = a.part.now in
    let n = c.run_length-n.ensures in
    let f = plain (goal.at.returns c).Else-not-p in
    let e = c.last_id-last.ensures in
    let b = c.requires.at_in_bounds in
    let w = c.put_command-differences.ensures in
    let sure = sym c.is_clear.ensures ∙ c.if-not-is_clear.false in
    let s = lent a.state.now in
    let h : Header =
    record { id = a.p.id + a.p.step; mask = a.p.mask; count = c.run_length-n.result - 1; step = a.p.step } in
    record {
      same = w.same;
      leads = rw e
          (leads_by l a.p _ a.at _ (lent a.state.now) _ _ _
          (run_way l _ a.at a.p n.0 (omega (arith, n.3, b.0)) n.2 n.1 f.0 f.1 f.2 n.4 (rw (← e) sure))
          (omega (arith, n.3, b.0)) w.state w.count);
    }
