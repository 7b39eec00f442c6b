-- The invariant: the commands so far lead from the first to here, by writes of which so many made a difference. Assumes nothing.
use Rattle.std.proofs.Common.{◌≡◌, ◌+◌, ◌-◌, ◌*◌, ◌/◌, ◌≤◌, true, length, get_or, refl, ◌∙◌, arith}
use Rattle.words.specs.Header.{id_of, mask_of, count_of, step_of, words_of}
use Rattle.registers.specs.Lent.{lent}
use Rattle.commands.specs.Clear.{last_id, clear}
use Rattle.commands.proofs.Clearing.{clear_fault}
use Rattle.parts.proofs.Ways.{so_far, commanded, command_way, leads_by, leads_on}
use Rattle.parts.proofs.Choices.{whole_facts}
use Rattle.parts.proofs.take_commands.Goals as goal
use Rattle.parts.proofs.take_commands.Goals.{Else-not-here-is_clear}

-- the next command's words are here and below the limit, and none of its writes can be at fault
facts : (c : Else-not-here-is_clear) →
    let part = c.args.part.now in
    let o = c.commands in
    let x = get_or part (o.i + 1) 0 in
    (words_of x ≤ length part - o.i) × (o.come + words_of x ≤ 65536)
    × (clear (id_of x) (last_id (id_of x) (count_of x) (step_of x)) (mask_of x) ≡ true)
facts c =
    let part = c.args.part.now in
    let o = c.commands in
    let x = get_or part (o.i + 1) 0 in
    let h = c.parts-h.ensures in
    whole_facts (words_of x) (length part - o.i) (o.come + words_of x) 65536
    (clear (id_of x) (last_id (id_of x) (count_of x) (step_of x)) (mask_of x))
    (rw (
      ← h.0,
      ← h.1,
      ← h.2,
      ← h.3,
      ← c.words_taken-taken.ensures,
      ← c.last_id-last.ensures,
      ← c.is_clear.ensures,
    )
    c.if-not-here-is_clear.false)

pub commands-preserved : goal.commands-preserved
commands-preserved c =
    let a = c.args in
    let l = a.part.now in
    let o = c.commands in
    let x = get_or l (o.i + 1) 0 in
    let h = c.parts-h.ensures in
    let f = facts (goal.at.commands-preserved c).Else-not-here-is_clear in
    let b = c.requires.at_in_bounds in
    let w = c.put_command-n in
    let n = c.added-writes.ensures.0 in
    let even : (count_of x + 3) / 2 * 2 ≡ words_of x = omega arith in
    let here : o.i + words_of x ≤ length l = omega (arith, f.0, c.commands-test.true) in
    let p = so_far a.p o.come o.place o.first o.id o.mask o.step o.writes in
    let q = commanded l p (get_or l o.i 0) x in
    let s = lent a.state.now in
    let t = lent o.state in (
      w.ensures.same ∙ o.invariant.0,
      rw (c.words_taken-taken.ensures, c.last_id-last.ensures, n, h.0, h.1, h.2, h.3, even)
          (leads_on l a.p p q a.at o.i (o.i + words_of x) s t _ _ _ _ o.invariant.1
          (leads_by l p q o.i (o.i + words_of x) t _ _ _
          (command_way l o.i p b.1 b.2 b.3 b.4 here f.1
          (λ k y z. clear_fault (id_of x) (last_id (id_of x) (count_of x) (step_of x)) k (mask_of x) f.2 y z))
          here (rw (h.0, h.1, h.2, h.3) at w.ensures.state) (rw (h.0, h.1, h.2, h.3) at w.ensures.count))
          refl),
    )
