-- Where a step of the code leads within a part. Not of the document.
use Rattle.std.specs.Prelude.{◌≡◌, ℕ, ◌+◌, ◌≤◌, List, length, drop}
use Rattle.registers.specs.State.{State}
use Rattle.registers.specs.Applied.{apply_all, differences}
use Rattle.parts.specs.Progress.{after, made}
use Rattle.parts.specs.declared.Progress.{Progress}

-- from the progress p and the state s before word i of a part to q and t before word j, by writes of which d made a difference: what is
-- left of the part leads on from there to where it led before, and its count, with d, is what it was. Each word makes at most one write, so
-- that d is no more than the words gone over
pub record Leads (part : List ℕ) (p : Progress) (i : ℕ) (s : State) (q : Progress) (j : ℕ) (t : State) (d : ℕ) : Type 0 where
  pub few : d + i ≤ j
  pub inside : j ≤ length part
  pub progress : after q (drop j part) ≡ after p (drop i part)
  pub state : apply_all t (made q (drop j part)) ≡ apply_all s (made p (drop i part))
  pub counts : d + differences t (made q (drop j part)) ≡ differences s (made p (drop i part))
