-- The close, by the tests that code makes. Assumes nothing.
use Rattle.std.proofs.Common.{◌≡◌, ◌+◌, ◌%◌, ◌<◌, ◌≤◌, true, false, ◌&&◌, eqb, arith, le-ltb, lt-ltb, eq-eqb, ne_eqb}
use mathlib.Core.Bool.{and-false}
use native.Mathlib.Decide.{dec_lt}
use Rattle.numbers.specs.Answer.{answered, refused}
use Rattle.parts.specs.Progress.{between, fault_number, judged_so_far, closing}
use Rattle.parts.specs.declared.Progress.{Progress}

module _ (p : Progress) where
  pub closes_long : 65536 < p.come → closing p ≡ refused 1 0
  unfolding closing
  closes_long h = rw (lt-ltb 65536 p.come h)

  pub closes_odd : p.come ≤ 65536 → (p.come % 4 ≡ 0 → ⊥) → closing p ≡ refused 15 0
  unfolding closing
  closes_odd h n = rw (le-ltb 65536 p.come h, ne_eqb (p.come % 4) 0 n)

  pub closes_legal : p.come ≤ 65536 → p.come % 4 ≡ 0 → closing p ≡ judged_so_far p
  unfolding closing
  closes_legal h n = rw (le-ltb 65536 p.come h, eq-eqb (p.come % 4) 0 n)

  -- what the commands so far say
  pub so_far_short : between p ≡ false → judged_so_far p ≡ refused 2 p.place
  so_far_short b = rw b

  pub so_far_accepted : between p ≡ true → p.fault ≡ 0 → judged_so_far p ≡ answered p.writes
  so_far_accepted b f = rw (b, eq-eqb p.fault 0 f)

  pub so_far_fault : between p ≡ true → (p.fault ≡ 0 → ⊥) → judged_so_far p ≡ refused (fault_number p.fault) p.place
  so_far_fault b f = rw (b, ne_eqb p.fault 0 f)

  pub all_come : p.left ≡ 0 → p.pad ≡ 0 → p.begun ≡ 0 → between p ≡ true
  all_come a b c = rw (eq-eqb p.left 0 a, eq-eqb p.pad 0 b, eq-eqb p.begun 0 c)

not_all : (p : Progress) → Dec (0 < p.left) → Dec (0 < p.pad) → 0 < p.left + p.pad + p.begun → between p ≡ false
not_all p (yes a) d h = rw (ne_eqb p.left 0 (λ z. omega arith))
not_all p (no a) (yes b) h = rw (ne_eqb p.pad 0 (λ z. omega arith), and-false (eqb p.left 0))
not_all p (no a) (no b) h = rw (ne_eqb p.begun 0 (λ z. omega arith)) (and-false (eqb p.left 0 && eqb p.pad 0))

pub some_lacks : (p : Progress) → 0 < p.left + p.pad + p.begun → between p ≡ false
some_lacks p h = not_all p (dec_lt 0 p.left) (dec_lt 0 p.pad) h
