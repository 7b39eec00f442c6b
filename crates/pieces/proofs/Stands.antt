-- Where a reading stands after the first j words of a list, against what its commands say and its expansion. Assumes nothing.
use mathlib.Core.Path.{◌≡◌, refl, sym, ◌∙◌}
use mathlib.Core.Bool.{Bool, true, false}
use mathlib.Core.List.{List, [], ◌∷◌, ◌++◌, append_assoc}
use Prim.Native.Nat.{ℕ, ◌+◌, ◌-◌, ◌≤◌, ◌<◌}
use native.Mathlib.Decide.{dec_lt}
use native.Mathlib.Omega.{arith}
use lib.Dec.{eqb}
use lib.ListN.{length, get_or}
use borrow.Author.Tests.{eq-eqb, eqb-true, eqb-false}
use Rattle.numbers.specs.Answer.{refused}
use Rattle.words.specs.Header.{mask_of, count_of, step_of, words_of, adds_of}
use Rattle.words.specs.Writes.{Write, writing, kept, fault_of}
use Rattle.words.specs.Commands.{header_at, param_at, run, expand, commands, join, expansion}
use Rattle.words.proofs.Laws.{run_done, run_next, kept_append}
use Rattle.reader.specs.ListVerdict.{first_fault, judge, judged}
use Rattle.reader.proofs.Judging.{run_none, run_good, run_bad, judge_fault, judge_pass}
use Rattle.parts.specs.Progress.{first_of, sound, fault_number}
use Rattle.parts.specs.declared.Progress.{Progress}
use Rattle.pieces.proofs.Faults.{number_known}

module _ (l : List ℕ) where
  -- between two commands
  pub record Between (j : ℕ) (p : Progress) (ws : List Write) : Type 0 where
    pub left : p.left ≡ 0
    pub pad : p.pad ≡ 0
    pub begun : p.begun ≡ 0
    pub fault : p.fault ≡ 0
    pub few : p.writes ≤ j
    pub answer : judge l (commands l j) p.writes ≡ judged l
    pub writes : ws ++ kept (join l (commands l j)) ≡ expansion l

  -- a command's first parameter has come
  pub record Begun (j : ℕ) (p : Progress) (ws : List Write) : Type 0 where
    pub left : p.left ≡ 0
    pub pad : p.pad ≡ 0
    pub begun : p.begun ≡ 1
    pub fault : p.fault ≡ 0
    pub few : p.writes ≤ p.place
    pub at : j ≡ p.place + 1
    pub first : p.first ≡ get_or l p.place 0
    pub answer : judge l (commands l p.place) p.writes ≡ judged l
    pub writes : ws ++ kept (join l (commands l p.place)) ≡ expansion l

  -- a command's header has come: what is left of it
  pub record Inside (j : ℕ) (p : Progress) (ws : List Write) : Type 0 where
    pub begun : p.begun ≡ 0
    pub here : p.place + 2 ≤ j
    pub at : j + p.left + p.pad ≡ p.place + words_of (header_at l p.place)
    pub param : 0 < p.left → j + p.left ≡ p.place + 2 + count_of (header_at l p.place)
    pub most : p.left ≤ count_of (header_at l p.place)
    pub small : p.id + p.left ≤ 65790
    pub step : p.step ≡ step_of (header_at l p.place)
    pub mask : p.mask ≡ mask_of (header_at l p.place)
    pub few : p.writes ≤ p.place + (count_of (header_at l p.place) + 1)
    pub some : adds_of (header_at l p.place) ≤ p.writes
    pub answer : judge l (commands l p.place) (p.writes - adds_of (header_at l p.place)) ≡ judged l
    pub faults : first_fault (expand l p.place)
        ≡ first_of p.fault (first_fault (run l p.place p.left (count_of (header_at l p.place) + 1 - p.left) (p.id + p.step)))
    pub writes : p.fault ≡ 0
        → ws ++ kept (run l p.place p.left (count_of (header_at l p.place) + 1 - p.left) (p.id + p.step)
        ++ join l (commands l (p.place + words_of (header_at l p.place)))) ≡ expansion l

  -- a command at fault has come whole
  pub record Ended (p : Progress) : Type 0 where
    pub left : p.left ≡ 0
    pub pad : p.pad ≡ 0
    pub begun : p.begun ≡ 0
    pub fault : p.fault ≡ 0 → ⊥
    pub answer : refused (fault_number p.fault) p.place ≡ judged l

  pub data Stands (j : ℕ) (p : Progress) (ws : List Write) : Type 0 where
    at_between : Between j p ws → Stands j p ws
    at_begun : Begun j p ws → Stands j p ws
    at_inside : Inside j p ws → 0 < p.left + p.pad → Stands j p ws
    at_end : Ended p → Stands j p ws

  -- ONE WRITE MORE of the command at a, of which n writes are left

  first_zero : (b : Bool) (f g : ℕ) → eqb f 0 ≡ b → first_of f g ≡ 0 → f ≡ 0
  first_zero true f g t e = eqb-true f 0 t
  first_zero false f g t e = rw t at e

  pub fault_next : (b c : Bool) (a n k i f : ℕ) → eqb f 0 ≡ b → eqb (fault_of i (mask_of (header_at l a))) 0 ≡ c → 0 < n
      → first_of f (first_fault (run l a n k i))
      ≡ first_of (first_of f (fault_of i (mask_of (header_at l a)))) (first_fault (run l a (n - 1) (k + 1) (i + step_of (header_at l a))))
  fault_next true true a n k i f t u h = rw (t, u) (run_good l a n k i h (eqb-true _ 0 u))
  fault_next true false a n k i f t u h = rw (t, u) (run_bad l a n k i h (eqb-false _ 0 u))
  fault_next false c a n k i f t u h = rw (t, t)

  pub writes_next : (a n k i f v : ℕ) (ws js es : List Write) → 0 < n → v ≡ param_at l a k
      → (f ≡ 0 → ws ++ kept (run l a n k i ++ js) ≡ es)
      → first_of f (fault_of i (mask_of (header_at l a))) ≡ 0
      → (ws ++ sound (first_of f (fault_of i (mask_of (header_at l a)))) (writing i (mask_of (header_at l a)) v))
      ++ kept (run l a (n - 1) (k + 1) (i + step_of (header_at l a)) ++ js) ≡ es
  writes_next a n k i f v ws js es h e w z =
      let m = mask_of (header_at l a) in
      let rest = run l a (n - 1) (k + 1) (i + step_of (header_at l a)) in
      let t = eq-eqb (first_of f (fault_of i m)) 0 z in
      let q = first_zero (eqb f 0) f (fault_of i m) refl z in
      let one = writing i m v ∷ [] in
      rw (t, append_assoc ws (kept one) (kept (rest ++ js)), ← (kept_append one (rest ++ js)), e) (rw (run_next l a n k i h) at (w q))

  -- WHERE A HEADER OR A LATER WORD OF A COMMAND LEADS
  module _ (j : ℕ) (p : Progress) (ws : List Write) (low : j ≤ length l) (s : Inside j p ws) where
    abbrev a : ℕ
    a = p.place

    abbrev h : ℕ
    h = header_at l a

    whole_fault : p.left + p.pad ≤ 0 → first_fault (expand l a) ≡ first_of p.fault 0
    whole_fault z =
        s.faults ∙ rw (run_none l a p.left (count_of h + 1 - p.left) (p.id + p.step) (omega arith))

    settle_by : (b : Bool) → eqb p.fault 0 ≡ b → p.left + p.pad ≤ 0 → Stands j p ws
    settle_by true t z =
        let e : j ≡ a + words_of h = omega (arith, s.at) in
        let f = eqb-true p.fault 0 t in
        let n : p.writes - adds_of h + adds_of h ≡ p.writes = omega (arith, s.some) in
        let none : first_fault (expand l a) ≡ 0 = whole_fault z ∙ rw t in
        let w = s.writes f in
        at_between
        (record {
          left = omega arith;
          pad = omega arith;
          begun = s.begun;
          fault = f;
          few = omega (arith, s.few);
          answer = rw e (rw n at (sym (judge_pass l a (p.writes - adds_of h) (omega arith) (omega arith) none)) ∙ s.answer);
          writes = rw e (rw (run_done l a p.left (count_of h + 1 - p.left) (p.id + p.step) (omega arith)) at w);
        })
    settle_by false t z =
        let e : j ≡ a + words_of h = omega (arith, s.at) in
        let f = eqb-false p.fault 0 t in
        let bad : first_fault (expand l a) ≡ p.fault = whole_fault z ∙ rw t in
        at_end
        (record {
          left = omega arith;
          pad = omega arith;
          begun = s.begun;
          fault = f;
          answer =
              rw (number_known (expand l a) p.fault bad f)
              (sym (judge_fault l a (p.writes - adds_of h) p.fault (omega arith) (omega arith) bad f) ∙ s.answer);
        })

    settle_dec : Dec (0 < p.left + p.pad) → Stands j p ws
    settle_dec (yes g) = at_inside s g
    settle_dec (no g) = settle_by (eqb p.fault 0) refl (omega arith)

    pub settle : Stands j p ws
    settle = settle_dec (dec_lt 0 (p.left + p.pad))
