-- A list is accepted exactly when its length is legal, it is well formed and each of its writes is allowed, mask 0 too; the answer is
-- then the expansion's length. Assumes nothing.
use mathlib.Core.Path.{◌≡◌, refl, sym, ap, ◌∙◌}
use mathlib.Core.Bool.{Bool, true, false, ◌&&◌}
use mathlib.Core.List.{List, [], ◌∷◌, ◌++◌}
use Prim.Native.Nat.{ℕ, zero, suc, ◌+◌, ◌%◌}
use native.Mathlib.Omega.{arith}
use lib.Dec.{eqb}
use lib.ListN.{length, length-append}
use borrow.Author.Tests.{eq-eqb, eqb-true, ne_eqb}
use Rattle.numbers.specs.Pick.{pick}
use Rattle.numbers.specs.Answer.{answered, refused, unless_fault}
use Rattle.numbers.proofs.Tests.{and_true}
use Rattle.numbers.proofs.Answers.{unless_answered, told_apart}
use Rattle.words.specs.Writes.{Write, kept, fault_of, allowed}
use Rattle.words.specs.Commands.{whole, expand, commands, join, all_writes, expansion, full, well_formed, legal}
use Rattle.words.proofs.Laws.{all_of, expansion_of, kept_none, kept_append, join_none, join_more, formed_of, full_none, full_more}
use Rattle.words.proofs.Laws.{allowed_fault}
use Rattle.reader.specs.ListVerdict.{first_fault, command_fault, judge, judged, verdict, all_allowed}

-- RUNS OF WRITES

and_assoc : (a b c : Bool) → (a && (b && c)) ≡ (a && b && c)
and_assoc true b c = refl
and_assoc false b c = refl

pub allowed_append : (a b : List Write) → all_allowed (a ++ b) ≡ (all_allowed a && all_allowed b)
unfolding all_allowed
allowed_append [] b = refl
allowed_append (w ∷ a) b = rw (allowed_append a b) (and_assoc (allowed w.id w.mask) (all_allowed a) (all_allowed b))

by_fault : (f r : ℕ) (b : Bool) → b ≡ eqb r 0 → (eqb f 0 && b) ≡ eqb (pick (eqb f 0) r f) 0
by_fault zero r b e = e
by_fault (suc f) r b e = let n = ne_eqb (suc f) 0 (λ z. omega arith) in rw n (sym n)

-- every write of a run is allowed exactly when none is at fault
pub allowed_first : (ws : List Write) → all_allowed ws ≡ eqb (first_fault ws) 0
unfolding all_allowed first_fault
allowed_first [] = refl
allowed_first (w ∷ ws) =
    rw (allowed_fault w.id w.mask)
    (by_fault (fault_of w.id w.mask) (first_fault ws) (all_allowed ws) (allowed_first ws))

-- ONE COMMAND

no_fault : (b : Bool) (f : ℕ) → pick b f 2 ≡ 0 → (b ≡ true) × (f ≡ 0)
no_fault true f e = (refl, e)
no_fault false f e = absurd (omega arith)

-- ALL COMMANDS

pub judge_none : (l : List ℕ) (n : ℕ) → judge l [] n ≡ answered n
unfolding judge
judge_none l n = refl

pub judge_more : (l : List ℕ) (p : ℕ) (ps : List ℕ) (n : ℕ)
    → judge l (p ∷ ps) n ≡ unless_fault (command_fault l p) p (judge l ps (n + length (kept (expand l p))))
unfolding judge
judge_more l p ps n = refl

pub record Accepted (l : List ℕ) (ps : List ℕ) (n m : ℕ) : Type 0 where
  pub form : full l ps ≡ true
  pub writes : all_allowed (join l ps) ≡ true
  pub number : m ≡ n + length (kept (join l ps))

nil_allowed : all_allowed [] ≡ true
unfolding all_allowed
nil_allowed = refl

-- the writes of the expansion, command by command
joined : (l : List ℕ) (p : ℕ) (ps : List ℕ) → length (kept (join l (p ∷ ps))) ≡ length (kept (expand l p)) + length (kept (join l ps))
joined l p ps = rw (join_more l p ps, kept_append (expand l p) (join l ps)) (length-append (kept (expand l p)) (kept (join l ps)))

pub judge_accepted : (l ps : List ℕ) (n m : ℕ) → judge l ps n ≡ answered m → Accepted l ps n m
judge_accepted l [] n m e =
    let d : n ≡ m = cc (judge_none l n) in
    record { form = full_none l; writes = rw (join_none l) nil_allowed; number = rw (join_none l, kept_none) (omega arith) }
judge_accepted l (p ∷ ps) n m e =
    let q = unless_answered (command_fault l p) p m (judge l ps (n + length (kept (expand l p)))) (sym (judge_more l p ps n) ∙ e) in
    let r = judge_accepted l ps (n + length (kept (expand l p))) m q.1 in
    let f = no_fault (whole l p) (first_fault (expand l p)) q.0 in
    let a : all_allowed (expand l p) ≡ true = allowed_first (expand l p) ∙ eq-eqb (first_fault (expand l p)) 0 f.1 in
    record {
      form = full_more l p ps ∙ rw f.0 r.form;
      writes = rw (join_more l p ps, allowed_append (expand l p) (join l ps), a) r.writes;
      number = rw (joined l p ps) (omega (arith, r.number));
    }

pub judge_accepts : (l ps : List ℕ) (n : ℕ) → full l ps ≡ true → all_allowed (join l ps) ≡ true
    → judge l ps n ≡ answered (n + length (kept (join l ps)))
judge_accepts l [] n f a = let z : n ≡ n + 0 = omega arith in rw (join_none l, kept_none) (judge_none l n ∙ ap answered z)
judge_accepts l (p ∷ ps) n f a =
    let g = and_true (whole l p) (full l ps) (sym (full_more l p ps) ∙ f) in
    let b = and_true (all_allowed (expand l p)) (all_allowed (join l ps))
    (sym (allowed_append (expand l p) (join l ps)) ∙ (rw (join_more l p ps) at a)) in
    let z : first_fault (expand l p) ≡ 0 = eqb-true (first_fault (expand l p)) 0 (sym (allowed_first (expand l p)) ∙ b.0) in
    let s : n + length (kept (expand l p)) + length (kept (join l ps)) ≡ n + length (kept (join l (p ∷ ps))) =
    rw (joined l p ps) (omega arith) in
    judge_more l p ps n ∙ rw (g.0, z) (judge_accepts l ps (n + length (kept (expand l p))) g.1 b.1 ∙ ap answered s)

-- THE LIST, whatever its length

pub judged_of_law : (l : List ℕ) → judged l ≡ judge l (commands l 0) 0
unfolding judged
judged_of_law l = refl

pub judged_accepted : (l : List ℕ) (m : ℕ) → judged l ≡ answered m
    → (well_formed l ≡ true) × (all_allowed (all_writes l) ≡ true) × (m ≡ length (expansion l))
judged_accepted l m e =
    let r = judge_accepted l (commands l 0) 0 m (sym (judged_of_law l) ∙ e) in
    (formed_of l ∙ r.form, rw (all_of l) r.writes, rw (expansion_of l) (omega (arith, r.number)))

pub judged_accepts : (l : List ℕ) → well_formed l ≡ true → all_allowed (all_writes l) ≡ true → judged l ≡ answered (length (expansion l))
judged_accepts l f a =
    let n = length (kept (join l (commands l 0))) in
    let z : 0 + n ≡ n = omega arith in
    rw (expansion_of l)
    (judged_of_law l ∙ judge_accepts l (commands l 0) 0 (sym (formed_of l) ∙ f) (rw (all_of l) at a) ∙ ap answered z)

-- AND ITS LENGTH

pub verdict_legal : (l : List ℕ) → length l % 4 ≡ 0 → verdict l ≡ judged l
unfolding verdict
verdict_legal l h = rw (eq-eqb (length l % 4) 0 h)

pub verdict_odd : (l : List ℕ) → (length l % 4 ≡ 0 → ⊥) → verdict l ≡ refused 15 0
unfolding verdict
verdict_odd l h = rw (ne_eqb (length l % 4) 0 h)

by_length : (l : List ℕ) (m : ℕ) (b : Bool) → legal l ≡ b → pick b (judged l) (refused 15 0) ≡ answered m
    → (length l % 4 ≡ 0) × (judged l ≡ answered m)
by_length l m true t e = (eqb-true _ _ t, e)
by_length l m false t e = absurd (told_apart (sym e))

pub legal_judged : (l : List ℕ) (m : ℕ) → verdict l ≡ answered m → (length l % 4 ≡ 0) × (judged l ≡ answered m)
unfolding verdict
legal_judged l m e = by_length l m (legal l) refl e

pub verdict_accepted : (l : List ℕ) (m : ℕ) → verdict l ≡ answered m
    → (well_formed l ≡ true) × (all_allowed (all_writes l) ≡ true) × (m ≡ length (expansion l))
verdict_accepted l m e = judged_accepted l m (legal_judged l m e).1

pub verdict_accepts : (l : List ℕ) → length l % 4 ≡ 0 → well_formed l ≡ true → all_allowed (all_writes l) ≡ true
    → verdict l ≡ answered (length (expansion l))
verdict_accepts l h f a = verdict_legal l h ∙ judged_accepts l f a
