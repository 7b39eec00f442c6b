-- "Every entry point answers, or refuses by a number of the table": each refusal of a list, a write or a run is one of the table's rows
-- for that call, and its place is what the row says. Assumes nothing.
use mathlib.Core.Path.{◌≡◌, refl, sym, ap, ◌∙◌}
use mathlib.Core.Bool.{Bool, true, false, not, ◌&&◌}
use mathlib.Core.List.{List, [], ◌∷◌}
use mathlib.Core.Logic.{◌⊎◌, inl, inr}
use Prim.Native.Nat.{ℕ, zero, suc, ◌+◌, ◌≤◌, ◌<◌}
use native.Mathlib.Omega.{arith}
use lib.Dec.{eqb, leb, ltb}
use lib.ListN.{length}
use borrow.Author.Tests.{leb-true, leb-false, ltb-true, ltb-false}
use Rattle.numbers.specs.Pick.{pick}
use Rattle.numbers.specs.Answer.{Answer, refused, unless_fault, answered}
use Rattle.numbers.proofs.Answers.{told_apart, number_one, place_one}
use Rattle.numbers.proofs.Picks.{pick_either}
use Rattle.words.specs.Writes.{Write, kept, jumps, port_data, fault_of}
use Rattle.words.specs.Commands.{header_at, whole, expand, commands, legal}
use Rattle.std.specs.Prelude.{Ok, Err}
use Rattle.words.specs.Taken.{parts_of, head_of}
use Rattle.words.specs.declared.Refusal.{Refusal}
use Rattle.registers.specs.State.{State, sized}
use Rattle.registers.specs.Applied.{difference}
use Rattle.registers.specs.Single.{refusal_of, write_answer}
use Rattle.reader.specs.ListVerdict.{first_fault, command_fault, judge, judged, verdict}
use Rattle.reader.specs.Read.{read_answer}
use Rattle.reader.proofs.Accepted.{judge_none, judge_more, judged_of_law}
use Rattle.demands.specs.Refusals.{In, FaultNumber, FirstAtFault, ListRefused, ReadRefused, WriteRefused}
use Rattle.words.specs.Reasons.{number_of}
use Rattle.words.specs.declared.Reason.TheVariants.{WordsMissing}

-- A WRITE'S FAULT is 3, 4 or 5

-- 0, or one of these
abbrev pub Perhaps : List ℕ → ℕ → Type 0
Perhaps l n = (n ≡ 0) ⊎ In n l

pub perhaps : (l : List ℕ) (n : ℕ) → Perhaps l n → (n ≡ 0 → ⊥) → In n l
perhaps l n (inl z) h = absurd (h z)
perhaps l n (inr i) h = i

pub fault_number_law : (i m : ℕ) → Perhaps (3 ∷ 4 ∷ 5 ∷ []) (fault_of i m)
unfolding fault_of
fault_number_law i m =
    let P = Perhaps (3 ∷ 4 ∷ 5 ∷ []) in
    pick_either P (ltb 0x2FF i) (inr (inl refl))
    (pick_either P (jumps i) (inr (inr (inl refl))) (pick_either P (port_data i && not (eqb m 15)) (inr (inr (inr (inl refl)))) (inl refl)))

pub fault_numbered : (n : ℕ) → FaultNumber n → n ≡ 0 → ⊥
fault_numbered n (inl e) z = omega arith
fault_numbered n (inr (inl e)) z = omega arith
fault_numbered n (inr (inr (inl e))) z = omega arith
fault_numbered n (inr (inr (inr e))) z = e

first_number : (ws : List Write) → Perhaps (3 ∷ 4 ∷ 5 ∷ []) (first_fault ws)
unfolding first_fault
first_number [] = inl refl
first_number (w ∷ ws) =
    let f = fault_of w.id w.mask in
    pick_either (Perhaps (3 ∷ 4 ∷ 5 ∷ [])) (eqb f 0) (first_number ws) (fault_number_law w.id w.mask)

-- A HEADER: 2 at the command's first word, where its words aren't all there

by_words : (l : List ℕ) (at : ℕ) (b : Bool) (r : Refusal) → whole l at ≡ b
    → pick b (Ok (parts_of (header_at l at))) (Err (record { reason = WordsMissing; place = at })) ≡ Err r
    → ((number_of r.reason) ≡ 2) × (r.place ≡ at) × (whole l at ≡ false)
by_words l at true r t e = absurd (let z : ◌≡◌ {A = ℕ} 0 1 = cc in omega arith)
by_words l at false r t e = (cc, cc, t)

pub head_row : (l : List ℕ) (at : ℕ) (r : Refusal) → head_of l at ≡ Err r
    → ((number_of r.reason) ≡ 2) × (r.place ≡ at) × (whole l at ≡ false)
unfolding head_of
head_row l at r e = by_words l at (whole l at) r refl e

-- A LIST

by_whole : (l : List ℕ) (p : ℕ) (b : Bool) → whole l p ≡ b → (n : ℕ) → pick b (first_fault (expand l p)) 2 ≡ n → (n ≡ 0 → ⊥)
    → ((n ≡ 2) × (whole l p ≡ false)) ⊎ ((whole l p ≡ true) × FaultNumber n × (first_fault (expand l p) ≡ n))
by_whole l p true t n e z =
    inr (t, perhaps (3 ∷ 4 ∷ 5 ∷ []) n (rw e at (first_number (expand l p))) z, e)
by_whole l p false t n e z = inl (sym e, t)

by_command : (l ps : List ℕ) (q f : ℕ) (rest : Answer) (n p : ℕ) → command_fault l q ≡ f → unless_fault f q rest ≡ refused n p
    → (rest ≡ refused n p → FirstAtFault l ps n p) → FirstAtFault l (q ∷ ps) n p
by_command l ps q zero rest n p c e more =
    let r = more e in
    let place = ap (λ (x : List ℕ). q ∷ x) r.place in
    record { earlier = q ∷ r.earlier; later = r.later; place = place; first = (c, r.first); why = r.why }
by_command l ps q (suc f) rest n p c e more =
    let a : suc f ≡ n = number_one e in
    let b : p ≡ q = sym (place_one e) in
    record {
      earlier = [];
      later = ps;
      place = rw b;
      first = tt;
      why = rw b (by_whole l q (whole l q) refl n (c ∙ a) (λ z. omega arith));
    }

judge_refused : (l ps : List ℕ) (m n p : ℕ) → judge l ps m ≡ refused n p → FirstAtFault l ps n p
judge_refused l [] m n p e = absurd (told_apart (sym (judge_none l m) ∙ e))
judge_refused l (q ∷ ps) m n p e =
    by_command l ps q (command_fault l q) _ n p refl (sym (judge_more l q ps m) ∙ e)
    (judge_refused l ps (m + length (kept (expand l q))) n p)

by_legal : (l : List ℕ) (n p : ℕ) (b : Bool) → legal l ≡ b → pick b (judged l) (refused 15 0) ≡ refused n p → ListRefused l n p
by_legal l n p true t e = inr (t, judge_refused l (commands l 0) 0 n p (sym (judged_of_law l) ∙ e))
by_legal l n p false t e = inl (sym (number_one e), sym (place_one e), t)

pub verdict_row : (l : List ℕ) (n p : ℕ) → verdict l ≡ refused n p → ListRefused l n p
unfolding verdict
verdict_row l n p e = by_legal l n p (legal l) refl e

by_length : (s : State) (l : List ℕ) (n p : ℕ) (a b : Bool) → sized s ≡ a → leb (length l) 65536 ≡ b
    → pick a (pick b (verdict l) (refused 1 0)) (refused 6 0) ≡ refused n p → ReadRefused s l n p
by_length s l n p true true t u e = inr (inr (t, leb-true _ _ u, verdict_row l n p e))
by_length s l n p true false t u e = inr (inl (sym (number_one e), sym (place_one e), t, leb-false _ _ u))
by_length s l n p false b t u e = inl (sym (number_one e), sym (place_one e), t)

pub read_row : (s : State) (l : List ℕ) (n p : ℕ) → read_answer s l ≡ refused n p → ReadRefused s l n p
unfolding read_answer
read_row s l n p e = by_length s l n p (sized s) (leb (length l) 65536) refl refl e

-- A SINGLE WRITE

by_zero : (f d n p : ℕ) → unless_fault f 0 (answered d) ≡ refused n p → (f ≡ n) × (p ≡ 0) × (n ≡ 0 → ⊥)
by_zero zero d n p e = absurd (told_apart e)
by_zero (suc f) d n p e = let a : suc f ≡ n = number_one e in (a, sym (place_one e), λ z. omega arith)

by_mask : (s : State) (w : Write) (n : ℕ) (a b : Bool) → sized s ≡ a → ltb 15 w.mask ≡ b
    → pick a (pick b 9 (fault_of w.id w.mask)) 6 ≡ n → (n ≡ 0 → ⊥)
    → ((n ≡ 6) × (sized s ≡ false)) ⊎ ((n ≡ 9) × (sized s ≡ true) × (15 < w.mask))
    ⊎ ((sized s ≡ true) × (w.mask ≤ 15) × FaultNumber n × (fault_of w.id w.mask ≡ n))
by_mask s w n true true t u e z = inr (inl (sym e, t, ltb-true _ _ u))
by_mask s w n true false t u e z =
    inr (inr (t, ltb-false _ _ u, perhaps (3 ∷ 4 ∷ 5 ∷ []) n (rw e at (fault_number_law w.id w.mask)) z, e))
by_mask s w n false b t u e z = inl (sym e, t)

pub write_row : (s : State) (w : Write) (n p : ℕ) → write_answer s w ≡ refused n p → WriteRefused s w n p
unfolding refusal_of
write_row s w n p e =
    let r = by_zero (refusal_of s w) (difference s w) n p e in
    record { place = r.1; why = by_mask s w n (sized s) (ltb 15 w.mask) refl refl r.0 r.2 }
