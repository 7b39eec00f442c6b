-- THE OTHER WAY ROUND, from the contracts alone: where no row of the table holds, a call answers, and so what it answers is said for all
-- inputs. Of a list that is read, of its writes and of a run that is packed this is in EndToEnd.antt and Between.antt. Assumes nothing.
use mathlib.Core.Path.{◌≡◌, sym, ap, ◌∙◌}
use mathlib.Core.Bool.{Bool, true, false, false≢true}
use mathlib.Core.Logic.{inl, inr, ⊎_elim}
use Prim.Native.Nat.{ℕ, ◌≤◌}
use native.Mathlib.Omega.{arith}
use borrow.Author.Tests.{eqb-true}
use Rattle.numbers.specs.Bits.{spread}
use Rattle.words.specs.Writes.{Write, fault_of, allowed}
use Rattle.words.proofs.Laws.{allowed_fault}
use Rattle.registers.specs.State.{State, sized}
use Rattle.registers.specs.Applied.{apply, differs}
use Rattle.decode.specs.Decoded.{settings_of, nameless}
use Rattle.combiner.specs.declared.Given.{Given}
use Rattle.stores.specs.declared.Stored.{Stored}
use Rattle.fragment.specs.Drawn.{unbuilt_at, outcome_of}
use Rattle.demands.specs.Refusals.{WriteRefused}
use Rattle.demands.specs.FragmentRefusals.{DecodeRefused, DrawRefused, top_of}
use Rattle.demands.proofs.Refusals.{fault_numbered}
use Rattle.demands.proofs.Calls.{WriteCall, DecodeCall, DrawCall}
use Rattle.demands.proofs.EndToEnd.{write_refuses, write_leaves, decode_refuses, decode_answers, draw_refuses, draw_answers}
use Rattle.std.specs.Prelude.{Result, Ok, Err}
use Rattle.words.specs.declared.Refusal.{Refusal}
use Rattle.settings.specs.declared.records.Settings.{Settings}
use Rattle.fragment.specs.declared.Outcome.{Outcome}
use Rattle.words.specs.Reasons.{number_of}

clash : {b : Bool} → b ≡ true → b ≡ false → ⊥
clash t f = false≢true (sym f ∙ t)

-- A SINGLE WRITE that is allowed, under a mask of at most 15, is done, and tells whether it made a difference
not_refused : (s : State) (w : Write) (n p : ℕ) → sized s ≡ true → w.mask ≤ 15 → allowed w.id w.mask ≡ true
    → WriteRefused s w n p → ⊥
not_refused s w n p z m a r =
    let no_fault : fault_of w.id w.mask ≡ 0 =
    eqb-true (fault_of w.id w.mask) 0 (sym (allowed_fault w.id w.mask) ∙ a) in
    ⊎_elim (λ x. clash z x.1)
    (⊎_elim (λ x. omega (arith, x.2, m)) (λ x. fault_numbered n x.2 (sym x.3 ∙ no_fault))) r.why

pub write_accepts : {s t : State} {w : Write} {a : Result Bool Refusal} → WriteCall s w a t → sized s ≡ true → w.mask ≤ 15
    → allowed w.id w.mask ≡ true → (a ≡ Ok (differs s w.id (spread w.mask) w.value)) × (t ≡ apply s w)
write_accepts {a = Ok d} c z m e = (ap Ok (write_leaves c).4, (write_leaves c).3)
write_accepts {s} {t} {w} {a = Err why} c z m e = absurd (not_refused s w _ _ z m e (write_refuses c).1)

-- A STATE of the right lengths in which no register holds a code without a name is decoded
pub decode_accepts : {s : State} {a : Result Settings Refusal} → DecodeCall s a → sized s ≡ true → ((j : ℕ) → nameless s j ≡ false)
    → a ≡ Ok (settings_of s)
decode_accepts {a = Ok x} c z n = ap Ok (decode_answers c).2
decode_accepts {s} {a = Err why} c z n = absurd (go (decode_refuses c))
  where
    go : DecodeRefused s (number_of why.reason) why.place → ⊥
    go (inl r) = clash z r.2
    go (inr r) = clash r.why (n why.place)

-- A FRAGMENT on such a state, where it is built and both depths are within the format, is drawn
pub draw_accepts : {s : State} {g : Given} {incoming : ℕ} {stored : Stored} {a : Result Outcome Refusal} → DrawCall s g incoming stored a
    → sized s ≡ true → ((j : ℕ) → nameless s j ≡ false) → ((j : ℕ) → unbuilt_at (settings_of s) j ≡ false)
    → incoming ≤ top_of s → stored.depth ≤ top_of s → a ≡ Ok (outcome_of (settings_of s) g incoming stored)
draw_accepts {a = Ok o} c z n b h k = ap Ok (draw_answers c).4
draw_accepts {s} {g} {incoming} {stored} {a = Err why} c z n b h k = absurd (go (draw_refuses c))
  where
    go : DrawRefused s incoming stored.depth (number_of why.reason) why.place → ⊥
    go (inl (inl r)) = clash z r.2
    go (inl (inr r)) = clash r.why (n why.place)
    go (inr (inl r)) = clash r.why (b why.place)
    go (inr (inr r)) = ⊎_elim (λ x. omega (arith, x.1, h)) (λ x. omega (arith, x.2, k)) r.why
