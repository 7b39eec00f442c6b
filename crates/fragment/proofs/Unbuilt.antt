-- The id of a refusal NotBuilt is of a register that asks for what is not built, and no lower id is. Assumes nothing.
use mathlib.Core.Path.{◌≡◌, refl, ap}
use mathlib.Core.Bool.{Bool, true, false, false≢true}
use Prim.Native.Nat.{ℕ, ◌≤◌}
use native.Mathlib.Omega.{arith}
use lib.Dec.{eqb, ltb}
use borrow.Author.Tests.{eqb-true, eqb-false}
use Rattle.numbers.specs.Pick.{pick}
use Rattle.settings.specs.declared.records.Settings.{Settings}
use Rattle.words.specs.declared.Reason.TheVariants.{DepthAboveLargest, NotBuilt}
use Rattle.words.specs.Reasons.{number_of as reason_number}
use Rattle.registers.specs.State.{State, sized}
use Rattle.decode.specs.Decoded.{settings_of, nameless_id, decoded_of, decodable, length_refusal, code_refusal, refusal_of}
use Rattle.std.specs.Prelude.{Ok, Err}
use Rattle.decode.proofs.Cases.{decodable_held, else_refused}
use Rattle.combiner.specs.declared.Given.{Given}
use Rattle.stores.specs.declared.Stored.{Stored}
use Rattle.fragment.specs.Drawn.{fog_unbuilt, operation_unbuilt, format_unbuilt, unbuilt_at, unbuilt_id, outcome_of, largest}
use Rattle.fragment.specs.Drawn.{refusal, drawn_with, drawn_from, drawn_of, number_of, values_of}
use Rattle.fragment.specs.declared.Outcome.{Outcome}

-- by the tests of E0, 100 and 117: the first that holds, and whether that of i does
abbrev first : Bool → Bool → Bool → ℕ
first e0 r100 r117 = pick e0 0xE0 (pick r100 0x100 (pick r117 0x117 0))

abbrev holds_at : Bool → Bool → Bool → ℕ → Bool
holds_at e0 r100 r117 i = pick (eqb i 0xE0) e0 (pick (eqb i 0x100) r100 (pick (eqb i 0x117) r117 false))

first_holds : (e0 r100 r117 : Bool) → (first e0 r100 r117 ≡ 0 → ⊥) → holds_at e0 r100 r117 (first e0 r100 r117) ≡ true
first_holds true r100 r117 h = refl
first_holds false true r117 h = refl
first_holds false false true h = refl
first_holds false false false h = absurd (h refl)

first_lowest : (e0 r100 r117 : Bool) (j : ℕ) (x y z : Bool) → eqb j 0xE0 ≡ x → eqb j 0x100 ≡ y → eqb j 0x117 ≡ z
    → pick x e0 (pick y r100 (pick z r117 false)) ≡ true → first e0 r100 r117 ≤ j
first_lowest e0 r100 r117 j true y z p q r e = rw e (omega (arith, eqb-true j 0xE0 p))
first_lowest true r100 r117 j false true z p q r e = omega (arith, eqb-true j 0x100 q)
first_lowest false r100 r117 j false true z p q r e = rw e (omega (arith, eqb-true j 0x100 q))
first_lowest true r100 r117 j false false true p q r e = omega (arith, eqb-true j 0x117 r)
first_lowest false true r117 j false false true p q r e = omega (arith, eqb-true j 0x117 r)
first_lowest false false r117 j false false true p q r e = rw e (omega (arith, eqb-true j 0x117 r))
first_lowest e0 r100 r117 j false false false p q r e = absurd (false≢true e)

module _ (x : Settings) where
  unbuilt_holds : (unbuilt_id x ≡ 0 → ⊥) → unbuilt_at x (unbuilt_id x) ≡ true
  unfolding unbuilt_id unbuilt_at
  unbuilt_holds h =
      first_holds (fog_unbuilt x.buffer_fog.update) (operation_unbuilt x.framebuffer.blending.operation)
      (format_unbuilt x.framebuffer.buffers.colour_format) h

  unbuilt_lowest : (j : ℕ) → unbuilt_at x j ≡ true → unbuilt_id x ≤ j
  unfolding unbuilt_id unbuilt_at
  unbuilt_lowest j e =
      first_lowest (fog_unbuilt x.buffer_fog.update) (operation_unbuilt x.framebuffer.blending.operation)
      (format_unbuilt x.framebuffer.buffers.colour_format) j (eqb j 0xE0) (eqb j 0x100) (eqb j 0x117) refl refl refl e

-- an answer's shape: `e` for all built, `a` and `b` for depths above the largest
by_refusal : (e a b : Bool) (n i : ℕ) (o : Outcome) → eqb n 0 ≡ e
    → pick e (pick a (refusal DepthAboveLargest 0) (pick b (refusal DepthAboveLargest 1) (Ok o))) (refusal NotBuilt n) ≡ refusal NotBuilt i → (n ≡ i) × (n ≡ 0 → ⊥)
by_refusal true true b n i o t q = let z = ap number_of q in absurd (omega arith)
by_refusal true false true n i o t q = let z = ap number_of q in absurd (omega arith)
by_refusal true false false n i o t q = let z = ap number_of q in absurd (omega arith)
by_refusal false a b n i o t q = let z = ap values_of q in (cc, eqb-false n 0 t)

-- the refusals of decoding are others
not_14 : (b : Bool) (i : ℕ) → reason_number (pick b (code_refusal i) length_refusal).reason ≡ 14 → ⊥
not_14 true i e = omega arith
not_14 false i e = omega arith

refused_not_14 : (s : State) (i : ℕ) → Err (refusal_of s) ≡ refusal NotBuilt i → ⊥
unfolding refusal_of
refused_not_14 s i e = not_14 (sized s) (nameless_id s) (ap number_of e)

module _ (s : State) (g : Given) (incoming : ℕ) (stored : Stored) (i : ℕ) where
  with_lowest : drawn_with (settings_of s) g incoming stored ≡ refusal NotBuilt i
      → (unbuilt_at (settings_of s) i ≡ true) × ((j : ℕ) → unbuilt_at (settings_of s) j ≡ true → i ≤ j)
  unfolding drawn_with
  with_lowest e =
      let x = settings_of s in
      let top = largest x.framebuffer.buffers.depth_format in
      let q =
      by_refusal (eqb (unbuilt_id x) 0) (ltb top incoming) (ltb top stored.depth) (unbuilt_id x) i (outcome_of x g incoming stored) refl
      e in
      (rw q.0 at (unbuilt_holds x q.1), λ j h. rw q.0 at (unbuilt_lowest x j h))

  by_decoded : (t : Bool) → decodable s ≡ t → drawn_of s g incoming stored ≡ refusal NotBuilt i
      → (decoded_of s ≡ Ok (settings_of s)) × (unbuilt_at (settings_of s) i ≡ true)
      × ((j : ℕ) → unbuilt_at (settings_of s) j ≡ true → i ≤ j)
  unfolding drawn_from
  by_decoded true d e = let h = decodable_held s d in let w = with_lowest (rw h at e) in (h, w.0, w.1)
  by_decoded false d e = absurd (refused_not_14 s i (rw (else_refused s d) at e))

  -- THE REFUSED ID IS THE LOWEST: the state is decoded, its register i asks for what is not built, and none below it does
  pub drawn_lowest : drawn_of s g incoming stored ≡ refusal NotBuilt i
      → (decoded_of s ≡ Ok (settings_of s)) × (unbuilt_at (settings_of s) i ≡ true)
      × ((j : ℕ) → unbuilt_at (settings_of s) j ≡ true → i ≤ j)
  drawn_lowest e = by_decoded (decodable s) refl e
