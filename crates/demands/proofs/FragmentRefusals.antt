-- Each refusal of decoding and of a fragment is one of the table's rows for that call, and its place is what the row says. Assumes nothing.
use mathlib.Core.Path.{◌≡◌, refl, sym, ap, ◌∙◌}
use mathlib.Core.Bool.{Bool, true, false, not, ◌&&◌, false≢true}
use mathlib.Core.List.{List, [], ◌∷◌}
use mathlib.Core.Logic.{◌⊎◌, inl, inr}
use Prim.Native.Nat.{ℕ, ◌≤◌}
use native.Mathlib.Omega.{arith}
use lib.Dec.{T, eqb, ltb}
use borrow.Author.Tests.{eqb-true, ltb-true, ltb-false, eq-eqb}
use Rattle.numbers.specs.Pick.{pick}
use Rattle.numbers.proofs.Tests.{both}
use Rattle.registers.specs.State.{State, sized}
use Rattle.registers.specs.Held.{held, bits_in, bits_of}
use Rattle.words.specs.Reasons.{number_of as number}
use Rattle.words.specs.declared.Reason.{Reason}
use Rattle.words.specs.declared.Reason.TheVariants.{BufferLength, CodeWithoutName, DepthAboveLargest, NotBuilt}
use Rattle.words.specs.declared.Refusal.{Refusal}
use Rattle.settings.specs.declared.records.Settings.{Settings}
use Rattle.decode.specs.Codes.{Check, stage_checks, frame_checks, checks, lacks_at}
use Rattle.decode.specs.Decoded.{settings_of, nameless_id, refusal, decoded_of, decodable, refusal_of, values_of}
use Rattle.decode.proofs.Lowest.{refused_lowest}
use Rattle.decode.proofs.Cases.{decodable_held, else_refused}
use Rattle.fragment.proofs.Unbuilt.{drawn_lowest}
use Rattle.fragment.proofs.Widths.{drawn_tested}
use Rattle.combiner.specs.declared.Given.{Given}
use Rattle.stores.specs.declared.Stored.{Stored}
use Rattle.fragment.specs.Drawn.{unbuilt_at, unbuilt_id, outcome_of, drawn_with, drawn_from, drawn_of}
use Rattle.fragment.specs.Drawn.{refusal as draw-refusal, number_of as draw-number, values_of as draw-values}
use Rattle.fragment.specs.declared.Outcome.{Outcome}
use Rattle.demands.specs.FragmentRefusals.{HeldId, top_of, DecodeRefused, DepthRefused, DrawRefused}
use Rattle.std.specs.Prelude.{Result, Ok, Err}

-- THE IDS ARE HELD

-- one test, computed over the registers that hold codes
all_held : List Check → Bool
all_held [] = true
all_held (c ∷ cs) = not (eqb (bits_of c.id) 0) && all_held cs

checks_held : (x : Settings) → T (all_held (checks x))
unfolding all_held checks stage_checks frame_checks bits_of bits_in held
checks_held x = tt

is_held : (i : ℕ) → T (not (eqb (bits_of i) 0)) → HeldId i
is_held i t z = go (eqb (bits_of i) 0) (eq-eqb (bits_of i) 0 z) t
  where
    go : (b : Bool) → b ≡ true → T (not b) → ⊥
    go true e t = t
    go false e t = false≢true e

by_id : (c : Check) (i : ℕ) (b : Bool) (later : Bool) → eqb c.id i ≡ b → pick b c.lacks later ≡ true → HeldId c.id
    → (later ≡ true → HeldId i) → HeldId i
by_id c i true later t e h rest = rw (eqb-true c.id i t) at h
by_id c i false later t e h rest = rest e

lacking_held : (cs : List Check) (i : ℕ) → T (all_held cs) → lacks_at cs i ≡ true → HeldId i
unfolding all_held lacks_at
lacking_held [] i t e = absurd (false≢true e)
lacking_held (c ∷ cs) i t e =
    let u = both (not (eqb (bits_of c.id) 0)) (all_held cs) t in
    by_id c i (eqb c.id i) (lacks_at cs i) refl e (is_held c.id u.0) (lacking_held cs i u.1)

-- those that can ask for what is not built
held_e0 : HeldId 0xE0
unfolding bits_of bits_in held
held_e0 = is_held 0xE0 tt

held_100 : HeldId 0x100
unfolding bits_of bits_in held
held_100 = is_held 0x100 tt

held_117 : HeldId 0x117
unfolding bits_of bits_in held
held_117 = is_held 0x117 tt

by_unbuilt : (i : ℕ) (a b c e0 r100 r117 : Bool) → eqb i 0xE0 ≡ a → eqb i 0x100 ≡ b → eqb i 0x117 ≡ c
    → pick a e0 (pick b r100 (pick c r117 false)) ≡ true → HeldId i
by_unbuilt i true b c e0 r100 r117 p q r e = rw (eqb-true i 0xE0 p) held_e0
by_unbuilt i false true c e0 r100 r117 p q r e = rw (eqb-true i 0x100 q) held_100
by_unbuilt i false false true e0 r100 r117 p q r e = rw (eqb-true i 0x117 r) held_117
by_unbuilt i false false false e0 r100 r117 p q r e = absurd (false≢true e)

unbuilt_held : (x : Settings) (i : ℕ) → unbuilt_at x i ≡ true → HeldId i
unfolding unbuilt_at
unbuilt_held x i e = by_unbuilt i (eqb i 0xE0) (eqb i 0x100) (eqb i 0x117) _ _ _ refl refl refl e

-- DECODING

-- why an answer refuses; of one that doesn't, anything
abbrev reason_in : {A : Type 0} → Result A Refusal → Reason
reason_in (Ok x) = BufferLength
reason_in (Err r) = r.reason

by_lengths : (s : State) (n : Reason) (p : ℕ) (a b : Bool) → sized s ≡ a
    → pick a (pick b (Ok (settings_of s)) (refusal CodeWithoutName (nameless_id s))) (refusal BufferLength 0) ≡ refusal n p
    → ((n ≡ BufferLength) × (p ≡ 0) × (sized s ≡ false)) ⊎ ((n ≡ CodeWithoutName) × (sized s ≡ true))
by_lengths s n p true true t e = absurd (let z : ◌≡◌ {A = ℕ} 0 1 = cc in omega arith)
by_lengths s n p true false t e = inr (sym (ap reason_in e), t)
by_lengths s n p false b t e = let z = ap values_of e in inl (sym (ap reason_in e), cc, t)

number_row : (s : State) (n : Reason) (p : ℕ) → decoded_of s ≡ refusal n p
    → ((n ≡ BufferLength) × (p ≡ 0) × (sized s ≡ false)) ⊎ ((n ≡ CodeWithoutName) × (sized s ≡ true))
unfolding decoded_of
number_row s n p e = by_lengths s n p (sized s) (eqb (nameless_id s) 0) refl e

pub decode_row : (s : State) (n : Reason) (p : ℕ) → decoded_of s ≡ refusal n p → DecodeRefused s (number n) p
decode_row s n p e = go (number_row s n p e)
  where
    go : ((n ≡ BufferLength) × (p ≡ 0) × (sized s ≡ false)) ⊎ ((n ≡ CodeWithoutName) × (sized s ≡ true)) → DecodeRefused s (number n) p
    go (inl r) = inl (ap number r.0, r.1, r.2)
    go (inr z) =
        let l = refused_lowest s p (rw z.0 at e) in
        let h = lacking_held (checks (settings_of s)) p (checks_held (settings_of s)) l.0 in
        inr (record { number = ap number z.0; lengths = z.1; held = h; why = l.0; lowest = l.1 })

-- A FRAGMENT

-- where no register is named, none asks for what is not built
none_unbuilt : (e0 r100 r117 : Bool) → ◌≡◌ {A = ℕ} (pick e0 0xE0 (pick r100 0x100 (pick r117 0x117 0))) 0 → (a b c : Bool)
    → pick a e0 (pick b r100 (pick c r117 false)) ≡ false
none_unbuilt true r100 r117 e a b c = absurd (omega arith)
none_unbuilt false true r117 e a b c = absurd (omega arith)
none_unbuilt false false true e a b c = absurd (omega arith)
none_unbuilt false false false e true b c = refl
none_unbuilt false false false e false true c = refl
none_unbuilt false false false e false false true = refl
none_unbuilt false false false e false false false = refl

all_built : (x : Settings) → unbuilt_id x ≡ 0 → (j : ℕ) → unbuilt_at x j ≡ false
unfolding unbuilt_id unbuilt_at
all_built x e j = none_unbuilt _ _ _ e (eqb j 0xE0) (eqb j 0x100) (eqb j 0x117)

module _ (s : State) (incoming : ℕ) (stored : Stored) where
  abbrev x : Settings
  x = settings_of s

  -- the tests after decoding, in their order
  abbrev Tested : Result Outcome Refusal → Bool → Bool → Bool → Result Outcome Refusal
  Tested done a b c =
      pick a (pick b (draw-refusal DepthAboveLargest 0) (pick c (draw-refusal DepthAboveLargest 1) done))
      (draw-refusal NotBuilt (unbuilt_id x))

  module _ (n : Reason) (p : ℕ) (held : decoded_of s ≡ Ok (settings_of s)) where
    -- 14, or 12 by one of the depths
    abbrev Later : Type 0
    Later = (n ≡ NotBuilt) ⊎ DepthRefused s incoming stored.depth (number n) p

    by_depth : (o : Outcome) (a b c : Bool) → eqb (unbuilt_id x) 0 ≡ a → ltb (top_of s) incoming ≡ b → ltb (top_of s) stored.depth ≡ c
        → Tested (Ok o) a b c ≡ draw-refusal n p → Later
    by_depth o true true c v t u e =
        let z = ap draw-values e in
        let built = all_built x (eqb-true (unbuilt_id x) 0 v) in
        inr (record { number = sym (ap draw-number e); decoded = held; built = built; why = inl (cc, ltb-true (top_of s) incoming t) })
    by_depth o true false true v t u e =
        let z = ap draw-values e in
        let built = all_built x (eqb-true (unbuilt_id x) 0 v) in
        inr
        (record {
          number = sym (ap draw-number e);
          decoded = held;
          built = built;
          why = inr (cc, ltb-false (top_of s) incoming t, ltb-true (top_of s) stored.depth u);
        })
    by_depth o true false false v t u e = absurd (let z : ◌≡◌ {A = ℕ} 0 1 = cc in omega arith)
    by_depth o false b c v t u e = inl (sym (ap reason_in e))

    with_row : (g : Given) → drawn_with (settings_of s) g incoming stored ≡ draw-refusal n p → Later
    unfolding drawn_with
    with_row g e = by_depth (outcome_of x g incoming stored) _ _ _ refl refl refl e

  -- by what decoding gives: a fragment hands its refusals on
  same : (r : Refusal) (n : Reason) (p : ℕ) → Err r ≡ draw-refusal n p → r ≡ record { reason = n; place = p }
  same r n p e = cc

  from_decoded : (n : Reason) (p : ℕ) (g : Given) (t : Bool) → decodable s ≡ t → drawn_of s g incoming stored ≡ draw-refusal n p
      → DecodeRefused s (number n) p ⊎ (n ≡ NotBuilt) ⊎ DepthRefused s incoming stored.depth (number n) p
  unfolding drawn_from
  from_decoded n p g true d e = let h = decodable_held s d in inr (with_row n p h g (rw h at e))
  from_decoded n p g false d e =
      let q = else_refused s d in
      let r : refusal_of s ≡ record { reason = n; place = p } = same (refusal_of s) n p (rw q at e) in
      inl (decode_row s n p (q ∙ ap Err r))

  pub draw_row : (n : Reason) (p : ℕ) (g : Given) → drawn_of s g incoming stored ≡ draw-refusal n p
      → DrawRefused s incoming stored.depth (number n) p
  draw_row n p g e = go (from_decoded n p g (decodable s) refl e)
    where
      go : DecodeRefused s (number n) p ⊎ (n ≡ NotBuilt) ⊎ DepthRefused s incoming stored.depth (number n) p
          → DrawRefused s incoming stored.depth (number n) p
      go (inl r) = inl r
      go (inr (inr r)) = inr (inr r)
      go (inr (inl z)) =
          let l = drawn_lowest s g incoming stored p (rw z at e) in
          let h = unbuilt_held (settings_of s) p l.1 in
          inr (inl (record { number = ap number z; decoded = l.0; held = h; why = l.1; lowest = l.2 }))

  -- AN ANSWER comes only where all of that passed
  pub done_only : (g : Given) (o : Outcome) → drawn_with (settings_of s) g incoming stored ≡ Ok o
      → ((j : ℕ) → unbuilt_at (settings_of s) j ≡ false) × (incoming ≤ top_of s) × (stored.depth ≤ top_of s)
  done_only g o e = let r = drawn_tested (settings_of s) g incoming stored o e in (all_built x r.0, r.1, r.2)
