-- The id of a refusal CodeWithoutName holds a code without a name, and no lower id does; a state that is decoded has none. Assumes nothing.
use mathlib.Core.Path.{◌≡◌, refl, ap, ◌∙◌}
use mathlib.Core.Bool.{Bool, true, false, not, ◌&&◌, ◌||◌, false≢true}
use mathlib.Core.List.{List, [], ◌∷◌}
use Prim.Native.Nat.{ℕ, ◌<◌, ◌≤◌}
use native.Mathlib.Omega.{arith}
use lib.Dec.{T, eqb, ltb, ltb→lt}
use borrow.Author.Tests.{eq-eqb, ne_eqb, eqb-true, eqb-false}
use Rattle.numbers.specs.Pick.{pick}
use Rattle.numbers.proofs.Tests.{both}
use Rattle.registers.specs.State.{State, sized}
use Rattle.decode.specs.Codes.{Check, check, stage_checks, frame_checks, checks, first_of, lowest, lacks_at, any_of, any_lacks}
use Rattle.decode.specs.Decoded.{number_of, values_of, settings_of, nameless, nameless_id, refusal, decoded_of}
use Rattle.settings.specs.declared.records.Settings.{Settings}
use Rattle.words.specs.declared.Reason.TheVariants.{BufferLength, CodeWithoutName}
use Rattle.std.specs.Prelude.{Ok}
use Rattle.decode.proofs.First.{none_first}

-- ids rise from above n
rising : ℕ → List Check → Bool
rising n [] = true
rising n (c ∷ cs) = ltb n c.id && rising c.id cs

-- one test, computed over the registers that hold codes
checks_rise : (s : Settings) → T (rising 0 (checks s))
unfolding rising checks stage_checks frame_checks
checks_rise s = tt

at_or_after : (i j : ℕ) (b x y : Bool) → eqb i j ≡ b → pick b x y ≡ true → (y ≡ true → i < j) → i ≤ j
at_or_after i j true x y t e h = let q = eqb-true i j t in omega arith
at_or_after i j false x y t e h = let l : i < j = h e in omega arith

after : (b y : Bool) → pick b false y ≡ true → y ≡ true
after true y e = absurd (false≢true e)
after false y e = e

-- what lacks a name in a list that rises from above n is above n
above : (cs : List Check) (n : ℕ) → T (rising n cs) → (j : ℕ) → lacks_at cs j ≡ true → n < j
unfolding rising lacks_at
above [] n t j e = absurd (false≢true e)
above (c ∷ cs) n t j e =
    let u = both (ltb n c.id) (rising c.id cs) t in
    let h : n < c.id = ltb→lt n c.id u.0 in
    let l : c.id ≤ j = at_or_after c.id j (eqb c.id j) c.lacks (lacks_at cs j) refl e (above cs c.id u.1 j) in
    omega arith

-- i is the lowest id that lacks a name, or 0 where none does
pub record Least (lacks : ℕ → Bool) (i : ℕ) : Type 0 where
  pub holds : (i ≡ 0 → ⊥) → lacks i ≡ true
  pub below : (j : ℕ) → lacks j ≡ true → (0 < i) × (i ≤ j)

least_more : (i : ℕ) (l : Bool) (cs : List Check) → 0 < i → T (rising i cs) → Least (lacks_at cs) (lowest cs)
    → Least (lacks_at (check i l ∷ cs)) (lowest (check i l ∷ cs))
unfolding lacks_at first_of
least_more i true cs h t r =
    record {
      holds = λ z. rw (eq-eqb i i refl);
      below = λ j e. (h, at_or_after i j (eqb i j) true (lacks_at cs j) refl e (above cs i t j));
    }
least_more i false cs h t r =
    record {
      holds =
          λ z.
          let e = r.holds z in
          let l : i < lowest cs = above cs i t (lowest cs) e in
          rw (ne_eqb i (lowest cs) (λ q. omega arith)) e;
      below = λ j e. r.below j (after (eqb i j) (lacks_at cs j) e);
    }

least_none : Least (lacks_at []) (lowest [])
unfolding lacks_at first_of
least_none = record { holds = λ h. absurd (h refl); below = λ j e. absurd (false≢true e) }

least : (cs : List Check) (n : ℕ) → T (rising n cs) → Least (lacks_at cs) (lowest cs)
unfolding rising
least [] n t = least_none
least (c ∷ cs) n t =
    let u = both (ltb n c.id) (rising c.id cs) t in
    let h : n < c.id = ltb→lt n c.id u.0 in
    least_more c.id c.lacks cs (omega arith) u.1 (least cs c.id u.1)

nameless_least : (s : State) → Least (nameless s) (nameless_id s)
nameless_least s = least (checks (settings_of s)) 0 (checks_rise (settings_of s))

not_so : (b : Bool) → (b ≡ true → ⊥) → b ≡ false
not_so true h = absurd (h refl)
not_so false h = refl

-- an answer's shape: `b` for the lengths, `e` for no code without a name
by_refusal : (b e : Bool) (n i : ℕ) (x : Settings) → eqb n 0 ≡ e
    → pick b (pick e (Ok x) (refusal CodeWithoutName n)) (refusal BufferLength 0) ≡ refusal CodeWithoutName i → (n ≡ i) × (n ≡ 0 → ⊥)
by_refusal true true n i x t q = let z = ap number_of q in absurd (omega arith)
by_refusal true false n i x t q = let z = ap values_of q in (cc, eqb-false n 0 t)
by_refusal false e n i x t q = let z = ap number_of q in absurd (omega arith)

by_held : (b e : Bool) (n : ℕ) (x y : Settings) → eqb n 0 ≡ e
    → pick b (pick e (Ok x) (refusal CodeWithoutName n)) (refusal BufferLength 0) ≡ Ok y → n ≡ 0
by_held true true n x y t q = eqb-true n 0 t
by_held true false n x y t q = let z = ap number_of q in absurd (omega arith)
by_held false e n x y t q = let z = ap number_of q in absurd (omega arith)

-- THE REFUSED ID IS THE LOWEST
pub refused_lowest : (s : State) (i : ℕ) → decoded_of s ≡ refusal CodeWithoutName i → (nameless s i ≡ true) × ((j : ℕ) → nameless s j ≡ true → i ≤ j)
unfolding decoded_of
refused_lowest s i e =
    let q = by_refusal (sized s) (eqb (nameless_id s) 0) (nameless_id s) i (settings_of s) refl e in
    let l : Least (nameless s) i = rw q.0 at (nameless_least s) in
    (l.holds (λ z. q.1 (q.0 ∙ z)), λ j h. (l.below j h).1)

-- a state that is decoded has a name for every code
pub held_named : (s : State) (x : Settings) → decoded_of s ≡ Ok x → (j : ℕ) → nameless s j ≡ false
unfolding decoded_of
held_named s x e j =
    let z = by_held (sized s) (eqb (nameless_id s) 0) (nameless_id s) (settings_of s) x refl e in
    not_so (nameless s j) (λ h. let p = ((nameless_least s).below j h).0 in omega arith)

-- THE QUICK TEST: no id is 0, so that the lowest is 0 exactly where none lacks a name

positive : List Check → Bool
positive [] = true
positive (c ∷ cs) = ltb 0 c.id && positive cs

checks_positive : (s : Settings) → T (positive (checks s))
unfolding positive checks stage_checks frame_checks
checks_positive s = tt

first_some : (i n : ℕ) (t u : Bool) → 0 < i → (u ≡ true → n ≡ 0 → ⊥) → (t || u) ≡ true → pick t i n ≡ 0 → ⊥
first_some i n true u h k e z = omega arith
first_some i n false u h k e z = k e z

some_first : (cs : List Check) → T (positive cs) → any_lacks cs ≡ true → first_of cs 0 ≡ 0 → ⊥
unfolding positive first_of any_of
some_first [] p e z = false≢true e
some_first (c ∷ cs) p e z =
    let b = both (ltb 0 c.id) (positive cs) p in
    first_some c.id (first_of cs 0) c.lacks (any_of cs false) (ltb→lt 0 c.id b.0) (some_first cs b.1) e z

none_by : (cs : List Check) → T (positive cs) → (t : Bool) → any_lacks cs ≡ t → eqb (lowest cs) 0 ≡ not t
none_by cs p true e = ne_eqb (lowest cs) 0 (some_first cs p e)
none_by cs p false e = eq-eqb (lowest cs) 0 (none_first cs 0 e)

pub lowest_none : (s : Settings) → eqb (lowest (checks s)) 0 ≡ not (any_lacks (checks s))
lowest_none s = none_by (checks s) (checks_positive s) (any_lacks (checks s)) refl
