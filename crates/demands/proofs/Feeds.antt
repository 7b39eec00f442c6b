-- Parts fed one after another, from the contract of feed: they lead where the joined list would lead at once. Assumes nothing.
use mathlib.Core.Path.{◌≡◌, refl, sym, ap, ◌∙◌}
use mathlib.Core.Bool.{Bool, true, false}
use mathlib.Core.List.{List, [], ◌∷◌, ◌++◌}
use Rattle.std.specs.Prelude.{Result}
use Rattle.words.specs.declared.Refusal.{Refusal}
use Prim.Native.Nat.{ℕ, ◌+◌, ◌<◌}
use native.Mathlib.Decide.{dec_lt}
use native.Mathlib.Omega.{arith}
use lib.ListN.{length}
use Rattle.registers.specs.State.{State, sized}
use Rattle.registers.specs.Applied.{apply_all, differences}
use Rattle.registers.proofs.Differences.{differences_none, differences_append}
use Rattle.commands.proofs.Applying.{apply_none, apply_append}
use Rattle.parts.specs.Progress.{plus, after, made, held_at, tallied, onward}
use Rattle.parts.specs.declared.Progress.{Progress}
use Rattle.parts.proofs.Steps.{after_none, after_append, made_none, made_append}
use Rattle.parts.proofs.Counts.{held_twice, come_held, counted_same}
use Rattle.pieces.specs.Pieces.{wrong_length, fed, feeding, fed_spare}
use Rattle.pieces.proofs.Calls.{feed_wrong, feed_right}
use Rattle.demands.proofs.Taken.{sized_kept}
use Rattle.demands.proofs.Tallies.{after_tallied, made_tallied}
use Rattle.demands.proofs.Calls.{FeedCall, feed_call}
use Rattle.std.specs.Prelude.{Result, Ok}

-- THE LIST THAT PARTS ARE CUT FROM, at any places, parts of zero words among them
unfoldable pub joined : List (List ℕ) → List ℕ
joined [] = []
joined (l ∷ ls) = l ++ joined ls

-- a part fed by one call, with what follows; M is what a caller keeps of the reader
pub record Fed {M : Type 0} (call : M → State → List ℕ → M → State → Type 0) (m : M) (s : State) (part : List ℕ)
    (rest : M → State → Type 0) : Type 0 where
  pub reader : M
  pub spare : State
  pub fed : call m s part reader spare
  pub on : rest reader spare

-- PARTS FED, one call after another, with nobody else writing to the spare state: from m and the state s to n and t
abbrev pub FeedsBy : {M : Type 0} → (M → State → List ℕ → M → State → Type 0) → M → State → List (List ℕ) → M → State → Type 0
FeedsBy call m s [] n t = (n ≡ m) × (t ≡ s)
FeedsBy call m s (l ∷ ls) n t = Fed call m s l (λ r u. FeedsBy call r u ls n t)

-- by calls of `pieces::feed`, of which the caller keeps the progress
abbrev pub Feeds : Progress → State → List (List ℕ) → Progress → State → Type 0
Feeds p s ls q t = FeedsBy (λ p s l q t. FeedCall p s l (Ok q) t) p s ls q t

-- an answer is no refusal
pub come_no_refusal : {A : Type 0} (p : Progress) → Ok p ≡ wrong_length → A
come_no_refusal p e = let z : ◌≡◌ {A = ℕ} 0 1 = cc in absurd (omega arith)

pub come_one : (p q : Progress) → ◌≡◌ {A = Result Progress Refusal} (Ok p) (Ok q) → p ≡ q
come_one p q e = cc

-- FEEDING, of which the answer is no refusal
pub fed_call : {p q : Progress} {s t : State} {l : List ℕ} → FeedCall p s l (Ok q) t
    → (sized s ≡ true) × (q ≡ fed p s l) × (t ≡ apply_all s (made p l))
fed_call {p} {q} {s} {t} {l} c = go (sized s) refl (feed_call c)
  where
    go : (b : Bool) → sized s ≡ b → (Ok q ≡ feeding p s l) × (t ≡ fed_spare p s l)
        → (sized s ≡ true) × (q ≡ fed p s l) × (t ≡ apply_all s (made p l))
    go true e k = let r = feed_right p s l e in (e, come_one q (fed p s l) (k.0 ∙ sym r.0), k.1 ∙ sym r.1)
    go false e k = come_no_refusal q (k.0 ∙ sym (feed_wrong p s l e).0)

held_after : (p : Progress) (l : List ℕ) → p.come ≡ held_at p.come → (after p l).come ≡ held_at (after p l).come
held_after p l h = rw (come_held p l h) (held_twice (p.come + length l) (dec_lt 65536 (p.come + length l)))

plus_none : (d : ℕ) → d < 0x100000000 → d ≡ plus d 0
plus_none d h = omega arith

plus_plus : (d a b : ℕ) → plus (plus d a) b ≡ plus d (a + b)
plus_plus d a b = omega arith

-- parts are fed as the joined list would be at once: what the spare state holds in between doesn't go by the cutting either
module _ {M : Type 0} (call : M → State → List ℕ → M → State → Type 0) (view : M → Progress)
    (does : (m n : M) (s t : State) (l : List ℕ) → sized s ≡ true → call m s l n t
    → (view n ≡ fed (view m) s l) × (t ≡ apply_all s (made (view m) l))) where
  pub joined_by : (ls : List (List ℕ)) (m n : M) (s t : State) → sized s ≡ true → FeedsBy call m s ls n t
      → (view m).come ≡ held_at (view m).come → (view m).differences < 0x100000000
      → (view n ≡ onward (view m) s (joined ls)) × (t ≡ apply_all s (made (view m) (joined ls)))
  unfolding joined
  joined_by [] m n s t z f h d =
      let p = view m in (
        ap view f.0 ∙ rw (after_none p, made_none p, differences_none s, ← plus_none p.differences d),
        f.1 ∙ sym (rw (made_none p) (apply_none s)),
      )
  joined_by (l ∷ ls) m n s t z f h d =
      let p = view m in
      let c = does m f.reader s f.spare l z f.fed in
      let D = plus p.differences (differences s (made p l)) in
      let k = counted_same (after p l) (held_after p l h) in
      let e : view f.reader ≡ tallied (after p l) D = c.0 ∙ ap (λ (q : Progress). tallied q D) k in
      let i = joined ls in
      let u = apply_all s (made p l) in
      let r = joined_by ls f.reader n f.spare t (rw c.1 (sized_kept s (made p l) ∙ z)) f.on
      (rw e (held_after p l h)) (rw e (omega arith)) in
      let a : after (view f.reader) i ≡ tallied (after p (l ++ i)) D =
      rw e (after_tallied (after p l) D i ∙ ap (λ (q : Progress). tallied q D) (sym (after_append p l i))) in
      let b : made (view f.reader) i ≡ made (after p l) i = rw e (made_tallied (after p l) D i) in
      let g : (view f.reader).differences ≡ D = rw e in
      let x : differences s (made p (l ++ i)) ≡ differences s (made p l) + differences u (made (after p l) i) =
      rw (made_append p l i) (differences_append s (made p l) (made (after p l) i)) in (
        r.0 ∙ rw (a, b, g, c.1, x, plus_plus p.differences (differences s (made p l)) (differences u (made (after p l) i))),
        r.1 ∙ rw (c.1, b, made_append p l i) (sym (apply_append s (made p l) (made (after p l) i))),
      )

pub feeds_joined : (ls : List (List ℕ)) (p q : Progress) (s t : State) → sized s ≡ true → Feeds p s ls q t → p.come ≡ held_at p.come
    → p.differences < 0x100000000
    → (q ≡ onward p s (joined ls)) × (t ≡ apply_all s (made p (joined ls)))
feeds_joined =
    joined_by (λ p s l q t. FeedCall p s l (Ok q) t) (λ p. p) (λ m n s t l z c. let k = fed_call c in (k.1, k.2))
