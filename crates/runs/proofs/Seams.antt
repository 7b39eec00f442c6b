-- Two runs joined: their shortest list saves at most two words against the two shortest lists, since only the command across the seam is
-- cut; and none where no command goes across it. Assumes nothing.
use mathlib.Core.Path.{◌≡◌, refl, ap}
use mathlib.Core.Bool.{Bool, true, false, not}
use mathlib.Core.List.{List, [], ◌∷◌, ◌++◌}
use mathlib.Core.Logic.{◌⊎◌, inl, inr}
use Prim.Native.Nat.{ℕ, zero, suc, ◌+◌, ◌-◌, ◌≤◌, min, max}
use native.Mathlib.Decide.{dec_le}
use native.Mathlib.Omega.{arith}
use lib.ListN.{length, drop, length-drop}
use borrow.Author.Tests.{not-true}
use Rattle.numbers.specs.Pick.{pick}
use Rattle.numbers.proofs.Tests.{and_true}
use Rattle.words.specs.Writes.{Write}
use Rattle.cuts.specs.Cuts.{words, least, first, sizes}
use Rattle.cuts.proofs.Rests.{by_rests}
use Rattle.cuts.proofs.Steps.{first_of_law, least_nil, least_of}
use Rattle.cuts.proofs.Least.{least_low, sizes_cut, sizes_least}
use Rattle.runs.specs.Span.{leads, chain, span, apart}
use Rattle.runs.specs.PackedList.{packed}
use Rattle.runs.proofs.Chain.{spans, chain_pos}
use Rattle.runs.proofs.PackedList.{packed_length}

-- THE FRONT of what one command can carry is carried by one command
front : (s : ℕ) (a b : List Write) (n : ℕ) → n ≤ chain s (a ++ b) → n ≤ length a → n ≤ chain s a
unfolding chain
front s [] b n p q = q
front s (w ∷ []) b n p q = omega (arith, chain_pos s w [])
front s (w ∷ v ∷ a) b n p q = go (leads s w (v ∷ a)) p (λ h. front s (v ∷ a) b (n - 1) h (omega arith))
  where
    go : (t : Bool) → n ≤ pick t (suc (chain s (v ∷ a ++ b))) 1 → (n - 1 ≤ chain s (v ∷ a ++ b) → n - 1 ≤ chain s (v ∷ a))
        → n ≤ pick t (suc (chain s (v ∷ a))) 1
    go true h rest = omega (arith, rest (omega arith))
    go false h rest = h

span_front : (a b : List Write) (n : ℕ) → n ≤ span (a ++ b) → n ≤ length a → n ≤ span a
unfolding span
span_front a b n p q = go (dec_le n (chain 0 (a ++ b)))
  where
    go : Dec (n ≤ chain 0 (a ++ b)) → n ≤ min 256 (max (chain 0 a) (chain 1 a))
    go (yes h) = omega (arith, front 0 a b n h q)
    go (no h) = omega (arith, front 1 a b n (omega arith) q)

-- and so is what is left of it after its front
span_rest : (a b : List Write) → span (a ++ b) ≤ length a + span b
span_rest [] b = omega arith
span_rest (w ∷ a) b = omega (arith, spans.tail w (a ++ b), span_rest a b)

-- RUNS APART: no command goes across the seam
apart_leads : (s : ℕ) (w : Write) (b : List Write) → apart (w ∷ []) b ≡ true → s ≤ 1 → leads s w b ≡ false
apart_leads s w b e h =
    let t = and_true (not (leads 0 w b)) (not (leads 1 w b)) e in
    go s h (not_true' t.0) (not_true' t.1)
  where
    not_true' : {x : Bool} → not x ≡ true → x ≡ false
    not_true' {x} e = not-true x e

    go : (s : ℕ) → s ≤ 1 → leads 0 w b ≡ false → leads 1 w b ≡ false → leads s w b ≡ false
    go zero h p q = p
    go (suc zero) h p q = q
    go (suc (suc s)) h p q = absurd (omega arith)

chain_ends : (s : ℕ) (a b : List Write) → s ≤ 1 → 1 ≤ length a → apart a b ≡ true → chain s (a ++ b) ≤ length a
unfolding chain
chain_ends s [] b h n e = absurd (omega arith)
chain_ends s (w ∷ []) b h n e = rw (apart_leads s w b e h) (omega arith)
chain_ends s (w ∷ v ∷ a) b h n e = go (leads s w (v ∷ a)) (chain_ends s (v ∷ a) b h (omega arith) e)
  where
    go : (t : Bool) → chain s (v ∷ a ++ b) ≤ suc (length a) → pick t (suc (chain s (v ∷ a ++ b))) 1 ≤ suc (suc (length a))
    go true h = omega arith
    go false h = omega arith

span_ends : (a b : List Write) → 1 ≤ length a → apart a b ≡ true → span (a ++ b) ≤ length a
unfolding span
span_ends a b n e = omega (arith, chain_ends 0 a b (omega arith) n e, chain_ends 1 a b (omega arith) n e)

apart_drop : (k : ℕ) (a b : List Write) → apart a b ≡ true → apart (drop k a) b ≡ true
apart_drop zero a b e = e
apart_drop (suc k) [] b e = refl
apart_drop (suc zero) (w ∷ []) b e = refl
apart_drop (suc (suc k)) (w ∷ []) b e = refl
apart_drop (suc k) (w ∷ v ∷ a) b e = apart_drop k (v ∷ a) b e

-- a first command of k writes, and the shortest of the rest
least_first : (l : List Write) (k : ℕ) → 1 ≤ k → k ≤ span l → least span l ≤ words k + least span (drop k l)
least_first l k p q =
    omega (arith, least_low spans l (k ∷ sizes span (drop k l)) (p, q, sizes_cut spans (drop k l)), sizes_least spans (drop k l))

-- THE LEAST WORDS of two runs joined, by where the first command of the joined run ends; the seam costs two words, or none where the runs
-- are apart
module _ (b : List Write) (cost : ℕ) where
  abbrev Enough : List Write → Type 0
  Enough a = (2 ≤ cost) ⊎ (apart a b ≡ true)

  abbrev Parted : List Write → Type 0
  Parted a = Enough a → least span a + least span b ≤ least span (a ++ b) + cost

  enough_drop : (k : ℕ) (a : List Write) → Enough a → Enough (drop k a)
  enough_drop k a (inl h) = inl h
  enough_drop k a (inr e) = inr (apart_drop k a b e)

  drop_front : (k : ℕ) (a : List Write) → k ≤ length a → drop k (a ++ b) ≡ drop k a ++ b
  drop_front zero a h = refl
  drop_front (suc k) [] h = absurd (omega arith)
  drop_front (suc k) (w ∷ a) h = drop_front k a (omega arith)

  drop_over : (k : ℕ) (a : List Write) → length a ≤ k → drop k (a ++ b) ≡ drop (k - length a) b
  drop_over k [] h = let z : k - 0 ≡ k = omega arith in rw z
  drop_over zero (w ∷ a) h = absurd (omega arith)
  drop_over (suc k) (w ∷ a) h = let z : suc k - suc (length a) ≡ k - length a = omega arith in rw z (drop_over k a (omega arith))

  parted_none : Parted []
  parted_none h = omega (arith, least_nil span [] refl)

  parted_more : (w : Write) (a : List Write) → ((k : ℕ) → 1 ≤ k → Parted (drop k (w ∷ a))) → Parted (w ∷ a)
  parted_more w a rest enough = go (dec_le k (length x)) enough
    where
      x : List Write
      x = w ∷ a

      k : ℕ
      k = first span (x ++ b)

      low : 1 ≤ k
      low = (first_of_law spans (x ++ b) (omega arith)).low

      high : k ≤ span (x ++ b)
      high = (first_of_law spans (x ++ b) (omega arith)).high

      whole : least span (x ++ b) ≡ words k + least span (drop k (x ++ b))
      whole = least_of spans (x ++ b) (omega arith)

      go : Dec (k ≤ length x) → Parted x
      go (yes h) c =
          let e = ap (λ (l : List Write). least span l) (drop_front k x h) in
          let f = least_first x k low (span_front x b k high h) in
          omega (arith, whole, rest k low (enough_drop k x c))
      go (no h) (inr c) = absurd (omega (arith, high, span_ends x b (omega arith) c))
      go (no h) (inl c) =
          let n = length x in
          let e = ap (λ (l : List Write). least span l) (drop_over k x (omega arith)) in
          let f = least_first x n (omega arith) (span_front x b n (omega (arith, high)) (omega arith)) in
          let g = least_first b (k - n) (omega arith) (omega (arith, high, span_rest x b)) in
          let d = least_nil span (drop n x) (omega (arith, length-drop n x)) in
          omega (arith, whole)

  parted : (a : List Write) → Parted a
  parted = by_rests Parted parted_none parted_more

-- A SEAM COSTS AT MOST TWO WORDS
pub packed_seam : (a b : List Write) → length (packed a) + length (packed b) ≤ length (packed (a ++ b)) + 2
packed_seam a b = omega (arith, packed_length a, packed_length b, packed_length (a ++ b), parted b 2 a (inl (omega arith)))

-- AND NONE WHERE THE RUNS ARE APART
pub packed_apart : (a b : List Write) → apart a b ≡ true → length (packed a) + length (packed b) ≤ length (packed (a ++ b))
packed_apart a b e = omega (arith, packed_length a, packed_length b, packed_length (a ++ b), parted b 0 a (inr e))

-- what is apart from a run is apart from all that begins with it
pub apart_joined : (a b c : List Write) → 1 ≤ length b → apart a b ≡ true → apart a (b ++ c) ≡ true
apart_joined a [] c h e = absurd (omega arith)
apart_joined [] (v ∷ b) c h e = refl
apart_joined (w ∷ []) (v ∷ b) c h e = e
apart_joined (w ∷ u ∷ a) (v ∷ b) c h e = apart_joined (u ∷ a) (v ∷ b) c h e
