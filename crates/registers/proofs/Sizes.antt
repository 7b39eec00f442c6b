-- A state that passes the test of its lengths has them, and its buffers, taken as arrays of these lengths, are what they were and go back
-- whole. Assumes nothing.
use Rattle.std.proofs.Common.{◌≡◌, ℕ, true, ◌&&◌, List, ◌++◌, eqb, length, drop, refl, ◌∙◌, eqb-true, append-nil, take_all, arith}
use Rattle.std.proofs.lemmas.List.{drop_all}
use Rattle.std.specs.Array.{IsFirstChunk}
use Rattle.numbers.proofs.Tests.{and_true}
use Rattle.registers.specs.State.{State, st, sized, Lengths, Words32, Whole}

pub lengths : (s : State) → sized s ≡ true → Lengths s.cells s.fog s.light
lengths s e =
    let c = eqb (length s.cells) 768 in
    let f = eqb (length s.fog) 128 in
    let p = and_true (c && f) (eqb (length s.light) 6144) e in
    let q = and_true c f p.0 in
    (eqb-true (length s.cells) 768 q.0, eqb-true (length s.fog) 128 q.1, eqb-true (length s.light) 6144 p.1)

-- a buffer of n words, and the array of n words that was taken of it
module _ (n : ℕ) (words : List ℕ) (long : length words ≡ n) where
  pub taken_whole : (array : List ℕ) → IsFirstChunk words array n → array ≡ words
  taken_whole array f = f.same ∙ take_all n words (omega (arith, long))

  pub given_back : (array : List ℕ) → array ++ drop n words ≡ array
  given_back array = rw (drop_all n words (omega (arith, long))) (append-nil array)

-- what is then in the three buffers is what is in the arrays
pub all_back : (s : State) (c f l : List ℕ) (t : State) → Lengths s.cells s.fog s.light → c ≡ t.cells → f ≡ t.fog → l ≡ t.light
    → st (c ++ drop 768 s.cells) (f ++ drop 128 s.fog) (l ++ drop 6144 s.light) ≡ t
all_back s c f l t n p q r =
    rw (given_back 768 s.cells n.0 c, given_back 128 s.fog n.1 f, given_back 6144 s.light n.2 l, p, q, r) refl

-- the arrays that were taken of buffers that pass the test are a state that is lent
pub whole_taken : (s : State) (c f l : List ℕ) → sized s ≡ true → Words32 s.cells → IsFirstChunk s.cells c 768 → IsFirstChunk s.fog f 128
    → IsFirstChunk s.light l 6144
    → Whole c f l
whole_taken s c f l e w p q r =
    let n = lengths s e in
    rw (taken_whole 768 s.cells n.0 c p, taken_whole 128 s.fog n.1 f q, taken_whole 6144 s.light n.2 l r) (n, w)
