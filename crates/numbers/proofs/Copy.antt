-- Words copied one after another. Assumes nothing.
use mathlib.Core.Path.{◌≡◌, ap, ◌∙◌}
use mathlib.Core.List.{List, ◌++◌, append_assoc}
use Prim.Native.Nat.{ℕ, ◌+◌, ◌-◌, ◌≤◌, ◌<◌}
use native.Mathlib.Numerals.{add-one}
use native.Mathlib.Omega.{arith}
use lib.ListN.{length, get_or, take, drop, set}
use lib.Seq.{length-take-le, take_at, drop-drop, paste, paste-suc, drop-paste}

-- a store of the next word, at the place p, takes a copy of j words to one of n = j + 1
pub next_word : (old s : List ℕ) (at j p n x : ℕ) (new : List ℕ) → p ≡ at + j → n ≡ j + 1 → at + j < length old → j < length s
    → new ≡ paste old at s j → x ≡ get_or s j 0 → set new p x ≡ paste old at s n
next_word old s at j p n x new e f h q a b = rw (a, b, e, f, add-one j) (paste-suc old at s j 0 h q)

-- a copy of more words over a copy of fewer
pub copy_more : (old s : List ℕ) (at j n : ℕ) → at + n ≤ length old → j ≤ length s → j ≤ n
    → paste (paste old at s j) at s n ≡ paste old at s n
copy_more old s at j n h q r =
    let front : take at (paste old at s j) ≡ take at old =
    ap (take at) (append_assoc (take at old) (take j s) (drop (at + j) old))
    ∙ take_at (take at old) (take j s ++ drop (at + j) old) at (length-take-le at old (omega arith)) in
    let d : at + j + (n - j) ≡ at + n = omega arith in
    let back : drop (at + n) (paste old at s j) ≡ drop (at + n) old =
    rw (← d, ← drop-drop (n - j) (at + j) (paste old at s j), drop-paste old at s j (omega arith) q) (drop-drop (n - j) (at + j) old) in
    rw (front, back)
