-- A run that is packed in parts. The parts' lists, joined, say the whole run, each filled by itself or all of them once. Before filling
-- they have at most two words a seam more than its shortest list, and none for a seam that no command can go across; filled once, that
-- rounded up to a multiple of 4; each filled by itself, at most four words a seam. Of runs without writes of mask 0: the list written for
-- any other run is that of what is kept of it. Assumes nothing.
use mathlib.Core.Path.{◌≡◌, refl, ◌∙◌}
use mathlib.Core.Bool.{Bool, true, false}
use mathlib.Core.List.{List, [], ◌∷◌, ◌++◌, append-nil}
use Prim.Native.Nat.{ℕ, suc, ◌+◌, ◌*◌, ◌%◌, ◌≤◌}
use native.Mathlib.Omega.{arith}
use lib.ListN.{length, length-append}
use Rattle.numbers.specs.Pick.{pick}
use Rattle.words.specs.Writes.{Write, kept}
use Rattle.words.proofs.Laws.{kept_none, kept_append}
use Rattle.reader.proofs.Accepted.{legal_judged}
use Rattle.runs.specs.Span.{apart}
use Rattle.runs.specs.PackedList.{Packable, packed, filled, written}
use Rattle.runs.specs.Shortest.{Says, SaysUnfilled}
use Rattle.runs.proofs.PackedList.{packed_none}
use Rattle.runs.proofs.Kept.{kept_is}
use Rattle.runs.proofs.Filled.{packed_even, filled_none, filled_length}
use Rattle.runs.proofs.Shortest.{packed_least, packed_rule, filled_least, filled_says, filled_shortest}
use Rattle.runs.proofs.Seams.{packed_seam, packed_apart, apart_joined}
use Rattle.runs.proofs.Joined.{joined_writes, joined_formed, joined_says}

-- a part: allowed writes with masks from 1 to 15
abbrev pub Part : List Write → Type 0
Part a = Packable a × (kept a ≡ a)

-- what is kept of any allowed run is one, with the same list
pub kept_part : (a : List Write) → Packable a → Part (kept a) × (written (kept a) ≡ written a)
kept_part a p = let k = kept_is a in ((k.packable p, k.live), rw k.live)

-- ANY NUMBER OF PARTS: the run of all of them, and their lists one after another, each filled, or before they are
abbrev pub joined_run : List (List Write) → List Write
joined_run [] = []
joined_run (a ∷ rest) = a ++ joined_run rest

abbrev pub filled_lists : List (List Write) → List ℕ
filled_lists [] = []
filled_lists (a ∷ rest) = filled (packed a) ++ filled_lists rest

abbrev pub joined_lists : List (List Write) → List ℕ
joined_lists [] = []
joined_lists (a ∷ rest) = packed a ++ joined_lists rest

abbrev pub EachPart : List (List Write) → Type 0
EachPart [] = Unit {0}
EachPart (a ∷ rest) = Part a × EachPart rest

-- the lists joined say the whole run, of whatever length it is; over 65,536 words a reading refuses them with 1
pub parts_say : (rs : List (List Write)) → EachPart rs → Says (joined_run rs) (filled_lists rs)
parts_say [] s =
    let e : filled (packed []) ≡ [] = rw (packed_none [] refl) (filled_none [] refl) in
    rw e at (filled_shortest [] tt kept_none).says
parts_say (a ∷ rest) s =
    joined_says a (joined_run rest) (filled (packed a)) (filled_lists rest) (filled_shortest a s.0.0 s.0.1).says
    (parts_say rest s.1)

joined_unfilled : (rs : List (List Write)) → EachPart rs → SaysUnfilled (joined_run rs) (joined_lists rs)
joined_unfilled [] s = let e = packed_none [] refl in rw e at (packed_rule [] tt).says
joined_unfilled (a ∷ rest) s =
    let u = (packed_rule a s.0.0).says in
    let v = joined_unfilled rest s.1 in
    record {
      formed = joined_formed (packed a) (joined_lists rest) u.formed ∙ v.formed;
      writes = joined_writes (packed a) (joined_lists rest) u.formed ∙ rw (u.writes, v.writes);
    }

joined_part : (rs : List (List Write)) → EachPart rs → Part (joined_run rs)
joined_part [] s = (tt, kept_none)
joined_part (a ∷ rest) s =
    let p = joined_part rest s.1 in
    (both_packable a (joined_run rest) s.0.0 p.0, kept_append a (joined_run rest) ∙ rw (s.0.1, p.1))
  where
    both_packable : (a b : List Write) → Packable a → Packable b → Packable (a ++ b)
    both_packable [] b p q = q
    both_packable (w ∷ a) b p q = (p.0, p.1, both_packable a b p.2 q)

joined_even : (rs : List (List Write)) → length (joined_lists rs) % 2 ≡ 0
joined_even [] = refl
joined_even (a ∷ rest) = omega (arith, length-append (packed a) (joined_lists rest), packed_even a, joined_even rest)

-- and so do the lists joined before filling, and filled once
pub once_say : (rs : List (List Write)) → EachPart rs → Says (joined_run rs) (filled (joined_lists rs))
once_say rs s =
    let p = joined_part rs s in
    rw p.1 at (filled_says (joined_run rs) p.0 (joined_lists rs) (joined_unfilled rs s) (joined_even rs))

-- so their words are no fewer than those of its shortest list
pub parts_bound : (rs : List (List Write)) → EachPart rs → length (filled (packed (joined_run rs))) ≤ length (filled (joined_lists rs))
parts_bound rs s = filled_least (joined_run rs) (filled (joined_lists rs)) (once_say rs s)

-- each part filled by itself costs at most a pair a part
pub pairs_bound : (rs : List (List Write)) → length (filled_lists rs) ≤ length (joined_lists rs) + 2 * length rs
pairs_bound [] = omega arith
pairs_bound (a ∷ rest) =
    omega (
      arith,
      length-append (filled (packed a)) (filled_lists rest),
      length-append (packed a) (joined_lists rest),
      filled_length (packed a) (packed_even a),
      packed_even a,
      pairs_bound rest,
    )

-- HOW MANY SEAMS COUNT: those that a command may go across. Where two parts are apart none can
abbrev pub loose : List Write → List (List Write) → ℕ
loose a [] = 0
loose a (b ∷ rest) = pick (apart a b) 0 1 + loose b rest

by_seam : (a b : List Write) (rest : List (List Write)) (t : Bool) → apart a b ≡ t → 1 ≤ length b
    → length (packed a) + length (packed (joined_run (b ∷ rest))) ≤ length (packed (a ++ joined_run (b ∷ rest))) + 2 * pick t 0 1
by_seam a b rest true e n = omega (arith, packed_apart a (joined_run (b ∷ rest)) (apart_joined a b (joined_run rest) n e))
by_seam a b rest false e n = omega (arith, packed_seam a (joined_run (b ∷ rest)))

-- the parts after the first aren't empty: one of which nothing is kept has no words, and can be left out
abbrev pub EachSome : List (List Write) → Type 0
EachSome [] = Unit {0}
EachSome (b ∷ rest) = (1 ≤ length b) × EachSome rest

packed_seams : (a : List Write) (rest : List (List Write)) → EachSome rest
    → length (joined_lists (a ∷ rest)) ≤ length (packed (joined_run (a ∷ rest))) + 2 * loose a rest
packed_seams a [] n = rw (append-nil a, append-nil (packed a)) (omega arith)
packed_seams a (b ∷ bs) n =
    omega (arith, packed_seams b bs n.1, by_seam a b bs (apart a b) refl n.0, length-append (packed a) (joined_lists (b ∷ bs)))

-- before filling, at most two words for each seam that counts more than those of any accepted list that says the run
pub seams : (a : List Write) (rest : List (List Write)) (l : List ℕ) → EachSome rest → Says (joined_run (a ∷ rest)) l
    → length (joined_lists (a ∷ rest)) ≤ length l + 2 * loose a rest
seams a rest l n s =
    let w = joined_run (a ∷ rest) in
    omega (arith, packed_seams a rest n, filled_least w l s, filled_length (packed w) (packed_even w))

-- filled once, that is to a multiple of 4
pub seams_filled : (a : List Write) (rest : List (List Write)) (l : List ℕ) → EachSome rest → Says (joined_run (a ∷ rest)) l
    → length (filled (joined_lists (a ∷ rest))) ≤ length l + 2 * loose a rest + 2 * loose a rest % 4
seams_filled a rest l n s =
    let rs = a ∷ rest in
    let even = joined_even rs in
    let legal = (legal_judged l (length (joined_run rs)) s.accepted).0 in
    omega (arith, seams a rest l n s, filled_length (joined_lists rs) even, even, legal)

-- each part filled by itself: at most four words a seam more than any accepted list that says the run, whatever the seams
loose_most : (a : List Write) (rest : List (List Write)) → loose a rest ≤ length rest
loose_most a [] = omega arith
loose_most a (b ∷ rest) = go (apart a b) (loose_most b rest)
  where
    go : (t : Bool) → loose b rest ≤ length rest → pick t 0 1 + loose b rest ≤ suc (length rest)
    go true h = omega arith
    go false h = omega arith

pub filled_seams : (a : List Write) (rest : List (List Write)) (l : List ℕ) → EachPart (a ∷ rest) → EachSome rest
    → Says (joined_run (a ∷ rest)) l → length (filled_lists (a ∷ rest)) ≤ length l + 4 * length rest
filled_seams a rest l p n s =
    let rs = a ∷ rest in
    let w = length (joined_run rs) in
    let legal = (legal_judged l w s.accepted).0 in
    let own = (legal_judged (filled_lists rs) w (parts_say rs p).accepted).0 in
    omega (arith, seams a rest l n s, pairs_bound rs, loose_most a rest, legal, own)

-- so where no seam counts, the parts' lists, joined and filled once, are as short as any that says the run: its length is known, not only
-- bounded
pub seams_exact : (a : List Write) (rest : List (List Write)) → EachPart (a ∷ rest) → EachSome rest → loose a rest ≡ 0
    → length (filled (joined_lists (a ∷ rest))) ≡ length (filled (packed (joined_run (a ∷ rest))))
seams_exact a rest s n z =
    let rs = a ∷ rest in
    let w = joined_run rs in
    let low = packed_least w (joined_lists rs) (joined_unfilled rs s) in
    omega (
      arith,
      low,
      packed_seams a rest n,
      filled_length (joined_lists rs) (joined_even rs),
      filled_length (packed w) (packed_even w),
    )
