-- The packed list is made of 32-bit words where the values are, so the rule names it alone. Assumes nothing.
use mathlib.Core.Path.{◌≡◌, refl, ap, ◌∙◌}
use mathlib.Core.List.{List, [], ◌∷◌, ◌++◌}
use Prim.Native.Nat.{ℕ, zero, suc, ◌+◌, ◌-◌, ◌%◌, ◌≤◌, ◌<◌}
use native.Mathlib.Omega.{arith}
use lib.Dec.{leb}
use lib.ListN.{length, take, drop, replicate}
use Rattle.numbers.proofs.Picks.{pick_either}
use Rattle.words.specs.Writes.{Write, values_in}
use Rattle.cuts.specs.Cuts.{first}
use Rattle.cuts.proofs.Rests.{by_rests}
use Rattle.runs.specs.Span.{chain, span}
use Rattle.runs.specs.PackedList.{Packable, step_for, header, command, packed, filled}
use Rattle.runs.specs.Shortest.{Shortest, Words32}
use Rattle.runs.proofs.PackedList.{packed_none, packed_more, first_command}
use Rattle.runs.proofs.RoundTrip.{Plain, plain_drop}
use Rattle.runs.proofs.Each.{Each, each_drop, says_packable, unfilled_values}
use Rattle.runs.proofs.Shortest.{plain, packed_rule}
use Rattle.runs.proofs.Only.{words_before, rule_only}

-- every number of a list is a 32-bit word
abbrev Small : List ℕ → Type 0
Small [] = Unit {0}
Small (x ∷ l) = (x < 0x100000000) × Small l

small_at : (l : List ℕ) → Small l → Words32 l
small_at [] s j = omega arith
small_at (x ∷ l) s zero = s.0
small_at (x ∷ l) s (suc j) = small_at l s.1 j

small_append : (a b : List ℕ) → Small a → Small b → Small (a ++ b)
small_append [] b s t = t
small_append (x ∷ a) b s t = (s.0, small_append a b s.1 t)

small_take : (n : ℕ) (l : List ℕ) → Small l → Small (take n l)
small_take zero l s = tt
small_take (suc n) [] s = tt
small_take (suc n) (x ∷ l) s = (s.0, small_take n l s.1)

small_zeros : (n : ℕ) → Small (replicate n 0)
small_zeros zero = tt
small_zeros (suc n) = (omega arith, small_zeros n)

abbrev pub Values32 : List Write → Type 0
Values32 ws = Each (λ w. w.value < 0x100000000) ws

small_values : (l : List Write) → Values32 l → Small (values_in l)
small_values [] v = tt
small_values (w ∷ l) v = (v.0, small_values l v.1)

-- A COMMAND: its header's parts have their places
small_header : (i m k s : ℕ) → i < 0x10000 → m < 16 → k ≤ 256 → s < 2 → header i m k s < 0x100000000
small_header i m k s a b c d = omega arith

small_command : (k : ℕ) (ws : List Write) → k ≤ 256 → Plain ws → Values32 ws → Small (command k ws)
small_command k [] h p v = tt
small_command k (w ∷ l) h p v =
    let s = pick_either (λ s. s < 2) (leb k (chain 0 (w ∷ l))) {x = 0} {y = 1} (omega arith) (omega arith) in
    let t = small_take (k - 1) (values_in l) (small_values l v.1) in
    let e = small_append (take (k - 1) (values_in l)) _ t (small_zeros ((k + 1) % 2)) in
    (v.0, (small_header w.id w.mask k (step_for k (w ∷ l)) p.0 p.1 h s, e))

-- THE LIST
packed_small : (ws : List Write) → Plain ws → Values32 ws → Small (packed ws)
packed_small = by_rests (λ ws. Plain ws → Values32 ws → Small (packed ws)) (λ p v. rw (packed_none [] refl) tt) some
  where
    some : (a : Write) (l : List Write)
        → ((k : ℕ) → 1 ≤ k → Plain (drop k (a ∷ l)) → Values32 (drop k (a ∷ l)) → Small (packed (drop k (a ∷ l))))
        → Plain (a ∷ l) → Values32 (a ∷ l) → Small (packed (a ∷ l))
    some a l rest p v =
        let h : 1 ≤ length (a ∷ l) = omega arith in
        let k = first span (a ∷ l) in
        let f = first_command (a ∷ l) h in
        let after = rest k f.low (plain_drop k (a ∷ l) p) (each_drop (λ w. w.value < 0x100000000) k (a ∷ l) v) in
        rw (packed_more (a ∷ l) h) (small_append (command k (a ∷ l)) _ (small_command k (a ∷ l) f.cap p v) after)

pub packed_words : (ws : List Write) → Packable ws → Values32 ws → Words32 (packed ws)
packed_words ws p v = small_at (packed ws) (packed_small ws (plain ws p) v)

-- THE RULE NAMES THE LIST WRITTEN: a list of 32-bit words that is the shortest of a run is the run packed and filled
pub shortest_written : (ws : List Write) (l : List ℕ) → Words32 l → Shortest ws l → l ≡ filled (packed ws)
shortest_written ws l h s =
    let p = says_packable ws l s.says in
    let a = words_before s.unfilled (rw s.fills at h) in
    let w = packed_words ws p (unfilled_values ws s.unfilled a s.rule.says) in
    s.fills ∙ ap filled (rule_only ws s.unfilled (packed ws) a w s.rule (packed_rule ws p))
