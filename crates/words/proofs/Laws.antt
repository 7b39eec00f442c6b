-- The equations by which whoever walks a list goes; nothing above unfolds the definitions. Assumes nothing.
use mathlib.Core.Path.{◌≡◌, refl, sym, ap, ◌∙◌}
use mathlib.Core.Bool.{Bool, true, false, not, ◌&&◌, ◌||◌}
use mathlib.Core.List.{List, [], ◌∷◌, ◌++◌}
use Prim.Native.Nat.{ℕ, zero, suc, ◌+◌, ◌-◌, ◌≤◌, ◌<◌}
use native.Mathlib.Numerals.{sub-one}
use native.Mathlib.Omega.{arith}
use lib.Dec.{ltb, eqb}
use lib.ListN.{length}
use borrow.Author.Tests.{ltb-true, ltb-false, lt-ltb, le-ltb, le-leb, lt-leb, eq-eqb, ne_eqb}
use Rattle.std.specs.Prelude.{Result, Ok, Err}
use Rattle.numbers.specs.Pick.{pick}
use Rattle.words.specs.declared.Refusal.{Refusal}
use Rattle.words.specs.Reasons.{number_of, told, told_by}
use Rattle.words.specs.Header.{mask_of, count_of, step_of, words_of, adds_of}
use Rattle.words.specs.Writes.{Write, writing, kept, jumps, port_data, allowed, fault_of}
use Rattle.words.specs.Commands.{header_at, param_at, whole, run, expand, places, commands, join, all_writes, expansion, full, well_formed}

-- THE COMMANDS, one after another

pick_cong : {A : Type 0} (b : Bool) (x y z : A) → (b ≡ true → x ≡ y) → pick b x z ≡ pick b y z
pick_cong true x y z h = h refl
pick_cong false x y z h = refl

-- a bound on the number of commands that is enough makes no difference
enough : (n m : ℕ) (l : List ℕ) (at : ℕ) → length l - at ≤ n → length l - at ≤ m → places n l at ≡ places m l at
unfolding places
enough zero zero l at hn hm = refl
enough zero (suc m) l at hn hm = rw (le-ltb at (length l) (omega arith))
enough (suc n) zero l at hn hm = rw (le-ltb at (length l) (omega arith))
enough (suc n) (suc m) l at hn hm =
    pick_cong (ltb at (length l)) _ _ []
    (λ t.
    let h = ltb-true at (length l) t in
    ap (λ (r : List ℕ). at ∷ r) (enough n m l (at + words_of (header_at l at)) (omega arith) (omega arith)))

-- past the list's end there is none
pub commands_end : (l : List ℕ) (at : ℕ) → length l ≤ at → commands l at ≡ []
unfolding commands places
commands_end l at h = enough (length l - at) 0 l at (omega arith) (omega arith)

-- before it there is one, and then those after its words
pub commands_step : (l : List ℕ) (at : ℕ) → at < length l → commands l at ≡ at ∷ commands l (at + words_of (header_at l at))
unfolding commands places
commands_step l at h =
    let next = at + words_of (header_at l at) in
    enough (length l - at) (suc (length l)) l at (omega arith) (omega arith)
    ∙ rw (lt-ltb at (length l) h, enough (length l) (length l - next) l next (omega arith) (omega arith))

-- THE WRITES OF A COMMAND

pub run_done : (l : List ℕ) (at n k i : ℕ) → n ≤ 0 → run l at n k i ≡ []
unfolding run
run_done l at zero k i h = refl
run_done l at (suc n) k i h = absurd (omega arith)

pub run_next : (l : List ℕ) (at n k i : ℕ) → 0 < n
    → run l at n k i
    ≡ writing i (mask_of (header_at l at)) (param_at l at k) ∷ run l at (n - 1) (k + 1) (i + step_of (header_at l at))
unfolding run
run_next l at zero k i h = absurd (omega arith)
run_next l at (suc n) k i h = rw (sub-one (suc n))

pub run_length : (l : List ℕ) (at n k i : ℕ) → length (run l at n k i) ≡ n
unfolding run
run_length l at zero k i = refl
run_length l at (suc n) k i = ap suc (run_length l at n (k + 1) (i + step_of (header_at l at)))

-- THE WRITES THAT BELONG TO AN EXPANSION: those whose mask isn't 0

pub kept_none : kept [] ≡ []
unfolding kept
kept_none = refl

-- a write with mask 0 goes
pub kept_drops : (w : Write) (ws : List Write) → w.mask ≡ 0 → kept (w ∷ ws) ≡ kept ws
unfolding kept
kept_drops w ws h = rw (eq-eqb w.mask 0 h)

-- any other stays
pub kept_keeps : (w : Write) (ws : List Write) → (w.mask ≡ 0 → ⊥) → kept (w ∷ ws) ≡ w ∷ kept ws
unfolding kept
kept_keeps w ws h = rw (ne_eqb w.mask 0 h)

picked_append : (t : Bool) (w : Write) (a b : List Write) → pick t (a ++ b) (w ∷ a ++ b) ≡ pick t a (w ∷ a) ++ b
picked_append true w a b = refl
picked_append false w a b = refl

pub kept_append : (a b : List Write) → kept (a ++ b) ≡ kept a ++ kept b
unfolding kept
kept_append [] b = refl
kept_append (w ∷ a) b = rw (kept_append a b) (picked_append (eqb w.mask 0) w (kept a) (kept b))

pub kept_few : (ws : List Write) → length (kept ws) ≤ length ws
unfolding kept
kept_few [] = omega arith
kept_few (w ∷ ws) = go (eqb w.mask 0) (kept_few ws)
  where
    go : (t : Bool) → length (kept ws) ≤ length ws → length (pick t (kept ws) (w ∷ kept ws)) ≤ suc (length ws)
    go true h = omega arith
    go false h = omega arith

-- a command adds no more than its writes
pub adds_most : (h : ℕ) → adds_of h ≤ count_of h + 1
adds_most h = go (eqb (mask_of h) 0)
  where
    go : (t : Bool) → pick t 0 (count_of h + 1) ≤ count_of h + 1
    go true = omega arith
    go false = omega arith

-- of writes that have one mask all stay, or none
abbrev pub OneMask : ℕ → List Write → Type 0
OneMask m [] = Unit {0}
OneMask m (w ∷ ws) = (w.mask ≡ m) × OneMask m ws

pub kept_dropped : (m : ℕ) (ws : List Write) → OneMask m ws → m ≡ 0 → kept ws ≡ []
kept_dropped m [] o z = kept_none
kept_dropped m (w ∷ ws) o z = kept_drops w ws (o.0 ∙ z) ∙ kept_dropped m ws o.1 z

pub kept_all : (m : ℕ) (ws : List Write) → OneMask m ws → (m ≡ 0 → ⊥) → kept ws ≡ ws
kept_all m [] o n = kept_none
kept_all m (w ∷ ws) o n = kept_keeps w ws (λ z. n (sym o.0 ∙ z)) ∙ rw (kept_all m ws o.1 n)

-- as a command's writes have
pub run_mask : (l : List ℕ) (at n k i : ℕ) → OneMask (mask_of (header_at l at)) (run l at n k i)
unfolding run
run_mask l at zero k i = tt
run_mask l at (suc n) k i = (refl, run_mask l at n (k + 1) (i + step_of (header_at l at)))

pub run_dropped : (l : List ℕ) (at n k i : ℕ) → mask_of (header_at l at) ≡ 0 → kept (run l at n k i) ≡ []
run_dropped l at n k i h = kept_dropped (mask_of (header_at l at)) (run l at n k i) (run_mask l at n k i) h

pub run_kept : (l : List ℕ) (at n k i : ℕ) → (mask_of (header_at l at) ≡ 0 → ⊥) → kept (run l at n k i) ≡ run l at n k i
run_kept l at n k i h = kept_all (mask_of (header_at l at)) (run l at n k i) (run_mask l at n k i) h

-- THE EXPANSION AND THE FORM OF A LIST

pub all_of : (l : List ℕ) → all_writes l ≡ join l (commands l 0)
unfolding all_writes
all_of l = refl

pub expansion_of : (l : List ℕ) → expansion l ≡ kept (join l (commands l 0))
unfolding expansion all_writes
expansion_of l = refl

pub join_none : (l : List ℕ) → join l [] ≡ []
unfolding join
join_none l = refl

pub join_more : (l : List ℕ) (p : ℕ) (ps : List ℕ) → join l (p ∷ ps) ≡ expand l p ++ join l ps
unfolding join
join_more l p ps = refl

pub formed_of : (l : List ℕ) → well_formed l ≡ full l (commands l 0)
unfolding well_formed
formed_of l = refl

pub full_none : (l : List ℕ) → full l [] ≡ true
unfolding full
full_none l = refl

pub full_more : (l : List ℕ) (p : ℕ) (ps : List ℕ) → full l (p ∷ ps) ≡ (whole l p && full l ps)
unfolding full
full_more l p ps = refl

-- WHAT IS WRONG WITH A WRITE

port : (j p m : Bool) → (not j && (not p || m)) ≡ eqb (pick j 4 (pick (p && not m) 5 0)) 0
port true true m = refl
port true false m = refl
port false true true = refl
port false true false = refl
port false false m = refl

reach : (b : Bool) (i m : ℕ) → ltb 0x2FF i ≡ b
    → allowed i m ≡ eqb (pick b 3 (pick (jumps i) 4 (pick (port_data i && not (eqb m 15)) 5 0))) 0
reach true i m t = let h = ltb-true 0x2FF i t in rw (lt-leb i 0x2FF h)
reach false i m t = let h = ltb-false 0x2FF i t in rw (le-leb i 0x2FF h) (port (jumps i) (port_data i) (eqb m 15))

-- a write is allowed exactly when it has no fault
pub allowed_fault : (i m : ℕ) → allowed i m ≡ eqb (fault_of i m) 0
unfolding fault_of
allowed_fault i m = reach (ltb 0x2FF i) i m refl

-- WHAT REFUSES

-- a `Refusal` is told as `told` says
pub told_by_refusal : (v : Result ℕ Refusal) → told_by (λ r. number_of r.reason) (λ r. r.place) v ≡ told v
told_by_refusal (Ok n) = refl
told_by_refusal (Err r) = refl
