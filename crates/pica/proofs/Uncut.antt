-- No answer and no place is cut by the low 32 bits of a call: none is above 65,537, but for a close from a reader's words that no call
-- left, where it is one of those words. Assumes nothing.
use mathlib.Core.Path.{◌≡◌, refl}
use mathlib.Core.Bool.{Bool, true, false, ◌&&◌}
use mathlib.Core.List.{List, [], ◌∷◌}
use Prim.Native.Nat.{ℕ, zero, suc, ◌+◌, ◌-◌, ◌*◌, ◌%◌, ◌≤◌, ◌<◌}
use native.Mathlib.Omega.{arith}
use lib.Dec.{ltb, leb, eqb}
use lib.ListN.{length}
use borrow.Author.Tests.{ltb-true, ltb-false, leb-true}
use Rattle.numbers.specs.Pick.{pick}
use Rattle.numbers.specs.Answer.{Answer, answered, refused, unless_fault}
use Rattle.numbers.specs.Room.{level, and_then, if_room}
use Rattle.numbers.proofs.Tests.{and_true}
use Rattle.numbers.proofs.Picks.{pick_either}
use Rattle.numbers.proofs.Room.{level_lengths}
use Rattle.words.specs.declared.Reason.TheVariants.{BufferLength, CodeWithoutName, DepthAboveLargest, NotBuilt}
use Rattle.words.specs.Header.{count_of, words_of}
use Rattle.words.specs.Writes.{Write, kept}
use Rattle.words.specs.Commands.{header_at, whole, expand, places, commands, expansion, legal}
use Rattle.words.proofs.Laws.{run_length, kept_few}
use Rattle.registers.specs.State.{State, sized}
use Rattle.registers.specs.Applied.{difference}
use Rattle.registers.proofs.Differences.{difference_most}
use Rattle.registers.specs.Single.{refusal_of, write_answer}
use Rattle.reader.specs.ListVerdict.{first_fault, command_fault, judge, judged, verdict}
use Rattle.reader.specs.Read.{read_answer}
use Rattle.reader.proofs.Accepted.{verdict_accepted}
use Rattle.parts.specs.Progress.{fresh, after, between, fault_number, closing}
use Rattle.pieces.specs.Pieces.{wrong_length, both_sized, opening, fed, feeding, close_answer}
use Rattle.pieces.specs.Pieces as pieces
use Rattle.parts.specs.declared.Progress.{Progress}
use Rattle.writes.specs.Listed.{writes_answer}
use Rattle.runs.specs.PackedList.{writes, written}
use Rattle.runs.proofs.Shortest.{written_short}
use Rattle.runs.proofs.Writes.{writes_length}
use Rattle.packer.specs.Checks.{wrong, first_wrong, check_answer}
use Rattle.packer.specs.Packing.{pack_answer}
use Rattle.packer.proofs.Checks.{check_given}
use Rattle.decode.specs.Codes.{Check, stage_checks, frame_checks, checks, first_of, lowest}
use Rattle.decode.specs.Decoded.{settings_of, nameless_id, refusal, decoded_of}
use Rattle.settings.specs.declared.records.Settings.{Settings}
use Rattle.combiner.specs.declared.Given.{Given}
use Rattle.stores.specs.Tests.{verdict_number}
use Rattle.fragment.specs.Drawn.{outcome_of, fog_unbuilt, operation_unbuilt, format_unbuilt, largest, unbuilt_id, drawn_with, drawn_from, drawn_of}
use Rattle.fragment.specs.Drawn as cuts
use Rattle.stores.specs.declared.Verdict.{Verdict}
use Rattle.stores.specs.declared.Verdict.TheVariants as verdicts
use Rattle.stores.specs.declared.Stored.{Stored}
use Rattle.pica.specs.Calls.{call}
use Rattle.std.specs.Prelude.{Result, Ok, Err}
use Rattle.words.specs.declared.Refusal.{Refusal}
use Rattle.fragment.specs.declared.Outcome.{Outcome}

-- what a call's low 32 bits are to hold
abbrev pub value_in : Answer → ℕ
value_in (answered n) = n
value_in (refused r p) = p

-- so a call has it whole
pub uncut : (number value : ℕ) → value < 0x100000000 → call number value ≡ number * 0x100000000 + value
uncut number value h = omega arith

-- READING

-- a command without a fault has all its words
fits : (l : List ℕ) (at x : ℕ) (b : Bool) → whole l at ≡ b → pick b x 2 ≡ 0 → at + words_of (header_at l at) ≤ length l
fits l at x true e p = leb-true _ _ e
fits l at x false e p = absurd (omega arith)

by_fault : (l : List ℕ) (at f : ℕ) (rest : Answer) → command_fault l at ≡ f → at ≤ length l
    → (at + words_of (header_at l at) ≤ length l → value_in rest ≤ length l) → value_in (unless_fault f at rest) ≤ length l
by_fault l at zero rest e h more = more (fits l at (first_fault (expand l at)) (whole l at) refl e)
by_fault l at (suc f) rest e h more = h

by_place : (l ps : List ℕ) (at n : ℕ) (b : Bool) → ltb at (length l) ≡ b → n ≤ length l
    → (at < length l → value_in (judge l (at ∷ ps) n) ≤ length l) → value_in (judge l (pick b (at ∷ ps) []) n) ≤ length l
unfolding judge
by_place l ps at n true e h more = more (ltb-true _ _ e)
by_place l ps at n false e h more = h

commands_uncut : (l : List ℕ) (k at n : ℕ) → n ≤ at → n ≤ length l → value_in (judge l (places k l at) n) ≤ length l
unfolding judge places
commands_uncut l zero at n h g = g
commands_uncut l (suc k) at n h g =
    let w = words_of (header_at l at) in
    let m = length (kept (expand l at)) in
    let e : length (expand l at) ≡ count_of (header_at l at) + 1 = run_length l at _ _ _ in
    let few : m ≤ count_of (header_at l at) + 1 = omega (arith, kept_few (expand l at)) in
    by_place l (places k l (at + w)) at n (ltb at (length l)) refl g
    (λ below. by_fault l at (command_fault l at) (judge l (places k l (at + w)) (n + m)) refl (omega arith)
    (λ inside. commands_uncut l k (at + w) (n + m) (omega arith) (omega arith)))

pub verdict_uncut : (l : List ℕ) → value_in (verdict l) ≤ length l
unfolding verdict judged commands
verdict_uncut l =
    pick_either (λ a. value_in a ≤ length l) (legal l) (commands_uncut l (length l - 0) 0 0 (omega arith) (omega arith)) (omega arith)

by_length : (l : List ℕ) (sz : Bool) (b : Bool) → leb (length l) 65536 ≡ b
    → value_in (pick sz (pick b (verdict l) (refused 1 0)) (refused 6 0)) ≤ 65536
by_length l true true e = let h : length l ≤ 65536 = leb-true _ _ e in omega (arith, verdict_uncut l)
by_length l true false e = omega arith
by_length l false b e = omega arith

pub read_uncut : (s : State) (l : List ℕ) → value_in (read_answer s l) ≤ 65536
unfolding read_answer
read_uncut s l = by_length l (sized s) (leb (length l) 65536) refl

-- READING IN PIECES

pub open_uncut : (live spare : State) → value_in (pieces.told (opening live spare)) ≡ 0
unfolding opening
open_uncut live spare = go (both_sized live spare)
  where
    go : (b : Bool) → value_in (pieces.told (pick b (Ok fresh) wrong_length)) ≡ 0
    go true = refl
    go false = refl

held_below : (n : ℕ) (b : Bool) → ltb 65536 n ≡ b → pick b 65537 n ≤ 65537
held_below n true e = omega arith
held_below n false e = let h : n ≤ 65536 = ltb-false _ _ e in omega arith

pub feed_uncut : (p : Progress) (spare : State) (l : List ℕ) → value_in (pieces.told (feeding p spare l)) ≤ 65537
unfolding feeding
feed_uncut p spare l = go (sized spare)
  where
    go : (b : Bool) → value_in (pieces.told (pick b (Ok (fed p spare l)) wrong_length)) ≤ 65537
    go true = held_below (after p l).come (ltb 65536 (after p l).come) refl
    go false = omega arith

-- the reader's words are of 32 bits
pub close_uncut : (p : Progress) (live spare : State) → p.place < 0x100000000 → p.writes < 0x100000000
    → value_in (close_answer p live spare) < 0x100000000
unfolding close_answer closing
close_uncut p live spare h g =
    go (both_sized live spare) (ltb 65536 p.come) (eqb (p.come % 4) 0) (between p) (eqb p.fault 0)
  where
    judged_uncut : (c d : Bool)
        → value_in (pick c (pick d (answered p.writes) (refused (fault_number p.fault) p.place)) (refused 2 p.place))
        < 0x100000000
    judged_uncut true true = g
    judged_uncut true false = h
    judged_uncut false d = h

    go : (a b e c d : Bool)
        → value_in
        (pick a
        (pick b (refused 1 0)
        (pick e (pick c (pick d (answered p.writes) (refused (fault_number p.fault) p.place)) (refused 2 p.place))
        (refused 15 0)))
        (refused 6 0))
        < 0x100000000
    go true true e c d = omega arith
    go true false true c d = judged_uncut c d
    go true false false c d = omega arith
    go false b e c d = omega arith

-- ONE WRITE

at_zero : (n d : ℕ) → d ≤ 1 → value_in (unless_fault n 0 (answered d)) ≤ 1
at_zero zero d h = h
at_zero (suc n) d h = omega arith

pub write_uncut : (s : State) (w : Write) → value_in (write_answer s w) ≤ 1
write_uncut s w = at_zero (refusal_of s w) (difference s w) (difference_most s w)

-- where there is room, or none, the value is what is needed
room_value : (number need : ℕ) (b : Bool) → value_in (pick b (answered need) (refused number need)) ≡ need
room_value number need true = refl
room_value number need false = refl

-- THE WRITES OF A LIST

-- a list has no more writes than words
few_writes : (l : List ℕ) (n : ℕ) → verdict l ≡ answered n → length (expansion l) ≤ length l
few_writes l n e =
    let h : value_in (verdict l) ≤ length l = verdict_uncut l in
    let z : n ≤ length l = rw e at h in omega (arith, (verdict_accepted l n e).2)

by_verdict : (l : List ℕ) (room : ℕ) (a : Answer) → length l ≤ 65536 → verdict l ≡ a
    → value_in (and_then a (if_room 22 (length (expansion l)) room)) ≤ 65536
by_verdict l room (answered n) h e =
    let w = length (expansion l) in omega (arith, room_value 22 w (leb w room), few_writes l n e)
by_verdict l room (refused r p) h e = let g : value_in (verdict l) ≤ length l = verdict_uncut l in omega (arith, rw e at g)

by_lengths : (l : List ℕ) (room : ℕ) (a b : Bool) → leb (length l) 65536 ≡ b
    → value_in (pick a (pick b (and_then (verdict l) (if_room 22 (length (expansion l)) room)) (refused 1 0)) (refused 7 0)) ≤ 65536
by_lengths l room true true e = by_verdict l room (verdict l) (leb-true _ _ e) refl
by_lengths l room true false e = omega arith
by_lengths l room false b e = omega arith

pub writes_uncut : (l is ms vs : List ℕ) → value_in (writes_answer l is ms vs) ≤ 65536
unfolding writes_answer
writes_uncut l is ms vs =
    by_lengths l (length is) (level is ms vs) (leb (length l) 65536) refl

-- PACKING

unless_wrong : (f p b : ℕ) (rest : Answer) → p ≤ b → value_in rest ≤ b → value_in (unless_fault f p rest) ≤ b
unless_wrong zero p b rest h g = g
unless_wrong (suc f) p b rest h g = h

wrong_uncut : (i : ℕ) (ws : List Write) → value_in (first_wrong i ws) ≤ i + length ws
unfolding first_wrong
wrong_uncut i [] = omega arith
wrong_uncut i (w ∷ ws) =
    unless_wrong (wrong w.id w.mask) i (i + suc (length ws)) (first_wrong (i + 1) ws) (omega arith)
    (omega (arith, wrong_uncut (i + 1) ws))

by_level : (is ms vs : List ℕ) (a b : Bool) → level is ms vs ≡ a → leb (length is) 4096 ≡ b
    → value_in (pick a (pick b (first_wrong 0 (writes is ms vs)) (refused 8 0)) (refused 7 0)) ≤ 65536
by_level is ms vs true true e f =
    let g = level_lengths is ms vs e in
    let n = writes_length is ms vs g.0 g.1 in
    let few : length is ≤ 4096 = leb-true _ _ f in omega (arith, wrong_uncut 0 (writes is ms vs), n)
by_level is ms vs true false e f = omega arith
by_level is ms vs false b e f = omega arith

check_uncut : (is ms vs : List ℕ) → value_in (check_answer is ms vs) ≤ 65536
unfolding check_answer
check_uncut is ms vs = by_level is ms vs (level is ms vs) (leb (length is) 4096) refl refl

by_check : (is ms vs : List ℕ) (room : ℕ) (a : Answer) → check_answer is ms vs ≡ a
    → value_in (and_then a (if_room 10 (length (written (writes is ms vs))) room)) ≤ 65536
by_check is ms vs room (answered n) e =
    let g = check_given is ms vs n e in
    let ws = writes is ms vs in
    let l = writes_length is ms vs g.masks g.values in
    omega (arith, room_value 10 (length (written ws)) (leb (length (written ws)) room), written_short ws, l, g.few)
by_check is ms vs room (refused r p) e = let h : value_in (check_answer is ms vs) ≤ 65536 = check_uncut is ms vs in rw e at h

pub pack_uncut : (is ms vs : List ℕ) (room : ℕ) → value_in (pack_answer is ms vs room) ≤ 65536
unfolding pack_answer
pack_uncut is ms vs room = by_check is ms vs room (check_answer is ms vs) refl

-- DECODING AND DRAWING

all_below : ℕ → List Check → Bool
all_below n [] = true
all_below n (c ∷ cs) = leb c.id n && all_below n cs

first_below : (n rest : ℕ) (cs : List Check) → all_below n cs ≡ true → rest ≤ n → first_of cs rest ≤ n
unfolding first_of all_below
first_below n rest [] e h = h
first_below n rest (c ∷ cs) e h =
    let g = and_true (leb c.id n) (all_below n cs) e in
    pick_either (λ x. x ≤ n) c.lacks (leb-true _ _ g.0) (first_below n rest cs g.1 h)

lowest_below : (s : Settings) → lowest (checks s) ≤ 0x117
unfolding checks stage_checks frame_checks all_below
lowest_below s = first_below 0x117 0 (checks s) refl (omega arith)

abbrev pub place_of : Result Settings Refusal → ℕ
place_of (Ok s) = 0
place_of (Err r) = r.place

by_code : (s : State) (a b : Bool)
    → place_of (pick a (pick b (Ok (settings_of s)) (refusal CodeWithoutName (nameless_id s))) (refusal BufferLength 0)) ≤ 0x117
by_code s true true = omega arith
by_code s true false = lowest_below (settings_of s)
by_code s false b = omega arith

pub decode_uncut : (s : State) → place_of (decoded_of s) ≤ 0x117
unfolding decoded_of
decode_uncut s = by_code s (sized s) (eqb (nameless_id s) 0)

-- the verdict, or the place
abbrev pub drawn_value : Result Outcome Refusal → ℕ
drawn_value (Ok o) = verdict_number o.verdict
drawn_value (Err r) = r.place

verdict_below : (v : Verdict) → verdict_number v ≤ 3
verdict_below verdicts.AlphaFails = omega arith
verdict_below verdicts.StencilFails = omega arith
verdict_below verdicts.DepthFails = omega arith
verdict_below verdicts.Passes = omega arith

unbuilt_below : (s : Settings) → unbuilt_id s ≤ 0x117
unfolding unbuilt_id
unbuilt_below s =
    pick_either (λ x. x ≤ 0x117) (fog_unbuilt s.buffer_fog.update) (omega arith)
    (pick_either (λ x. x ≤ 0x117) (operation_unbuilt s.framebuffer.blending.operation) (omega arith)
    (pick_either (λ x. x ≤ 0x117) (format_unbuilt s.framebuffer.buffers.colour_format) (omega arith) (omega arith)))

by_depth : (s : Settings) (g : Given) (incoming : ℕ) (stored : Stored) (a b c : Bool)
    → drawn_value
    (pick a (pick b (cuts.refusal DepthAboveLargest 0) (pick c (cuts.refusal DepthAboveLargest 1) (Ok (outcome_of s g incoming stored))))
    (cuts.refusal NotBuilt (unbuilt_id s)))
    ≤ 0x117
by_depth s g incoming stored true true c = omega arith
by_depth s g incoming stored true false true = omega arith
by_depth s g incoming stored true false false = omega (arith, verdict_below (outcome_of s g incoming stored).verdict)
by_depth s g incoming stored false b c = unbuilt_below s

by_decoded : (d : Result Settings Refusal) (g : Given) (incoming : ℕ) (stored : Stored)
    → place_of d ≤ 0x117 → drawn_value (drawn_from d g incoming stored) ≤ 0x117
unfolding drawn_from drawn_with
by_decoded (Err r) g incoming stored h = h
by_decoded (Ok s) g incoming stored h =
    let top = largest s.framebuffer.buffers.depth_format in
    by_depth s g incoming stored (eqb (unbuilt_id s) 0) (ltb top incoming) (ltb top stored.depth)

pub fragment_uncut : (s : State) (g : Given) (incoming : ℕ) (stored : Stored) → drawn_value (drawn_of s g incoming stored) ≤ 0x117
fragment_uncut s g incoming stored = by_decoded (decoded_of s) g incoming stored (decode_uncut s)
