-- REQUEST 3, the sixteen-byte rule and writes with mask 0, from the contracts. The demands in this sense are in EndToEnd.antt, the close in
-- EachCall.antt (`close_long`, `close_illegal`), the counts in Differences.antt. Assumes nothing.
use mathlib.Core.Path.{◌≡◌, refl, sym, ap, ◌∙◌}
use mathlib.Core.Bool.{true, false}
use mathlib.Core.List.{List, [], ◌++◌}
use Prim.Native.Nat.{ℕ, ◌%◌, ◌≤◌, ◌<◌}
use native.Mathlib.Omega.{arith}
use lib.ListN.{length, take}
use borrow.Author.Tests.{le-leb, lt-leb, eqb-false}
use Rattle.numbers.specs.Answer.{refused}
use Rattle.numbers.proofs.Room.{lengths_level}
use Rattle.words.specs.Writes.{Write, kept}
use Rattle.words.specs.Commands.{legal}
use Rattle.registers.specs.State.{State, sized}
use Rattle.registers.specs.Applied.{apply_all, differences}
use Rattle.reader.specs.ListVerdict.{verdict}
use Rattle.reader.specs.Read.{read_answer, read_answers}
use Rattle.reader.proofs.Accepted.{verdict_odd}
use Rattle.reader.proofs.Once.{both_one, told_one_law}
use Rattle.writes.specs.Listed.{writes_answer}
use Rattle.runs.specs.PackedList.{writes, packed, filling, filled, written as list_of}
use Rattle.runs.specs.Shortest.{Rule}
use Rattle.runs.proofs.PackedList.{packed_none}
use Rattle.runs.proofs.Filled.{filled_none}
use Rattle.runs.proofs.Shortest.{written_shortest}
use Rattle.packer.proofs.Once.{told_one_law as pack-told-one}
use Rattle.demands.specs.Said.{Said}
use Rattle.demands.specs.Refusals.{OneLength}
use Rattle.demands.proofs.Calls.{JudgeCall, judge_call, ReadCall, read_call, WritesCall, writes_call, PackCall, pack_call}
use Rattle.demands.proofs.Reading.{refused_list}
use Rattle.demands.proofs.Packing.{no_room_then, room}
use Rattle.demands.proofs.EndToEnd.{packed_put, pack_then_read}
use Rattle.demands.proofs.Taken.{Words}
use Rattle.demands.proofs.Dropped.{dropped_same}
use Rattle.std.specs.Prelude.{Result, Ok, Err}
use Rattle.words.specs.declared.Refusal.{Refusal}
use Rattle.reader.specs.declared.Counts.{Counts}
use Rattle.words.specs.declared.Reason.TheVariants.{ListTooLong, NoRoom, IllegalLength}

-- "Lists whose words aren't a multiple of 4 are now refusal 15, place 0, tested after 1 and before any command"
illegal : (l : List ℕ) → legal l ≡ false → verdict l ≡ refused 15 0
illegal l e = verdict_odd l (eqb-false (length l % 4) 0 e)

pub read_illegal : {s t : State} {l : List ℕ} {r : Result Counts Refusal} → ReadCall s l r t → sized s ≡ true
    → length l ≤ 65536 → legal l ≡ false
    → (r ≡ Err (record { reason = IllegalLength; place = 0 })) × (t ≡ s)
unfolding read_answers read_answer
read_illegal {s} {t} {l} {r} c z h e =
    let a : read_answer s l ≡ refused 15 0 = rw (z, le-leb (length l) 65536 h) (illegal l e) in
    (both_one r _ ((read_call c).0 ∙ rw a), (read_call c).1 ∙ refused_list s l 15 0 a)

-- whatever its length modulo 4, a longer list is 1
pub read_long : {s t : State} {l : List ℕ} {r : Result Counts Refusal} → ReadCall s l r t → sized s ≡ true → 65536 < length l
    → (r ≡ Err (record { reason = ListTooLong; place = 0 })) × (t ≡ s)
unfolding read_answers read_answer
read_long {s} {t} {l} {r} c z h =
    let a : read_answer s l ≡ refused 1 0 = rw (z, lt-leb (length l) 65536 h) in
    (both_one r _ ((read_call c).0 ∙ rw a), (read_call c).1 ∙ refused_list s l 1 0 a)

-- `judge_list` too, whatever its length: it is lent no state, and tests no 1
pub judge_illegal : {l : List ℕ} {r : Result ℕ Refusal} → JudgeCall l r → legal l ≡ false
    → r ≡ Err (record { reason = IllegalLength; place = 0 })
judge_illegal {l} {r} c e = told_one_law r _ (judge_call c ∙ illegal l e)

-- and for a list's writes
pub writes_illegal : {l is ms vs is' ms' vs' : List ℕ} {r : Result ℕ Refusal} → WritesCall l is ms vs r is' ms' vs' → OneLength is ms vs
    → length l ≤ 65536 → legal l ≡ false → r ≡ Err (record { reason = IllegalLength; place = 0 })
unfolding writes_answer
writes_illegal {l} {is} {ms} {vs} {r = r} c o h e =
    told_one_law r _ ((writes_call c).0 ∙ rw (lengths_level is ms vs o.0 o.1, le-leb (length l) 65536 h, illegal l e))

-- "The packer fills with at most one pair, parameter 0 and header 0"; "Which list is written is still settled by document 01's rule on
-- lists before filling": the list that is put is one of that rule for the run that is left, and then nothing, or `0 0` where its words are
-- no multiple of 4
pub pack_fills : {is ms vs old new : List ℕ} {n : ℕ} → PackCall is ms vs old (Ok n) new
    → (l : List ℕ) × Rule (kept (writes is ms vs)) l × (take n new ≡ l ++ filling l)
unfolding filled
pack_fills {is} {ms} {vs} p =
    let put = packed_put p in
    let best = written_shortest (writes is ms vs) put.0.packable in
    (best.unfilled, best.rule, put.1 ∙ best.fills)

-- "the packer drops them": what is left of a run alone decides on the list
pub drops_decide : {is ms vs is₂ ms₂ vs₂ old new old₂ new₂ : List ℕ} {n m : ℕ} → PackCall is ms vs old (Ok n) new
    → PackCall is₂ ms₂ vs₂ old₂ (Ok m) new₂ → kept (writes is ms vs) ≡ kept (writes is₂ ms₂ vs₂) → take n new ≡ take m new₂
drops_decide p q e = (packed_put p).1 ∙ ap (λ (ws : List Write). filled (packed ws)) e ∙ sym (packed_put q).1

-- and on the words needed where there is no room
pub drops_need : {is ms vs is₂ ms₂ vs₂ old new old₂ new₂ : List ℕ} {n m : ℕ}
    → PackCall is ms vs old (Err (record { reason = NoRoom; place = n })) new
    → PackCall is₂ ms₂ vs₂ old₂ (Err (record { reason = NoRoom; place = m })) new₂
    → kept (writes is ms vs) ≡ kept (writes is₂ ms₂ vs₂) → n ≡ m
drops_need {is} {ms} {vs} {is₂} {ms₂} {vs₂} {old} {old₂ = old₂} {n = n} {m} p q e =
    let a = no_room_then is ms vs (length old) n (sym (pack_call p).0) in
    let b = no_room_then is₂ ms₂ vs₂ (length old₂) m (sym (pack_call q).0) in
    a.1 ∙ ap (λ (ws : List Write). length (filled (packed ws))) e ∙ sym b.1

-- a run with nothing left, the empty run too, is the empty list
pub nothing_left : {is ms vs old new : List ℕ} {r : Result ℕ Refusal} → PackCall is ms vs old r new → OneLength is ms vs → length is ≤ 4096
    → Said (writes is ms vs) → kept (writes is ms vs) ≡ [] → (r ≡ Ok 0) × (new ≡ old)
nothing_left {is} {ms} {vs} {old} {new} {r} p o few said e =
    let none : list_of (writes is ms vs) ≡ [] = rw (e, packed_none [] refl) (filled_none [] refl) in
    let k = pack_call p in
    let a = room is ms vs o few said old (rw none (omega arith)) in
    (pack-told-one r (Ok 0) (k.0 ∙ a.0 ∙ rw none), k.1 ∙ a.1 ∙ rw none)

-- and nothing is lost: what reading a packed list leaves, and how many writes it tells to have made a difference, is so of all the writes
-- given, those of mask 0 too. Of the state it is asked that its cells are 32-bit words, as those of a lent buffer are: a masked replacement
-- cuts larger numbers
pub pack_then_read_all : {is ms vs old new : List ℕ} {n : ℕ} {s t : State} {r : Result Counts Refusal} → PackCall is ms vs old (Ok n) new
    → ReadCall s (take n new) r t → sized s ≡ true → Words s
    → let ws = writes is ms vs in
    (r ≡ Ok (record { writes = length (kept ws); differences = differences s ws })) × (t ≡ apply_all s ws)
pack_then_read_all {is} {ms} {vs} {s = s} p c z u =
    let read = pack_then_read p c z in
    let same = dropped_same s (writes is ms vs) u z (packed_put p).0.packable in
    (read.0 ∙ rw same.0, read.1 ∙ same.1)
