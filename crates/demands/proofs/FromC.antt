-- What a C caller takes out of a call's one number, `pica_number` and `pica_value`, is the answer of the function below it, whole, of
-- reading and closing without the second number: so the rows of the table hold of the C functions too. Assumes nothing.
use mathlib.Core.Path.{◌≡◌, refl, sym, ap, ◌∙◌}
use mathlib.Core.Bool.{Bool, true, false}
use mathlib.Core.List.{List, [], ◌∷◌}
use mathlib.Core.Logic.{inl, inr, ⊎_elim}
use Prim.Native.Nat.{ℕ, ◌/◌, ◌%◌, ◌≤◌, ◌<◌}
use native.Mathlib.Omega.{arith}
use lib.Dec.{eqb, ltb}
use lib.ListN.{get_or}
use borrow.Author.Tests.{eq-eqb, ne_eqb}
use Rattle.numbers.specs.Pick.{pick}
use Rattle.numbers.specs.Answer.{Answer, answered, refused}
use Rattle.numbers.proofs.Answers.{told_apart, number_one}
use Rattle.words.specs.Writes.{Write}
use Rattle.words.specs.declared.Refusal.{Refusal}
use Rattle.registers.specs.State.{State, sized}
use Rattle.registers.specs.Applied.{differences}
use Rattle.words.specs.Commands.{expansion}
use Rattle.registers.specs.Single.{write_answer}
use Rattle.reader.specs.Read.{read_answer, read_answers}
use Rattle.parts.specs.Progress.{fresh, between, closing}
use Rattle.pieces.specs.Pieces.{wrong_length, both_sized, opening, fed, feeding, close_answer, close_answers}
use Rattle.pieces.specs.Pieces as pieces
use Rattle.parts.specs.declared.Progress.{Progress}
use Rattle.writes.specs.Listed.{writes_answer}
use Rattle.packer.specs.Packing.{pack_answer}
use Rattle.decode.specs.Decoded.{decoded_of}
use Rattle.stores.specs.Tests.{verdict_number}
use Rattle.pica.specs.Calls.{call, answer, answers, decode_call, given_of, stored_of, fragment_of, fragment_call}
use Rattle.pica.proofs.Uncut.{value_in, read_uncut, feed_uncut, close_uncut, write_uncut, writes_uncut, pack_uncut}
use Rattle.pica.proofs.Uncut.{place_of, decode_uncut, drawn_value, fragment_uncut}
use Rattle.demands.specs.Refusals.{In, CommandRefused, ListRefused, ReadRefused, WriteRefused, WritesRefused, PackRefused}
use Rattle.demands.specs.FragmentRefusals.{DecodeRefused, DrawRefused}
use Rattle.demands.proofs.Both.{answers_besides}
use Rattle.demands.proofs.Refusals.{fault_numbered, read_row, write_row}
use Rattle.demands.proofs.RunRefusals.{pack_row}
use Rattle.demands.proofs.Listed.{writes_row}
use Rattle.demands.proofs.FragmentRefusals.{decode_row, draw_row}
use Rattle.std.specs.Prelude.{Result, Ok, Err}
use Rattle.settings.specs.declared.records.Settings.{Settings}
use Rattle.fragment.specs.declared.Outcome.{Outcome}
use Rattle.words.specs.Reasons.{number_of}

-- high 32 bits the refusal's number, 0 for none; low 32 bits the answer or the place
abbrev pub as_taken : ℕ → Answer
as_taken r =
    let number = r / 0x100000000 in
    let value = r % 0x100000000 in
    pick (eqb number 0) (answered value) (refused number value)

-- no refusal has the number 0
abbrev Numbered : Answer → Type 0
Numbered a = (n p : ℕ) → a ≡ refused n p → n ≡ 0 → ⊥

taken : (a : Answer) → value_in a < 0x100000000 → Numbered a → as_taken (answer a) ≡ a
taken (answered n) h z =
    let d : call 0 n / 0x100000000 ≡ 0 = omega arith in
    let m : call 0 n % 0x100000000 ≡ n = omega arith in
    rw (eq-eqb (call 0 n / 0x100000000) 0 d) (ap answered m)
taken (refused r p) h z =
    let d : call r p / 0x100000000 ≡ r = omega arith in
    let m : call r p % 0x100000000 ≡ p = omega arith in
    rw (ne_eqb (call r p / 0x100000000) 0 (λ e. z r p refl (sym d ∙ e)), d, m)

-- the rows have other numbers
command_numbered : (l : List ℕ) (n p : ℕ) → CommandRefused l n p → n ≡ 0 → ⊥
command_numbered l n p r z = ⊎_elim (λ x. omega (arith, x.0)) (λ x. fault_numbered n x.1 z) r.why

list_numbered : (l : List ℕ) (n p : ℕ) → ListRefused l n p → n ≡ 0 → ⊥
list_numbered l n p (inl r) z = omega (arith, r.0)
list_numbered l n p (inr r) z = command_numbered l n p r.1 z

read_numbered : (s : State) (l : List ℕ) (n p : ℕ) → ReadRefused s l n p → n ≡ 0 → ⊥
read_numbered s l n p (inl r) z = omega (arith, r.0)
read_numbered s l n p (inr (inl r)) z = omega (arith, r.0)
read_numbered s l n p (inr (inr r)) z = list_numbered l n p r.2 z

write_numbered : (s : State) (w : Write) (n p : ℕ) → WriteRefused s w n p → n ≡ 0 → ⊥
write_numbered s w n p r z =
    ⊎_elim (λ x. omega (arith, x.0)) (⊎_elim (λ x. omega (arith, x.0)) (λ x. fault_numbered n x.2 z)) r.why

one_numbered : (n : ℕ) → In n (9 ∷ 3 ∷ 4 ∷ 5 ∷ []) → n ≡ 0 → ⊥
one_numbered n (inl e) z = omega arith
one_numbered n (inr f) z = fault_numbered n f z

pack_numbered : (is ms vs : List ℕ) (room n p : ℕ) → PackRefused is ms vs room n p → n ≡ 0 → ⊥
pack_numbered is ms vs room n p (inl (inl r)) z = omega (arith, r.0)
pack_numbered is ms vs room n p (inl (inr (inl r))) z = omega (arith, r.0)
pack_numbered is ms vs room n p (inl (inr (inr r))) z = one_numbered n r.2.why.0 z
pack_numbered is ms vs room n p (inr r) z = omega (arith, r.0)

writes_numbered : (l is ms vs : List ℕ) (n p : ℕ) → WritesRefused l is ms vs n p → n ≡ 0 → ⊥
writes_numbered l is ms vs n p (inl r) z = omega (arith, r.0)
writes_numbered l is ms vs n p (inr (inl r)) z = omega (arith, r.0)
writes_numbered l is ms vs n p (inr (inr (inl r))) z = list_numbered l n p r.2 z
writes_numbered l is ms vs n p (inr (inr (inr r))) z = omega (arith, r.0)

-- WHAT IS TAKEN OUT of the numbers that the promises of `pica_read`, `pica_write`, `pica_writes` and `pica_pack` give
pub read_taken : (s : State) (l : List ℕ) → as_taken (answers (read_answers s l)) ≡ read_answer s l
unfolding read_answers
read_taken s l =
    ap as_taken (answers_besides (read_answer s l) (differences s (expansion l)))
    ∙ taken (read_answer s l) (omega (arith, read_uncut s l)) (λ n p e. read_numbered s l n p (read_row s l n p e))

pub write_taken : (s : State) (w : Write) → as_taken (answer (write_answer s w)) ≡ write_answer s w
write_taken s w = taken (write_answer s w) (omega (arith, write_uncut s w)) (λ n p e. write_numbered s w n p (write_row s w n p e))

pub writes_taken : (l is ms vs : List ℕ) → as_taken (answer (writes_answer l is ms vs)) ≡ writes_answer l is ms vs
writes_taken l is ms vs =
    taken (writes_answer l is ms vs) (omega (arith, writes_uncut l is ms vs))
    (λ n p e. writes_numbered l is ms vs n p (writes_row l is ms vs n p e))

pub pack_taken : (is ms vs : List ℕ) (room : ℕ) → as_taken (answer (pack_answer is ms vs room)) ≡ pack_answer is ms vs room
pack_taken is ms vs room =
    taken (pack_answer is ms vs room) (omega (arith, pack_uncut is ms vs room))
    (λ n p e. pack_numbered is ms vs room n p (pack_row is ms vs room n p e))

-- of those that the promises of `pica_open`, `pica_feed` and `pica_close` give; the reader's words are of 32 bits
pub open_taken : (live spare : State) → as_taken (answer (pieces.told (opening live spare))) ≡ pieces.told (opening live spare)
unfolding opening
open_taken live spare = go (both_sized live spare)
  where
    go : (b : Bool) → let a = pieces.told (pick b (Ok fresh) wrong_length) in as_taken (answer a) ≡ a
    go true = refl
    go false = refl

above_zero : (k q : ℕ) → 0 < k → Numbered (refused k q)
above_zero k q h n p e z = let m : k ≡ n = number_one e in omega arith

feed_numbered : (p : Progress) (spare : State) (l : List ℕ) → Numbered (pieces.told (feeding p spare l))
unfolding feeding
feed_numbered p spare l = go (sized spare)
  where
    go : (b : Bool) → Numbered (pieces.told (pick b (Ok (fed p spare l)) wrong_length))
    go true = λ n q e z. told_apart e
    go false = above_zero 6 0 (omega arith)

pub feed_taken : (p : Progress) (spare : State) (l : List ℕ)
    → as_taken (answer (pieces.told (feeding p spare l))) ≡ pieces.told (feeding p spare l)
feed_taken p spare l = taken (pieces.told (feeding p spare l)) (omega (arith, feed_uncut p spare l)) (feed_numbered p spare l)

close_numbered : (p : Progress) (live spare : State) → Numbered (close_answer p live spare)
unfolding close_answer closing
close_numbered p live spare =
    go (both_sized live spare) (ltb 65536 p.come) (eqb (p.come % 4) 0) (between p) (eqb p.fault 0)
    (eqb p.fault 3) (eqb p.fault 4)
  where
    go : (a b m c d f g : Bool)
        → Numbered
        (pick a
        (pick b (refused 1 0)
        (pick m (pick c (pick d (answered p.writes) (refused (pick f 3 (pick g 4 5)) p.place)) (refused 2 p.place))
        (refused 15 0)))
        (refused 6 0))
    go true true m c d f g = above_zero 1 0 (omega arith)
    go true false false c d f g = above_zero 15 0 (omega arith)
    go true false true true true f g = λ n q e z. told_apart e
    go true false true true false true g = above_zero 3 p.place (omega arith)
    go true false true true false false true = above_zero 4 p.place (omega arith)
    go true false true true false false false = above_zero 5 p.place (omega arith)
    go true false true false d f g = above_zero 2 p.place (omega arith)
    go false b m c d f g = above_zero 6 0 (omega arith)

pub close_taken : (p : Progress) (live spare : State) → p.place < 0x100000000 → p.writes < 0x100000000
    → as_taken (answers (close_answers p live spare)) ≡ close_answer p live spare
unfolding close_answers
close_taken p live spare h g =
    ap as_taken (answers_besides (close_answer p live spare) p.differences)
    ∙ taken (close_answer p live spare) (close_uncut p live spare h g) (close_numbered p live spare)

-- of those that the promises of `pica_decode` and `pica_fragment` give
abbrev pub decode_answer : Result Settings Refusal → Answer
decode_answer (Ok x) = answered 0
decode_answer (Err r) = refused (number_of r.reason) r.place

abbrev pub fragment_answer : Result Outcome Refusal → Answer
fragment_answer (Ok o) = answered (verdict_number o.verdict)
fragment_answer (Err r) = refused (number_of r.reason) r.place

decode_numbered : (s : State) (n p : ℕ) → DecodeRefused s n p → n ≡ 0 → ⊥
decode_numbered s n p (inl r) z = omega (arith, r.0)
decode_numbered s n p (inr r) z = omega (arith, r.number)

draw_numbered : (s : State) (incoming stored n p : ℕ) → DrawRefused s incoming stored n p → n ≡ 0 → ⊥
draw_numbered s incoming stored n p (inl r) z = decode_numbered s n p r z
draw_numbered s incoming stored n p (inr (inl r)) z = omega (arith, r.number)
draw_numbered s incoming stored n p (inr (inr r)) z = omega (arith, r.number)

by_decoded : (d : Result Settings Refusal) → place_of d ≤ 0x117 → ((r : Refusal) → d ≡ Err r → (number_of r.reason) ≡ 0 → ⊥)
    → as_taken (decode_call d) ≡ decode_answer d
by_decoded (Ok x) h z = refl
by_decoded (Err r) h z =
    taken (refused (number_of r.reason) r.place) (omega arith) (λ n p e y. z r refl (number_one e ∙ y))

pub decode_taken : (s : State) → as_taken (decode_call (decoded_of s)) ≡ decode_answer (decoded_of s)
decode_taken s =
    by_decoded (decoded_of s) (decode_uncut s) (λ r e. decode_numbered s (number_of r.reason) r.place (decode_row s r.reason r.place e))

by_drawn : (d : Result Outcome Refusal) → drawn_value d ≤ 0x117 → ((r : Refusal) → d ≡ Err r → (number_of r.reason) ≡ 0 → ⊥)
    → as_taken (fragment_call d) ≡ fragment_answer d
by_drawn (Ok o) h z = taken (answered (verdict_number o.verdict)) (omega arith) (λ n p e y. told_apart e)
by_drawn (Err r) h z =
    taken (refused (number_of r.reason) r.place) (omega arith) (λ n p e y. z r refl (number_one e ∙ y))

pub fragment_taken : (s : State) (words : List ℕ) → as_taken (fragment_call (fragment_of s words)) ≡ fragment_answer (fragment_of s words)
fragment_taken s words =
    let g = given_of words in
    let incoming = get_or words 7 0 in
    let stored = stored_of words in
    by_drawn (fragment_of s words) (fragment_uncut s g incoming stored)
    (λ r e.
    draw_numbered s incoming stored.depth (number_of r.reason) r.place (draw_row s incoming stored r.reason r.place g e))
