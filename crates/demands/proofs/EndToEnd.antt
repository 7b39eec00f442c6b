-- THE DEMANDS OF THE FUNCTIONS, from their contracts alone: what is known of every answer that a call may give and of all that it may
-- leave. Who trusts nothing else starts here; the writes of a list are in Between.antt. Assumes nothing.
use mathlib.Core.Path.{◌≡◌, refl, sym, ap, ◌∙◌}
use mathlib.Core.Bool.{Bool, true, false}
use mathlib.Core.List.{List}
use mathlib.Core.Logic.{◌⊎◌, inl, inr}
use Prim.Native.Nat.{ℕ, zero, suc, ◌≤◌, ◌<◌}
use native.Mathlib.Decide.{dec_le}
use native.Mathlib.Omega.{arith}
use lib.Dec.{ltb}
use lib.ListN.{length, take, drop}
use lib.Seq.{take_at, drop_at}
use borrow.Author.Tests.{ltb-false, eq-eqb}
use Rattle.numbers.specs.Pick.{pick}
use Rattle.numbers.specs.Answer.{answered, unless_fault, both}
use Rattle.numbers.specs.Bits.{spread}
use Rattle.numbers.proofs.Answers.{told_apart}
use Rattle.words.specs.Writes.{Write, kept, fault_of, allowed}
use Rattle.words.proofs.Laws.{allowed_fault}
use Rattle.words.specs.Commands.{all_writes, expansion, legal, well_formed}
use Rattle.words.specs.declared.Refusal.{Refusal}
use Rattle.registers.specs.State.{State, sized}
use Rattle.registers.specs.Applied.{apply, apply_all, differs, difference, differences}
use Rattle.registers.specs.Single.{refusal_of, unless}
use Rattle.reader.specs.ListVerdict.{all_allowed}
use Rattle.reader.specs.Read.{read_answer, read_answers, read_state}
use Rattle.reader.specs.declared.Counts.{Counts}
use Rattle.reader.proofs.Once.{both_one}
use Rattle.registers.proofs.Once.{told_one_law as write-told-one}
use Rattle.runs.specs.PackedList.{writes, PackableRun, written as list_of}
use Rattle.runs.specs.Shortest.{Says, Shortest}
use Rattle.runs.proofs.Shortest.{written_shortest}
use Rattle.packer.proofs.Once.{told_one_law as pack-told-one}
use Rattle.demands.specs.Said.{Said}
use Rattle.settings.specs.declared.records.Settings.{Settings}
use Rattle.decode.specs.Decoded.{settings_of, nameless, decoded_of, decodable}
use Rattle.decode.proofs.Lowest.{held_named}
use Rattle.decode.proofs.Cases.{decodable_sized, decodable_held, else_refused}
use Rattle.combiner.specs.declared.Given.{Given}
use Rattle.stores.specs.declared.Stored.{Stored}
use Rattle.fragment.specs.Drawn.{unbuilt_at, outcome_of}
use Rattle.fragment.specs.declared.Outcome.{Outcome}
use Rattle.fragment.proofs.Widths.{drawn_decoded, drawn_tested}
use Rattle.demands.specs.FragmentRefusals.{DecodeRefused, DrawRefused, top_of}
use Rattle.demands.specs.Refusals.{ReadRefused, WriteRefused, OneLength, PackRefused}
use Rattle.demands.proofs.Calls.{WriteCall, ReadCall, PackCall, DecodeCall, DrawCall}
use Rattle.demands.proofs.Calls.{write_call, read_call, pack_call, decode_call, draw_call}
use Rattle.demands.proofs.Both.{both_given, neither_given}
use Rattle.demands.proofs.FragmentRefusals.{decode_row, draw_row, done_only}
use Rattle.demands.proofs.Reading.{refused_list, refused_write, read_tested, accepted, accepted_only, leaves}
use Rattle.demands.proofs.Refusals.{write_row, read_row}
use Rattle.demands.proofs.RunRefusals.{pack_row}
use Rattle.demands.proofs.Said.{said_packable}
use Rattle.demands.proofs.Packing.{refused_pack, answered_then, given_said, reads_back, room, no_room}
use Rattle.std.specs.Prelude.{Result, Ok, Err}
use Rattle.words.specs.Reasons.{number_of}
use Rattle.words.specs.declared.Reason.TheVariants as reason

-- DEMAND 1: "Any words, any numbers may come in. Every entry point answers, or refuses by a number of the table, and asks nothing of its
-- caller. A refused list leaves all three buffers as they were, also when its last command is the bad one." That nothing is asked is no
-- theorem: the contracts have no precondition.

pub write_refuses : {s t : State} {w : Write} {why : Refusal} → WriteCall s w (Err why) t
    → (t ≡ s) × WriteRefused s w (number_of why.reason) why.place
write_refuses {s} {t} {w} {why} c =
    let k = write_call c in
    (k.1 ∙ refused_write s w (number_of why.reason) why.place (sym k.0), write_row s w (number_of why.reason) why.place (sym k.0))

pub read_refuses : {s t : State} {l : List ℕ} {why : Refusal} → ReadCall s l (Err why) t
    → (t ≡ s) × ReadRefused s l (number_of why.reason) why.place
unfolding read_answers
read_refuses {s} {t} {l} {why} c =
    let k = read_call c in
    let e = neither_given (read_answer s l) (number_of why.reason) why.place (differences s (expansion l)) k.0 in
    (k.1 ∙ refused_list s l (number_of why.reason) why.place e, read_row s l (number_of why.reason) why.place e)

pub pack_refuses : {is ms vs old new : List ℕ} {why : Refusal} → PackCall is ms vs old (Err why) new
    → (new ≡ old) × PackRefused is ms vs (length old) (number_of why.reason) why.place
pack_refuses {is} {ms} {vs} {old} {new} {why} c =
    let k = pack_call c in
    let e = sym k.0 in
    (k.1 ∙ refused_pack is ms vs old (number_of why.reason) why.place e, pack_row is ms vs (length old) (number_of why.reason) why.place e)

pub decode_refuses : {s : State} {why : Refusal} → DecodeCall s (Err why) → DecodeRefused s (number_of why.reason) why.place
decode_refuses {s} {why} c = decode_row s why.reason why.place (sym (decode_call c))

pub draw_refuses : {s : State} {g : Given} {incoming : ℕ} {stored : Stored} {why : Refusal}
    → DrawCall s g incoming stored (Err why) → DrawRefused s incoming stored.depth (number_of why.reason) why.place
draw_refuses {s} {g} {incoming} {stored} {why} c = draw_row s incoming stored why.reason why.place g (sym (draw_call c))

pub counts_one : (c d : Counts) → c.writes ≡ d.writes → c.differences ≡ d.differences → c ≡ d
counts_one c d w n = rw (w, n)

-- DEMAND 2: "A list is accepted exactly when it is well formed and each write is allowed; what it leaves is what its expansion leaves,
-- one masked write after another." In the sense of request 3: "Lists whose words aren't a multiple of 4 are now refusal 15"; "Writes with
-- mask 0 are still checked, but no longer belong to an expansion".

-- a list that can be read, and is to be accepted
pub record Acceptable (s : State) (l : List ℕ) : Type 0 where
  pub lengths : sized s ≡ true
  pub short : length l ≤ 65536
  pub legal : legal l ≡ true
  pub form : well_formed l ≡ true
  pub allowed : all_allowed (all_writes l) ≡ true

-- what reading then gives: the number of writes in the expansion, and how many of them made a difference; "the counts of an expansion leave
-- them out", those of mask 0
abbrev pub counts_of : State → List ℕ → Counts
counts_of s l = record { writes = length (expansion l); differences = differences s (expansion l) }

pub read_accepts_only : {s t : State} {l : List ℕ} {c : Counts} → ReadCall s l (Ok c) t
    → Acceptable s l × (c ≡ counts_of s l) × (t ≡ apply_all s (expansion l))
unfolding read_answers
read_accepts_only {s} {t} {l} {c} r =
    let k = read_call r in
    let g = both_given (read_answer s l) c.writes (differences s (expansion l)) c.differences k.0 in
    let e = g.0 in
    let z = read_tested s l c.writes e in
    let a = accepted_only s l z.0 z.1 c.writes e in (
      record { lengths = z.0; short = z.1; legal = a.0; form = a.1; allowed = a.2 },
      counts_one c (counts_of s l) a.3 g.1,
      k.1 ∙ leaves s l z.0 z.1 c.writes e,
    )

pub read_accepts : {s t : State} {l : List ℕ} {r : Result Counts Refusal} → ReadCall s l r t → Acceptable s l
    → (r ≡ Ok (counts_of s l)) × (t ≡ apply_all s (expansion l))
unfolding read_answers
read_accepts {s} {t} {l} {r} c a =
    let k = read_call c in
    let e = accepted s l a.lengths a.short a.legal a.form a.allowed in (
      both_one r (Ok (counts_of s l)) (k.0 ∙ rw e),
      k.1 ∙ leaves s l a.lengths a.short _ e,
    )

done_one : (a b : Bool) → answered (pick a 1 0) ≡ answered (pick b 1 0) → a ≡ b
done_one a b e = let z = write-told-one (Ok a) (Ok b) e in cc

by_number : (n d : ℕ) (s t u : State) (b : Bool) → answered (pick b 1 0) ≡ unless_fault n 0 (answered d) → u ≡ unless n t s
    → (n ≡ 0) × (pick b 1 0 ≡ d) × (u ≡ t)
by_number zero d s t u b e f = let z : pick b 1 0 ≡ d = cc in (refl, z, f)
by_number (suc n) d s t u b e f = absurd (told_apart e)

by_mask : (s : State) (w : Write) (a b : Bool) → sized s ≡ a → ltb 15 w.mask ≡ b → pick a (pick b 9 (fault_of w.id w.mask)) 6 ≡ 0
    → (sized s ≡ true) × (w.mask ≤ 15) × (allowed w.id w.mask ≡ true)
by_mask s w true true t u e = absurd (omega arith)
by_mask s w true false t u e =
    (t, ltb-false 15 w.mask u, allowed_fault w.id w.mask ∙ eq-eqb (fault_of w.id w.mask) 0 e)
by_mask s w false b t u e = absurd (omega arith)

not_refused : (s : State) (w : Write) → refusal_of s w ≡ 0 → (sized s ≡ true) × (w.mask ≤ 15) × (allowed w.id w.mask ≡ true)
unfolding refusal_of
not_refused s w e = by_mask s w (sized s) (ltb 15 w.mask) refl refl e

-- a single write that is done is allowed, leaves what the write leaves, and tells whether it made a difference
pub write_leaves : {s t : State} {w : Write} {d : Bool} → WriteCall s w (Ok d) t
    → (sized s ≡ true) × (w.mask ≤ 15) × (allowed w.id w.mask ≡ true) × (t ≡ apply s w)
    × (d ≡ differs s w.id (spread w.mask) w.value)
write_leaves {s} {t} {w} {d} c =
    let k = write_call c in
    let r = by_number (refusal_of s w) (difference s w) s (apply s w) t d k.0 k.1 in
    let a = not_refused s w r.0 in
    (a.0, a.1, a.2, r.2, done_one d (differs s w.id (spread w.mask) w.value) (ap answered r.1))

-- where words are answered, the run can be packed, and its list stands in the space
pub packed_put : {is ms vs old new : List ℕ} {n : ℕ} → PackCall is ms vs old (Ok n) new
    → PackableRun is ms vs × (take n new ≡ list_of (writes is ms vs))
packed_put {is} {ms} {vs} {old} {new} {n} p =
    let k = pack_call p in
    let a = answered_then is ms vs (length old) n (sym k.0) in
    let G = a.0 in
    let fits = room is ms vs (G.masks, G.values) G.few (given_said is ms vs G) old (omega (arith, a.1, a.2)) in
    (G, ap (take n) (k.1 ∙ fits.1) ∙ take_at (list_of (writes is ms vs)) _ n (sym a.1))

-- "A packed list reads back as the writes that were given", but for those of mask 0, which "the packer drops": what `pack` put into the
-- space, read by `read` into any state
pub pack_then_read : {is ms vs old new : List ℕ} {n : ℕ} {s t : State} {r : Result Counts Refusal} → PackCall is ms vs old (Ok n) new
    → ReadCall s (take n new) r t → sized s ≡ true
    → let ws = kept (writes is ms vs) in
    (r ≡ Ok (record { writes = length ws; differences = differences s ws })) × (t ≡ apply_all s ws)
unfolding read_answers
pack_then_read {is} {ms} {vs} {old} {new} {n} {s} {t} {r} p c z =
    let G = (packed_put p).0 in
    let put = (packed_put p).1 in
    let ws = kept (writes is ms vs) in
    let back = reads_back is ms vs (G.masks, G.values) G.few (given_said is ms vs G) s z in
    let q = read_call c in
    let e : read_answers s (take n new) ≡ both (length ws) (differences s ws) = rw (put, back.0, back.1) in
    (both_one r _ (q.0 ∙ e), q.1 ∙ ap (read_state s) put ∙ back.2)

held_settings : (s : State) (x : Settings) (t : Bool) → decodable s ≡ t → decoded_of s ≡ Ok x
    → (decodable s ≡ true) × (x ≡ settings_of s)
held_settings s x true d e = let z = sym e ∙ decodable_held s d in (d, cc)
held_settings s x false d e = let q = sym e ∙ else_refused s d in absurd (let z : ◌≡◌ {A = ℕ} 0 1 = cc in omega arith)

-- "Decoded state and fragment results are those of document 01's tables": of a state whose codes all have names, and for a fragment one
-- that is built, and depths that the format has
pub decode_answers : {s : State} {x : Settings} → DecodeCall s (Ok x)
    → (sized s ≡ true) × ((j : ℕ) → nameless s j ≡ false) × (x ≡ settings_of s)
decode_answers {s} {x} c =
    let e = sym (decode_call c) in
    let h = held_settings s x (decodable s) refl e in
    (decodable_sized s h.0, held_named s x e, h.1)

pub draw_answers : {s : State} {g : Given} {incoming : ℕ} {stored : Stored} {o : Outcome} → DrawCall s g incoming stored (Ok o)
    → (decoded_of s ≡ Ok (settings_of s)) × ((j : ℕ) → unbuilt_at (settings_of s) j ≡ false)
    × (incoming ≤ top_of s) × (stored.depth ≤ top_of s) × (o ≡ outcome_of (settings_of s) g incoming stored)
draw_answers {s} {g} {incoming} {stored} {o} c =
    let d = drawn_decoded s g incoming stored o (sym (draw_call c)) in
    let r = done_only s incoming stored g o d.1 in
    (d.0, r.0, r.1, r.2, (drawn_tested (settings_of s) g incoming stored o d.1).3)

-- DEMAND 3: "For any run of at most 4,096 writes that some accepted list could carry the packer's list has exactly that expansion, and no
-- accepted list with that expansion has fewer words. "No room" always and only when the lent space is shorter than that, with the words
-- needed." In the sense of request 3: the run's writes of mask 0 are among the 4,096 and belong to no expansion, "shortest meaning among
-- lists of legal length", whoever packed them.

-- the list is in the space, shortest, and the space past it is as it was
pub record PackedInto (ws : List Write) (old new : List ℕ) (n : ℕ) : Type 0 where
  pub shortest : Shortest ws (take n new)
  pub words : length (take n new) ≡ n
  pub rest : drop n new ≡ drop n old

-- there is no room: the space is as it was, and no accepted list that says the run fits it; the shortest has n words
pub record NoRoom (ws : List Write) (old new : List ℕ) (n : ℕ) : Type 0 where
  pub same : new ≡ old
  pub lacking : length old < n
  pub least : (l : List ℕ) → Says ws l → n ≤ length l
  pub met : (l : List ℕ) × Shortest ws l × (length l ≡ n)

module _ {is ms vs old new : List ℕ} {r : Result ℕ Refusal} (p : PackCall is ms vs old r new)
    (level : OneLength is ms vs) (few : length is ≤ 4096) (said : Said (writes is ms vs)) where
  -- what is left of the run, and the list that is written for it
  abbrev ws : List Write
  ws = kept (writes is ms vs)

  abbrev list : List ℕ
  list = list_of (writes is ms vs)

  abbrev need : ℕ
  need = length list

  best : Shortest ws list
  best = written_shortest (writes is ms vs) (said_packable (writes is ms vs) said)

  abbrev Fits : Type 0
  Fits = (n : ℕ) × (r ≡ Ok n) × (n ≤ length old) × PackedInto ws old new n

  abbrev Lacks : Type 0
  Lacks = (n : ℕ) × (r ≡ Err (record { reason = reason.NoRoom; place = n })) × NoRoom ws old new n

  fits : need ≤ length old → Fits
  fits h =
      let k = pack_call p in
      let e = room is ms vs level few said old h in
      let now = k.1 ∙ e.1 in
      let front : take need new ≡ list = ap (take need) now ∙ take_at list _ need refl in
      let rest : drop need new ≡ drop need old = ap (drop need) now ∙ drop_at list _ need refl in
      let told = pack-told-one r (Ok need) (k.0 ∙ e.0) in
      (need, told, h, record { shortest = rw front best; words = ap length front; rest = rest })

  lacks : length old < need → Lacks
  lacks h =
      let k = pack_call p in
      let e = no_room is ms vs level few said old h in
      let why = pack-told-one r (Err (record { reason = reason.NoRoom; place = need })) (k.0 ∙ e) in
      let same = k.1 ∙ refused_pack is ms vs old 10 need e in
      (need, why, record { same = same; lacking = h; least = best.least; met = (list, best, refl) })

  -- the shortest list where there is room for it, "no room" else, and nothing third
  pub packs : Fits ⊎ Lacks
  packs = go (dec_le need (length old))
    where
      go : Dec (need ≤ length old) → Fits ⊎ Lacks
      go (yes h) = inl (fits h)
      go (no h) = inr (lacks (omega arith))

-- and only such a run is packed
pub packs_only : {is ms vs old new : List ℕ} {n : ℕ} → PackCall is ms vs old (Ok n) new
    → OneLength is ms vs × (length is ≤ 4096) × Said (writes is ms vs)
packs_only {is} {ms} {vs} {old} {new} {n} c =
    let G = (answered_then is ms vs (length old) n (sym (pack_call c).0)).0 in
    ((G.masks, G.values), G.few, given_said is ms vs G)
