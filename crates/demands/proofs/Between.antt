-- BETWEEN A LIST AND ITS WRITES, from the contracts alone: a list's writes, packed, applied one after another, and a packed list's writes.
-- Assumes nothing.
use mathlib.Core.Path.{◌≡◌, sym, ap, ◌∙◌}
use mathlib.Core.Bool.{Bool, true}
use mathlib.Core.List.{List, [], ◌∷◌, ◌++◌, map}
use mathlib.Core.Logic.{◌⊎◌, inl, inr, ⊎_elim}
use Prim.Native.Nat.{ℕ, ◌+◌, ◌≤◌, ◌<◌}
use native.Mathlib.Omega.{arith}
use lib.ListN.{length, take, drop, length-map}
use lib.Seq.{take_at, drop_at}
use borrow.Author.Tests.{eqb-true}
use Rattle.numbers.specs.Answer.{answered}
use Rattle.numbers.specs.Bits.{spread}
use Rattle.numbers.specs.Pick.{pick}
use Rattle.words.specs.Writes.{Write, kept, ids_in, masks_in, values_in, fault_of}
use Rattle.words.specs.Commands.{all_writes, expansion, legal, well_formed}
use Rattle.words.specs.declared.Refusal.{Refusal}
use Rattle.words.proofs.Laws.{allowed_fault}
use Rattle.registers.specs.State.{State, sized}
use Rattle.registers.specs.Applied.{apply, apply_all, differs, differences}
use Rattle.registers.specs.Single.{refusal_of}
use Rattle.registers.proofs.Once.{told_one_law as write-told-one}
use Rattle.registers.proofs.Single.{fault_refusal}
use Rattle.registers.proofs.Differences.{differences_none, differences_more}
use Rattle.reader.specs.ListVerdict.{verdict, all_allowed}
use Rattle.reader.specs.Read.{read_answer, read_answers}
use Rattle.reader.proofs.Accepted.{verdict_accepted}
use Rattle.commands.proofs.Applying.{apply_none, apply_more}
use Rattle.reader.proofs.Once.{told_one_law}
use Rattle.writes.specs.Listed.{writes_answer}
use Rattle.runs.specs.PackedList.{writes, Packable, written as list_of}
use Rattle.runs.specs.Shortest.{Says}
use Rattle.runs.proofs.Writes.{writes_length, writes_rows}
use Rattle.runs.proofs.Shortest.{says_of, written_shortest, written_short}
use Rattle.runs.proofs.Each.{says_packable, says_kept}
use Rattle.demands.specs.Said.{Said}
use Rattle.demands.specs.Refusals.{OneLength, WritesRefused}
use Rattle.demands.proofs.Lengths.{apply_sized}
use Rattle.demands.proofs.Listed.{writes_tested, writes_given, refused_writes, as_read, writes_row}
use Rattle.demands.proofs.Reading.{legal_accepted}
use Rattle.demands.proofs.Said.{packable_said}
use Rattle.demands.proofs.Both.{neither_given}
use Rattle.demands.proofs.Calls.{WriteCall, ReadCall, WritesCall, PackCall, write_call, read_call, writes_call}
use Rattle.demands.proofs.EndToEnd.{counts_one, read_accepts, packed_put, packs}
use Rattle.std.specs.Prelude.{Result, Ok, Err}
use Rattle.reader.specs.declared.Counts.{Counts}
use Rattle.words.specs.Reasons.{number_of}
use Rattle.words.specs.declared.Reason.TheVariants.{NoRoom}

-- A REFUSAL is by 7, a number of the reader's or 22, with its place, and leaves the three buffers as they were
pub writes_refuses : {l is ms vs is' ms' vs' : List ℕ} {why : Refusal} → WritesCall l is ms vs (Err why) is' ms' vs'
    → (is' ≡ is) × (ms' ≡ ms) × (vs' ≡ vs) × WritesRefused l is ms vs (number_of why.reason) why.place
writes_refuses {l} {is} {ms} {vs} {why = why} c =
    let k = writes_call c in
    let e = sym k.0 in
    let r = refused_writes l is ms vs (number_of why.reason) why.place e in
    (k.1 ∙ r.0, k.2 ∙ r.1, k.3 ∙ r.2, writes_row l is ms vs (number_of why.reason) why.place e)

-- "THEN THE READER'S OF THE LIST": what a reading refuses for the list, and not for its state, is refused here by the same number and place
pub same_refusal : {s t : State} {l is ms vs is' ms' vs' : List ℕ} {why : Refusal} {r : Result ℕ Refusal}
    → ReadCall s l (Err why) t → sized s ≡ true → WritesCall l is ms vs r is' ms' vs' → OneLength is ms vs
    → r ≡ Err why
unfolding read_answers
same_refusal {s} {l = l} {is} {ms} {vs} {why = why} {r} d z c o =
    let e = neither_given (read_answer s l) (number_of why.reason) why.place (differences s (expansion l)) (read_call d).0 in
    told_one_law r _ ((writes_call c).0 ∙ as_read l is ms vs s z o (number_of why.reason) why.place e)

-- AN ANSWER: the first n places are the list's expansion, and those past them are as they were
pub record ListedIn (l is ms vs is' ms' vs' : List ℕ) (n : ℕ) : Type 0 where
  pub level : OneLength is ms vs
  pub room : n ≤ length is
  pub short : length l ≤ 65536
  pub legal : legal l ≡ true
  pub form : well_formed l ≡ true
  pub allowed : all_allowed (all_writes l) ≡ true
  pub number : n ≡ length (expansion l)
  pub writes : writes (take n is') (take n ms') (take n vs') ≡ expansion l
  pub one_length : OneLength (take n is') (take n ms') (take n vs')
  pub ids_kept : drop n is' ≡ drop n is
  pub masks_kept : drop n ms' ≡ drop n ms
  pub values_kept : drop n vs' ≡ drop n vs

-- a row that stands at a buffer's start
stands : (f : Write → ℕ) (ws : List Write) (n : ℕ) (old new : List ℕ) → n ≡ length ws
    → new ≡ map f ws ++ drop (length (map f ws)) old
    → (take n new ≡ map f ws) × (drop n new ≡ drop n old)
stands f ws n old new e s =
    let long : length (map f ws) ≡ n = length-map ws f ∙ sym e in
    (ap (take n) s ∙ take_at (map f ws) _ n long, ap (drop n) s ∙ drop_at (map f ws) _ n long ∙ ap (λ (k : ℕ). drop k old) long)

-- what stands there, by the answer
module _ {l is ms vs is' ms' vs' : List ℕ} {a : Result ℕ Refusal} (n : ℕ) (c : WritesCall l is ms vs a is' ms' vs')
    (e : writes_answer l is ms vs ≡ answered n) where
  abbrev E : List Write
  E = expansion l

  many : n ≡ length E
  many = (verdict_accepted l n (writes_tested l is ms vs n e).2).2

  pub ids_stand : (take n is' ≡ ids_in E) × (drop n is' ≡ drop n is)
  ids_stand = let s = (writes_call c).1 in stands (λ (w : Write). w.id) E n is is' many (rw e at s)

  pub masks_stand : (take n ms' ≡ masks_in E) × (drop n ms' ≡ drop n ms)
  masks_stand = let s = (writes_call c).2 in stands (λ (w : Write). w.mask) E n ms ms' many (rw e at s)

  pub values_stand : (take n vs' ≡ values_in E) × (drop n vs' ≡ drop n vs)
  values_stand = let s = (writes_call c).3 in stands (λ (w : Write). w.value) E n vs vs' many (rw e at s)

pub writes_listed : {l is ms vs is' ms' vs' : List ℕ} {n : ℕ} → WritesCall l is ms vs (Ok n) is' ms' vs'
    → ListedIn l is ms vs is' ms' vs' n
writes_listed {l} {is} {ms} {vs} {is'} {ms'} {vs'} {n} c =
    let e = sym (writes_call c).0 in
    let t = writes_tested l is ms vs n e in
    let v = legal_accepted l n t.2 in
    let i = ids_stand n c e in
    let m = masks_stand n c e in
    let x = values_stand n c e in
    let E = expansion l in (
    record {
      level = t.0;
      room = t.3;
      short = t.1;
      legal = v.0;
      form = v.1;
      allowed = v.2;
      number = v.3;
      writes = rw (i.0, m.0, x.0) (writes_rows E);
      one_length =
          rw (i.0, m.0, x.0) (
            length-map E (λ (w : Write). w.id) ∙ sym (length-map E (λ (w : Write). w.mask)),
            length-map E (λ (w : Write). w.id) ∙ sym (length-map E (λ (w : Write). w.value)),
          );
      ids_kept = i.1;
      masks_kept = m.1;
      values_kept = x.1;
    }
    )

-- and a list that the reader accepts, with places for its writes, is answered
pub writes_lists : {l is ms vs is' ms' vs' : List ℕ} {r : Result ℕ Refusal} → WritesCall l is ms vs r is' ms' vs' → OneLength is ms vs
    → length l ≤ 65536 → legal l ≡ true → well_formed l ≡ true → all_allowed (all_writes l) ≡ true → length (expansion l) ≤ length is
    → r ≡ Ok (length (expansion l))
writes_lists {l} {is} {ms} {vs} {r = r} c o h m f a k = told_one_law r _ ((writes_call c).0 ∙ writes_given l is ms vs o h m f a k)

-- "PACKING WHAT IT GIVES TAKES AT MOST THE LIST'S OWN WORDS", for a list of at most 4,096 writes in its expansion: the packer's list says
-- the same writes in no more words, or the words that it asks for are no more
pub writes_then_pack : {l is ms vs is' ms' vs' old new : List ℕ} {n : ℕ} {r : Result ℕ Refusal}
    → WritesCall l is ms vs (Ok n) is' ms' vs' → n ≤ 4096 → PackCall (take n is') (take n ms') (take n vs') old r new
    → (m : ℕ) × (m ≤ length l)
    × (((r ≡ Ok m) × Says (expansion l) (take m new))
    ⊎ ((r ≡ Err (record { reason = NoRoom; place = m })) × (length old < m)))
writes_then_pack {l} {is} {ms} {vs} {is'} {ms'} {vs'} {old} {new} {n} {r} c few p =
    let L = writes_listed c in
    let ws = writes (take n is') (take n ms') (take n vs') in
    let says : Says ws l = says_of ws l n (writes_tested l is ms vs n (sym (writes_call c).0)).2 (sym L.writes) in
    let long = writes_length (take n is') (take n ms') (take n vs') L.one_length.0 L.one_length.1 in
    let few : length (take n is') ≤ 4096 = omega (arith, few, L.number, long, ap length L.writes) in
    let said : Said ws = packable_said ws (omega (arith, long, few)) (says_packable ws l says) in
    let own : Says (kept ws) l = rw (says_kept ws l says) says in
    let same : kept ws ≡ expansion l = says_kept ws l says ∙ L.writes in
    ⊎_elim
    (λ x. (x.0, omega (arith, x.3.shortest.least l own, x.3.words), inl (x.1, rw same at x.3.shortest.says)))
    (λ x. (x.0, x.2.least l own, inr (x.1, x.2.lacking))) (packs p L.one_length few said)

-- "THE WRITES OF A PACKED LIST ARE THE RUN", but for its writes of mask 0, in buffers with places for it
pub pack_then_writes : {is ms vs old new js ks us js' ks' us' : List ℕ} {n : ℕ} {r : Result ℕ Refusal}
    → PackCall is ms vs old (Ok n) new → WritesCall (take n new) js ks us r js' ks' us' → OneLength js ks us
    → let ws = kept (writes is ms vs) in
    length ws ≤ length js
    → (r ≡ Ok (length ws)) × (take (length ws) js' ≡ ids_in ws) × (take (length ws) ks' ≡ masks_in ws)
    × (take (length ws) us' ≡ values_in ws)
pack_then_writes {is} {ms} {vs} {old} {new} {js} {ks} {us} {n = n} {r} p c o k =
    let put = packed_put p in
    let G = put.0 in
    let ws = kept (writes is ms vs) in
    let l = take n new in
    let e : l ≡ list_of (writes is ms vs) = put.1 in
    let S = written_shortest (writes is ms vs) G.packable in
    let long = writes_length is ms vs G.masks G.values in
    let x : expansion l ≡ ws = ap expansion e ∙ S.says.writes in
    let v : verdict l ≡ answered (length ws) = ap verdict e ∙ S.says.accepted in
    let a = legal_accepted l (length ws) v in
    let short : length l ≤ 65536 = omega (arith, ap length e, written_short (writes is ms vs), long, G.few) in
    let many : length (expansion l) ≡ length ws = sym a.3 in
    let ans : writes_answer l js ks us ≡ answered (length ws) =
    writes_given l js ks us o short a.0 a.1 a.2 (omega (arith, many)) ∙ ap answered many in (
      told_one_law r _ ((writes_call c).0 ∙ ans),
      (ids_stand (length ws) c ans).0 ∙ ap ids_in x,
      (masks_stand (length ws) c ans).0 ∙ ap masks_in x,
      (values_stand (length ws) c ans).0 ∙ ap values_in x,
    )

-- "APPLYING THEM ONE AFTER ANOTHER LEAVES WHAT READING LEAVES"

-- the writes of a run, each by a call of its own on what the one before left
abbrev pub InTurn : State → List Write → State → Type 0
InTurn s [] t = t ≡ s
InTurn s (w ∷ ws) t = (u : State) × (r : Result Bool Refusal) × WriteCall s w r u × InTurn u ws t

-- none of them is refused
abbrev pub EachDone : (s : State) (ws : List Write) (t : State) → InTurn s ws t → Type 0
EachDone s [] t c = Unit {0}
EachDone s (w ∷ ws) t c = ((d : Bool) × (c.1 ≡ Ok d)) × EachDone c.0 ws t c.3

-- how many of them told that they made a difference
abbrev pub told_one : Result Bool Refusal → ℕ
told_one (Ok d) = pick d 1 0
told_one (Err why) = 0

abbrev pub tally : (s : State) (ws : List Write) (t : State) → InTurn s ws t → ℕ
tally s [] t c = 0
tally s (w ∷ ws) t c = told_one c.1 + tally c.0 ws t c.3

in_turn : (ws : List Write) (s t : State) → sized s ≡ true → Packable ws → (c : InTurn s ws t)
    → EachDone s ws t c × (t ≡ apply_all s ws) × (tally s ws t c ≡ differences s ws)
in_turn [] s t z p c = (tt, c ∙ sym (apply_none s), sym (differences_none s))
in_turn (w ∷ ws) s t z p c =
    let u = c.0 in
    let d = differs s w.id (spread w.mask) w.value in
    let f : refusal_of s w ≡ 0 =
    fault_refusal s w z p.0 ∙ eqb-true (fault_of w.id w.mask) 0 (sym (allowed_fault w.id w.mask) ∙ p.1) in
    let k = write_call c.2 in
    let a = k.1 in
    let e : u ≡ apply s w = rw f at a in
    let b = k.0 in
    let done : c.1 ≡ Ok d = write-told-one c.1 (Ok d) (rw f at b) in
    let z' : sized u ≡ true = ap sized e ∙ apply_sized s w ∙ z in
    let rest = in_turn ws u t z' p.2 c.3 in
    let counts : tally u ws t c.3 ≡ differences (apply s w) ws = rest.2 ∙ ap (λ (x : State). differences x ws) e in (
      ((d, done), rest.0),
      rest.1 ∙ ap (λ (x : State). apply_all x ws) e ∙ sym (apply_more s w ws),
      rw (done, counts) (sym (differences_more s w ws)),
    )

-- and the differences that reading gives are those that the writes tell, each made on what the ones before it left
pub writes_then_write : {l is ms vs is' ms' vs' : List ℕ} {n : ℕ} {s t u : State} {r : Result Counts Refusal}
    → WritesCall l is ms vs (Ok n) is' ms' vs' → sized s ≡ true
    → (w : InTurn s (writes (take n is') (take n ms') (take n vs')) t) → ReadCall s l r u
    → EachDone s (writes (take n is') (take n ms') (take n vs')) t w
    × (r ≡ Ok (record { writes = n; differences = tally s (writes (take n is') (take n ms') (take n vs')) t w })) × (u ≡ t)
writes_then_write {l} {is} {ms} {vs} {is'} {ms'} {vs'} {n} {s} {t} {u} {r} c z w d =
    let L = writes_listed c in
    let ws = writes (take n is') (take n ms') (take n vs') in
    let v = (writes_tested l is ms vs n (sym (writes_call c).0)).2 in
    let p = says_packable ws l (says_of ws l n v (sym L.writes)) in
    let q = read_accepts d (record { lengths = z; short = L.short; legal = L.legal; form = L.form; allowed = L.allowed }) in
    let x = in_turn ws s t z p w in
    let told : differences s (expansion l) ≡ tally s ws t w = ap (differences s) (sym L.writes) ∙ sym x.2 in (
      x.0,
      q.0 ∙ ap Ok (counts_one _ _ (sym L.number) told),
      q.1 ∙ ap (apply_all s) (sym L.writes) ∙ sym x.1,
    )
