-- Request 2, did that write change anything? From the contracts alone. Assumes nothing; where said, cells are asked to be 32-bit words, as
-- those of a lent buffer are.
use mathlib.Core.Path.{◌≡◌, refl, sym, ap, ◌∙◌}
use mathlib.Core.Bool.{Bool, true, false, not, false≢true}
use mathlib.Core.List.{List, ◌∷◌, ◌++◌}
use Prim.Native.Nat.{ℕ, ◌/◌, ◌^◌, ◌≤◌, ◌<◌}
use native.Mathlib.Omega.{arith}
use lib.Bits.{bit_and, and_le_r}
use lib.Dec.{eqb}
use lib.ListN.{length, get_or}
use borrow.Author.Tests.{eqb-true, eq-eqb}
use Rattle.numbers.specs.Bits.{bit, spread, merge}
use Rattle.numbers.specs.Pick.{pick}
use Rattle.numbers.specs.Answer.{Answer, answered, refused, besides}
use Rattle.words.specs.Writes.{Write, fog_data, light_data, port_data}
use Rattle.words.specs.Commands.{expansion}
use Rattle.registers.specs.Held.{bits_of}
use Rattle.registers.specs.State.{State, sized}
use Rattle.registers.specs.Applied.{differs, difference, differences}
use Rattle.registers.specs.Single.{refusal_of, write_answer}
use Rattle.registers.proofs.Lookup.{held_has}
use Rattle.registers.proofs.Sizes.{lengths}
use Rattle.registers.proofs.Once.{told_one_law}
use Rattle.registers.proofs.Differences.{no_difference_same, no_difference_no_data, difference_another}
use Rattle.registers.proofs.Differences.{differs_fog_data, differs_light_data, differs_held, differs_free}
use Rattle.registers.proofs.Differences.{differences_most, no_differences_same, no_differences_no_data}
use Rattle.reader.specs.Read.{read_answer, read_answers}
use Rattle.reader.specs.declared.Counts.{Counts}
use Rattle.reader.proofs.Once.{both_one}
use Rattle.pieces.specs.Pieces.{close_answer, close_answers}
use Rattle.pica.specs.Calls.{answers, differences_after}
use Rattle.pica.specs.Readers.{progress_of}
use Rattle.demands.proofs.Alike.{Alike}
use Rattle.demands.proofs.Taken.{Words}
use Rattle.demands.proofs.Differ.{merge_keeps, merge_kept, difference_alike, differences_alike}
use Rattle.demands.proofs.Calls.{WriteCall, write_call, ReadCall, read_call}
use Rattle.demands.proofs.EndToEnd.{write_leaves, read_accepts_only}
use Rattle.demands.proofs.PiecesFromC.{PicaReadCall, read_left, PicaCloseCall, close_left}
use Rattle.std.specs.Prelude.{Result, Ok}
use Rattle.words.specs.declared.Refusal.{Refusal}

-- A SINGLE WRITE

-- "A single masked write should also say whether the cell, entry or index it touches differs afterwards": it says so exactly when the state
-- that it leaves is another
pub write_tells_same : {s t : State} {w : Write} → WriteCall s w (Ok false) t → t ≡ s
write_tells_same {s} {t} {w} c =
    let k = write_leaves c in
    let z : difference s w ≡ 0 = ap (λ b. pick b 1 0) (sym k.4) in
    let n = no_difference_no_data s w z in k.3 ∙ no_difference_same s w n.0 n.1 z

pub write_tells_other : {s t : State} {w : Write} → WriteCall s w (Ok true) t → t ≡ s → ⊥
write_tells_other {s} {t} {w} c e =
    let k = write_leaves c in difference_another s w k.0 (ap (λ b. pick b 1 0) (sym k.4)) (sym k.3 ∙ e)

-- "A port data write counts, since its index always moves", to an unnamed table too
by_port : (s : State) (w : Write) (f g : Bool) → fog_data w.id ≡ f → light_data w.id ≡ g → port_data w.id ≡ true
    → differs s w.id (spread w.mask) w.value ≡ true
by_port s w true g e d p = differs_fog_data s w.id (spread w.mask) w.value e
by_port s w false true e d p = differs_light_data s w.id (spread w.mask) w.value e d
by_port s w false false e d p = absurd (false≢true (rw (e, d) at p))

pub data_tells : {s t : State} {w : Write} {d : Bool} → WriteCall s w (Ok d) t → port_data w.id ≡ true → d ≡ true
data_tells {s} {t} {w} c p = (write_leaves c).4 ∙ by_port s w (fog_data w.id) (light_data w.id) refl refl p

-- to an id that isn't held, ports' data apart, a write makes none
pub unheld_tells : {s t : State} {w : Write} {d : Bool} → WriteCall s w (Ok d) t
    → fog_data w.id ≡ false → light_data w.id ≡ false → bits_of w.id ≡ 0 → d ≡ false
unheld_tells {s} {t} {w} c f g z = (write_leaves c).4 ∙ differs_free s w.id (spread w.mask) w.value f g z

opposite : (b : Bool) → not b ≡ false → b ≡ true
opposite true e = refl
opposite false e = absurd (false≢true (sym e))

-- and to a held register none exactly when each bit that it replaces, held and in a byte of the mask, was the value's already
module _ {s t : State} {w : Write} {d : Bool} (c : WriteCall s w (Ok d) t) (u : Words s) (some : bits_of w.id ≡ 0 → ⊥) where
  abbrev replaced : ℕ
  replaced = bit_and (bits_of w.id) (spread w.mask)

  abbrev was : ℕ
  was = get_or s.cells w.id 0

  told : d ≡ not (eqb (merge replaced was w.value) was)
  told =
      let k = write_leaves c in
      let i = (held_has w.id some).small in
      k.4 ∙ differs_held s w.id (spread w.mask) w.value some (omega (arith, i, (lengths s k.0).0))

  word : replaced < 2 ^ 32
  word = omega (arith, and_le_r (bits_of w.id) (spread w.mask))

  pub equal_bits_none : ((k : ℕ) → k < 32 → 0 < bit k replaced → bit k w.value ≡ bit k was) → d ≡ false
  equal_bits_none h = told ∙ rw (eq-eqb _ was (merge_keeps replaced was w.value word (u w.id) h))

  pub none_equal_bits : d ≡ false → (k : ℕ) → k < 32 → 0 < bit k replaced → bit k w.value ≡ bit k was
  none_equal_bits e =
      merge_kept replaced was w.value word (eqb-true _ was (opposite _ (sym told ∙ e)))

-- A LIST

-- "a read list should give, besides its number of writes, how many of them made a difference. That second number is the count over the
-- expansion, each write judged on the state left by those before it"; writes with mask 0 "no longer belong to an expansion: .. the counts
-- of an expansion leave them out"; that single writes in turn tell as many is `writes_then_write`, Between.antt
module _ {s t : State} {l : List ℕ} {c : Counts} (r : ReadCall s l (Ok c) t) where
  pub read_counts : (c.writes ≡ length (expansion l)) × (c.differences ≡ differences s (expansion l))
  read_counts = let e = (read_accepts_only r).1 in (ap (λ (x : Counts). x.writes) e, ap (λ (x : Counts). x.differences) e)

  -- at most all of them
  pub read_differences_most : c.differences ≤ c.writes
  read_differences_most = omega (arith, read_counts.0, read_counts.1, differences_most s (expansion l))

  -- a list without differences leaves the state as it was
  pub read_none_same : c.differences ≡ 0 → t ≡ s
  read_none_same z = (read_accepts_only r).2 ∙ no_differences_same s (expansion l) (sym read_counts.1 ∙ z)

  -- and holds no port data
  pub read_none_no_data : c.differences ≡ 0 → (a b : List Write) (w : Write) → expansion l ≡ a ++ w ∷ b → port_data w.id ≡ false
  read_none_no_data z a b w e =
      let q : differences s (expansion l) ≡ 0 = sym read_counts.1 ∙ z in
      let n = no_differences_no_data s a b w (rw e at q) in rw (n.0, n.1)

-- "A refused list gives neither count": the answer of a refusal holds none, and for C the word that was lent stays, at reading and at a
-- close from any reader's words, whatever is refused
after_refusal : (a : Answer) (d r : ℕ) (ds ds' : List ℕ) → r ≡ answers (besides a d) → ds' ≡ differences_after (besides a d) ds
    → (r / 0x100000000 ≡ 0 → ⊥) → ds' ≡ ds
after_refusal (answered n) d r ds ds' e f h = absurd (h (omega (arith, e)))
after_refusal (refused n p) d r ds ds' e f h = f

pub read_word_kept : {s t : State} {l ds ds' : List ℕ} {r : ℕ} → PicaReadCall s l ds r ds' t → (r / 0x100000000 ≡ 0 → ⊥) → ds' ≡ ds
unfolding read_answers
read_word_kept {s} {t} {l} {ds} {ds'} {r} c h =
    after_refusal (read_answer s l) (differences s (expansion l)) r ds ds' (read_left c).0 (read_left c).1 h

pub close_word_kept : {s t s' t' : State} {ws ws' ds ds' : List ℕ} {r : ℕ} → PicaCloseCall s t ws ds r ws' ds' s' t'
    → (r / 0x100000000 ≡ 0 → ⊥) → ds' ≡ ds
unfolding close_answers
close_word_kept {s} {t} {ws = ws} {ds = ds} {ds' = ds'} {r = r} c h =
    after_refusal (close_answer (progress_of ws) s t) (progress_of ws).differences r ds ds' (close_left c).0 (close_left c).4 h

-- "WHAT A LENT CELL HOLDS BESIDE ITS HELD BITS, or an entry beside its low 24, IS NEVER READ", document 01: what a write tells and what
-- reading gives goes by the rest alone
sized_alike : (s t : State) → Alike s t → sized s ≡ sized t
sized_alike s t a = rw (a.cells_long, a.fog_long, a.light_long)

answer_alike : (s t : State) (l : List ℕ) → Alike s t → read_answer s l ≡ read_answer t l
unfolding read_answer
answer_alike s t l a = rw (sized_alike s t a)

read_alike : (s t : State) (l : List ℕ) → Alike s t → Words s → Words t → (b : Bool) → sized s ≡ b → read_answers s l ≡ read_answers t l
unfolding read_answers read_answer
read_alike s t l a u v true z =
    let y : sized t ≡ true = sym (sized_alike s t a) ∙ z in
    rw (z, y, differences_alike s t a u v z y (expansion l))
read_alike s t l a u v false z = let y : sized t ≡ false = sym (sized_alike s t a) ∙ z in rw (z, y)

pub read_held_only : {s t s' t' : State} {l : List ℕ} {r q : Result Counts Refusal} → Alike s t → Words s → Words t
    → ReadCall s l r s' → ReadCall t l q t' → r ≡ q
read_held_only {s} {t} {l = l} {r} {q} a u v c d =
    both_one r q ((read_call c).0 ∙ read_alike s t l a u v (sized s) refl ∙ sym (read_call d).0)

write_alike : (s t : State) (w : Write) → Alike s t → Words s → Words t → (b : Bool) → sized s ≡ b → write_answer s w ≡ write_answer t w
unfolding refusal_of
write_alike s t w a u v true z =
    let y : sized t ≡ true = sym (sized_alike s t a) ∙ z in rw (z, y, difference_alike s t a u v z y w)
write_alike s t w a u v false z = let y : sized t ≡ false = sym (sized_alike s t a) ∙ z in rw (z, y)

pub write_held_only : {s t s' t' : State} {w : Write} {r q : Result Bool Refusal} → Alike s t → Words s → Words t
    → WriteCall s w r s' → WriteCall t w q t' → r ≡ q
write_held_only {s} {t} {w = w} {r} {q} a u v c d =
    told_one_law r q ((write_call c).0 ∙ write_alike s t w a u v (sized s) refl ∙ sym (write_call d).0)
