-- The words of a command from the three buffers, and one command after another to the whole list. Assumes nothing.
use mathlib.Core.Path.{◌≡◌, refl, sym, ap, ◌∙◌}
use mathlib.Core.Bool.{Bool, true, false}
use mathlib.Core.List.{List, [], ◌∷◌, ◌++◌}
use Prim.Native.Nat.{ℕ, zero, suc, ◌+◌, ◌-◌, ◌%◌, ◌≤◌, ◌<◌}
use native.Mathlib.Decide.{dec_lt}
use native.Mathlib.Omega.{arith}
use lib.Dec.{eqb}
use lib.ListN.{length, get_or, take, drop, set, replicate, length-append, length-drop, length-take}
use lib.Seq.{take_all, drop-drop, get_or-drop, paste, paste-zero}
use borrow.Author.Tests.{lt-ltb, le-ltb, eqb-true, eqb-false}
use Rattle.numbers.specs.Pick.{pick}
use Rattle.std.proofs.lemmas.List.{take-append-le}
use Rattle.std.proofs.lemmas.List.Edits.{paste-paste}
use Rattle.numbers.proofs.Copy.{next_word}
use Rattle.numbers.proofs.Room.{next_part, next_rest}
use Rattle.words.specs.Writes.{Write, writing}
use Rattle.cuts.specs.Cuts.{words, first}
use Rattle.runs.specs.Span.{span}
use Rattle.runs.specs.PackedList.{writes, PackableRun, step_for, header, command, OneCommand, packed}
use Rattle.runs.proofs.Chain.{step_lone, step_same, step_rise}
use Rattle.runs.proofs.Command.{command_extra, command_pad}
use Rattle.runs.proofs.PackedList.{packed_none, packed_more, first_command}
use Rattle.runs.proofs.RoundTrip.{plain_drop}
use Rattle.runs.proofs.Shortest.{plain}
use Rattle.runs.proofs.Writes.{writes_length, writes_at, values_from}
use Rattle.laying.specs.Laying.{step_at, after_short}

-- THE WORDS OF THE COMMAND of k writes from i on
module _ (is ms vs : List ℕ) (G : PackableRun is ms vs) (i k : ℕ) (F : OneCommand (drop i (writes is ms vs)) k) where
  abbrev ws : List Write
  ws = writes is ms vs

  pub inside : i + k ≤ length is
  inside = omega (arith, F.fits, F.low, length-drop i ws, writes_length is ms vs G.masks G.values)

  abbrev here : ℕ → Write
  here j = writing (get_or is j 0) (get_or ms j 0) (get_or vs j 0)

  at_i : drop i ws ≡ here i ∷ drop (i + 1) ws
  at_i = writes_at is ms vs i G.masks G.values (omega (arith, inside, F.low))

  fits : k ≤ suc (length (drop (i + 1) ws))
  fits = rw at_i at F.fits

  pub word_first : get_or vs i 0 ≡ get_or (command k (drop i ws)) 0 0
  word_first = rw at_i

  pub word_header : header (get_or is i 0) (get_or ms i 0) k (step_for k (drop i ws)) ≡ get_or (command k (drop i ws)) 1 0
  word_header = rw at_i

  pub word_extra : (m : ℕ) → 1 ≤ m → m < k → get_or vs (i + m) 0 ≡ get_or (command k (drop i ws)) (m + 1) 0
  word_extra m p q =
      sym (get_or-drop i vs m 0)
      ∙ rw (← values_from is ms vs i G.masks G.values, at_i) (sym (command_extra k _ _ F.low fits m p q))

  pub word_pad : k % 2 ≡ 0 → 0 ≡ get_or (command k (drop i ws)) (k + 1) 0
  word_pad e = rw at_i (sym (command_pad k _ _ F.low fits e))

  -- what its header holds
  pub plain_at : (get_or is i 0 < 0x10000) × (get_or ms i 0 < 16)
  plain_at = let p = rw at_i at (plain_drop i ws (plain ws G.packable)) in (p.0, p.1)

  by_next : 2 ≤ k → (t : Bool) → eqb (get_or is (i + 1) 0) (get_or is i 0) ≡ t → pick t 0 1 ≡ step_for k (drop i ws)
  by_next h t e =
      let next = writes_at is ms vs (i + 1) G.masks G.values (omega (arith, inside)) in
      let f = rw (at_i, next) at F.carried in
      rw (at_i, next) (go t e f)
    where
      go : (t : Bool) → eqb (get_or is (i + 1) 0) (get_or is i 0) ≡ t
          → k ≤ span (here i ∷ here (i + 1) ∷ drop (i + 1 + 1) ws)
          → pick t 0 1 ≡ step_for k (here i ∷ here (i + 1) ∷ drop (i + 1 + 1) ws)
      go true e f = sym (step_same k (here i) (here (i + 1)) (drop (i + 1 + 1) ws) h f (eqb-true _ _ e))
      go false e f = sym (step_rise k (here i) (here (i + 1)) (drop (i + 1 + 1) ws) h f (eqb-false _ _ e))

  pub step_is : step_at is i k ≡ step_for k (drop i ws)
  step_is = go (dec_lt k 2)
    where
      go : Dec (k < 2) → step_at is i k ≡ step_for k (drop i ws)
      go (yes q) = rw (lt-ltb k 2 q, at_i) (sym (step_lone k (here i) (drop (i + 1) ws) (omega arith)))
      go (no q) = rw (le-ltb k 2 (omega arith)) (by_next (omega arith) (eqb (get_or is (i + 1) 0) (get_or is i 0)) refl)

  -- ITS FIRST TWO WORDS, as they are stored
  pub two_words : (old : List ℕ) (at h : ℕ) → at + words k ≤ length old
      → h ≡ header (get_or is i 0) (get_or ms i 0) k (step_at is i k)
      → set (set old at (get_or vs i 0)) (at + 1) h ≡ paste old at (command k (drop i ws)) 2
  two_words old at h r e =
      let C = command k (drop i ws) in
      let v = get_or vs i 0 in
      let n : length C ≡ words k = F.long in
      let one = next_word old C at 0 at 1 v old (omega arith) (omega arith) (omega arith) (omega arith) (paste-zero old at C) word_first in
      next_word old C at 1 (at + 1) 2 h (set old at v) (omega arith) (omega arith) (omega (arith, F.low)) (omega arith) one
      (e ∙ rw step_is word_header)

  -- the second parameter after them
  second_parameter : (old start : List ℕ) (at : ℕ) → 2 ≤ k → at + words k ≤ length old
      → start ≡ paste old at (command k (drop i ws)) 2
      → set start (at + 2) (get_or vs (i + 1) 0) ≡ paste old at (command k (drop i ws)) 3
  second_parameter old start at h r e =
      let C = command k (drop i ws) in
      let n : length C ≡ words k = F.long in
      next_word old C at 2 (at + 2) 3 (get_or vs (i + 1) 0) start (omega arith) (omega arith) (omega arith) (omega arith) e
      (word_extra 1 (omega arith) (omega arith))

  -- A SHORT ONE, from its first two words
  pub short_words : (old start : List ℕ) (at : ℕ) → k < 4 → at + words k ≤ length old
      → start ≡ paste old at (command k (drop i ws)) 2
      → after_short vs i k start at ≡ paste old at (command k (drop i ws)) (words k)
  short_words old start at q r e = go k refl
    where
      go : (n : ℕ) → k ≡ n → after_short vs i n start at ≡ paste old at (command k (drop i ws)) (words n)
      go zero z = absurd (omega (arith, F.low))
      go (suc zero) z = e
      go (suc (suc zero)) z =
          next_word old (command k (drop i ws)) at 3 (at + 3) 4 0 _ (omega arith) (omega arith) (omega arith) (omega (arith, F.long))
          (second_parameter old start at (omega arith) r e)
          (let p : k + 1 ≡ 3 = omega arith in rw p at (word_pad (omega arith)))
      go (suc (suc (suc zero))) z =
          let d : i + 3 - 1 ≡ i + 2 = omega arith in
          next_word old (command k (drop i ws)) at 3 (at + 3) 4 _ _ (omega arith) (omega arith) (omega arith) (omega (arith, F.long))
          (second_parameter old start at (omega arith) r e)
          (rw d (word_extra 2 (omega arith) (omega arith)))
      go (suc (suc (suc (suc n)))) z = absurd (omega arith)

  extra_length : length (take (k - 1) (drop (i + 1) vs)) ≡ k - 1
  extra_length = length-take (k - 1) (drop (i + 1) vs) ∙ omega (arith, length-drop (i + 1) vs, inside, G.values, F.low)

  -- A LONGER ONE, from its first two words, by a copy of its extra parameters
  words_copied : (old start : List ℕ) (at : ℕ) → at + words k ≤ length old → start ≡ paste old at (command k (drop i ws)) 2
      → paste start (at + 2) (take (k - 1) (drop (i + 1) vs)) (k - 1) ≡ paste old at (command k (drop i ws)) (k + 1)
  words_copied old start at r e =
      let v = get_or vs i 0 in
      let h = header (get_or is i 0) (get_or ms i 0) k (step_for k (here i ∷ drop (i + 1) ws)) in
      let xs = take (k - 1) (drop (i + 1) vs) in
      let n = extra_length in
      let z : k + 1 ≡ suc (suc (k - 1)) = omega (arith, F.low) in
      let front = take-append-le (k - 1) xs (replicate (suc (suc (k - 1)) % 2) 0) (omega (arith, extra_length)) in
      let q : 2 + (k - 1) ≡ suc (suc (k - 1)) = omega arith in
      rw (e, at_i, values_from is ms vs (i + 1) G.masks G.values)
      (paste-paste old at (v ∷ h ∷ []) xs 2 (k - 1) refl (sym n) (omega arith) ∙ rw (q, z, front))

  pub part_copied : (old start new : List ℕ) (at : ℕ) → at + words k ≤ length old → start ≡ paste old at (command k (drop i ws)) 2
      → new ≡ paste start (at + 2) (take (k - 1) (drop (i + 1) vs)) (length (take (k - 1) (drop (i + 1) vs)))
      → new ≡ paste old at (command k (drop i ws)) (k + 1)
  part_copied old start new at r e q = q ∙ rw extra_length (words_copied old start at r e)

-- ONE COMMAND AFTER ANOTHER

-- the commands of the writes before i stand in the first `at` words; what is left to lay out is the packed list of the writes from i on
pub record Laid (ws : List Write) (old : List ℕ) (i at : ℕ) (new : List ℕ) : Type 0 where
  pub within : i ≤ length ws
  pub stands : new ≡ take at (packed ws) ++ drop at old
  pub rest : drop at (packed ws) ≡ packed (drop i ws)
  pub fits : at + length (packed (drop i ws)) ≡ length (packed ws)

-- one command more
module _ (ws : List Write) (old : List ℕ) (i k at : ℕ) (new : List ℕ) (h : i < length ws) (e : k ≡ first span (drop i ws))
    (D : Laid ws old i at new) where
  abbrev P : List ℕ
  P = packed ws

  abbrev C : List ℕ
  C = command k (drop i ws)

  abbrev R : List ℕ
  R = packed (drop (i + k) ws)

  pub one_command : OneCommand (drop i ws) k
  one_command = rw e (first_command (drop i ws) (omega (arith, length-drop i ws)))

  next_within : i + k ≤ length ws
  next_within = omega (arith, one_command.fits, one_command.low, length-drop i ws)

  whole : drop at P ≡ C ++ R
  whole = D.rest ∙ packed_more (drop i ws) (omega (arith, length-drop i ws)) ∙ rw (← e, drop-drop k i ws)

  pub next_fits : at + words k + length R ≡ length P
  next_fits = omega (arith, D.fits, sym (ap length D.rest) ∙ ap length whole ∙ length-append C R, one_command.long)

  pub laid_more : Laid ws old (i + k) (at + words k) (paste new at C (words k))
  laid_more =
      let n = words k in
      let inside : at ≤ length P = omega (arith, D.fits) in
      let l = one_command.long in (
      record {
        within = next_within;
        stands = rw D.stands (next_part P C R old at n inside whole l);
        rest = next_rest P C R old at n inside whole l;
        fits = next_fits;
      }
      )

-- at the end the whole list stands there
pub laid_all : (ws : List Write) (old : List ℕ) (i at : ℕ) (new : List ℕ) → length ws ≤ i → Laid ws old i at new
    → new ≡ packed ws ++ drop (length (packed ws)) old
laid_all ws old i at new h D =
    let n : length (drop i ws) ≡ 0 = length-drop i ws ∙ omega arith in
    let z : at ≡ length (packed ws) = omega (arith, D.fits, ap length (packed_none (drop i ws) n)) in
    D.stands ∙ rw (z, take_all (length (packed ws)) (packed ws) (omega arith))
