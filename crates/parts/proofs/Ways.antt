-- What several words do at once: the extra parameters of a command in one run, and a whole command. Assumes nothing.
use Rattle.std.proofs.Common.{◌≡◌, ℕ, zero, suc, ◌+◌, ◌-◌, ◌%◌, ◌<◌, ◌≤◌, true, List, [], ◌∷◌, ◌++◌, length, get_or, drop, sym, refl, ap, ◌∙◌, append_assoc, append-nil, add-one, arith, length-append, drop-cons, eq-eqb}
use Rattle.words.specs.Header.{id_of, mask_of, count_of, step_of, words_of, adds_of}
use Rattle.words.specs.Writes.{Write, writing, kept, fault_of}
use Rattle.words.proofs.Laws.{kept_none, kept_append}
use Rattle.registers.specs.State.{State}
use Rattle.registers.specs.Applied.{apply_all, differences}
use Rattle.registers.proofs.Differences.{differences_append, differences_most}
use Rattle.commands.specs.Run.{run_from}
use Rattle.commands.specs.Clear.{last_id, clear}
use Rattle.commands.proofs.Applying.{apply_append}
use Rattle.commands.proofs.Clearing.{last_on, last_before, last_none, next_within, first_within, clear_fault}
use Rattle.commands.proofs.Runs.{run_from_done, run_from_next}
use Rattle.parts.specs.Progress.{moved, plus, first_of, padding, headed, started, after, made}
use Rattle.parts.specs.Leads.{Leads}
use Rattle.parts.specs.declared.Progress.{Progress}
use Rattle.parts.proofs.Steps.{Takes, takes_extra, takes_padding, takes_header, takes_first, makes_most, after_more, made_more}

-- p after some commands
abbrev pub so_far : Progress → ℕ → ℕ → ℕ → ℕ → ℕ → ℕ → ℕ → Progress
so_far p come place first id mask step writes =
    record {
      come = come;
      place = place;
      begun = p.begun;
      first = first;
      id = id;
      mask = mask;
      step = step;
      left = p.left;
      pad = p.pad;
      writes = writes;
      fault = p.fault;
      differences = p.differences;
    }

-- from the progress p before word i of a list to q before word j, by the writes ws, which are no more than the words
pub record Way (l : List ℕ) (p : Progress) (i : ℕ) (q : Progress) (j : ℕ) (ws : List Write) : Type 0 where
  pub progress : after q (drop j l) ≡ after p (drop i l)
  pub writes : ws ++ made q (drop j l) ≡ made p (drop i l)
  pub few : length ws + i ≤ j

module _ (l : List ℕ) where
  pub stay : (p : Progress) (i : ℕ) → Way l p i p i []
  stay p i = record { progress = refl; writes = refl; few = omega arith }

  -- one word
  pub by_word : (p q : Progress) (i : ℕ) (ws : List Write) → i < length l → Takes p (get_or l i 0) q ws → Way l p i q (i + 1) ws
  by_word p q i ws h t =
      let x = get_or l i 0 in
      let rest = drop (i + 1) l in
      let e : drop i l ≡ x ∷ rest = rw (add-one i) (drop-cons l i 0 h) in
      record {
        progress = rw (e, after_more p x rest, t.progress);
        writes = rw (e, made_more p x rest, t.progress, t.writes);
        few = rw (← t.writes) (omega (arith, makes_most p x));
      }

  -- one way after another
  pub both_ways : (p q r : Progress) (i j k : ℕ) (ws vs : List Write) → Way l p i q j ws → Way l q j r k vs
      → Way l p i r k (ws ++ vs)
  both_ways p q r i j k ws vs a b =
      record {
        progress = b.progress ∙ a.progress;
        writes = append_assoc ws vs (made r (drop k l)) ∙ rw b.writes a.writes;
        few = rw (length-append ws vs) (omega (arith, a.few, b.few));
      }

-- A RUN OF EXTRA PARAMETERS, none of them at fault

-- the writes to the next n ids are allowed
abbrev pub Sound : Progress → ℕ → Type 0
Sound p n = (k : ℕ) → p.id + p.step ≤ k → k ≤ last_id p.id n p.step → fault_of k p.mask ≡ 0

abbrev pub ran : Progress → ℕ → Progress
ran p n = moved p (p.come + n) (last_id p.id n p.step) (p.left - n) p.pad p.fault

-- one of them
abbrev ran_one : Progress → Progress
ran_one p = moved p (p.come + 1) (p.id + p.step) (p.left - 1) p.pad p.fault

one_ran : (p : Progress) (x : ℕ) → p.come ≤ 65535 → 0 < p.left → p.fault ≡ 0 → p.id + p.step < 0x100000000
    → fault_of (p.id + p.step) p.mask ≡ 0 → Takes p x (ran_one p) (kept (writing (p.id + p.step) p.mask x ∷ []))
one_ran p x a b f s g =
    let t = takes_extra p x a b in
    let d : plus p.id p.step ≡ p.id + p.step = omega arith in
    let e : first_of p.fault (fault_of (plus p.id p.step) p.mask) ≡ 0 = rw (eq-eqb p.fault 0 f, d) g in
    record {
      progress =
          t.progress
          ∙ ap (λ (n : ℕ). moved p (p.come + 1) (plus p.id p.step) (p.left - 1) p.pad n) (e ∙ sym f)
          ∙ ap (λ (n : ℕ). moved p (p.come + 1) n (p.left - 1) p.pad p.fault) d;
      writes = t.writes ∙ rw (e, d);
    }

module _ (l : List ℕ) where
  pub ran_way : (n i : ℕ) (p : Progress) → i + n ≤ length l → p.come + n ≤ 65536 → n ≤ p.left → p.fault ≡ 0
      → p.step ≤ 1
      → p.id + n < 0x100000000 → Sound p n → Way l p i (ran p n) (i + n) (kept (run_from l i n (p.id + p.step) p.mask p.step))
  ran_way zero i p a b c f d e g =
      let u : i + 0 ≡ i = omega arith in
      let v : p.come + 0 ≡ p.come = omega arith in
      let w : p.left - 0 ≡ p.left = omega arith in
      let none = run_from_done l i 0 (p.id + p.step) p.mask p.step (omega arith) in
      rw (u, v, w, last_none p.step p.id, none, kept_none) (stay l p i)
  ran_way (suc n) i p a b c f d e g =
      let m : suc n - 1 ≡ n = omega arith in
      let i' : i + 1 + n ≡ i + suc n = omega arith in
      let c' : p.come + 1 + n ≡ p.come + suc n = omega arith in
      let l' : p.left - 1 - n ≡ p.left - suc n = omega arith in
      let good = g (p.id + p.step) (omega arith) (next_within p.step p.id n d) in
      let one = one_ran p (get_or l i 0) (omega arith) (omega arith) f (omega arith) good in
      let rest = ran_way n (i + 1) (ran_one p) (omega arith) (omega arith) (omega arith) f d (omega arith)
      (λ k x y. g k (omega arith) (rw (last_on p.step p.id n d) at y)) in
      let first = writing (p.id + p.step) p.mask (get_or l i 0) ∷ [] in
      rw (run_from_next l i (suc n) (p.id + p.step) p.mask p.step (omega arith), m, kept_append first _)
      (rw (i', c', l', last_on p.step p.id n d) at
      (both_ways l p (ran_one p) (ran (ran_one p) n) i (i + 1) (i + 1 + n) _ _ (by_word l p (ran_one p) i _ (omega arith) one) rest))

  -- with the ids of the run clear of all that is refused, and its first write apart
  pub run_way : (n i : ℕ) (p : Progress) → 0 < n → i + n ≤ length l → p.come + n ≤ 65536 → n ≤ p.left → p.fault ≡ 0
      → p.step ≤ 1
      → p.id ≤ 0xFFFF → n ≤ 256 → clear (p.id + p.step) (last_id (p.id + p.step) (n - 1) p.step) p.mask ≡ true
      → Way l p i (moved p (p.come + n) (last_id (p.id + p.step) (n - 1) p.step) (p.left - n) p.pad p.fault) (i + n)
      (kept (writing (p.id + p.step) p.mask (get_or l i 0) ∷ run_from l (i + 1) (n - 1) (p.id + p.step + p.step) p.mask p.step))
  run_way n i p z a b c f d e m g =
      let last : last_id (p.id + p.step) (n - 1) p.step ≡ last_id p.id n p.step = last_before p.step p.id n d z in
      rw (last, ← (run_from_next l i n (p.id + p.step) p.mask p.step z))
      (ran_way n i p a b c f d (omega arith)
      (λ k x y. clear_fault (p.id + p.step) (last_id (p.id + p.step) (n - 1) p.step) k p.mask g x (rw last y)))

  -- A WHOLE COMMAND, none of whose writes is at fault
  abbrev pub commanded : Progress → ℕ → ℕ → Progress
  commanded p x h =
      so_far p (p.come + words_of h) p.come x (last_id (id_of h) (count_of h) (step_of h)) (mask_of h) (step_of h)
      (plus p.writes (adds_of h))

  module _ (i : ℕ) (p : Progress) (left : p.left ≡ 0) (pad : p.pad ≡ 0) (begun : p.begun ≡ 0) (fault : p.fault ≡ 0) where
    abbrev x : ℕ
    x = get_or l i 0

    abbrev h : ℕ
    h = get_or l (i + 1) 0

    -- its header has come
    abbrev opened : Progress
    opened =
        record {
          come = p.come + 2;
          place = p.come;
          begun = 0;
          first = x;
          id = id_of h;
          mask = mask_of h;
          step = step_of h;
          left = count_of h;
          pad = (2 + count_of h) % 2;
          writes = plus p.writes (adds_of h);
          fault = 0;
          differences = p.differences;
        }

    header_way : i + 2 ≤ length l → p.come + 2 ≤ 65536 → fault_of (id_of h) (mask_of h) ≡ 0
        → Way l p i opened (i + 2) (kept (writing (id_of h) (mask_of h) x ∷ []))
    header_way a b g =
        let q = started p x in
        let c : p.come + 1 + 1 ≡ p.come + 2 = omega arith in
        let j : i + 1 + 1 ≡ i + 2 = omega arith in
        let e : first_of p.fault (fault_of (id_of h) (mask_of h)) ≡ 0 = rw (eq-eqb p.fault 0 fault) g in
        let one = takes_first p x (omega arith) (omega (arith, left)) (omega (arith, pad)) (omega (arith, begun)) fault in
        let two = takes_header q h (omega arith) (omega (arith, left)) (omega (arith, pad)) (omega arith) in
        rw (j, c, e) at
        (both_ways l p q (headed q h) i (i + 1) (i + 1 + 1) [] _ (by_word l p q i [] (omega arith) one)
        (by_word l q (headed q h) (i + 1) _ (omega arith) two))

    -- the padding word, where there is one
    abbrev closed : ℕ → Progress
    closed n =
        moved opened (p.come + 2 + count_of h + n) (last_id (id_of h) (count_of h) (step_of h)) (count_of h - count_of h)
        ((2 + count_of h) % 2 - n) 0

    pad_way : (n : ℕ) → (2 + count_of h) % 2 ≡ n → i + words_of h ≤ length l → p.come + words_of h ≤ 65536
        → Way l (closed 0) (i + 2 + count_of h) (closed n) (i + 2 + count_of h + n) []
    pad_way zero e a b = let j : i + 2 + count_of h + 0 ≡ i + 2 + count_of h = omega arith in rw j (stay l (closed 0) (i + 2 + count_of h))
    pad_way (suc zero) e a b =
        let c : p.come + 2 + count_of h + 0 + 1 ≡ p.come + 2 + count_of h + 1 = omega arith in
        let d : (2 + count_of h) % 2 - 0 - 1 ≡ (2 + count_of h) % 2 - 1 = omega arith in
        let t = takes_padding (closed 0) (get_or l (i + 2 + count_of h) 0) (omega arith) (omega arith) (omega arith) in
        rw (c, d) at (by_word l (closed 0) (padding (closed 0)) (i + 2 + count_of h) [] (omega arith) t)
    pad_way (suc (suc n)) e a b = absurd (omega arith)

    pub command_way : i + words_of h ≤ length l → p.come + words_of h ≤ 65536
        → ((k : ℕ) → id_of h ≤ k → k ≤ last_id (id_of h) (count_of h) (step_of h) → fault_of k (mask_of h) ≡ 0)
        → Way l p i (commanded p x h) (i + words_of h)
        (kept (writing (id_of h) (mask_of h) x ∷ run_from l (i + 2) (count_of h) (id_of h + step_of h) (mask_of h) (step_of h)))
    command_way a b g =
        let n = (2 + count_of h) % 2 in
        let c : p.come + 2 + count_of h ≡ p.come + 2 + count_of h + 0 = omega arith in
        let d : n ≡ n - 0 = omega arith in
        let u : p.come + 2 + count_of h + n ≡ p.come + words_of h = omega arith in
        let v : count_of h - count_of h ≡ p.left = omega (arith, left) in
        let w : n - n ≡ p.pad = omega (arith, pad) in
        let j : i + 2 + count_of h + n ≡ i + words_of h = omega arith in
        let rs = run_from l (i + 2) (count_of h) (id_of h + step_of h) (mask_of h) (step_of h) in
        let one = header_way (omega arith) (omega arith) (g (id_of h) (omega arith) (first_within (step_of h) (id_of h) (count_of h))) in
        let two = ran_way (count_of h) (i + 2) opened (omega arith) (omega arith) (omega arith) refl (omega arith) (omega arith)
        (λ k y z. g k (omega arith) z) in
        let three = pad_way n refl a b in
        let all = both_ways l p opened (ran opened (count_of h)) i (i + 2) (i + 2 + count_of h) _ _ one two in
        let end : closed n ≡ commanded p x h = rw (u, v, w, begun, fault) in
        let first = writing (id_of h) (mask_of h) x ∷ [] in
        rw (← end, ← j, ← (append-nil (kept (first ++ rs))), kept_append first rs)
        (both_ways l p (closed 0) (closed n) i (i + 2 + count_of h) (i + 2 + count_of h + n) _ [] (rw (c, d) at all) three)

-- a way, with what its writes leave of a state, and how many made a difference
pub leads_by : (l : List ℕ) (p q : Progress) (i j : ℕ) (s t : State) (ws : List Write) (d : ℕ) → Way l p i q j ws → j ≤ length l
    → t ≡ apply_all s ws
    → d ≡ differences s ws
    → Leads l p i s q j t d
leads_by l p q i j s t ws d w h e c =
    let f : differences s (made p (drop i l)) ≡ differences s ws + differences t (made q (drop j l)) =
    rw (e, ← w.writes) (differences_append s ws (made q (drop j l))) in
    record {
      few = omega (arith, w.few, differences_most s ws, c);
      inside = h;
      progress = w.progress;
      state = rw (e, ← w.writes) (sym (apply_append s ws (made q (drop j l))));
      counts = omega (arith, c, f);
    }

pub leads_none : (l : List ℕ) (p : Progress) (i : ℕ) (s : State) → i ≤ length l → Leads l p i s p i s 0
leads_none l p i s h = record { few = omega arith; inside = h; progress = refl; state = refl; counts = omega arith }

pub leads_on : (l : List ℕ) (p q r : Progress) (i j k : ℕ) (s t u : State) (d e n : ℕ) → Leads l p i s q j t d → Leads l q j t r k u e
    → n ≡ d + e
    → Leads l p i s r k u n
leads_on l p q r i j k s t u d e n a b f =
    record {
      few = omega (arith, a.few, b.few, f);
      inside = b.inside;
      progress = b.progress ∙ a.progress;
      state = b.state ∙ a.state;
      counts = omega (arith, a.counts, b.counts, f);
    }
