-- One word more: from where a reading stands after j words of a list to where it stands after the next. Assumes nothing.
use mathlib.Core.Path.{◌≡◌, refl, ◌∙◌}
use mathlib.Core.Bool.{true}
use mathlib.Core.List.{List, [], ◌++◌, append-nil}
use Prim.Native.Nat.{ℕ, ◌+◌, ◌-◌, ◌≤◌, ◌<◌}
use native.Mathlib.Decide.{dec_lt}
use native.Mathlib.Omega.{arith}
use lib.Dec.{eqb}
use lib.ListN.{length, get_or}
use borrow.Author.Tests.{eq-eqb}
use Rattle.words.specs.Header.{id_of, mask_of, count_of, step_of, words_of, adds_of}
use Rattle.words.specs.Writes.{Write, writing, kept, fault_of}
use Rattle.words.specs.Commands.{header_at, expand, commands, join, expansion}
use Rattle.words.proofs.Laws.{adds_most, commands_step, join_more}
use Rattle.reader.specs.ListVerdict.{first_fault}
use Rattle.commands.proofs.Runs.{param_later}
use Rattle.parts.specs.Progress.{plus, first_of, extra, padding, headed, started, passed, next, sound, makes}
use Rattle.parts.specs.declared.Progress.{Progress}
use Rattle.parts.proofs.Steps.{Takes, takes_extra, takes_padding, takes_header, takes_first, takes_nothing}
use Rattle.pieces.proofs.Stands.{Between, Begun, Inside, Ended, Stands, at_between, at_begun, at_inside, at_end}
use Rattle.pieces.proofs.Stands.{fault_next, writes_next, settle}

module _ (l : List ℕ) where
  pub record Goes (j : ℕ) (q : Progress) (ws : List Write) : Type 0 where
    pub come : q.come ≡ j
    pub stands : Stands l j q ws

  -- by what the word takes the progress to
  by_takes : (j : ℕ) (p q : Progress) (x : ℕ) (ws vs : List Write) → Takes p x q vs → Goes j q (ws ++ vs)
      → Goes j (next p x) (ws ++ makes p x)
  by_takes j p q x ws vs t g = rw (t.progress, t.writes) g

  module _ (fits : length l ≤ 65536) (j : ℕ) (p : Progress) (ws : List Write) (c : p.come ≡ j) (low : j < length l) where
    abbrev x : ℕ
    x = get_or l j 0

    from_between : Between l j p ws → Goes (j + 1) (next p x) (ws ++ makes p x)
    from_between s =
        by_takes (j + 1) p (started p x) x ws []
        (takes_first p x (omega arith) (omega (arith, s.left)) (omega (arith, s.pad)) (omega (arith, s.begun)) s.fault)
        (record {
          come = omega arith;
          stands =
              at_begun
              (record {
                left = s.left;
                pad = s.pad;
                begun = refl;
                fault = s.fault;
                few = omega (arith, s.few);
                at = omega arith;
                first = rw c;
                answer = rw c s.answer;
                writes = rw (append-nil ws, c) s.writes;
              });
        })

    from_begun : Begun l j p ws → Goes (j + 1) (next p x) (ws ++ makes p x)
    from_begun s =
        let a = p.place in
        let h = header_at l a in
        let e : x ≡ h = rw s.at in
        let q = headed p x in
        let vs = sound q.fault (writing (id_of x) (mask_of x) p.first) in
        let k : adds_of x ≤ count_of x + 1 = adds_most x in
        let d : plus p.writes (adds_of x) ≡ p.writes + adds_of x = omega (arith, s.few, s.at) in
        let n : p.writes + adds_of h - adds_of h ≡ p.writes = omega arith in
        let o : count_of h + 1 - count_of h ≡ 0 + 1 = omega arith in
        let m : count_of h + 1 - 1 ≡ count_of h = omega arith in
        let none : first_fault (expand l a) ≡ first_of p.fault (first_fault (expand l a)) = rw (eq-eqb p.fault 0 s.fault) in
        let w : ws ++ kept (expand l a ++ join l (commands l (a + words_of h))) ≡ expansion l =
        rw (commands_step l a (omega (arith, s.at)), join_more l a (commands l (a + words_of h))) at s.writes in
        by_takes (j + 1) p q x ws vs
        (takes_header p x (omega arith) (omega (arith, s.left)) (omega (arith, s.pad)) (omega (arith, s.begun)))
        (record {
          come = omega arith;
          stands =
              settle l (j + 1) q (ws ++ vs) (omega arith)
              (record {
                begun = refl;
                here = omega (arith, s.at);
                at = rw e (omega (arith, s.at));
                param = rw e (λ _. omega (arith, s.at));
                most = rw e (omega arith);
                small = omega arith;
                step = rw e;
                mask = rw e;
                few = rw d (rw e (omega (arith, s.few, adds_most h)));
                some = rw d (rw e (omega arith));
                answer = rw d (rw (e, n) s.answer);
                faults =
                    rw (e, o)
                    (none ∙ rw m at (fault_next l true (eqb (fault_of (id_of h) (mask_of h)) 0) a (count_of h + 1) 0 (id_of h) p.fault
                    (eq-eqb p.fault 0 s.fault) refl (omega arith)));
                writes =
                    rw (e, o)
                    (rw m at (writes_next l a (count_of h + 1) 0 (id_of h) p.fault p.first ws _ (expansion l) (omega arith) s.first
                    (λ _. w)));
              });
        })

    from_inside : Inside l j p ws → 0 < p.left + p.pad → Goes (j + 1) (next p x) (ws ++ makes p x)
    from_inside s g = go (dec_lt 0 p.left)
      where
        go : Dec (0 < p.left) → Goes (j + 1) (next p x) (ws ++ makes p x)
        go (yes b) =
            let a = p.place in
            let h = header_at l a in
            let n = count_of h + 1 in
            let i = p.id + step_of h in
            let q = extra p in
            let d : plus p.id p.step ≡ p.id + p.step = omega (arith, s.small, s.step) in
            let vs = sound q.fault (writing (plus p.id p.step) p.mask x) in
            let k : n - (p.left - 1) ≡ n - p.left + 1 = omega (arith, s.most) in
            let v = param_later l a (n - p.left) j (omega (arith, s.most)) (omega (arith, s.param b, s.most)) in
            by_takes (j + 1) p q x ws vs (takes_extra p x (omega arith) b)
            (record {
              come = omega arith;
              stands =
                  settle l (j + 1) q (ws ++ vs) (omega arith)
                  (record {
                    begun = s.begun;
                    here = omega (arith, s.here);
                    at = omega (arith, s.at);
                    param = λ _. omega (arith, s.param b);
                    most = omega (arith, s.most);
                    small = rw d (omega (arith, s.small, s.step));
                    step = s.step;
                    mask = s.mask;
                    few = s.few;
                    some = s.some;
                    answer = s.answer;
                    faults =
                        s.faults
                        ∙ rw (d, k, s.mask, s.step)
                        (fault_next l (eqb p.fault 0) (eqb (fault_of i (mask_of h)) 0) a p.left (n - p.left) i p.fault refl refl b);
                    writes =
                        rw (d, k, s.mask, s.step)
                        (writes_next l a p.left (n - p.left) i p.fault x ws _ (expansion l) b v (rw s.step at s.writes));
                  });
            })
        go (no b) =
            by_takes (j + 1) p (padding p) x ws [] (takes_padding p x (omega arith) (omega arith) (omega arith))
            (record {
              come = omega arith;
              stands =
                  settle l (j + 1) (padding p) (ws ++ []) (omega arith)
                  (record {
                    begun = s.begun;
                    here = omega (arith, s.here);
                    at = omega (arith, s.at);
                    param = λ y. absurd (b y);
                    most = s.most;
                    small = s.small;
                    step = s.step;
                    mask = s.mask;
                    few = s.few;
                    some = s.some;
                    answer = s.answer;
                    faults = s.faults;
                    writes = rw (append-nil ws) s.writes;
                  });
            })

    from_ended : Ended l p → Goes (j + 1) (next p x) (ws ++ makes p x)
    from_ended s =
        by_takes (j + 1) p (passed p) x ws []
        (takes_nothing p x (omega arith) (omega (arith, s.left)) (omega (arith, s.pad)) (omega (arith, s.begun)) s.fault)
        (record {
          come = omega arith;
          stands = at_end (record { left = s.left; pad = s.pad; begun = s.begun; fault = s.fault; answer = s.answer });
        })

    pub step_on : Stands l j p ws → Goes (j + 1) (next p x) (ws ++ makes p x)
    step_on (at_between s) = from_between s
    step_on (at_begun s) = from_begun s
    step_on (at_inside s g) = from_inside s g
    step_on (at_end s) = from_ended s
