-- The loop, from the end of the run: the run of writes that one command could carry, the least words and the tables are right from write
-- i on, whatever the values; the id and the mask of write i are held for the one before it. Assumes nothing.
use mathlib.Core.Path.{◌≡◌, refl, sym}
use mathlib.Core.Bool.{Bool, ◌&&◌}
use mathlib.Core.List.{List}
use Prim.Native.Nat.{ℕ, ◌+◌, ◌-◌, ◌≤◌, ◌<◌, min, max}
use native.Mathlib.Omega.{arith}
use lib.Dec.{eqb}
use lib.ListN.{length, get_or, drop, length-set, length-drop}
use Rattle.runs.specs.Span.{chain}
use Rattle.runs.specs.PackedList.{writes}
use Rattle.runs.proofs.Chain.{chain_fits}
use Rattle.runs.proofs.Writes.{writes_length}
use Rattle.planning.proofs.Links.{chain_linked, chain_on, chain_apart, step_two, run_some, run_longer}
use Rattle.planning.proofs.Ends.{Run, least_small, ends_more, run_span, run_longest}
use Rattle.planning.proofs.Plans.{kept_none, kept_more, Right, choice_right}
use Rattle.planning.proofs.plan_run.Goals as goal
use Rattle.planning.proofs.plan_run.Goals.{After-choose-chosen, After-end_at-before, After-going_on, After-linked-run}

-- THE CHAIN: the writes after write i - 1 that go on by the step to the next id

run_length : (c : After-going_on) (vs : List ℕ) → length c.args.ids.now ≡ length vs
    → length (writes c.args.ids.now c.args.masks.now vs) ≡ length c.args.ids.now
run_length c vs q = writes_length c.args.ids.now c.args.masks.now vs c.requires.0 q

goes_on : (c : After-going_on) (vs : List ℕ) → length c.args.ids.now ≡ length vs
    → c.going_on.result ≡ chain c.step_to-step.result (drop c.loop-i.i (writes c.args.ids.now c.args.masks.now vs))
goes_on c vs q =
    let o = c.loop-i in
    let K = (o.invariant.3 vs q).runs in
    let n = run_length c vs q in
    chain_on (writes c.args.ids.now c.args.masks.now vs) o.i o.was o.run o.next_id _ c.step_to-step.result c.going_on.result
    o.invariant.0 K.writes K.alone (λ h. o.invariant.2 (omega arith)) c.step_to-step.ensures c.going_on.ensures

steps : (c : After-going_on) → c.step_to-step.result < 2
steps c =
    let s = c.step_to-step in
    step_two c.loop-i.next_id (get_or c.args.ids.now (c.loop-i.i - 1) 0) s.result s.ensures

links : (c : After-linked-run) (vs : List ℕ) → length c.args.ids.now ≡ length vs
    → c.linked-run.result ≡ chain c.step_to-step.result (drop (c.loop-i.i - 1) (writes c.args.ids.now c.args.masks.now vs))
links c vs q =
    let a = c.args in
    let o = c.loop-i in
    chain_linked c.step_to-step.result a.ids.now a.masks.now vs o.i (o.i - 1) o.next_id o.next_mask
    c.going_on.result c.linked-run.result
    c.requires.0 q (omega arith) (omega arith) o.invariant.1 (goes_on (goal.at.After-linked-run c).After-going_on vs q)
    c.linked-run.ensures

-- THE RUN from write i - 1 on

-- the next write has the mask of this one, and its id is a step further
abbrev joins : After-end_at-before → Bool
joins c =
    let a = c.args in
    let o = c.loop-i in
    let i = o.i - 1 in
    eqb o.next_id (get_or a.ids.now i 0 + c.step_to-step.result) && eqb o.next_mask (get_or a.masks.now i 0)

some : (c : After-end_at-before) → 1 ≤ c.linked-run.result
some c = run_some (joins c) c.going_on.result c.linked-run.result c.linked-run.ensures

runs : (c : After-end_at-before) (vs : List ℕ) → length c.args.ids.now ≡ length vs
    → Run (writes c.args.ids.now c.args.masks.now vs) (c.loop-i.i - 1) c.step_to-step.result c.linked-run.result c.end_at-last.result
    c.end_at-before.result
runs c vs q =
    let ws = writes c.args.ids.now c.args.masks.now vs in
    let a = c.args in
    let o = c.loop-i in
    let K = o.invariant.3 vs q in
    let step = c.step_to-step in
    let on = c.going_on in
    let joined = c.linked-run in
    let last = c.end_at-last in
    let before = c.end_at-before in
    let longer =
    run_longer (joins c) (eqb step.result o.was) o.run on.result joined.result on.ensures joined.ensures in
    let E =
    ends_more ws o.i (o.i - 1) o.was o.run o.last o.before o.need o.after joined.result
    last.result before.result (omega arith) K.runs K.words K.next longer last.ensures before.ensures in
    record {
      writes = links (goal.at.After-end_at-before c).After-linked-run vs q;
      alone =
          λ h. chain_apart a.ids.now a.masks.now vs o.i (o.i - 1) o.next_id o.next_mask step.result c.requires.0 q
          (omega arith) (omega arith) o.invariant.1 step.ensures;
      lasts = E.0;
      befores = E.1;
    }

right : (c : After-choose-chosen) (vs : List ℕ) → length c.args.ids.now ≡ length vs
    → Right (writes c.args.ids.now c.args.masks.now vs) (c.loop-i.i - 1) c.choose-chosen.result
right c vs q =
    let ws = writes c.args.ids.now c.args.masks.now vs in
    let p = goal.at.After-choose-chosen c in
    let o = c.loop-i in
    let n = run_length p.After-going_on vs q in
    let R = runs p.After-end_at-before vs q in
    let s =
    run_span ws o.i (o.i - 1) c.step_to-step.result c.linked-run.result c.end_at-last.result c.end_at-before.result (omega arith)
    (steps p.After-going_on) (some p.After-end_at-before) R in
    choice_right ws o.i (o.i - 1) (min 256 c.linked-run.result) o.least o.extra c.choose-chosen.result (omega arith) (omega arith)
    (o.invariant.3 vs q).plan s c.choose-chosen.ensures

pub loop-i-init : goal.loop-i-init
loop-i-init c =
    let a = c.args in
    let is = a.ids.now in
    let ms = a.masks.now in (
      (let z : 0 < 2 = omega arith in z),
      (λ q. absurd (omega arith)),
      (λ q. (refl, refl)),
      (λ vs q.
          let n = sym (writes_length is ms vs c.requires.0 q) in
          kept_none (writes is ms vs) (length is) a.least.now a.extra.now n c.requires.2),
    )

pub linked-run-requires : goal.linked-run-requires
linked-run-requires c =
    let g = (goal.at.linked-run-requires c).After-going_on in
    let i = c.args.ids.now in
    let l = drop c.loop-i.i (writes i c.args.masks.now i) in
    let f = chain_fits c.step_to-step.result l in
    omega (arith, steps g, goes_on g i refl, f, length-drop c.loop-i.i (writes i c.args.masks.now i), run_length g i refl)

pub words_at-words-requires : goal.words_at-words-requires
words_at-words-requires c =
    let p = goal.at.words_at-words-requires c in
    let g = p.After-going_on in
    let i = c.args.ids.now in
    let o = c.loop-i in
    let K = o.invariant.3 i refl in
    let ws = writes i c.args.masks.now i in
    let n = run_length g i refl in (
      omega (arith, links p.After-linked-run i refl, chain_fits c.step_to-step.result (drop (o.i - 1) ws), length-drop (o.i - 1) ws),
      omega (arith, least_small ws o.i o.need K.words),
      omega (arith, least_small ws (o.i + max 2 o.run) o.last K.runs.lasts),
      omega (arith, least_small ws (o.i + max 2 o.run - 1) o.before K.runs.befores),
    )

pub choose-chosen-requires : goal.choose-chosen-requires
choose-chosen-requires c =
    let p = goal.at.choose-chosen-requires c in
    let g = p.After-going_on in
    let d = p.After-end_at-before in
    let i = c.args.ids.now in
    let o = c.loop-i in
    let K = o.invariant.3 i refl in
    let n = run_length g i refl in
    let m = length-set c.args.least.now (length i) 0 in
    let last = c.end_at-last in
    let before = c.end_at-before in
    let words = c.words_at-words in
    run_longest (writes i c.args.masks.now i) o.i (o.i - 1) c.step_to-step.result c.linked-run.result last.result before.result
    (omega arith) (steps g) (some d) (runs d i refl) o.need o.after o.last o.before o.least o.extra words.result
    (omega arith) K.plan K.words (omega (arith, o.auto.least, c.requires.2)) (omega (arith, c.requires.1))
    last.ensures before.ensures words.ensures

pub overflow_cast-least : goal.overflow_cast-least
overflow_cast-least c =
    let p = goal.at.overflow_cast-least c in
    let i = c.args.ids.now in
    omega (arith, (right p.After-choose-chosen i refl).small, run_length p.After-going_on i refl)

pub loop-i-preserved : goal.loop-i-preserved
loop-i-preserved c =
    let p = goal.at.loop-i-preserved c in
    let d = p.After-end_at-before in
    let g = p.After-going_on in
    let a = c.args in
    let o = c.loop-i in
    let m = length-set a.least.now (length a.ids.now) 0 in (
      steps g,
      (λ q. (refl, refl)),
      (λ q. absurd (omega arith)),
      (λ vs q.
          let n = run_length g vs q in
          let K = o.invariant.3 vs q in
          kept_more (writes a.ids.now a.masks.now vs) o.i (o.i - 1) _ _ _ _ o.need o.least o.extra c.choose-chosen.result
          (omega arith) (omega arith) (runs d vs q) K.words (right p.After-choose-chosen vs q) (omega arith) (omega arith) K.plan),
    )
