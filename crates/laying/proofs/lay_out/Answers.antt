-- The loop: the commands of the writes before i stand in the first `at` words, and the packed list of the rest is left. Assumes nothing.
use mathlib.Core.Path.{◌≡◌, ap, ◌∙◌}
use mathlib.Core.List.{List}
use Prim.Native.Nat.{ℕ, ◌+◌, ◌≤◌, ◌<◌}
use native.Mathlib.Omega.{arith}
use lib.ListN.{length, drop}
use Rattle.words.specs.Writes.{Write}
use Rattle.cuts.specs.Cuts.{words, first}
use Rattle.runs.specs.Span.{span}
use Rattle.runs.specs.PackedList.{OneCommand}
use Rattle.planning.specs.RunWrites.{run_writes}
use Rattle.planning.proofs.RunWrites.{run_length}
use Rattle.laying.proofs.Lays.{one_command, laid_more, laid_all}
use Rattle.laying.proofs.lay_out.Goals as goal
use Rattle.laying.proofs.lay_out.Goals.{After-from-k}

abbrev run : (c : After-from-k) → List Write
run c = run_writes c.args.given

below : (c : After-from-k) → c.loop-i.i < length (run c)
below c = omega (arith, c.loop-i-test.true, run_length c.args.given)

planned : (c : After-from-k) → c.from-k.result + 1 ≡ first span (drop c.loop-i.i (run c))
planned c = ap (λ (x : ℕ). x + 1) c.from-k.ensures ∙ c.requires.1 c.loop-i.i (below c)

one : (c : After-from-k) → OneCommand (drop c.loop-i.i (run c)) (c.from-k.result + 1)
one c = one_command _ _ _ _ _ _ (below c) (planned c) c.loop-i.invariant

room : (c : After-from-k) → (c.loop-i.i + (c.from-k.result + 1) ≤ length c.args.given.ids.now)
    × (c.loop-i.at + words (c.from-k.result + 1) ≤ length c.loop-i.space)
room c =
    let o = c.loop-i in
    let m = laid_more _ _ _ _ _ _ (below c) (planned c) o.invariant in
    (omega (arith, m.within, run_length c.args.given), omega (arith, m.fits, o.auto.space, c.requires.2))

pub put_command-requires : goal.put_command-requires
put_command-requires c = (
  one (goal.at.put_command-requires c).After-from-k,
  (room (goal.at.put_command-requires c).After-from-k).0,
  (room (goal.at.put_command-requires c).After-from-k).1,
)

pub loop-i-preserved : goal.loop-i-preserved
loop-i-preserved c =
    let a = c.args in
    let o = c.loop-i in
    let p = c.put_command in
    let m = laid_more _ _ _ _ _ _ (below (goal.at.loop-i-preserved c).After-from-k)
    (planned (goal.at.loop-i-preserved c).After-from-k) o.invariant in
    rw (c.words_of-at.ensures, p.ensures) m

pub returns : goal.returns
returns c =
    let a = c.args in
    let o = c.loop-i in
    let n = run_length a.given in
    laid_all _ _ o.i o.at _ (omega arith) o.invariant
