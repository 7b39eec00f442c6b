-- The first two words stand before the copy of the others; the padding word is the last. A short command's words are as `put_short`
-- ensures. Assumes nothing.
use mathlib.Core.Path.{◌≡◌, ap, ◌∙◌}
use mathlib.Core.List.{List}
use Prim.Native.Nat.{ℕ, ◌+◌, ◌-◌}
use native.Mathlib.Omega.{arith}
use lib.ListN.{length, get_or, drop, set, length-set}
use lib.Seq.{paste}
use Rattle.cuts.specs.Cuts.{words}
use Rattle.runs.specs.PackedList.{header, command}
use Rattle.numbers.proofs.Copy.{next_word}
use Rattle.planning.specs.RunWrites.{run_writes}
use Rattle.laying.proofs.Lays.{part_copied, word_pad, plain_at, two_words, short_words}
use Rattle.laying.proofs.put_command.Goals as goal
use Rattle.laying.proofs.put_command.Goals.{After-header_of, After-copy_in}

abbrev words_put : (c : After-header_of) → List ℕ
words_put c =
    let a = c.args in command a.k (drop a.i (run_writes a.given))

abbrev after_two : (c : After-header_of) → List ℕ
after_two c = let a = c.args in set (set a.space.now a.at (get_or a.given.values.now a.i 0)) (a.at + 1) c.header_of.result

begun : (c : After-header_of) → after_two c ≡ paste c.args.space.now c.args.at (words_put c) 2
begun c =
    let a = c.args in
    let h = header (get_or a.given.ids.now a.i 0) (get_or a.given.masks.now a.i 0) a.k in
    two_words a.given.ids.now a.given.masks.now a.given.values.now c.args.given.packable a.i a.k c.requires.0 a.space.now a.at
    c.header_of.result c.requires.2 (c.header_of.ensures ∙ ap h c.step_at.ensures.0)

long : (c : After-header_of) → length (after_two c) ≡ length c.args.space.now
long c = length-set (set c.args.space.now _ _) _ _ ∙ length-set c.args.space.now _ _

-- the words after the first two, copied over what stood there
copied : (c : After-copy_in) → c.copy_in.new.space
    ≡ paste c.args.space.now c.args.at (words_put (goal.at.After-copy_in c).After-header_of) (c.args.k + 1)
copied c =
    let a = c.args in
    let z : a.i + a.k - (a.i + 1) ≡ a.k - 1 = omega arith in
    part_copied a.given.ids.now a.given.masks.now a.given.values.now c.args.given.packable a.i a.k c.requires.0 a.space.now _ _ a.at
    c.requires.2 (begun (goal.at.After-copy_in c).After-header_of) (rw z at c.copy_in.ensures)

pub header_of-requires : goal.header_of-requires
header_of-requires c =
    let a = c.args in
    let p = plain_at a.given.ids.now a.given.masks.now a.given.values.now c.args.given.packable a.i a.k c.requires.0 in
    (p.0, p.1, c.requires.0.low, c.requires.0.cap, c.step_at.ensures.1)

pub returns-then-k-lt4 : goal.returns-then-k-lt4
returns-then-k-lt4 c =
    let a = c.args in
    c.put_short.ensures
    ∙ short_words a.given.ids.now a.given.masks.now a.given.values.now c.args.given.packable a.i a.k c.requires.0 a.space.now
    (after_two (goal.at.returns-then-k-lt4 c).After-header_of) a.at
    c.if-k-lt4.true c.requires.2 (begun (goal.at.returns-then-k-lt4 c).After-header_of)

pub returns-then-k-eq0 : goal.returns-then-k-eq0
returns-then-k-eq0 c =
    let a = c.args in
    let p = goal.at.returns-then-k-eq0 c in
    next_word a.space.now (words_put p.After-header_of) a.at (a.k + 1) (a.at + 1 + a.k) (words a.k) 0 _
    (omega arith) (omega arith) (omega arith) (omega (arith, c.requires.0.long)) (copied p.After-copy_in)
    (word_pad a.given.ids.now a.given.masks.now a.given.values.now c.args.given.packable a.i a.k c.requires.0 (omega arith))

pub returns-else-k-eq0 : goal.returns-else-k-eq0
returns-else-k-eq0 c =
    let z : c.args.k + 1 ≡ words c.args.k = omega arith in
    rw z at (copied (goal.at.returns-else-k-eq0 c).After-copy_in)
