-- What an expansion leaves, command by command, and how many of its writes made a difference. Assumes nothing.
use mathlib.Core.Path.{◌≡◌, sym, ◌∙◌}
use mathlib.Core.Bool.{true}
use mathlib.Core.List.{List, [], ◌∷◌, ◌++◌}
use Prim.Native.Nat.{ℕ, ◌+◌, ◌≤◌, ◌<◌}
use lib.ListN.{length}
use borrow.Author.Tests.{leb-true}
use Rattle.numbers.proofs.Tests.{and_true}
use Rattle.words.specs.Header.{words_of}
use Rattle.words.specs.Writes.{Write, kept, allowed}
use Rattle.words.specs.Commands.{header_at, whole, expand, commands, join, full}
use Rattle.words.proofs.Laws.{commands_end, commands_step, kept_none, kept_append, join_none, join_more, full_more}
use Rattle.registers.specs.State.{State}
use Rattle.registers.specs.Applied.{apply_all, differences}
use Rattle.registers.proofs.Differences.{differences_none, differences_append}
use Rattle.commands.proofs.Applying.{apply_none, apply_append}
use Rattle.commands.proofs.Dropped.{AllAllowed}
use Rattle.reader.specs.ListVerdict.{all_allowed}
use Rattle.reader.proofs.Accepted.{allowed_append}

each_allowed : (ws : List Write) → all_allowed ws ≡ true → AllAllowed ws
unfolding all_allowed
each_allowed [] a = tt
each_allowed (w ∷ ws) a = let p = and_true (allowed w.id w.mask) (all_allowed ws) a in (p.0, each_allowed ws p.1)

module _ (l : List ℕ) (at : ℕ) where
  abbrev h : ℕ
  h = header_at l at

  -- what the commands from here on add to the expansion
  abbrev added : List Write
  added = kept (join l (commands l at))

  none_added : length l ≤ at → added ≡ []
  none_added e = rw (commands_end l at e, join_none l) kept_none

  -- the next command's writes, and then the others'
  more_added : at < length l → added ≡ kept (expand l at) ++ kept (join l (commands l (at + words_of h)))
  more_added i =
      let rest = commands l (at + words_of h) in
      rw (commands_step l at i, join_more l at rest) (kept_append (expand l at) (join l rest))

  pub join_applied : (s : State) → length l ≤ at → apply_all s added ≡ s
  join_applied s e = rw (none_added e) (apply_none s)

  pub join_applies : (s : State) → at < length l
      → apply_all s added ≡ apply_all (apply_all s (kept (expand l at))) (kept (join l (commands l (at + words_of h))))
  join_applies s i = rw (more_added i) (apply_append s (kept (expand l at)) _)

  pub join_counted : (s : State) → length l ≤ at → differences s added ≡ 0
  join_counted s e = rw (none_added e) (differences_none s)

  pub join_counts : (s : State) → at < length l
      → differences s added
      ≡ differences s (kept (expand l at))
      + differences (apply_all s (kept (expand l at))) (kept (join l (commands l (at + words_of h))))
  join_counts s i = rw (more_added i) (differences_append s (kept (expand l at)) _)

  -- of allowed writes those of the next command are allowed, and the others'
  pub allowed_next : at < length l → all_allowed (join l (commands l at)) ≡ true
      → AllAllowed (expand l at) × (all_allowed (join l (commands l (at + words_of h))) ≡ true)
  allowed_next i a =
      let rest = commands l (at + words_of h) in
      let e = sym (allowed_append (expand l at) (join l rest)) ∙ (rw (commands_step l at i, join_more l at rest) at a) in
      let p = and_true (all_allowed (expand l at)) (all_allowed (join l rest)) e in
      (each_allowed (expand l at) p.0, p.1)

  -- of a list without a command that lacks words, the next has its words, and the rest is such a list too
  pub full_next : at < length l → full l (commands l at) ≡ true
      → (at + words_of h ≤ length l) × (full l (commands l (at + words_of h)) ≡ true)
  full_next i f =
      let p = and_true (whole l at) (full l (commands l (at + words_of h)))
      (sym (full_more l at (commands l (at + words_of h))) ∙ (rw (commands_step l at i) at f)) in
      (leb-true (at + words_of h) (length l) p.0, p.1)
