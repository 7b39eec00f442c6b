-- What holds of each write of a run, and of each write that a list can say. Assumes nothing.
use mathlib.Core.Path.{◌≡◌}
use mathlib.Core.Bool.{true}
use mathlib.Core.List.{List, [], ◌∷◌, ◌++◌}
use Prim.Native.Nat.{ℕ, zero, suc, ◌+◌, ◌≤◌, ◌<◌}
use native.Mathlib.Omega.{arith}
use lib.Dec.{eqb}
use lib.ListN.{drop}
use Rattle.numbers.proofs.Tests.{and_true}
use Rattle.numbers.proofs.Picks.{pick_either}
use Rattle.words.specs.Header.{id_of, mask_of, count_of, step_of}
use Rattle.words.specs.Writes.{Write, writing, kept, allowed}
use Rattle.words.specs.Commands.{header_at, param_at, run, expand, commands, join, all_writes, expansion}
use Rattle.words.proofs.Laws.{all_of, join_none, join_more}
use Rattle.reader.specs.ListVerdict.{all_allowed}
use Rattle.reader.proofs.Accepted.{verdict_accepted}
use Rattle.runs.specs.PackedList.{Packable}
use Rattle.runs.specs.Shortest.{Says, SaysUnfilled, Words32}
use Rattle.runs.proofs.Kept.{Kept, kept_is}

abbrev pub Each : (Write → Type 0) → List Write → Type 0
Each P [] = Unit {0}
Each P (w ∷ l) = P w × Each P l

module _ (P : Write → Type 0) where
  each_append : (a b : List Write) → Each P a → Each P b → Each P (a ++ b)
  each_append [] b x y = y
  each_append (w ∷ a) b x y = (x.0, each_append a b x.1 y)

  pub each_drop : (k : ℕ) (l : List Write) → Each P l → Each P (drop k l)
  each_drop zero l x = x
  each_drop (suc k) [] x = x
  each_drop (suc k) (w ∷ l) x = each_drop k l x.1

  -- what holds of every write that a header's mask and a parameter can make holds of each write of a list
  module _ (l : List ℕ) (every : (at k i : ℕ) → P (writing i (mask_of (header_at l at)) (param_at l at k))) where
    run_each : (at n k i : ℕ) → Each P (run l at n k i)
    unfolding run
    run_each at zero k i = tt
    run_each at (suc n) k i = (every at k i, run_each at n (k + 1) (i + step_of (header_at l at)))

    join_each : (ps : List ℕ) → Each P (join l ps)
    join_each [] = rw (join_none l) tt
    join_each (p ∷ ps) =
        let h = header_at l p in
        rw (join_more l p ps) (each_append (expand l p) (join l ps) (run_each p (count_of h + 1) 0 (id_of h)) (join_each ps))

    list_each : Each P (all_writes l)
    list_each = rw (all_of l) (join_each (commands l 0))

-- A LIST SAYS NO OTHER RUNS than those that can be packed: it has no mask above 15, and where it is accepted every write is allowed
packable_of : (ws : List Write) → all_allowed ws ≡ true → Each (λ w. w.mask ≤ 15) ws → Packable ws
unfolding all_allowed
packable_of [] a m = tt
packable_of (w ∷ ws) a m =
    let b = and_true (allowed w.id w.mask) (all_allowed ws) a in (m.0, b.0, packable_of ws b.1 m.1)

pub list_packable : (l : List ℕ) → all_allowed (all_writes l) ≡ true → Packable (all_writes l)
list_packable l a = packable_of (all_writes l) a (list_each (λ w. w.mask ≤ 15) l (λ at k i. omega arith))

module _ (ws : List Write) (l : List ℕ) (s : Says ws l) where
  is_kept : kept (all_writes l) ≡ ws
  unfolding expansion
  is_kept = s.writes

  all : Kept (all_writes l) ws
  all = rw is_kept at (kept_is (all_writes l))

  pub says_packable : Packable ws
  says_packable = all.packable (list_packable l (verdict_accepted l _ s.accepted).1)

  -- nor a run with writes of mask 0
  pub says_kept : kept ws ≡ ws
  says_kept = all.live

-- the values of a list before filling, of 32-bit words, are 32-bit words
pub unfilled_values : (ws : List Write) (l : List ℕ) → Words32 l → SaysUnfilled ws l → Each (λ w. w.value < 0x100000000) ws
unfilled_values ws l h s =
    let v = list_each (λ w. w.value < 0x100000000) l
    (λ at k i. pick_either (λ x. x < 0x100000000) (eqb k 0) (h at) (h (at + 1 + k))) in
    rw s.writes at v
