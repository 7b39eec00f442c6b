-- A command to one id that is no port's data: of its values the last decides, and each counts that changes the cell. Assumes nothing.
use mathlib.Core.Path.{◌≡◌, refl, sym, ap, ◌∙◌}
use mathlib.Core.Bool.{false, not}
use mathlib.Core.List.{List}
use Prim.Native.Nat.{ℕ, zero, suc, ◌+◌, ◌-◌, ◌^◌, ◌<◌}
use native.Mathlib.Omega.{arith}
use lib.Bits.{bit_and, and_le_r}
use lib.Dec.{eqb}
use lib.ListN.{length, get_or, set, length-set}
use lib.Seq.{get_or-set_same, set-set}
use borrow.Author.Tests.{ne_eqb}
use Rattle.numbers.specs.Bits.{bit, spread, merge, pick_bit}
use Rattle.numbers.specs.Pick.{pick}
use Rattle.numbers.proofs.Merge.{bits_equal, merge_bit, merge_word}
use Rattle.words.specs.Writes.{Write}
use Rattle.words.specs.declared.Header.{Header}
use Rattle.registers.specs.Held.{bits_of}
use Rattle.registers.specs.State.{State, st}
use Rattle.registers.specs.Applied.{put, apply_all, differs, differences}
use Rattle.registers.proofs.Puts.{put_held, put_free}
use Rattle.registers.proofs.Differences.{differs_held, differs_free}
use Rattle.commands.specs.Run.{run_from, run_with}
use Rattle.commands.specs.ToOne.{ToOne}
use Rattle.commands.specs.Changes.{change, changes}
use Rattle.commands.proofs.Changes.{changes_none, changes_next}
use Rattle.commands.proofs.Applying.{run_applied, run_counted, same_first, same_applies}
use Rattle.commands.proofs.Applying.{same_counts, alike_counts, same_first_counts, same_alike_counts}

-- of replacements in the same bits the last decides
pick_last : (e o a b : ℕ) → pick_bit e b (pick_bit e a o) ≡ pick_bit e b o
pick_last zero o a b = refl
pick_last (suc e) o a b = refl

merge_last : (e old a b : ℕ) → e < 2 ^ 32 → merge e (merge e old a) b ≡ merge e old b
merge_last e old a b h =
    bits_equal 32 (merge e (merge e old a) b) (merge e old b) (merge_word e (merge e old a) b h) (merge_word e old b h)
    (λ k t.
    merge_bit k e (merge e old a) b h t
    ∙ rw (merge_bit k e old a h t, merge_bit k e old b h t) (pick_last (bit k e) (bit k old) (bit k a) (bit k b)))

-- the last of n + 1 values from j on is the last of n from j + 1 on, or the one at j
last_next : (l : List ℕ) (j n : ℕ) → pick (eqb n 0) (get_or l j 0) (get_or l (j + 1 + n - 1) 0) ≡ get_or l (j + suc n - 1) 0
last_next l j zero = let e : j ≡ j + 1 - 1 = omega arith in ap (λ k. get_or l k 0) e
last_next l j (suc n) =
    let e : j + 1 + suc n - 1 ≡ j + suc (suc n) - 1 = omega arith in
    rw (ne_eqb (suc n) 0 (λ z. omega arith)) (ap (λ k. get_or l k 0) e)

module _ (h : Header) (o : ToOne h) (l : List ℕ) where
  abbrev id : ℕ
  id = h.id

  -- n of its writes, of the values that stand in l from j on
  abbrev rest : ℕ → ℕ → List Write
  rest j n = run_from l j n id h.mask 0

  -- the bits that its writes replace
  abbrev e : ℕ
  e = bit_and (bits_of id) (spread h.mask)

  -- NOT HELD: nothing changes
  pub free_run : bits_of id ≡ 0 → (s : State) (j n : ℕ) → apply_all s (rest j n) ≡ s
  free_run z s j zero = run_applied l h.mask s j 0 id 0 (omega arith)
  free_run z s j (suc n) =
      let m : suc n - 1 ≡ n = omega arith in
      same_applies l h.mask s j (suc n) id (omega arith)
      ∙ rw (m, put_free s id (spread h.mask) (get_or l j 0) o.no_fog o.no_light z) (free_run z s (j + 1) n)

  pub free_run_counts : bits_of id ≡ 0 → (s : State) (j n : ℕ) → differences s (rest j n) ≡ 0
  free_run_counts z s j n =
      alike_counts l h.mask false id (λ t x. differs_free t id (spread h.mask) x o.no_fog o.no_light z) s j n

  pub free_command : bits_of id ≡ 0 → (s : State) (v j : ℕ) → apply_all s (run_with h v l j) ≡ s
  free_command z s v j =
      same_first h o.one s v l j
      ∙ rw (put_free s id (spread h.mask) v o.no_fog o.no_light z) (free_run z s j h.count)

  pub free_counts : bits_of id ≡ 0 → (s : State) (v j : ℕ) → differences s (run_with h v l j) ≡ 0
  free_counts z s v j =
      same_alike_counts h o.one false (λ t x. differs_free t id (spread h.mask) x o.no_fog o.no_light z) s v l j

  -- HELD: the last value decides
  module _ (some : bits_of id ≡ 0 → ⊥) (cells fog light : List ℕ) (b : id < length cells) where
    abbrev old : ℕ
    old = get_or cells id 0

    -- the state where the cell has taken v
    abbrev with : ℕ → State
    with v = st (set cells id (merge e old v)) fog light

    e_word : e < 2 ^ 32
    e_word = omega (arith, and_le_r (bits_of id) (spread h.mask))

    -- one more write
    puts : (v x : ℕ) → put (with v) id (spread h.mask) x ≡ with x
    puts v x =
        put_held (with v) id (spread h.mask) x some
        ∙ rw (get_or-set_same cells id (merge e old v) 0 b, set-set cells id (merge e old v), merge_last e old v x e_word)

    tells : (v x : ℕ) → differs (with v) id (spread h.mask) x ≡ not (eqb (merge e old x) (merge e old v))
    tells v x =
        differs_held (with v) id (spread h.mask) x some (simp length-set b)
        ∙ rw (get_or-set_same cells id (merge e old v) 0 b, merge_last e old v x e_word)

    held_run : (v j n : ℕ) → apply_all (with v) (rest j n) ≡ with (pick (eqb n 0) v (get_or l (j + n - 1) 0))
    held_run v j zero = run_applied l h.mask _ j 0 id 0 (omega arith)
    held_run v j (suc n) =
        let m : suc n - 1 ≡ n = omega arith in
        same_applies l h.mask (with v) j (suc n) id (omega arith)
        ∙ rw (m, puts v (get_or l j 0), ne_eqb (suc n) 0 (λ z. omega arith), ← last_next l j n) (held_run (get_or l j 0) (j + 1) n)

    pub held_command : (v j : ℕ)
        → apply_all (st cells fog light) (run_with h v l j) ≡ with (pick (eqb h.count 0) v (get_or l (j + h.count - 1) 0))
    held_command v j =
        same_first h o.one (st cells fog light) v l j
        ∙ rw (put_held (st cells fog light) id (spread h.mask) v some) (held_run v j h.count)

    -- as many writes made a difference as values change the cell
    run_changes : (v j n : ℕ) → differences (with v) (rest j n) ≡ changes e old (merge e old v) l j n
    run_changes v j zero =
        run_counted l h.mask (with v) j 0 id 0 (omega arith) ∙ sym (changes_none e old l (merge e old v) j 0 (omega arith))
    run_changes v j (suc n) =
        let m : suc n - 1 ≡ n = omega arith in
        let x = get_or l j 0 in
        same_counts l h.mask (with v) j (suc n) id (omega arith)
        ∙ rw (m, puts v x, tells v x, run_changes x (j + 1) n)
        (sym (rw m at (changes_next e old l (merge e old v) j (suc n) (omega arith))))

    pub held_counts : (v j : ℕ)
        → differences (st cells fog light) (run_with h v l j)
        ≡ change old (merge e old v) + changes e old (merge e old v) l j h.count
    held_counts v j =
        same_first_counts h o.one (st cells fog light) v l j
        ∙ rw (
          put_held (st cells fog light) id (spread h.mask) v some,
          differs_held (st cells fog light) id (spread h.mask) v some b,
          run_changes v j h.count,
        )

    -- A RUN, of one value at least
    module _ (j n : ℕ) (p : 0 < n) where
      pub values_applied : apply_all (st cells fog light) (rest j n) ≡ with (get_or l (j + n - 1) 0)
      values_applied =
          same_applies l h.mask (st cells fog light) j n id p
          ∙ rw (put_held (st cells fog light) id (spread h.mask) (get_or l j 0) some) (held_run (get_or l j 0) (j + 1) (n - 1) ∙ last)
        where
          last : with (pick (eqb (n - 1) 0) (get_or l j 0) (get_or l (j + 1 + (n - 1) - 1) 0)) ≡ with (get_or l (j + n - 1) 0)
          last = let m : suc (n - 1) ≡ n = omega arith in ap with (rw m at (last_next l j (n - 1)))

      pub values_counted : differences (st cells fog light) (rest j n) ≡ changes e old old l j n
      values_counted =
          same_counts l h.mask (st cells fog light) j n id p
          ∙ rw (
            put_held (st cells fog light) id (spread h.mask) (get_or l j 0) some,
            differs_held (st cells fog light) id (spread h.mask) (get_or l j 0) some b,
            run_changes (get_or l j 0) (j + 1) (n - 1),
          )
          (sym (changes_next e old l old j n p))
