-- The first writes of an expansion stand in three buffers, command after command. Assumes nothing.
use mathlib.Core.Path.{◌≡◌, refl, sym, ap, ◌∙◌}
use mathlib.Core.List.{List, [], ◌∷◌, ◌++◌, map, map-append}
use Prim.Native.Nat.{ℕ, zero, suc, ◌+◌, ◌≤◌, ◌<◌}
use native.Mathlib.Omega.{arith}
use lib.ListN.{length, take, drop, length-map, length-append, length-drop}
use lib.Seq.{take_all, drop-drop, drop_at, paste}
use Rattle.numbers.proofs.Room.{next_part}
use Rattle.words.specs.Header.{count_of, id_of, mask_of, words_of}
use Rattle.words.specs.Writes.{Write, kept, ids_in, masks_in, values_in}
use Rattle.words.specs.Commands.{header_at, expand, commands, join, expansion}
use Rattle.words.proofs.Laws.{commands_end, commands_step, run_length, run_dropped, run_kept, kept_none, kept_append}
use Rattle.words.proofs.Laws.{join_none, join_more, expansion_of}

-- A ROW of a run
module _ (f : Write → ℕ) where
  row_drop : (k : ℕ) (ws : List Write) → drop k (map f ws) ≡ map f (drop k ws)
  row_drop zero ws = refl
  row_drop (suc k) [] = refl
  row_drop (suc k) (w ∷ ws) = row_drop k ws

  -- the part that comes next in a run, put behind what stands of it
  row_next : (ws part rest : List Write) (old new : List ℕ) (k n : ℕ) → k ≤ length ws → drop k ws ≡ part ++ rest → length part ≡ n
      → new ≡ take k (map f ws) ++ drop k old → paste new k (map f part) n ≡ take (k + n) (map f ws) ++ drop (k + n) old
  row_next ws part rest old new k n h e l s =
      let next : drop k (map f ws) ≡ map f part ++ map f rest = row_drop k ws ∙ ap (map f) e ∙ map-append f part rest in
      rw s (next_part (map f ws) (map f part) (map f rest) old k n (omega (arith, length-map ws f)) next (length-map part f ∙ l))

-- THE FIRST k WRITES of a list's expansion stand in the buffers; those of the commands from `at` on are left
pub record Stands (l : List ℕ) (is₀ ms₀ vs₀ : List ℕ) (at k : ℕ) (is ms vs : List ℕ) : Type 0 where
  pub within : k ≤ length (expansion l)
  pub left : drop k (expansion l) ≡ kept (join l (commands l at))
  pub ids : is ≡ take k (ids_in (expansion l)) ++ drop k is₀
  pub masks : ms ≡ take k (masks_in (expansion l)) ++ drop k ms₀
  pub values : vs ≡ take k (values_in (expansion l)) ++ drop k vs₀

module _ (l is₀ ms₀ vs₀ : List ℕ) where
  abbrev E : List Write
  E = expansion l

  pub stands_none : Stands l is₀ ms₀ vs₀ 0 0 is₀ ms₀ vs₀
  stands_none = record { within = omega arith; left = expansion_of l; ids = refl; masks = refl; values = refl }

  -- one command more
  module _ (at k : ℕ) (is ms vs : List ℕ) (S : Stands l is₀ ms₀ vs₀ at k is ms vs) (i : at < length l) where
    abbrev h : ℕ
    h = header_at l at

    abbrev n : ℕ
    n = count_of h + 1

    abbrev rest : List Write
    rest = kept (join l (commands l (at + words_of h)))

    added : drop k E ≡ kept (expand l at) ++ rest
    added =
        let ps = commands l (at + words_of h) in
        S.left ∙ rw (commands_step l at i, join_more l at ps) (kept_append (expand l at) (join l ps))

    -- of mask 0: it adds nothing
    pub stands_dropped : mask_of h ≡ 0 → Stands l is₀ ms₀ vs₀ (at + words_of h) k is ms vs
    stands_dropped z =
        record {
          within = S.within;
          left = rw (run_dropped l at n 0 (id_of h) z) at added;
          ids = S.ids;
          masks = S.masks;
          values = S.values;
        }

    -- of any other
    module _ (some : mask_of h ≡ 0 → ⊥) where
      next : drop k E ≡ expand l at ++ rest
      next = rw (run_kept l at n 0 (id_of h) some) at added

      long : length (expand l at) ≡ n
      long = run_length l at n 0 (id_of h)

      pub next_within : k + n ≤ length E
      next_within =
          omega (arith, S.within, length-drop k E, ap length next ∙ length-append (expand l at) rest, long)

      pub stands_next : (is' ms' vs' : List ℕ) → is' ≡ paste is k (ids_in (expand l at)) n → ms' ≡ paste ms k (masks_in (expand l at)) n
          → vs' ≡ paste vs k (values_in (expand l at)) n → Stands l is₀ ms₀ vs₀ (at + words_of h) (k + n) is' ms' vs'
      stands_next is' ms' vs' a b c =
          record {
            within = next_within;
            left = sym (drop-drop n k E) ∙ rw next (drop_at (expand l at) rest n long);
            ids = a ∙ row_next (λ (w : Write). w.id) E (expand l at) rest is₀ is k n S.within next long S.ids;
            masks = b ∙ row_next (λ (w : Write). w.mask) E (expand l at) rest ms₀ ms k n S.within next long S.masks;
            values = c ∙ row_next (λ (w : Write). w.value) E (expand l at) rest vs₀ vs k n S.within next long S.values;
          }

  -- at the list's end all of them stand
  row_all : (f : Write → ℕ) (old new : List ℕ) (k : ℕ) → k ≡ length E → new ≡ take k (map f E) ++ drop k old
      → new ≡ map f E ++ drop (length E) old
  row_all f old new k e s = s ∙ rw (e, take_all (length E) (map f E) (omega (arith, length-map E f)))

  module _ (at k : ℕ) (is ms vs : List ℕ) (S : Stands l is₀ ms₀ vs₀ at k is ms vs) (e : length l ≤ at) where
    none_left : drop k E ≡ []
    none_left = S.left ∙ rw (commands_end l at e, join_none l) kept_none

    all : k ≡ length E
    all = omega (arith, S.within, length-drop k E, ap length none_left)

    pub stands_all : (is ≡ ids_in E ++ drop (length E) is₀) × (ms ≡ masks_in E ++ drop (length E) ms₀)
        × (vs ≡ values_in E ++ drop (length E) vs₀)
    stands_all = (
      row_all (λ (w : Write). w.id) is₀ is k all S.ids,
      row_all (λ (w : Write). w.mask) ms₀ ms k all S.masks,
      row_all (λ (w : Write). w.value) vs₀ vs k all S.values,
    )
