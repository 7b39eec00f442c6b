-- The rows of a command's writes, ids, masks and values, place by place, and as they are put one after another. Assumes nothing.
use mathlib.Core.Path.{◌≡◌, refl, sym, ap, ◌∙◌}
use mathlib.Core.List.{List, ◌∷◌, map}
use Prim.Native.Nat.{ℕ, zero, suc, ◌+◌, ◌≤◌, ◌<◌}
use native.Mathlib.Omega.{arith}
use lib.ListN.{length, get_or, set, replicate, length-map}
use lib.Seq.{paste, paste-zero}
use borrow.Rule.Slice.PartMut.{put_mid}
use Rattle.std.proofs.lemmas.List.{same_lists, get_or_default}
use Rattle.std.proofs.lemmas.Slice.{put_mid-paste}
use Rattle.numbers.proofs.Copy.{next_word, copy_more}
use Rattle.words.specs.Header.{id_of, mask_of, count_of, step_of}
use Rattle.words.specs.Writes.{Write, ids_in, masks_in, values_in}
use Rattle.words.specs.Commands.{header_at, param_at, run, expand}
use Rattle.words.proofs.Laws.{run_length}

module _ (l : List ℕ) (at : ℕ) where
  abbrev h : ℕ
  h = header_at l at

  -- A RUN of n writes from parameter k on, the first of them to i
  ids_rise : (n k i m : ℕ) → suc m < n → get_or (ids_in (run l at n k i)) (suc m) 0 ≡ get_or (ids_in (run l at n k i)) m 0 + step_of h
  unfolding run
  ids_rise zero k i m p = absurd (omega arith)
  ids_rise (suc zero) k i m p = absurd (omega arith)
  ids_rise (suc (suc n)) k i zero p = refl
  ids_rise (suc (suc n)) k i (suc m) p = ids_rise (suc n) (k + 1) (i + step_of h) m (omega arith)

  mask_same : (n k i m : ℕ) → m < n → get_or (masks_in (run l at n k i)) m 0 ≡ mask_of h
  unfolding run
  mask_same zero k i m p = absurd (omega arith)
  mask_same (suc n) k i zero p = refl
  mask_same (suc n) k i (suc m) p = mask_same n (k + 1) (i + step_of h) m (omega arith)

  value_param : (n k i m : ℕ) → m < n → get_or (values_in (run l at n k i)) m 0 ≡ param_at l at (k + m)
  unfolding run
  value_param zero k i m p = absurd (omega arith)
  value_param (suc n) k i zero p = let z : k + 0 ≡ k = omega arith in rw z
  value_param (suc n) k i (suc m) p =
      let z : k + 1 + m ≡ k + suc m = omega arith in rw z at (value_param n (k + 1) (i + step_of h) m (omega arith))

  -- the masks of a run as one list
  masks_run : (n k i : ℕ) → masks_in (run l at n k i) ≡ replicate n (mask_of h)
  unfolding run
  masks_run zero k i = refl
  masks_run (suc n) k i = ap (λ (x : List ℕ). mask_of h ∷ x) (masks_run n (k + 1) (i + step_of h))

  -- A COMMAND
  abbrev E : List Write
  E = expand l at

  row_long : (f : Write → ℕ) → length (map f E) ≡ count_of h + 1
  row_long f = length-map E f ∙ run_length l at (count_of h + 1) 0 (id_of h)

  -- its first id is the header's, and each after it is the one before and the step
  pub id_first : id_of h ≡ get_or (ids_in E) 0 0
  unfolding run
  id_first = let n : count_of h + 1 ≡ suc (count_of h) = omega arith in rw n

  pub id_next : (m i : ℕ) → m < count_of h → i ≡ get_or (ids_in E) m 0 → i + step_of h ≡ get_or (ids_in E) (m + 1) 0
  id_next m i p e = let n : m + 1 ≡ suc m = omega arith in rw (n, e) (sym (ids_rise (count_of h + 1) 0 (id_of h) m (omega arith)))

  -- its masks are all the header's, and its values are its parameters
  pub mask_at : (j : ℕ) → j ≤ count_of h → mask_of h ≡ get_or (masks_in E) j 0
  mask_at j p = sym (mask_same (count_of h + 1) 0 (id_of h) j (omega arith))

  pub value_at : (j : ℕ) → j ≤ count_of h → param_at l at j ≡ get_or (values_in E) j 0
  value_at j p =
      let z : 0 + j ≡ j = omega arith in
      let e = value_param (count_of h + 1) 0 (id_of h) j (omega arith) in
      sym (rw z at e)

  -- A ROW AS IT IS PUT, into a buffer from place k on: the next word of it, in its place p
  module _ (f : Write → ℕ) (old : List ℕ) (k : ℕ) (room : k + (count_of h + 1) ≤ length old) where
    pub row_next : (new : List ℕ) (j p n x : ℕ) → p ≡ k + j → n ≡ j + 1 → j ≤ count_of h → x ≡ get_or (map f E) j 0
        → new ≡ paste old k (map f E) j → set new p x ≡ paste old k (map f E) n
    row_next new j p n x e g q a s =
        next_word old (map f E) k j p n x new e g (omega arith) (omega (arith, row_long f)) s a

    -- put over a buffer in which its first word stands already, it is put over the one before
    pub row_over : (start : List ℕ) (n : ℕ) → start ≡ paste old k (map f E) 1 → 1 ≤ n → n ≤ count_of h + 1
        → paste start k (map f E) n ≡ paste old k (map f E) n
    row_over start n e p q = rw e (copy_more old (map f E) k 1 n (omega arith) (omega (arith, row_long f)) p)

  -- A ROW AS IT IS PUT at once, over what stands from place k on
  module _ (old : List ℕ) (k : ℕ) (room : k + (count_of h + 1) ≤ length old) where
    -- ids, one by one
    pub ids_put : (e : ℕ) (new : List ℕ) → e ≡ count_of h + 1 → length new ≡ e
        → ((j : ℕ) → j < e → get_or new j 0 ≡ get_or (ids_in E) j 0) → put_mid k e old new ≡ paste old k (ids_in E) (count_of h + 1)
    ids_put e new p n q =
        let m = row_long (λ (w : Write). w.id) in
        put_mid-paste k e old new (ids_in E) (count_of h + 1)
        (same_lists new (ids_in E) (n ∙ p ∙ sym m)
        (λ j d t.
        get_or_default new j d 0 t ∙ q j (omega (arith, n)) ∙ get_or_default (ids_in E) j 0 d (omega (arith, n, m)))) (sym p) (sym m)

    -- masks, filled in
    pub masks_filled : (e : ℕ) (new : List ℕ) → e ≡ count_of h + 1 → new ≡ replicate e (mask_of h)
        → put_mid k e old new ≡ paste old k (masks_in E) (count_of h + 1)
    masks_filled e new p q =
        put_mid-paste k e old new (masks_in E) (count_of h + 1) (q ∙ rw p (sym (masks_run (count_of h + 1) 0 (id_of h)))) (sym p)
        (sym (row_long (λ (w : Write). w.mask)))

  -- THE THREE ROWS TOGETHER: its first j writes stand in the buffers from place k on
  pub record Put (k j : ℕ) (is₀ ms₀ vs₀ is ms vs : List ℕ) : Type 0 where
    pub ids : is ≡ paste is₀ k (ids_in E) j
    pub masks : ms ≡ paste ms₀ k (masks_in E) j
    pub values : vs ≡ paste vs₀ k (values_in E) j

  module _ (k : ℕ) (is₀ ms₀ vs₀ : List ℕ) where
    pub put_none : Put k 0 is₀ ms₀ vs₀ is₀ ms₀ vs₀
    put_none =
        record { ids = paste-zero is₀ k (ids_in E); masks = paste-zero ms₀ k (masks_in E); values = paste-zero vs₀ k (values_in E) }

    module _ (room : k + (count_of h + 1) ≤ length is₀)
        (level : (length is₀ ≡ length ms₀) × (length is₀ ≡ length vs₀)) where
      -- one write more, in its place p
      pub put_next : (is ms vs : List ℕ) (j p n i m v : ℕ) → p ≡ k + j → n ≡ j + 1 → j ≤ count_of h
          → i ≡ get_or (ids_in E) j 0 → m ≡ mask_of h
          → v ≡ param_at l at j → Put k j is₀ ms₀ vs₀ is ms vs
          → Put k n is₀ ms₀ vs₀ (set is p i) (set ms p m) (set vs p v)
      put_next is ms vs j p n i m v e g q a b c P =
          record {
            ids = row_next (λ (w : Write). w.id) is₀ k room is j p n i e g q a P.ids;
            masks = row_next (λ (w : Write). w.mask) ms₀ k (omega arith) ms j p n m e g q (b ∙ mask_at j q) P.masks;
            values = row_next (λ (w : Write). w.value) vs₀ k (omega arith) vs j p n v e g q (c ∙ value_at j q) P.values;
          }

      -- its first n writes, put over buffers in which its first stands already, are put over those before
      module _ (is₁ ms₁ vs₁ : List ℕ) (P : Put k 1 is₀ ms₀ vs₀ is₁ ms₁ vs₁)
          (n : ℕ) (p : 1 ≤ n) (q : n ≤ count_of h + 1) where
        ids_over : paste is₁ k (ids_in E) n ≡ paste is₀ k (ids_in E) n
        ids_over = row_over (λ (w : Write). w.id) is₀ k room is₁ n P.ids p q

        masks_over : paste ms₁ k (masks_in E) n ≡ paste ms₀ k (masks_in E) n
        masks_over = row_over (λ (w : Write). w.mask) ms₀ k (omega arith) ms₁ n P.masks p q

        values_over : paste vs₁ k (values_in E) n ≡ paste vs₀ k (values_in E) n
        values_over = row_over (λ (w : Write). w.value) vs₀ k (omega arith) vs₁ n P.values p q

        pub put_over : (is ms vs : List ℕ) → Put k n is₁ ms₁ vs₁ is ms vs → Put k n is₀ ms₀ vs₀ is ms vs
        put_over is ms vs Q = record { ids = Q.ids ∙ ids_over; masks = Q.masks ∙ masks_over; values = Q.values ∙ values_over }

        pub put_back : (is ms vs : List ℕ) → Put k n is₀ ms₀ vs₀ is ms vs → Put k n is₁ ms₁ vs₁ is ms vs
        put_back is ms vs Q =
            record { ids = Q.ids ∙ sym ids_over; masks = Q.masks ∙ sym masks_over; values = Q.values ∙ sym values_over }
