-- The writes of a command to a port's data leave what an upload leaves, and each of them counts. Assumes nothing.
use mathlib.Core.Path.{◌≡◌, refl, ap, ◌∙◌}
use mathlib.Core.Bool.{Bool, true, false, and-false}
use mathlib.Core.List.{List}
use Prim.Native.Nat.{ℕ, zero, suc, ◌+◌, ◌-◌, ◌*◌, ◌/◌, ◌%◌, ◌≤◌, ◌<◌}
use native.Mathlib.Decide.{dec_lt}
use native.Mathlib.Omega.{arith}
use lib.Dec.{leb}
use lib.ListN.{length, get_or, length-set}
use lib.Seq.{get_or-set_same, set-set, set-get_or}
use borrow.Author.Tests.{leb-true, lt-leb}
use Rattle.numbers.specs.Bits.{spread}
use Rattle.numbers.specs.Pick.{pick}
use Rattle.numbers.proofs.Tests.{and_true}
use Rattle.words.specs.Writes.{fog_data, light_data}
use Rattle.words.specs.declared.Header.{Header}
use Rattle.ports.specs.Ports.{named, rise, light_table, light_index, fog_cells, fog_entries, light_cells, light_entries}
use Rattle.ports.specs.Uploads.{with_entry, wrapped, uploaded, risen, fog_cells_after, fog_uploaded, light_cells_after, light_uploaded}
use Rattle.ports.proofs.Uploads.{wrapped_inside, wrapped_end, uploaded_done, uploaded_next}
use Rattle.registers.specs.State.{State, st}
use Rattle.registers.specs.Applied.{apply_all, differences}
use Rattle.registers.proofs.Puts.{put_fog_data, put_light_data}
use Rattle.registers.proofs.Differences.{differs_fog_data, differs_light_data}
use Rattle.commands.specs.Run.{run_from, run_with}
use Rattle.commands.proofs.Applying.{run_applied, same_first, same_applies, same_alike_counts}

-- THE INDEX

-- it rises by one, and from its last value to 0
fog_index_law : (x : ℕ) → Dec (x % 128 + 1 < 128) → wrapped 128 (x % 128 + 1) ≡ rise 128 x % 128
fog_index_law x (yes t) = wrapped_inside 128 (x % 128 + 1) t ∙ omega arith
fog_index_law x (no t) = wrapped_end 128 (x % 128 + 1) (omega arith) ∙ omega arith

light_index_law : (x : ℕ) → Dec (x % 256 + 1 < 256) → wrapped 256 (x % 256 + 1) ≡ rise 256 x % 256
light_index_law x (yes t) = wrapped_inside 256 (x % 256 + 1) t ∙ omega arith
light_index_law x (no t) = wrapped_end 256 (x % 256 + 1) (omega arith) ∙ omega arith

-- no id is both ports' data
light_only : (i : ℕ) → light_data i ≡ true → fog_data i ≡ false
light_only i g =
    let b : 0x1C8 ≤ i = leb-true 0x1C8 i (and_true (leb 0x1C8 i) (leb i 0x1CF) g).0 in
    rw (lt-leb i 0xEF (omega arith)) (and-false (leb 0xE8 i))

pick_same : {A : Type 0} (b : Bool) (a : A) → pick b a a ≡ a
pick_same true a = refl
pick_same false a = refl

pick_inside : {A : Type 0} (b : Bool) (f : A → A) (u v : A) → pick b (f (pick b u v)) (pick b u v) ≡ pick b (f u) v
pick_inside true f u v = refl
pick_inside false f u v = refl

fog_cells_law : (cells : List ℕ) → 0xE6 < length cells → 0xE6 < length (fog_cells cells)
unfolding fog_cells
fog_cells_law cells h = simp length-set h

light_cells_law : (cells : List ℕ) → 0x1C5 < length cells → 0x1C5 < length (light_cells cells)
unfolding light_cells
light_cells_law cells h = simp length-set h

-- THE WRITES TO ONE ID
module _ (l : List ℕ) (m : ℕ) where
  -- FOG
  pub fog_run : (n j i : ℕ) (cells fog light : List ℕ) → fog_data i ≡ true → 0xE6 < length cells
      → apply_all (st cells fog light) (run_from l j n i m 0) ≡ st (fog_cells_after cells n) (fog_uploaded cells fog l j n) light
  unfolding fog_cells fog_entries
  fog_run zero j i cells fog light f h =
      let x = get_or cells 0xE6 0 in
      let r : risen 128 x 0 ≡ x = omega arith in
      run_applied l m (st cells fog light) j 0 i 0 (omega arith)
      ∙ rw (r, set-get_or cells 0xE6 0, uploaded_done 128 0 (x % 128) fog l j 0 (omega arith))
  fog_run (suc n) j i cells fog light f h =
      let x = get_or cells 0xE6 0 in
      let y = rise 128 x in
      let r : risen 128 y n ≡ risen 128 x (suc n) = omega arith in
      let z : 0 + x % 128 ≡ x % 128 = omega arith in
      let t : suc n - 1 ≡ n = omega arith in
      let es = fog_entries cells fog (get_or l j 0) in
      let rest = fog_run n (j + 1) i (fog_cells cells) es light f (fog_cells_law cells h) in
      same_applies l m (st cells fog light) j (suc n) i (omega arith)
      ∙ rw (t, put_fog_data (st cells fog light) i (spread m) (get_or l j 0) f)
      (rest
      ∙ rw (
        get_or-set_same cells 0xE6 y 0 h,
        set-set cells 0xE6 y,
        r,
        uploaded_next 128 0 (x % 128) fog l j (suc n) (omega arith),
        t,
        z,
        fog_index_law x (dec_lt (x % 128 + 1) 128),
      ))

  -- LIGHT, by whether the open table is named
  light_by : (b : Bool) (n j i : ℕ) (cells fog light : List ℕ) → named (light_table cells) ≡ b → light_data i ≡ true → 0x1C5 < length cells
      → apply_all (st cells fog light) (run_from l j n i m 0)
      ≡ st (light_cells_after cells n) fog (pick b (uploaded 256 (light_table cells * 256) (light_index cells) light l j n) light)
  unfolding light_cells light_entries
  light_by b zero j i cells fog light o g h =
      let x = get_or cells 0x1C5 0 in
      let r : risen 256 x 0 ≡ x = omega arith in
      run_applied l m (st cells fog light) j 0 i 0 (omega arith)
      ∙ rw (r, set-get_or cells 0x1C5 0, uploaded_done 256 (x / 256 % 32 * 256) (x % 256) light l j 0 (omega arith), pick_same b light)
  light_by b (suc n) j i cells fog light o g h =
      let x = get_or cells 0x1C5 0 in
      let y = rise 256 x in
      let r : risen 256 y n ≡ risen 256 x (suc n) = omega arith in
      let q : y / 256 ≡ x / 256 = omega arith in
      let t : suc n - 1 ≡ n = omega arith in
      let v : named (light_table (light_cells cells)) ≡ b = rw (get_or-set_same cells 0x1C5 y 0 h, q) o in
      let es = light_entries cells light (get_or l j 0) in
      let rest = light_by b n (j + 1) i (light_cells cells) fog es v g (light_cells_law cells h) in
      let table = x / 256 % 32 * 256 in
      same_applies l m (st cells fog light) j (suc n) i (omega arith)
      ∙ rw (t, put_light_data (st cells fog light) i (spread m) (get_or l j 0) (light_only i g) g)
      (rest
      ∙ rw (
        get_or-set_same cells 0x1C5 y 0 h,
        set-set cells 0x1C5 y,
        r,
        q,
        o,
        uploaded_next 256 (x / 256 % 32 * 256) (x % 256) light l j (suc n) (omega arith),
        t,
        light_index_law x (dec_lt (x % 256 + 1) 256),
      )
      (ap (λ (z : List ℕ). st (light_cells_after cells (suc n)) fog z)
      (pick_inside b (λ es. uploaded 256 table (y % 256) es l (j + 1) n) (with_entry light (table + x % 256) l j) light)))

  pub light_run : (n j i : ℕ) (cells fog light : List ℕ) → light_data i ≡ true → 0x1C5 < length cells
      → apply_all (st cells fog light) (run_from l j n i m 0) ≡ st (light_cells_after cells n) fog (light_uploaded cells light l j n)
  light_run n j i cells fog light g h = light_by (named (light_table cells)) n j i cells fog light refl g h

-- A COMMAND TO A PORT'S DATA: its first write, and an upload of the rest
module _ (h : Header) (one : h.step ≡ 0) (v : ℕ) (l : List ℕ) (j : ℕ) (cells fog light : List ℕ) where
  pub fog_command : fog_data h.id ≡ true → 0xE6 < length cells
      → apply_all (st cells fog light) (run_with h v l j)
      ≡ st (fog_cells_after (fog_cells cells) h.count) (fog_uploaded (fog_cells cells) (fog_entries cells fog v) l j h.count) light
  fog_command f b =
      let es = fog_entries cells fog v in
      same_first h one (st cells fog light) v l j
      ∙ rw (put_fog_data (st cells fog light) h.id (spread h.mask) v f)
      (fog_run l h.mask h.count j h.id (fog_cells cells) es light f (fog_cells_law cells b))

  pub light_command : light_data h.id ≡ true → 0x1C5 < length cells
      → apply_all (st cells fog light) (run_with h v l j)
      ≡ st (light_cells_after (light_cells cells) h.count) fog
      (light_uploaded (light_cells cells) (light_entries cells light v) l j h.count)
  light_command g b =
      let es = light_entries cells light v in
      same_first h one (st cells fog light) v l j
      ∙ rw (put_light_data (st cells fog light) h.id (spread h.mask) v (light_only h.id g) g)
      (light_run l h.mask h.count j h.id (light_cells cells) fog es g (light_cells_law cells b))

  -- each of its writes counts
  pub fog_counts : (s : State) → fog_data h.id ≡ true → differences s (run_with h v l j) ≡ suc h.count
  fog_counts s f = same_alike_counts h one true (λ t x. differs_fog_data t h.id (spread h.mask) x f) s v l j

  pub light_counts : (s : State) → light_data h.id ≡ true → differences s (run_with h v l j) ≡ suc h.count
  light_counts s g =
      same_alike_counts h one true (λ t x. differs_light_data t h.id (spread h.mask) x (light_only h.id g) g) s v l j
