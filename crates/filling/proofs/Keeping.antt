-- The writes that are kept, from the run's end, in the room lent for them. Assumes nothing.
use mathlib.Core.Path.{◌≡◌, sym, ap, ◌∙◌}
use mathlib.Core.List.{List, ◌∷◌}
use Prim.Native.Nat.{ℕ, suc, ◌+◌, ◌-◌, ◌≤◌, ◌<◌}
use native.Mathlib.Numerals.{add-one}
use native.Mathlib.Omega.{arith}
use lib.ListN.{length, get_or, take, drop, set, length-set, length-drop, drop_of_length-le}
use lib.Seq.{take_all, drop_at, set_split, length-take-le}
use Rattle.words.specs.Writes.{Write, writing}
use Rattle.words.proofs.Laws.{kept_none, kept_drops, kept_keeps}
use Rattle.runs.specs.PackedList.{writes, PackableRun}
use Rattle.runs.proofs.Kept.{kept_is}
use Rattle.runs.proofs.Writes.{writes_length, writes_at}
use Rattle.filling.specs.Putting.{Keeps}

-- what a store leaves from its place on
drop_set : (l : List ℕ) (r x : ℕ) → r < length l → drop r (set l r x) ≡ x ∷ drop (r + 1) l
drop_set l r x h = rw (set_split l r x h, add-one r) (drop_at (take r l) (x ∷ drop (suc r) l) r (length-take-le r l (omega arith)))

-- ONE WRITE AFTER ANOTHER, from the end
module _ (is ms vs : List ℕ) (e : length is ≡ length ms) (f : length is ≡ length vs) (ks ns us : List ℕ) where
  abbrev ws : List Write
  ws = writes is ms vs

  -- none yet
  pub keeps_none : (i r : ℕ) → i ≡ length is → r ≡ length ks → length ks ≡ length ns → length ks ≡ length us
      → Keeps (drop i ws) r ks ns us
  keeps_none i r p q a b =
      let n = writes_length is ms vs e f in
      record {
        within = omega arith;
        masks = a;
        values = b;
        writes = rw (drop_of_length-le ks {i = r} (omega arith), drop_of_length-le ws {i = i} (omega arith)) (sym kept_none);
      }

  module _ (m i : ℕ) (p : m ≡ i + 1) (h : i < length is) where
    next : drop i ws ≡ writing (get_or is i 0) (get_or ms i 0) (get_or vs i 0) ∷ drop m ws
    next = rw p (writes_at is ms vs i e f h)

    -- a write of mask 0 is passed over
    pub keeps_dropped : (r : ℕ) → get_or ms i 0 ≡ 0 → Keeps (drop m ws) r ks ns us → Keeps (drop i ws) r ks ns us
    keeps_dropped r z K =
        record {
          within = K.within;
          masks = K.masks;
          values = K.values;
          writes = K.writes ∙ rw next (sym (kept_drops _ (drop m ws) z));
        }

    -- any other is put before those kept so far
    pub keeps_more : (q r : ℕ) → q ≡ r + 1 → (get_or ms i 0 ≡ 0 → ⊥) → Keeps (drop m ws) q ks ns us
        → Keeps (drop i ws) r (set ks r (get_or is i 0)) (set ns r (get_or ms i 0)) (set us r (get_or vs i 0))
    keeps_more q r s z K =
        let w = rw s at K.writes in
        let x = drop_set ks r (get_or is i 0) (omega (arith, K.within)) in
        let y = drop_set ns r (get_or ms i 0) (omega (arith, K.within, K.masks)) in
        let v = drop_set us r (get_or vs i 0) (omega (arith, K.within, K.values)) in
        record {
          within = omega (arith, K.within, length-set ks r (get_or is i 0));
          masks = omega (arith, K.masks, length-set ks r (get_or is i 0), length-set ns r (get_or ms i 0));
          values = omega (arith, K.values, length-set ks r (get_or is i 0), length-set us r (get_or vs i 0));
          writes =
              rw (x, y, v)
              (ap (λ (l : List Write). writing (get_or is i 0) (get_or ms i 0) (get_or vs i 0) ∷ l) w
              ∙ rw next (sym (kept_keeps _ (drop m ws) z)));
        }

-- a part to the end
abbrev pub end : List ℕ → ℕ → List ℕ
end l r = take (length l - r) (drop r l)

to_end : (l : List ℕ) (r : ℕ) → end l r ≡ drop r l
to_end l r = take_all (length l - r) (drop r l) (omega (arith, length-drop r l))

-- WHAT IS KEPT, as the three parts from r to the end
module _ (is ms vs ks ns us : List ℕ) (r : ℕ) (K : Keeps (writes is ms vs) r ks ns us) where
  module _ (G : PackableRun is ms vs) where
    level_masks : length (drop r ks) ≡ length (drop r ns)
    level_masks = omega (arith, length-drop r ks, length-drop r ns, K.masks)

    level_values : length (drop r ks) ≡ length (drop r us)
    level_values = omega (arith, length-drop r ks, length-drop r us, K.values)

    -- no more than were given
    pub parts_few : length (end ks r) ≤ length is
    parts_few =
        let n = writes_length (drop r ks) (drop r ns) (drop r us) level_masks level_values in
        let m = writes_length is ms vs G.masks G.values in
        rw (to_end ks r) (omega (arith, n, ap length K.writes, (kept_is (writes is ms vs)).fewer, m))

    -- they can be packed as all can
    pub parts_given : PackableRun (end ks r) (end ns r) (end us r)
    parts_given =
        let few = rw (to_end ks r) at parts_few in
        rw (to_end ks r, to_end ns r, to_end us r)
        (record {
          masks = level_masks;
          values = level_values;
          few = omega (arith, few, G.few);
          packable = rw K.writes ((kept_is (writes is ms vs)).packable G.packable);
        })
