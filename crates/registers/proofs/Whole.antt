-- A state of the lengths and of 32-bit cells stays one, whatever is written to it. Assumes nothing.
use Rattle.std.proofs.Common.{◌≡◌, ℕ, Bool, true, false, List, [], ◌∷◌, length, get_or, set, refl, ◌∙◌, length-set, eqb}
use Rattle.std.specs.Int.Bits.{bit_and}
use Rattle.numbers.specs.Pick.{pick}
use Rattle.numbers.proofs.Picks.{pick_either}
use Rattle.numbers.specs.Bits.{merge, spread}
use Rattle.words.specs.Writes.{Write, fog_data, light_data}
use Rattle.ports.specs.Ports.{fog_cells, fog_entries, light_cells, light_entries}
use Rattle.registers.specs.Held.{bits_of}
use Rattle.registers.specs.State.{State, Words32, Whole}
use Rattle.registers.specs.declared.lent.Lent.{Lent}
use Rattle.registers.proofs.Words.{fog_words, light_words, cell_words}
use Rattle.registers.specs.Applied.{cells_after, put, apply_all}

abbrev pub IsWhole : State → Type 0
IsWhole s = Whole s.cells s.fog s.light

kept_length : (l : List ℕ) (b : Bool) (k v : ℕ) → length (pick b (set l k v) l) ≡ length l
kept_length l true k v = length-set l k v
kept_length l false k v = refl

cells_length : (c : List ℕ) (i e v : ℕ) → length (cells_after c i e v) ≡ length c
unfolding cells_after
cells_length c i e v = go (eqb (bits_of i) 0)
  where
    go : (b : Bool) → length (pick b c (set c i (merge (bit_and (bits_of i) e) (get_or c i 0) v))) ≡ length c
    go true = refl
    go false = length-set c i _

-- a port's index rises, and the entries keep their number
pub fog_whole : (c f l : List ℕ) (v : ℕ) → Whole c f l → Whole (fog_cells c) (fog_entries c f v) l
unfolding fog_cells fog_entries
fog_whole c f l v w = ((length-set c _ _ ∙ w.0.0, length-set f _ _ ∙ w.0.1, w.0.2), fog_words c w.1)

pub light_whole : (c f l : List ℕ) (v : ℕ) → Whole c f l → Whole (light_cells c) f (light_entries c l v)
unfolding light_cells light_entries
light_whole c f l v w = ((length-set c _ _ ∙ w.0.0, w.0.1, kept_length l _ _ _ ∙ w.0.2), light_words c w.1)

pub put_whole : (s : State) (i e v : ℕ) → IsWhole s → IsWhole (put s i e v)
unfolding put
put_whole s i e v w =
    pick_either IsWhole (fog_data i) (fog_whole s.cells s.fog s.light v w)
    (pick_either IsWhole (light_data i) (light_whole s.cells s.fog s.light v w)
    ((cells_length s.cells i e v ∙ w.0.0, w.0.1, w.0.2), cell_words s.cells i e v w.1))

pub all_whole : (s : State) (ws : List Write) → IsWhole s → IsWhole (apply_all s ws)
unfolding apply_all
all_whole s [] w = w
all_whole s (x ∷ ws) w = all_whole (put s x.id (spread x.mask) x.value) ws (put_whole s x.id (spread x.mask) x.value w)

-- so is one that is what some writes leave
pub is_whole : (s : State) (ws : List Write) (t : State) → IsWhole s → t ≡ apply_all s ws → IsWhole t
is_whole s ws t w e = rw e (all_whole s ws w)

-- of a state that is lent: its cells are as many, and each a 32-bit word
pub cells_long : (l : Lent) → length l.cells.now ≡ 768
cells_long l = l.whole.0.0

pub cells_words : (l : Lent) → Words32 l.cells.now
cells_words l = l.whole.1
