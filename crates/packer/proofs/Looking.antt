-- Writes of which none is refused and none has mask 0. Assumes nothing.
use Rattle.std.proofs.Common.{◌≡◌, ℕ, ◌+◌, ◌<◌, ◌≤◌, true, List, length, get_or, drop, sym, refl, ◌∙◌, arith, drop_of_length-le}
use Rattle.numbers.specs.Room.{level}
use Rattle.numbers.proofs.Room.{level_lengths}
use Rattle.words.proofs.Laws.{kept_none, kept_keeps}
use Rattle.runs.specs.PackedList.{writes}
use Rattle.runs.proofs.Writes.{writes_length, writes_at}
use Rattle.packer.specs.Checks.{wrong}
use Rattle.packer.specs.Looking.{Clear}
use Rattle.packer.proofs.Checks.{wrong_none, wrong_end}

-- write by write
module _ (is ms vs : List ℕ) (i : ℕ) (e : level is ms vs ≡ true) where
  pub clear_end : length is ≤ i → Clear i (drop i (writes is ms vs))
  clear_end h =
      let l = level_lengths is ms vs e in
      let n = writes_length is ms vs l.0 l.1 in
      record {
        right = wrong_end is ms vs i e h;
        live = rw (drop_of_length-le (writes is ms vs) {i = i} (omega arith)) kept_none;
      }

  pub clear_more : i < length is → (wrong (get_or is i 0) (get_or ms i 0) ≡ 0) × (1 ≤ get_or ms i 0)
      → Clear (i + 1) (drop (i + 1) (writes is ms vs)) → Clear i (drop i (writes is ms vs))
  clear_more h w c =
      let l = level_lengths is ms vs e in
      record {
        right = wrong_none is ms vs i e h 0 (sym w.0) refl ∙ c.right;
        live = rw (writes_at is ms vs i l.0 l.1 h) (kept_keeps _ _ (λ z. omega (arith, w.1)) ∙ rw c.live);
      }
