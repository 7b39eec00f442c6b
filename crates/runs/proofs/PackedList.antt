-- The packed list, command by command; nothing after these laws unfolds it. Assumes nothing.
use mathlib.Core.Path.{◌≡◌, refl, sym}
use mathlib.Core.List.{List, [], ◌∷◌, ◌++◌}
use Prim.Native.Nat.{ℕ, ◌*◌, ◌≤◌}
use native.Mathlib.Omega.{arith}
use lib.ListN.{length, drop, length-append}
use Rattle.words.specs.Writes.{Write}
use Rattle.cuts.specs.Cuts.{least, first}
use Rattle.cuts.proofs.Rests.{by_rests}
use Rattle.cuts.proofs.Steps.{first_of_law, least_nil, least_of, sizes_nil, sizes_of_law}
use Rattle.cuts.proofs.Least.{least_short}
use Rattle.runs.specs.Span.{span}
use Rattle.runs.specs.PackedList.{command, OneCommand, packed}
use Rattle.runs.proofs.Chain.{spans, span_cap}
use Rattle.runs.proofs.Command.{command_length}

-- no writes, no words
pub packed_none : (ws : List Write) → length ws ≡ 0 → packed ws ≡ []
unfolding packed
packed_none ws h = rw (sizes_nil span ws h)

-- else the first command, and the packed list of the rest
pub packed_more : (ws : List Write) → 1 ≤ length ws → packed ws ≡ command (first span ws) ws ++ packed (drop (first span ws) ws)
unfolding packed
packed_more ws h = rw (sizes_of_law spans ws h)

-- the first command is one that can be
pub first_command : (ws : List Write) → 1 ≤ length ws → OneCommand ws (first span ws)
first_command [] h = absurd (omega arith)
first_command (w ∷ l) h =
    let f = first_of_law spans (w ∷ l) h in
    let n = spans.fits (w ∷ l) in
    record {
      low = f.low;
      cap = omega (arith, f.high, span_cap (w ∷ l));
      carried = f.high;
      fits = omega (arith, f.high);
      long = command_length (first span (w ∷ l)) w l f.low (omega (arith, f.high));
    }

-- THE PACKED LIST HAS THE LEAST WORDS
pub packed_length : (ws : List Write) → length (packed ws) ≡ least span ws
packed_length = by_rests (λ ws. length (packed ws) ≡ least span ws) none some
  where
    none : length (packed []) ≡ least span []
    none = rw (packed_none [] refl) (sym (least_nil span [] refl))

    some : (a : Write) (l : List Write) → ((k : ℕ) → 1 ≤ k → length (packed (drop k (a ∷ l))) ≡ least span (drop k (a ∷ l)))
        → length (packed (a ∷ l)) ≡ least span (a ∷ l)
    some a l rest =
        let h : 1 ≤ length (a ∷ l) = omega arith in
        let k = first span (a ∷ l) in
        let f = first_command (a ∷ l) h in
        rw (packed_more (a ∷ l) h, length-append (command k (a ∷ l)) (packed (drop k (a ∷ l))))
        (omega (arith, f.long, rest k f.low, least_of spans (a ∷ l) h))

-- never longer than two words a write
pub packed_short : (ws : List Write) → length (packed ws) ≤ 2 * length ws
packed_short ws = rw (packed_length ws) (least_short spans ws)
