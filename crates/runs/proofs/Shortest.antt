-- The list written among the lists that the reader accepts, and before filling among the lists of document 01. Assumes nothing.
use mathlib.Core.Path.{◌≡◌, refl, ap, ◌∙◌}
use mathlib.Core.Bool.{true, not, ◌&&◌, ◌||◌}
use mathlib.Core.List.{List, [], ◌∷◌, ◌++◌, append-nil}
use mathlib.Core.Logic.{◌⊎◌, inl, inr, ⊎_elim}
use Prim.Native.Nat.{ℕ, ◌+◌, ◌*◌, ◌%◌, ◌≤◌}
use native.Mathlib.Omega.{arith}
use lib.Dec.{leb, eqb}
use lib.ListN.{length}
use borrow.Author.Tests.{leb-true}
use Rattle.numbers.specs.Answer.{answered}
use Rattle.numbers.proofs.Tests.{and_true}
use Rattle.words.specs.Writes.{Write, kept, jumps, port_data}
use Rattle.words.specs.Commands.{commands, all_writes, expansion, well_formed}
use Rattle.words.proofs.Laws.{all_of, formed_of}
use Rattle.reader.specs.ListVerdict.{verdict, all_allowed}
use Rattle.reader.proofs.Accepted.{legal_judged, verdict_accepted, verdict_accepts, allowed_append}
use Rattle.cuts.specs.Cuts.{Most, sizes}
use Rattle.cuts.proofs.Least.{least_low}
use Rattle.cuts.proofs.Most.{sizes_most}
use Rattle.runs.specs.Span.{span}
use Rattle.runs.specs.PackedList.{Packable, packed, filling, filled, written}
use Rattle.runs.specs.Shortest.{sizes_of, AllTidy, Says, SaysUnfilled, Rule, Shortest}
use Rattle.runs.proofs.Chain.{spans}
use Rattle.runs.proofs.Lists.{live, list_cut, kept_cut, dead_costs}
use Rattle.runs.proofs.PackedList.{packed_length, packed_short}
use Rattle.runs.proofs.RoundTrip.{Plain, Finds, packed_finds}
use Rattle.runs.proofs.Kept.{kept_is}
use Rattle.runs.proofs.Filled.{packed_even, filled_length, filling_fills}
use Rattle.runs.proofs.Joined.{joined_writes, joined_expansion, joined_formed}

-- an allowed id has its place in a header
pub plain : (ws : List Write) → Packable ws → Plain ws
plain [] p = tt
plain (w ∷ l) p =
    let a = and_true (leb w.id 0x2FF && not (jumps w.id)) (not (port_data w.id) || eqb w.mask 15) p.1 in
    let h : w.id ≤ 0x2FF = leb-true _ _ (and_true (leb w.id 0x2FF) (not (jumps w.id)) a.0).0 in
    (omega arith, omega (arith, p.0), plain l p.2)

all_allowed_law : (ws : List Write) → Packable ws → all_allowed ws ≡ true
unfolding all_allowed
all_allowed_law [] p = refl
all_allowed_law (w ∷ l) p = rw p.1 (all_allowed_law l p.2)

-- BEFORE FILLING, where every list is one of document 01

-- no list before filling that says the run has fewer words
pub packed_least : (ws : List Write) (l : List ℕ) → SaysUnfilled ws l → length (packed ws) ≤ length l
packed_least ws l s =
    let c = list_cut l s.formed in
    omega (arith, packed_length ws, least_low spans ws (sizes_of l) (rw s.writes at c.0), c.1)

module _ (ws : List Write) (p : Packable ws) where
  finds : Finds (packed ws) (commands (packed ws) 0) ws
  finds = packed_finds ws (plain ws p)

  -- its writes are exactly the run
  pub packed_writes : all_writes (packed ws) ≡ ws
  packed_writes = all_of (packed ws) ∙ finds.writes

  pub packed_formed : well_formed (packed ws) ≡ true
  packed_formed = formed_of (packed ws) ∙ finds.form

  -- the reader finds commands of the chosen sizes in it
  pub packed_sizes : sizes_of (packed ws) ≡ sizes span ws
  packed_sizes = finds.sizes

  -- a lone write has bit 31 clear; padding and unused bits are 0
  pub packed_tidy : AllTidy (packed ws) (commands (packed ws) 0)
  packed_tidy = finds.tidy

  -- AMONG THE LISTS OF ITS LENGTH it has the larger command at the first difference
  pub packed_most : (l : List ℕ) → SaysUnfilled ws l → length l ≤ length (packed ws) → Most (sizes_of (packed ws)) (sizes_of l)
  packed_most l s h =
      let c = list_cut l s.formed in
      rw packed_sizes (sizes_most spans ws (sizes_of l) (rw s.writes at c.0) (omega (arith, packed_length ws, c.1)))

  pub packed_rule : Rule ws (packed ws)
  packed_rule =
      record {
        says = record { formed = packed_formed; writes = packed_writes };
        least = packed_least ws;
        most = packed_most;
        tidy = packed_tidy;
        short = packed_short ws;
      }

-- a list of any length with commands of mask 0 in it has at least two words more than the packed one: the rule need not look at such lists
pub dead_longer : (ws : List Write) (l : List ℕ) → well_formed l ≡ true → expansion l ≡ ws
    → (length (packed ws) + 2 ≤ length l) ⊎ SaysUnfilled ws l
dead_longer ws l f e =
    let m = least_low spans ws (live l (commands l 0)) (rw e at (kept_cut l f).0) in
    ⊎_elim (λ d. inl (omega (arith, packed_length ws, m, d))) (λ d. inr (record { formed = f; writes = d ∙ e })) (dead_costs l f)

-- FILLED

-- NO ACCEPTED LIST THAT SAYS THE RUN HAS FEWER WORDS: its commands whose mask isn't 0 are a cut, and its length is a multiple of 4
pub filled_least : (ws : List Write) (l : List ℕ) → Says ws l → length (filled (packed ws)) ≤ length l
filled_least ws l s =
    let v = legal_judged l (length ws) s.accepted in
    let c = kept_cut l (verdict_accepted l (length ws) s.accepted).0 in
    let m = least_low spans ws (live l (commands l 0)) (rw s.writes at c.0) in
    omega (arith, filled_length (packed ws) (packed_even ws), packed_even ws, packed_length ws, m, c.1, v.0)

-- any accepted list with that expansion says the run
pub says_of : (ws : List Write) (l : List ℕ) (n : ℕ) → verdict l ≡ answered n → expansion l ≡ ws → Says ws l
says_of ws l n v e = record { accepted = v ∙ ap answered ((verdict_accepted l n v).2 ∙ ap length e); writes = e }

pub filled_short : (ws : List Write) → length (filled (packed ws)) ≤ 2 * length ws + 2
filled_short ws = omega (arith, filled_length (packed ws) (packed_even ws), packed_even ws, packed_short ws)

-- ANY LIST BEFORE FILLING, of an even length, that says an allowed run: filled, it is accepted, it has the run's writes and then those of
-- the filling, and what is kept of the run is its expansion
module _ (ws : List Write) (p : Packable ws) (l : List ℕ) (u : SaysUnfilled ws l) (even : length l % 2 ≡ 0) where
  legal : length (filled l) % 4 ≡ 0
  legal = omega (arith, filled_length l even, even)

  formed : well_formed (filled l) ≡ true
  unfolding filled
  formed = joined_formed l (filling l) u.formed ∙ (filling_fills l).formed

  pub filled_writes : all_writes (filled l) ≡ ws ++ all_writes (filling l)
  unfolding filled
  filled_writes = joined_writes l (filling l) u.formed ∙ rw u.writes

  allowed : all_allowed (all_writes (filled l)) ≡ true
  allowed = rw (filled_writes, allowed_append ws (all_writes (filling l)), all_allowed_law ws p) (filling_fills l).allowed

  filled_expansion : expansion (filled l) ≡ kept ws
  unfolding filled expansion
  filled_expansion =
      joined_expansion l (filling l) u.formed ∙ rw (u.writes, (filling_fills l).writes) (append-nil (kept ws))

  pub filled_says : Says (kept ws) (filled l)
  filled_says = says_of (kept ws) (filled l) _ (verdict_accepts (filled l) legal formed allowed) filled_expansion

-- a run without writes of mask 0, packed and filled
pub filled_shortest : (ws : List Write) → Packable ws → kept ws ≡ ws → Shortest ws (filled (packed ws))
filled_shortest ws p e =
    record {
      says = rw e at (filled_says ws p (packed ws) (packed_rule ws p).says (packed_even ws));
      least = filled_least ws;
      unfilled = packed ws;
      rule = packed_rule ws p;
      fills = refl;
      short = filled_short ws;
    }

-- THE LIST WRITTEN IS THE SHORTEST of the writes that are kept
pub written_shortest : (ws : List Write) → Packable ws → Shortest (kept ws) (written ws)
written_shortest ws p = let k = kept_is ws in filled_shortest (kept ws) (k.packable p) k.live

pub written_short : (ws : List Write) → length (written ws) ≤ 2 * length ws + 2
written_short ws = omega (arith, filled_short (kept ws), (kept_is ws).fewer)
