-- "A run that some accepted list could carry": of runs of at most 4,096 writes exactly those of allowed writes with masks of at most 15,
-- mask 0 included. Assumes nothing.
use mathlib.Core.List.{List, [], ◌∷◌, ◌++◌}
use Prim.Native.Nat.{◌≤◌}
use native.Mathlib.Omega.{arith}
use lib.ListN.{length}
use Rattle.words.specs.Writes.{Write}
use Rattle.words.specs.Commands.{all_writes, expansion}
use Rattle.reader.proofs.Accepted.{verdict_accepted}
use Rattle.runs.specs.PackedList.{Packable, packed, filling, filled}
use Rattle.runs.proofs.Shortest.{packed_rule, filled_short, filled_writes, filled_says}
use Rattle.runs.proofs.Filled.{packed_even, filling_fills}
use Rattle.runs.proofs.Each.{list_packable}
use Rattle.demands.specs.Said.{Said}

front_packable : (a b : List Write) → Packable (a ++ b) → Packable a
front_packable [] b p = tt
front_packable (w ∷ a) b p = (p.0, p.1, front_packable a b p.2)

-- what an accepted list carries is such a run
pub said_packable : (ws : List Write) → Said ws → Packable ws
said_packable ws c =
    let p = list_packable c.list (verdict_accepted c.list _ c.accepted).1 in
    front_packable ws c.filler (rw c.carries at p)

-- and each such run of at most 4,096 writes is carried by an accepted list
pub packable_said : (ws : List Write) → length ws ≤ 4096 → Packable ws → Said ws
unfolding expansion
packable_said ws few p =
    let says = (packed_rule ws p).says in
    record {
      list = filled (packed ws);
      short = omega (arith, filled_short ws);
      accepted = (filled_says ws p (packed ws) says (packed_even ws)).accepted;
      filler = all_writes (filling (packed ws));
      carries = filled_writes ws p (packed ws) says (packed_even ws);
      nothing = (filling_fills (packed ws)).writes;
    }
