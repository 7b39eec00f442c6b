-- Every held bit stands in exactly one field of the table, and no other bit in any. Assumes nothing.
use mathlib.Core.Path.{◌≡◌}
use mathlib.Core.Bool.{Bool}
use mathlib.Core.List.{List}
use Prim.Native.Nat.{ℕ, ◌<◌}
use native.Mathlib.Omega.{arith}
use lib.Dec.{T, eqb, eqb→eq}
use lib.ListN.{replicate, length-replicate}
use Rattle.numbers.specs.Bits.{bit}
use Rattle.numbers.proofs.Table.{every, at}
use Rattle.registers.specs.Held.{held, bits_in, bits_of}
use Rattle.settings.specs.Fields.{Field, field_table, of_id, holding}

-- the 32 bits of a register that holds b, against its fields
bits_right : List Field → ℕ → ℕ → ℕ → Bool
bits_right fs b k _ = eqb (holding k fs) (bit k b)

is_id_right : ℕ → ℕ → Bool
is_id_right i _ = every (bits_right (of_id i field_table) (bits_of i)) 0 (replicate 32 0)

-- one test, computed over the 768 ids
all_right : T (every is_id_right 0 (replicate 768 0))
unfolding bits_right is_id_right field_table of_id holding bits_of bits_in held
all_right = tt

id_right : (i : ℕ) → i < 768 → T (every (bits_right (of_id i field_table) (bits_of i)) 0 (replicate 32 0))
unfolding is_id_right
id_right i h = at is_id_right (replicate 768 0) all_right i (omega (arith, length-replicate {A = ℕ} 768 0))

pub held_once : (i k : ℕ) → i < 768 → k < 32 → holding k (of_id i field_table) ≡ bit k (bits_of i)
unfolding bits_right
held_once i k h l =
    let fs = of_id i field_table in
    let right = bits_right fs (bits_of i) in
    let t = at right (replicate 32 0) (id_right i h) k (omega (arith, length-replicate {A = ℕ} 32 0)) in
    eqb→eq (holding k fs) (bit k (bits_of i)) t
