-- The row that is looked at has the id, or no row has. Assumes nothing.
use mathlib.Core.Path.{◌≡◌, sym, ◌∙◌}
use mathlib.Core.List.{List}
use Prim.Native.Nat.{ℕ, ◌+◌, ◌*◌, ◌%◌, ◌<◌}
use native.Mathlib.Omega.{arith}
use lib.ListN.{get_or}
use Rattle.registers.specs.Tables.{slot_table, LookupTables}
use Rattle.registers.proofs.Lookup.{id_at, bits_at, slot_small, row_right, row_none}
use Rattle.registers.proofs.held.HeldTable.row_of.Goals as goal

module _ (slots rows : List ℕ) (id r : ℕ) (t : LookupTables slots rows) (e : r ≡ get_or slots (id % 256) 0) where
  slot : r ≡ get_or slot_table (id % 256) 0
  slot = rw (← t.0) e

  small : r < 66
  small = rw slot (slot_small (id % 256) (omega arith))

  -- the id and the bits of the row
  row_id : get_or rows (2 * r) 0 ≡ id_at id
  row_id = rw (t.1, slot)

  row_bits : get_or rows (2 * r + 1) 0 ≡ bits_at id
  row_bits = rw (t.1, slot)

pub bounds-self-row : goal.bounds-self-row
bounds-self-row c =
    let s = c.args.self.now in
    omega (arith, small s.slots s.rows c.args.id _ s.known c.from-row.ensures)

pub bounds-self-row-then-self-row : goal.bounds-self-row-then-self-row
bounds-self-row-then-self-row c =
    let s = c.args.self.now in
    omega (arith, small s.slots s.rows c.args.id _ s.known c.from-row.ensures)

pub returns-then-self-row : goal.returns-then-self-row
returns-then-self-row c =
    let s = c.args.self.now in
    let k = c.args.id in
    let i = row_id s.slots s.rows k _ s.known c.from-row.ensures in
    let b = row_bits s.slots s.rows k _ s.known c.from-row.ensures in
    let r = row_right k (sym i ∙ c.if-self-row.true) in
    (b ∙ r.0, λ z. r.1.some (sym r.0 ∙ sym b ∙ z))

pub returns-else-self-row : goal.returns-else-self-row
returns-else-self-row c =
    let s = c.args.self.now in
    let i = row_id s.slots s.rows c.args.id _ s.known c.from-row.ensures in
    row_none c.args.id (λ e. c.if-self-row.false (i ∙ e))
