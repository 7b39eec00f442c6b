-- As the calls ensure. Assumes nothing.
use Rattle.combiner.proofs.Tables.{table_word}
use Rattle.combiner.proofs.combine.Goals as goal

pub returns : goal.returns
returns c =
    let a = c.args in
    rw (
      c.previous_in.ensures,
      c.run_stages.ensures,
      c.first_table-table.ensures,
    )
    (table_word a.cells.now a.g)
