-- The writes of a run that can be packed.
use Rattle.std.specs.Prelude.{List}
use Rattle.words.specs.Writes.{Write}
use Rattle.runs.specs.PackedList.{writes}
use Rattle.planning.specs.declared.run.Run.{Run}

abbrev pub run_writes : Run → List Write
run_writes r = writes r.ids.now r.masks.now r.values.now
