-- The P examples of document 01 and those of request 3, proved together. Assumes nothing.
use mathlib.Core.Path.{◌≡◌, refl}
use mathlib.Core.List.{map}
use Rattle.words.specs.Writes.{kept, fault_of}
use Rattle.words.specs.Commands.{run, places, commands, join, all_writes, expansion}
use Rattle.registers.specs.Held.{held, bits_in, bits_of}
use Rattle.ports.specs.Ports.{fog_cells, fog_entries}
use Rattle.registers.specs.Applied.{cells_after, put, apply_all}
use Rattle.reader.specs.ListVerdict.{first_fault, judge, judged, verdict}
use Rattle.reader.specs.Read.{read_answer}
use Rattle.settings.specs.Ranges.{signed}
use Rattle.settings.specs.Settings.{settings_in}
use Rattle.lines.specs.Text.{digits, decimal}
use Rattle.lines.specs.Lines.{first_words, line_of}
use Rattle.cuts.specs.Cuts.{table, sizes_from}
use Rattle.runs.specs.Span.{chain, span}
use Rattle.runs.specs.PackedList.{packed, filled}
use Rattle.packer.specs.Checks.{first_wrong, check_answer}
use Rattle.packer.specs.Packing.{pack_answer}
use Rattle.decode.specs.Codes.{stage_checks, frame_checks, checks, first_of}
use Rattle.decode.specs.Decoded.{decoded_of}
use Rattle.combiner.specs.Modes.{combined}
use Rattle.combiner.specs.Dot.{centred, at_least_zero, dot3_of}
use Rattle.combiner.specs.Stage.{alpha_mixed, stage_of}
use Rattle.combiner.specs.Chain.{result_of, seen_after, combiner_of}
use Rattle.stores.specs.Logic.{results}
use Rattle.stores.specs.Tests.{verdict_of}
use Rattle.stores.specs.Stores.{stencil_after, depth_after, colour_after, judged_of}
use Rattle.fragment.specs.Drawn.{outcome_of, unbuilt_id, largest, drawn_with, drawn_from}
use Rattle.demands.specs.Cases.{Case, cases}

pub examples : map (λ (c : Case). c.got) cases ≡ map (λ (c : Case). c.want) cases
unfolding cases kept fault_of run places commands join all_writes expansion held bits_in bits_of fog_cells fog_entries cells_after
    put apply_all first_fault judge judged verdict read_answer first_words line_of digits decimal signed settings_in table sizes_from
    chain span packed filled
    first_wrong check_answer pack_answer stage_checks frame_checks checks first_of decoded_of combined centred at_least_zero dot3_of
    alpha_mixed stage_of result_of seen_after combiner_of results verdict_of stencil_after depth_after colour_after judged_of
    outcome_of unbuilt_id largest drawn_with drawn_from
examples = refl
