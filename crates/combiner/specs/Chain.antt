-- The six stages, and what each sees as Previous and as Previous buffer.
use Rattle.std.specs.Prelude.{ℕ, eqb}
use Rattle.numbers.specs.Pick.{pick}
use Rattle.settings.specs.declared.records.Colour.{Colour}
use Rattle.settings.specs.declared.records.Stage.{Stage}
use Rattle.settings.specs.declared.records.Stages.{Stages}
use Rattle.settings.specs.declared.records.BufferFog.{BufferFog}
use Rattle.combiner.specs.Operands.{Seen, black, by_code, sources_of}
use Rattle.combiner.specs.Stage.{stage_of}
use Rattle.combiner.specs.declared.Given.{Given}

-- a stage's result, from what it sees
unfoldable pub result_of : Given → Stage → Seen → Colour
result_of g s seen = stage_of s (sources_of (by_code g s.colour seen) s.source)

-- stage 0 sees zero as Previous, and FD as Previous buffer
abbrev pub at_first : Colour → Seen
at_first fd = record { previous = black; buffer = fd }

-- the buffer that the next stage sees: what this stage saw as Previous where this stage's bit of E0 is 1, else the buffer that it saw;
-- RGB and alpha by their own bits
abbrev pub buffer_after : ℕ → ℕ → Seen → Colour
buffer_after rgb alpha seen =
    record {
      red = pick (eqb rgb 1) seen.previous.red seen.buffer.red;
      green = pick (eqb rgb 1) seen.previous.green seen.buffer.green;
      blue = pick (eqb rgb 1) seen.previous.blue seen.buffer.blue;
      alpha = pick (eqb alpha 1) seen.previous.alpha seen.buffer.alpha;
    }

-- what the next stage sees
unfoldable pub seen_after : Given → Stage → ℕ → ℕ → Seen → Seen
seen_after g s rgb alpha seen = record { previous = result_of g s seen; buffer = buffer_after rgb alpha seen }

-- the combiner's result; E0 has no bit for stage 0, so that stages 0 and 1 see FD
unfoldable pub combiner_of : Stages → BufferFog → Given → Colour
combiner_of stages b g =
    let seen0 = at_first b.buffer_colour in
    let seen1 = seen_after g stages.stage0 0 0 seen0 in
    let seen2 = seen_after g stages.stage1 b.update.rgb1 b.update.alpha1 seen1 in
    let seen3 = seen_after g stages.stage2 b.update.rgb2 b.update.alpha2 seen2 in
    let seen4 = seen_after g stages.stage3 b.update.rgb3 b.update.alpha3 seen3 in
    let seen5 = seen_after g stages.stage4 b.update.rgb4 b.update.alpha4 seen4 in
    result_of g stages.stage5 seen5
