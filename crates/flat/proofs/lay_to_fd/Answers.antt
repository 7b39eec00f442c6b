-- One group behind another. Assumes nothing.
use mathlib.Core.Path.{refl}
use mathlib.Core.List.{List, ◌++◌}
use Prim.Native.Nat.{ℕ}
use lib.ListN.{take}
use Rattle.flat.proofs.Laid.{first, more}
use Rattle.settings.specs.Flat.{fog_words, stage_words, colour_words}
use Rattle.flat.proofs.lay_to_fd.Goals as goal

pub returns : goal.returns
returns c =
    let a = c.args in
    let old = a.fields.now in
    let w0 : List ℕ = fog_words a.buffer in
    let to116 = c.lay.new.fields in
    let front = take 100 old in
    let at116 = first w0 old c.fog_words-fog.result to116 100 116 c.lay.ensures c.fog_words-fog.ensures refl in
    let w1 : List ℕ = stage_words a.stages.stage4 in
    let to136 = c.lay_stage.new.fields in
    let at136 = more front w0 w1 to116 w1 to136 116 136 at116 c.lay_stage.ensures refl refl in
    let w2 : List ℕ = stage_words a.stages.stage5 in
    let to156 = c.lay_stage-2.new.fields in
    let at156 = more front (w0 ++ w1) w2 to136 w2 to156 136 156 at136 c.lay_stage-2.ensures refl refl in
    let w3 : List ℕ = colour_words a.buffer.buffer_colour in
    let made = c.colour_words-colour in
    more front ((w0 ++ w1) ++ w2) w3 to156 made.result c.lay-2.new.fields 156 160 at156 c.lay-2.ensures made.ensures refl
