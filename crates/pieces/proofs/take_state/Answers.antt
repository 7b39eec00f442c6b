-- The buffers, taken as arrays, are what they were, and go back whole.
use Rattle.registers.proofs.Sizes.{taken_whole, given_back}
use Rattle.pieces.proofs.take_state.Goals as goal

pub returns : goal.returns
returns c =
    let a = c.args in
    let l = c.requires.lengths in
    let k = c.requires.from_lengths in
    let cells = taken_whole 768 a.cells.now l.0 _ (rw c.unwrap-cells.ensures at c.first_chunk_mut.ensures.cases) in
    let fog = taken_whole 128 a.fog.now l.1 _ (rw c.unwrap-fog.ensures at c.first_chunk_mut-2.ensures.cases) in
    let light = taken_whole 6144 a.light.now l.2 _ (rw c.unwrap-light.ensures at c.first_chunk_mut-3.ensures.cases) in
    let from_cells = taken_whole 768 a.from_cells.now k.0 _ (rw c.unwrap-from_cells.ensures at c.first_chunk.ensures.cases) in
    let from_fog = taken_whole 128 a.from_fog.now k.1 _ (rw c.unwrap-from_fog.ensures at c.first_chunk-2.ensures.cases) in
    let from_light = taken_whole 6144 a.from_light.now k.2 _ (rw c.unwrap-from_light.ensures at c.first_chunk-3.ensures.cases) in
    let e = rw (cells, fog, light, from_cells, from_fog, from_light) at c.take_state.ensures in
    rw (given_back 768 a.cells.now l.0, given_back 128 a.fog.now l.1, given_back 6144 a.light.now l.2) e
