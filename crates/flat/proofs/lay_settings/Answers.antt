-- The three groups, one behind another. Assumes nothing.
use mathlib.Core.Path.{ap, ◌∙◌}
use mathlib.Core.List.{List, ◌++◌}
use Prim.Native.Nat.{ℕ}
use native.Mathlib.Omega.{arith}
use Rattle.settings.specs.Flat.{flat}
use Rattle.flat.specs.Groups.{words_to_fd, words_to_1c5}
use Rattle.flat.proofs.Laid.{whole}
use Rattle.flat.proofs.lay_settings.Goals as goal

pub returns : goal.returns
unfolding flat
returns c =
    let s = c.args.s in
    let to_dc = c.lay_to_dc.ensures in
    let to_fd = c.lay_to_fd.ensures ∙ ap (λ (l : List ℕ). l ++ words_to_fd s.buffer_fog s.stages) to_dc in
    let to_1c5 = c.lay_to_1c5.ensures ∙ ap (λ (l : List ℕ). l ++ words_to_1c5 s.framebuffer s.light_port) to_fd in
    whole c.lay_to_1c5.new.fields _ 204 (omega arith) to_1c5
