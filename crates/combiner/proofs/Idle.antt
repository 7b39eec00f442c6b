-- A stage that hands on Previous as it is. Assumes nothing.
use mathlib.Core.Path.{◌≡◌, sym, ◌∙◌}
use mathlib.Core.Bool.{true}
use mathlib.Core.List.{List}
use Prim.Native.Nat.{ℕ}
use native.Mathlib.Omega.{arith}
use lib.ListN.{get_or}
use borrow.Author.Tests.{eqb-true}
use Rattle.numbers.proofs.Tests.{and_true}
use Rattle.settings.specs.declared.records.Colour.{Colour}
use Rattle.settings.specs.declared.records.Stage.{Stage}
use Rattle.settings.proofs.Bytes.{Bytes}
use Rattle.settings.proofs.Inverse.{same_colour}
use Rattle.combiner.specs.Modes.{combined}
use Rattle.combiner.specs.Operands.{black}
use Rattle.combiner.specs.Stage.{alpha_mixed, stage_of}
use Rattle.settings.specs.Colours.{colour_of}
use Rattle.combiner.specs.Words.{idle, colours, from_table}
use Rattle.combiner.proofs.Parts.{colours_at, colour_bytes}

module _ (s : Stage) (cs : List Colour) (h : Bytes (get_or cs 15 black)) where
  handed_on :
      s.source.rgb0 ≡ 15 → s.source.alpha0 ≡ 15 → s.operand.rgb0 ≡ 0 → s.operand.alpha0 ≡ 0
      → s.combiner.rgb ≡ 0 → s.combiner.alpha ≡ 0 → s.scale.rgb ≡ 0 → s.scale.alpha ≡ 0
      → from_table s cs ≡ get_or cs 15 black
  unfolding combined alpha_mixed stage_of
  handed_on e1 e2 e3 e4 e5 e6 e7 e8 =
      rw (e1, e2, e3, e4, e5, e6, e7, e8) (same_colour (omega arith) (omega arith) (omega arith) (omega arith))

  idle_result : idle s ≡ true → from_table s cs ≡ get_or cs 15 black
  idle_result e =
      let a = and_true _ _ e in
      let b = and_true _ _ a.0 in
      let d = and_true _ _ b.0 in
      let f = and_true _ _ d.0 in
      let g = and_true _ _ d.1 in
      let i = and_true _ _ b.1 in
      let j = and_true _ _ a.1 in
      handed_on
      (eqb-true _ _ f.0) (eqb-true _ _ f.1) (eqb-true _ _ g.0) (eqb-true _ _ g.1)
      (eqb-true _ _ i.0) (eqb-true _ _ i.1) (eqb-true _ _ j.0) (eqb-true _ _ j.1)

pub idle_word : (s : Stage) (ws : List ℕ) → idle s ≡ true → colour_of (get_or ws 15 0) ≡ from_table s (colours ws)
idle_word s ws e = sym (idle_result s (colours ws) (rw (colours_at ws 15) (colour_bytes _)) e ∙ colours_at ws 15)
