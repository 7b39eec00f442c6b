-- The combiner's results are bytes, whatever the settings and the given colours. Assumes nothing.
use Prim.Native.Nat.{ℕ, ◌≤◌}
use native.Mathlib.Omega.{arith}
use Rattle.settings.specs.declared.records.Stage.{Stage}
use Rattle.settings.specs.declared.records.Stages.{Stages}
use Rattle.settings.specs.declared.records.BufferFog.{BufferFog}
use Rattle.settings.proofs.Bytes.{Bytes}
use Rattle.combiner.specs.Operands.{Sources}
use Rattle.combiner.specs.Stage.{alpha_mixed, stage_of}
use Rattle.combiner.specs.Chain.{result_of, combiner_of}
use Rattle.combiner.specs.declared.Given.{Given}

alpha_byte : (s : Stage) (from : Sources) (dot : ℕ) → alpha_mixed s from dot ≤ 255
unfolding alpha_mixed
alpha_byte s from dot = omega arith

stage_bytes : (s : Stage) (from : Sources) → Bytes (stage_of s from)
unfolding stage_of
stage_bytes s from = record { red = omega arith; green = omega arith; blue = omega arith; alpha = alpha_byte s from _ }

pub result_bytes : (stages : Stages) (b : BufferFog) (g : Given) → Bytes (combiner_of stages b g)
unfolding result_of combiner_of
result_bytes stages b g = stage_bytes _ _
