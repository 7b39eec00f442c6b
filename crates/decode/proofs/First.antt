-- The first id of lists of checks, one after the other. Assumes nothing.
use mathlib.Core.Path.{◌≡◌, refl, sym}
use mathlib.Core.Bool.{Bool, true, false, ◌||◌, false≢true}
use mathlib.Core.List.{List, [], ◌∷◌, ◌++◌}
use Prim.Native.Nat.{ℕ}
use Rattle.numbers.specs.Pick.{pick}
use Rattle.decode.specs.Codes.{source_lacks, operand_lacks, combiner_lacks, scale_lacks, update_lacks}
use Rattle.decode.specs.Codes.{Check, stage_checks, frame_checks, checks, first_of, lowest, any_of, any_lacks}
use Rattle.settings.specs.declared.records.Stage.{Stage}
use Rattle.settings.specs.declared.records.Settings.{Settings}
use Rattle.decode.proofs.Bitwise.{or_true, or_assoc}

pub first_append : (xs ys : List Check) (rest : ℕ) → first_of (xs ++ ys) rest ≡ first_of xs (first_of ys rest)
unfolding first_of
first_append [] ys rest = refl
first_append (c ∷ cs) ys rest = rw (first_append cs ys rest)

first_one : (c : Check) (rest : ℕ) → first_of (c ∷ []) rest ≡ pick c.lacks c.id rest
unfolding first_of
first_one c rest = refl

-- the lowest id, group by group
pub lowest_checks : (s : Settings)
    → lowest (checks s)
    ≡ first_of (stage_checks 0xC0 s.stages.stage0)
    (first_of (stage_checks 0xC8 s.stages.stage1)
    (first_of (stage_checks 0xD0 s.stages.stage2)
    (first_of (stage_checks 0xD8 s.stages.stage3)
    (pick (update_lacks s.buffer_fog.update) 0xE0
    (first_of (stage_checks 0xF0 s.stages.stage4)
    (first_of (stage_checks 0xF8 s.stages.stage5) (first_of (frame_checks s.framebuffer) 0)))))))
unfolding checks
lowest_checks s = simp (first_append, first_one)

-- THE QUICK TEST

any_append : (xs ys : List Check) (rest : Bool) → any_of (xs ++ ys) rest ≡ any_of xs (any_of ys rest)
unfolding any_of
any_append [] ys rest = refl
any_append (c ∷ cs) ys rest = rw (any_append cs ys rest)

any_one : (c : Check) (rest : Bool) → any_of (c ∷ []) rest ≡ (c.lacks || rest)
unfolding any_of
any_one c rest = refl

-- group by group
pub any_checks : (s : Settings)
    → any_lacks (checks s)
    ≡ any_of (stage_checks 0xC0 s.stages.stage0)
    (any_of (stage_checks 0xC8 s.stages.stage1)
    (any_of (stage_checks 0xD0 s.stages.stage2)
    (any_of (stage_checks 0xD8 s.stages.stage3)
    (update_lacks s.buffer_fog.update ||
    (any_of (stage_checks 0xF0 s.stages.stage4)
    (any_of (stage_checks 0xF8 s.stages.stage5) (any_of (frame_checks s.framebuffer) false)))))))
unfolding checks
any_checks s = simp (any_append, any_one)

-- the tests of two stages, register by register
swapped : (a b c d : Bool) → ((a || b) || (c || d)) ≡ ((a || c) || (b || d))
swapped true b c d = refl
swapped false true c d = sym (or_true c)
swapped false false c d = refl

by_registers : (a b c d a' b' c' d' rest : Bool)
    → ((a || a') || ((b || b') || ((c || c') || ((d || d') || rest))))
    ≡ (a || (b || (c || (d || (a' || (b' || (c' || (d' || rest))))))))
by_registers a b c d a' b' c' d' rest =
    rw (
      or_assoc d d' rest,
      swapped c c' d (d' || rest),
      swapped b b' (c || d) (c' || (d' || rest)),
      swapped a a' (b || (c || d)) (b' || (c' || (d' || rest))),
    )
    (simp or_assoc)

pub any_two : (i j : ℕ) (s t : Stage) (rest : Bool)
    → any_of (stage_checks i s) (any_of (stage_checks j t) rest)
    ≡ ((source_lacks s.source || source_lacks t.source)
    || ((operand_lacks s.operand || operand_lacks t.operand)
    || ((combiner_lacks s.combiner || combiner_lacks t.combiner) || ((scale_lacks s.scale || scale_lacks t.scale) || rest))))
unfolding stage_checks any_of
any_two i j s t rest =
    sym
    (by_registers
    (source_lacks s.source) (operand_lacks s.operand) (combiner_lacks s.combiner) (scale_lacks s.scale)
    (source_lacks t.source) (operand_lacks t.operand) (combiner_lacks t.combiner) (scale_lacks t.scale) rest)

-- where none lacks a name there is no first
none_or : (a b : Bool) → (a || b) ≡ false → (a ≡ false) × (b ≡ false)
none_or true b e = absurd (false≢true (sym e))
none_or false b e = (refl, e)

pub none_first : (cs : List Check) (rest : ℕ) → any_lacks cs ≡ false → first_of cs rest ≡ rest
unfolding first_of any_of
none_first [] rest e = refl
none_first (c ∷ cs) rest e = let u = none_or c.lacks (any_of cs false) e in rw u.0 (none_first cs rest u.1)
