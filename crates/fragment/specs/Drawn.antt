-- What `draw` answers: the verdict with what is then stored, or a refusal: 6, 13, 14, 12.
use Rattle.std.specs.Prelude.{Bool, false, not, ◌&&◌, ◌||◌, List, [], ◌∷◌, ℕ, eqb, ltb, Result, Ok, Err}
use Rattle.numbers.specs.Pick.{pick}
use Rattle.registers.specs.State.{State}
use Rattle.decode.specs.Decoded.{Decoded, decoded_of}
use Rattle.settings.specs.declared.records.Colour.{Colour}
use Rattle.settings.specs.declared.records.UpdateBuffer.{UpdateBuffer}
use Rattle.settings.specs.declared.records.ColourOperation.{ColourOperation}
use Rattle.settings.specs.declared.records.ColourFormat.{ColourFormat}
use Rattle.settings.specs.declared.records.Framebuffer.{Framebuffer}
use Rattle.settings.specs.declared.records.Settings.{Settings}
use Rattle.combiner.specs.declared.Given.{Given}
use Rattle.combiner.specs.Chain.{combiner_of}
use Rattle.stores.specs.Tests.{verdict_number}
use Rattle.stores.specs.Stores.{judged_of, colour_after}
use Rattle.stores.specs.declared.Stored.{Stored}
use Rattle.stores.specs.declared.Judged.{Judged}
use Rattle.fragment.specs.declared.Outcome.{Outcome}
use Rattle.words.specs.Reasons.{number_of as reason_number}
use Rattle.words.specs.declared.Reason.{Reason}
use Rattle.words.specs.declared.Reason.TheVariants.{DepthAboveLargest, NotBuilt}
use Rattle.words.specs.declared.Refusal.{Refusal}

-- the verdict and what is then stored, or the refusal
abbrev pub Drawn : Type 0
Drawn = Result Outcome Refusal

-- THE PARTS

abbrev pub stored_after : Framebuffer → Colour → Stored → Judged → Outcome
stored_after f result stored j =
    record {
      verdict = j.verdict;
      stored = record { colour = colour_after f j.verdict result stored.colour; stencil = j.stencil; depth = j.depth };
    }

-- what becomes of a fragment whose combiner result is given
abbrev pub outcome_with : Framebuffer → ℕ → Stored → Colour → Outcome
outcome_with f incoming stored result =
    stored_after f result stored (judged_of f result.alpha incoming stored.stencil stored.depth)

unfoldable pub outcome_of : Settings → Given → ℕ → Stored → Outcome
outcome_of s g incoming stored = outcome_with s.framebuffer incoming stored (combiner_of s.stages s.buffer_fog g)

-- THE REFUSALS

-- not built: 100 mode not 0, bit 8, 24 or 25 set
abbrev pub operation_unbuilt : ColourOperation → Bool
operation_unbuilt o = not (eqb o.mode 0) || eqb o.blend 1 || eqb o.second_lines 1 || eqb o.nothing 1

-- 117 not size 2 with format 0
abbrev pub format_unbuilt : ColourFormat → Bool
format_unbuilt f = not (eqb f.size 2 && eqb f.format 0)

-- E0 fog mode not 0
abbrev pub fog_unbuilt : UpdateBuffer → Bool
fog_unbuilt u = not (eqb u.fog_mode 0)

-- the register i asks for what is not built
unfoldable pub unbuilt_at : Settings → ℕ → Bool
unbuilt_at s i =
    pick (eqb i 0xE0) (fog_unbuilt s.buffer_fog.update)
    (pick (eqb i 0x100) (operation_unbuilt s.framebuffer.blending.operation)
    (pick (eqb i 0x117) (format_unbuilt s.framebuffer.buffers.colour_format) false))

-- the lowest id that does, 0 for none
unfoldable pub unbuilt_id : Settings → ℕ
unbuilt_id s =
    pick (fog_unbuilt s.buffer_fog.update) 0xE0
    (pick (operation_unbuilt s.framebuffer.blending.operation) 0x100
    (pick (format_unbuilt s.framebuffer.buffers.colour_format) 0x117 0))

-- 65,535 for depth format 0, else 16,777,215
unfoldable pub largest : ℕ → ℕ
largest format = pick (eqb format 0) 65535 16777215

-- 14 at a register's id, and 12 at a depth's place
abbrev pub not_built : ℕ → Refusal
not_built i = record { reason = NotBuilt; place = i }

abbrev pub too_deep : ℕ → Refusal
too_deep p = record { reason = DepthAboveLargest; place = p }

abbrev pub refusal : Reason → ℕ → Drawn
refusal r p = Err (record { reason = r; place = p })

-- THE ANSWER

unfoldable pub drawn_with : Settings → Given → ℕ → Stored → Drawn
drawn_with s g incoming stored =
    let top = largest s.framebuffer.buffers.depth_format in
    pick (eqb (unbuilt_id s) 0)
    (pick (ltb top incoming) (refusal DepthAboveLargest 0)
    (pick (ltb top stored.depth) (refusal DepthAboveLargest 1) (Ok (outcome_of s g incoming stored))))
    (refusal NotBuilt (unbuilt_id s))

unfoldable pub drawn_from : Decoded → Given → ℕ → Stored → Drawn
drawn_from (Err r) g incoming stored = Err r
drawn_from (Ok s) g incoming stored = drawn_with s g incoming stored

-- of a state, the given colours, the incoming depth, and what is stored
abbrev pub drawn_of : State → Given → ℕ → Stored → Drawn
drawn_of s g incoming stored = drawn_from (decoded_of s) g incoming stored

-- THE NUMBERS TOLD

-- the number and values for each case: 0, the verdict's number (the C paper's), and the colour, stencil and depth that are then stored; a
-- refusal's number and its place
abbrev pub number_of : Drawn → ℕ
number_of (Ok o) = 0
number_of (Err r) = reason_number r.reason

abbrev pub colour_values : Colour → List ℕ → List ℕ
colour_values c rest = c.red ∷ c.green ∷ c.blue ∷ c.alpha ∷ rest

abbrev pub values_of : Drawn → List ℕ
values_of (Ok o) = verdict_number o.verdict ∷ colour_values o.stored.colour (o.stored.stencil ∷ o.stored.depth ∷ [])
values_of (Err r) = r.place ∷ []

-- both as one list, the number first
abbrev pub told : Drawn → List ℕ
told d = number_of d ∷ values_of d
