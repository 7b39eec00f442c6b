-- What a fragment doesn't read. Assumes nothing.
use mathlib.Core.Path.{◌≡◌, refl, ap, sym, ◌∙◌}
use mathlib.Core.Bool.{Bool, true, false}
use mathlib.Core.List.{List, [], ◌∷◌, map}
use Prim.Native.Nat.{ℕ, zero, suc}
use lib.Bits.{bit_and}
use lib.Dec.{eqb}
use lib.ListN.{get_or, set}
use lib.Seq.{get_or-set_other}
use borrow.Author.Tests.{eqb-true, eqb-false}
use Rattle.numbers.specs.Pick.{pick}
use Rattle.words.specs.declared.Reason.TheVariants.{BufferLength, CodeWithoutName}
use Rattle.registers.specs.State.{State, sized}
use Rattle.registers.specs.Held.{bits_of}
use Rattle.settings.specs.Ranges.{bits, in_cells}
use Rattle.settings.specs.Fields.{Field, field_table, raw_in}
use Rattle.settings.specs.Settings.{settings_in}
use Rattle.settings.proofs.Table.{table_decides}
use Rattle.settings.proofs.HeldBits.{same_settings}
use Rattle.settings.specs.declared.records.Colour.{Colour}
use Rattle.settings.specs.declared.records.DepthAllowed.{DepthAllowed}
use Rattle.settings.specs.declared.records.Framebuffer.{Framebuffer}
use Rattle.settings.specs.declared.records.Settings.{Settings}
use Rattle.decode.specs.Codes.{stage_checks, frame_checks, checks, lowest}
use Rattle.decode.specs.Decoded.{settings_of, nameless_id, refusal, decoded_of}
use Rattle.decode.proofs.HeldOnly.{decoded_held_only}
use Rattle.combiner.specs.Chain.{combiner_of}
use Rattle.combiner.specs.declared.Given.{Given}
use Rattle.stores.specs.Tests.{verdict_of}
use Rattle.stores.specs.Stores.{stencil_after, depth_after, colour_after, judged_of}
use Rattle.stores.specs.declared.Verdict.{Verdict}
use Rattle.stores.specs.declared.Verdict.TheVariants.{AlphaFails, StencilFails, DepthFails, Passes}
use Rattle.fragment.specs.Drawn.{outcome_of, unbuilt_id, drawn_with, drawn_from, drawn_of}
use Rattle.stores.specs.declared.Stored.{Stored}
use Rattle.std.specs.Prelude.{Result, Ok}
use Rattle.words.specs.declared.Refusal.{Refusal}

-- what isn't held: two states that agree on the held bits, and are both of the right lengths or both not, draw alike
pub drawn_held_only : (s s' : State) → sized s ≡ sized s'
    → ((i : ℕ) → bit_and (get_or s.cells i 0) (bits_of i) ≡ bit_and (get_or s'.cells i 0) (bits_of i))
    → (g : Given) (incoming : ℕ) (stored : Stored) → drawn_of s g incoming stored ≡ drawn_of s' g incoming stored
drawn_held_only s s' e agree g incoming stored =
    ap (λ (d : Result Settings Refusal). drawn_from d g incoming stored) (decoded_held_only s s' e agree)

-- DECODED FIELDS: what becomes of a fragment is the same whatever those of 112 and 114 are
module _ (colour : ℕ) (depth : DepthAllowed) where
  abbrev other_frame : Framebuffer → Framebuffer
  other_frame f =
      let b = f.buffers in
      record {
        blending = f.blending;
        tests = f.tests;
        buffers = record {
          colour_reading = colour;
          colour_writing = b.colour_writing;
          depth_reading = depth;
          depth_writing = b.depth_writing;
          depth_format = b.depth_format;
          colour_format = b.colour_format;
        };
      }

  abbrev other : Settings → Settings
  other s =
      record {
        rasteriser = s.rasteriser;
        stages = s.stages;
        buffer_fog = s.buffer_fog;
        framebuffer = other_frame s.framebuffer;
        light_port = s.light_port;
      }

  same_stencil : (f : Framebuffer) (v : Verdict) (stencil : ℕ) → stencil_after (other_frame f) v stencil ≡ stencil_after f v stencil
  unfolding stencil_after
  same_stencil f AlphaFails stencil = refl
  same_stencil f StencilFails stencil = refl
  same_stencil f DepthFails stencil = refl
  same_stencil f Passes stencil = refl

  same_depth : (f : Framebuffer) (v : Verdict) (incoming stored : ℕ)
      → depth_after (other_frame f) v incoming stored ≡ depth_after f v incoming stored
  unfolding depth_after
  same_depth f AlphaFails incoming stored = refl
  same_depth f StencilFails incoming stored = refl
  same_depth f DepthFails incoming stored = refl
  same_depth f Passes incoming stored = refl

  same_colour : (f : Framebuffer) (v : Verdict) (result stored : Colour)
      → colour_after (other_frame f) v result stored ≡ colour_after f v result stored
  unfolding colour_after
  same_colour f AlphaFails result stored = refl
  same_colour f StencilFails result stored = refl
  same_colour f DepthFails result stored = refl
  same_colour f Passes result stored = refl

  same_verdict : (f : Framebuffer) (alpha incoming stencil stored : ℕ)
      → verdict_of (other_frame f) alpha incoming stencil stored ≡ verdict_of f alpha incoming stencil stored
  unfolding verdict_of
  same_verdict f alpha incoming stencil stored = refl

  same_outcome : (s : Settings) (g : Given) (incoming : ℕ) (stored : Stored)
      → outcome_of (other s) g incoming stored ≡ outcome_of s g incoming stored
  unfolding outcome_of judged_of
  same_outcome s g incoming stored =
      let f = s.framebuffer in
      let alpha = (combiner_of s.stages s.buffer_fog g).alpha in
      let v = verdict_of f alpha incoming stored.stencil stored.depth in
      rw (
        same_verdict f alpha incoming stored.stencil stored.depth,
        same_stencil f v stored.stencil,
        same_depth f v incoming stored.depth,
        same_colour f v (combiner_of s.stages s.buffer_fog g) stored.colour,
      )

  -- over the decoded fields
  settings_unread : (s : Settings) (g : Given) (incoming : ℕ) (stored : Stored)
      → drawn_with (other s) g incoming stored ≡ drawn_with s g incoming stored
  unfolding drawn_with unbuilt_id
  settings_unread s g incoming stored = rw (same_outcome s g incoming stored)

  -- no code of theirs lacks a name: they are never why a state is refused
  checks_unread : (s : Settings) → checks (other s) ≡ checks s
  unfolding checks stage_checks frame_checks
  checks_unread s = refl

-- CELLS WITHOUT 112 AND 114

abbrev without : List ℕ → List ℕ
without cells = set (set cells 0x112 0) 0x114 0

abbrev zeros : DepthAllowed
zeros = record { stencil = 0; depth = 0 }

zeroed : (l : List ℕ) (i : ℕ) → get_or (set l i 0) i 0 ≡ 0
zeroed [] i = refl
zeroed (x ∷ xs) zero = refl
zeroed (x ∷ xs) (suc i) = zeroed xs i

-- what stands there
abbrev standing : List ℕ → ℕ → ℕ
standing cells i = pick (eqb i 0x114) 0 (pick (eqb i 0x112) 0 (get_or cells i 0))

by_ids : (cells : List ℕ) (i : ℕ) (t u : Bool) → eqb i 0x114 ≡ t → eqb i 0x112 ≡ u
    → get_or (without cells) i 0 ≡ pick t 0 (pick u 0 (get_or cells i 0))
by_ids cells i true u p q = rw (eqb-true i 0x114 p) (zeroed (set cells 0x112 0) 0x114)
by_ids cells i false true p q =
    get_or-set_other (set cells 0x112 0) 0x114 i 0 0 (eqb-false i 0x114 p) ∙ rw (eqb-true i 0x112 q) (zeroed cells 0x112)
by_ids cells i false false p q =
    get_or-set_other (set cells 0x112 0) 0x114 i 0 0 (eqb-false i 0x114 p) ∙ get_or-set_other cells 0x112 i 0 0 (eqb-false i 0x112 q)

stands : (cells : List ℕ) (i : ℕ) → get_or (without cells) i 0 ≡ standing cells i
stands cells i = by_ids cells i (eqb i 0x114) (eqb i 0x112) refl refl

-- the fields without them
same_raws : (cells : List ℕ) (fs : List Field)
    → map (raw_in (in_cells (without cells))) fs ≡ map (raw_in (λ i. bits (standing cells i))) fs
same_raws cells [] = refl
same_raws cells (f ∷ fs) = rw (stands cells f.id, same_raws cells fs)

by_standing : (cells : List ℕ) → settings_in (λ i. bits (standing cells i)) ≡ other 0 zeros (settings_in (in_cells cells))
unfolding settings_in
by_standing cells = refl

without_them : (cells : List ℕ) → settings_in (in_cells (without cells)) ≡ other 0 zeros (settings_in (in_cells cells))
without_them cells =
    table_decides (in_cells (without cells)) (λ i. bits (standing cells i)) (same_raws cells field_table) ∙ by_standing cells

-- "112 AND 114 AREN'T READ"

-- agreement beside them
abbrev pub AgreeBeside : List ℕ → List ℕ → Type 0
AgreeBeside cells cells' =
    (i : ℕ) → (i ≡ 0x112 → ⊥) → (i ≡ 0x114 → ⊥) → bit_and (get_or cells i 0) (bits_of i) ≡ bit_and (get_or cells' i 0) (bits_of i)

agree_by : (cells cells' : List ℕ) → AgreeBeside cells cells' → (i : ℕ) (t u : Bool) → eqb i 0x114 ≡ t → eqb i 0x112 ≡ u
    → bit_and (pick t 0 (pick u 0 (get_or cells i 0))) (bits_of i) ≡ bit_and (pick t 0 (pick u 0 (get_or cells' i 0))) (bits_of i)
agree_by cells cells' agree i true u p q = refl
agree_by cells cells' agree i false true p q = refl
agree_by cells cells' agree i false false p q = agree i (eqb-false i 0x112 q) (eqb-false i 0x114 p)

same_without : (cells cells' : List ℕ) → AgreeBeside cells cells'
    → other 0 zeros (settings_in (in_cells cells)) ≡ other 0 zeros (settings_in (in_cells cells'))
same_without cells cells' agree =
    sym (without_them cells)
    ∙ same_settings (without cells) (without cells')
    (λ i. rw (stands cells i, stands cells' i) (agree_by cells cells' agree i (eqb i 0x114) (eqb i 0x112) refl refl))
    ∙ without_them cells'

module _ (s s' : State) (agree : AgreeBeside s.cells s'.cells) (g : Given) (incoming : ℕ) (stored : Stored) where
  same_checks : checks (settings_of s) ≡ checks (settings_of s')
  same_checks =
      sym (checks_unread 0 zeros (settings_of s))
      ∙ ap checks (same_without s.cells s'.cells agree)
      ∙ checks_unread 0 zeros (settings_of s')

  same_drawn : drawn_with (settings_of s) g incoming stored ≡ drawn_with (settings_of s') g incoming stored
  same_drawn =
      sym (settings_unread 0 zeros (settings_of s) g incoming stored)
      ∙ ap (λ (x : Settings). drawn_with x g incoming stored) (same_without s.cells s'.cells agree)
      ∙ settings_unread 0 zeros (settings_of s') g incoming stored

  by_tests : (b c : Bool) (n : ℕ)
      → drawn_from (pick b (pick c (Ok (settings_of s)) (refusal CodeWithoutName n)) (refusal BufferLength 0)) g incoming stored
      ≡ drawn_from (pick b (pick c (Ok (settings_of s')) (refusal CodeWithoutName n)) (refusal BufferLength 0)) g incoming stored
  unfolding drawn_from
  by_tests true true n = same_drawn
  by_tests true false n = refl
  by_tests false c n = refl

  -- two states that agree on the held bits of every other register, and are both of the right lengths or both not, draw alike
  pub reading_unread : sized s ≡ sized s' → drawn_of s g incoming stored ≡ drawn_of s' g incoming stored
  unfolding decoded_of
  reading_unread e =
      by_tests (sized s) (eqb (nameless_id s) 0) (nameless_id s) ∙ rw (e, ap lowest same_checks)
