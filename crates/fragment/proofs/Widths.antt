-- The tests of a fragment at their widths, from what `stores` proves once over the width: 8 bits for alpha and stencil, 16 or 24 by the
-- depth format. Assumes nothing.
use mathlib.Core.Path.{◌≡◌, refl, ap, sym, ◌∙◌}
use mathlib.Core.Bool.{Bool, true, false, false≢true}
use Prim.Native.Nat.{ℕ, ◌-◌, ◌<◌, ◌≤◌, ◌^◌}
use native.Mathlib.Omega.{arith}
use lib.Bits.{bit_and}
use lib.Dec.{eqb, ltb}
use borrow.Author.Tests.{eqb-true, ltb-false}
use Rattle.numbers.specs.Pick.{pick}
use Rattle.settings.specs.declared.records.DepthColourMask.{DepthColourMask}
use Rattle.settings.specs.declared.records.Framebuffer.{Framebuffer}
use Rattle.settings.specs.declared.records.Settings.{Settings}
use Rattle.words.specs.declared.Reason.TheVariants.{DepthAboveLargest, NotBuilt}
use Rattle.words.specs.declared.Refusal.{Refusal}
use Rattle.registers.specs.State.{State}
use Rattle.decode.specs.Decoded.{settings_of, decoded_of, decodable, refusal_of}
use Rattle.std.specs.Prelude.{Ok, Err}
use Rattle.decode.proofs.Bitwise.{or_true}
use Rattle.decode.proofs.Cases.{decodable_held, else_refused}
use Rattle.combiner.specs.Chain.{combiner_of}
use Rattle.combiner.specs.declared.Given.{Given}
use Rattle.combiner.proofs.Results.{result_bytes}
use Rattle.stores.specs.Compare.{compared}
use Rattle.stores.specs.Tests.{alpha_passes, stencil_passes, depth_passes, in_order, verdict_number, verdict_of}
use Rattle.stores.specs.Stores.{judged_of}
use Rattle.stores.specs.declared.Stored.{Stored}
use Rattle.stores.specs.declared.Verdict.TheVariants.{AlphaFails, StencilFails, DepthFails, Passes}
use Rattle.stores.proofs.Comparisons.{AtWidth}
use Rattle.stores.proofs.Widths.{enabled_alpha, alpha_width, enabled_depth, depth_width, Opposed}
use Rattle.stores.proofs.Widths.{alpha_code, alpha_opposed, stencil_code, stencil_opposed, depth_code, depth_opposed}
use Rattle.fragment.specs.Drawn.{Drawn, outcome_of, unbuilt_id, largest, refusal, drawn_with, drawn_from, drawn_of}
use Rattle.fragment.specs.declared.Outcome.{Outcome}

-- THE WIDTH OF A DEPTH

-- the bits of a depth, by its format
abbrev pub depth_bits : ℕ → ℕ
depth_bits format = pick (eqb format 0) 16 24

by_format : (t : Bool) → pick t 65535 16777215 ≡ 2 ^ pick t 16 24 - 1
by_format true = refl
by_format false = refl

pub largest_bits : (format : ℕ) → largest format ≡ 2 ^ depth_bits format - 1
unfolding largest
largest_bits format = by_format (eqb format 0)

small_by : (t : Bool) (x : ℕ) → x ≤ pick t 65535 16777215 → x < 2 ^ pick t 16 24
small_by true x h = omega arith
small_by false x h = omega arith

within_bits : (format x : ℕ) → x ≤ largest format → x < 2 ^ depth_bits format
unfolding largest
within_bits format x h = small_by (eqb format 0) x h

-- A FRAGMENT THAT ISN'T REFUSED

outcome_in : Outcome → Drawn → Outcome
outcome_in other (Ok o) = o
outcome_in other (Err r) = other

not_refused : (o : Outcome) (r : Refusal) → Err r ≡ Ok o → ⊥
not_refused o r e = let z : ◌≡◌ {A = ℕ} 0 1 = cc in omega arith

by_done : (c a b : Bool) (top incoming stored n : ℕ) (o o' : Outcome) → eqb n 0 ≡ c → ltb top incoming ≡ a → ltb top stored ≡ b
    → pick c (pick a (refusal DepthAboveLargest 0) (pick b (refusal DepthAboveLargest 1) (Ok o'))) (refusal NotBuilt n) ≡ Ok o
    → (n ≡ 0) × (incoming ≤ top) × (stored ≤ top) × (o ≡ o')
unfolding outcome_in
by_done true true b top incoming stored n o o' r p q e = absurd (not_refused o _ e)
by_done true false true top incoming stored n o o' r p q e = absurd (not_refused o _ e)
by_done true false false top incoming stored n o o' r p q e =
    (eqb-true n 0 r, ltb-false top incoming p, ltb-false top stored q, sym (ap (outcome_in o) e))
by_done false a b top incoming stored n o o' r p q e = absurd (not_refused o _ e)

-- its state is decoded, and the answer goes by the settings
module _ (s : State) (g : Given) (incoming : ℕ) (stored : Stored) (o : Outcome) where
  by_decoded : (t : Bool) → decodable s ≡ t → drawn_of s g incoming stored ≡ Ok o
      → (decoded_of s ≡ Ok (settings_of s)) × (drawn_with (settings_of s) g incoming stored ≡ Ok o)
  unfolding drawn_from
  by_decoded true d e = let h = decodable_held s d in (h, rw h at e)
  by_decoded false d e = absurd (not_refused o (refusal_of s) (rw (else_refused s d) at e))

  pub drawn_decoded : drawn_of s g incoming stored ≡ Ok o
      → (decoded_of s ≡ Ok (settings_of s)) × (drawn_with (settings_of s) g incoming stored ≡ Ok o)
  drawn_decoded e = by_decoded (decodable s) refl e

-- by the depth test: where it passes there is no depth failure, where it fails no pass
no_failure : (alpha stencil depth : Bool) → depth ≡ true → in_order alpha stencil depth ≡ DepthFails → ⊥
no_failure true true true h e = let z = ap verdict_number e in omega arith
no_failure true true false h e = false≢true h
no_failure true false depth h e = let z = ap verdict_number e in omega arith
no_failure false stencil depth h e = let z = ap verdict_number e in omega arith

no_pass : (alpha stencil depth : Bool) → depth ≡ false → in_order alpha stencil depth ≡ Passes → ⊥
no_pass true true true h e = false≢true (sym h)
no_pass true true false h e = let z = ap verdict_number e in omega arith
no_pass true false depth h e = let z = ap verdict_number e in omega arith
no_pass false stencil depth h e = let z = ap verdict_number e in omega arith

module _ (s : Settings) (g : Given) (incoming : ℕ) (stored : Stored) where
  abbrev format : ℕ
  format = s.framebuffer.buffers.depth_format

  abbrev alpha_of : ℕ
  alpha_of = (combiner_of s.stages s.buffer_fog g).alpha

  abbrev test : DepthColourMask
  test = s.framebuffer.tests.depth

  -- it is built, and its depths are at most the format's largest
  pub drawn_tested : (o : Outcome) → drawn_with s g incoming stored ≡ Ok o
      → (unbuilt_id s ≡ 0) × (incoming ≤ largest s.framebuffer.buffers.depth_format)
      × (stored.depth ≤ largest s.framebuffer.buffers.depth_format) × (o ≡ outcome_of s g incoming stored)
  unfolding drawn_with
  drawn_tested o e =
      by_done _ _ _ (largest format) incoming stored.depth (unbuilt_id s) o (outcome_of s g incoming stored) refl refl refl e

  -- which are numbers of its width
  pub drawn_within : (o : Outcome) → drawn_with s g incoming stored ≡ Ok o
      → (incoming < 2 ^ depth_bits s.framebuffer.buffers.depth_format)
      × (stored.depth < 2 ^ depth_bits s.framebuffer.buffers.depth_format)
  drawn_within o e =
      let r = drawn_tested o e in (within_bits format incoming r.1, within_bits format stored.depth r.2)

  -- THE TESTS AT THEIR WIDTHS

  -- the alpha test on the combiner's result
  pub drawn_alpha : AtWidth 8
      (λ code reference. alpha_passes (enabled_alpha code reference) (combiner_of s.stages s.buffer_fog g).alpha)
  drawn_alpha =
      let b = result_bytes s.stages s.buffer_fog g in
      alpha_width alpha_of (omega (arith, b.alpha))

  -- the depth test of a fragment that isn't refused, at 16 bits or 24
  pub drawn_depth : (o : Outcome) → drawn_with s g incoming stored ≡ Ok o
      → AtWidth (depth_bits s.framebuffer.buffers.depth_format)
      (λ code depth. depth_passes (enabled_depth s.framebuffer.tests.depth code) incoming depth)
  drawn_depth o e = depth_width (depth_bits format) s.framebuffer.tests.depth incoming (drawn_within o e).0

  abbrev alpha_test : Bool
  alpha_test = alpha_passes s.framebuffer.tests.alpha alpha_of

  abbrev stencil_test : Bool
  stencil_test = stencil_passes s.framebuffer.tests.stencil format stored.stencil

  outcome_verdict : (outcome_of s g incoming stored).verdict
      ≡ verdict_of s.framebuffer alpha_of incoming stored.stencil stored.depth
  unfolding outcome_of judged_of
  outcome_verdict = refl

  passes_by : (code depth : ℕ) → test.function ≡ code → stored.depth ≡ depth → depth_passes (enabled_depth test code) incoming depth ≡ true
      → (outcome_of s g incoming stored).verdict ≡ DepthFails → ⊥
  unfolding verdict_of
  passes_by code depth p q h e =
      let d : depth_passes test incoming stored.depth ≡ true = rw (p, q, h) (or_true (eqb test.enable 0)) in
      no_failure alpha_test stencil_test (depth_passes test incoming stored.depth) d (sym outcome_verdict ∙ e)

  fails_by : (code depth : ℕ) → test.enable ≡ 1 → test.function ≡ code → stored.depth ≡ depth
      → depth_passes (enabled_depth test code) incoming depth ≡ false → (outcome_of s g incoming stored).verdict ≡ Passes → ⊥
  unfolding verdict_of
  fails_by code depth a p q h e =
      let d : depth_passes test incoming stored.depth ≡ false = rw (a, p, q, h) in
      no_pass alpha_test stencil_test (depth_passes test incoming stored.depth) d (sym outcome_verdict ∙ e)

  -- DEPTH AGAINST THE ENDS OF ITS WIDTH, as a cleared buffer holds them

  module _ (o : Outcome) (e : drawn_with s g incoming stored ≡ Ok o) where
    verdict_of_law : o.verdict ≡ (outcome_of s g incoming stored).verdict
    verdict_of_law = ap (λ (x : Outcome). x.verdict) (drawn_tested o e).3

    full : stored.depth ≡ largest format → stored.depth ≡ 2 ^ depth_bits format - 1
    full q = q ∙ largest_bits format

    pub at_most_over_largest : s.framebuffer.tests.depth.function ≡ 5
        → stored.depth ≡ largest s.framebuffer.buffers.depth_format → o.verdict ≡ DepthFails → ⊥
    at_most_over_largest p q v = passes_by 5 _ p (full q) (drawn_depth o e).at_most_largest (sym verdict_of_law ∙ v)

    pub at_least_over_zero : s.framebuffer.tests.depth.function ≡ 7 → stored.depth ≡ 0 → o.verdict ≡ DepthFails → ⊥
    at_least_over_zero p q v = passes_by 7 0 p q (drawn_depth o e).at_least_zero_law (sym verdict_of_law ∙ v)

    pub greater_over_largest : s.framebuffer.tests.depth.enable ≡ 1 → s.framebuffer.tests.depth.function ≡ 6
        → stored.depth ≡ largest s.framebuffer.buffers.depth_format → o.verdict ≡ Passes → ⊥
    greater_over_largest a p q v = fails_by 6 _ a p (full q) (drawn_depth o e).greater_than_largest (sym verdict_of_law ∙ v)

    pub less_over_zero : s.framebuffer.tests.depth.enable ≡ 1 → s.framebuffer.tests.depth.function ≡ 4
        → stored.depth ≡ 0 → o.verdict ≡ Passes → ⊥
    less_over_zero a p q v = fails_by 4 0 a p q (drawn_depth o e).less_than_zero (sym verdict_of_law ∙ v)

  -- OPPOSITE CODES, with the other two tests passing

  abbrev pub with_frame : Framebuffer → Settings
  with_frame f =
      record {
        rasteriser = s.rasteriser;
        stages = s.stages;
        buffer_fog = s.buffer_fog;
        framebuffer = f;
        light_port = s.light_port;
      }

  module _ (code : ℕ) (l : code < 8) where
    pub alpha_outcomes : stencil_passes s.framebuffer.tests.stencil s.framebuffer.buffers.depth_format stored.stencil ≡ true
        → depth_passes s.framebuffer.tests.depth incoming stored.depth ≡ true
        → Opposed (λ k. (outcome_of (with_frame (alpha_code k s.framebuffer)) g incoming stored).verdict) code
        (compared code (combiner_of s.stages s.buffer_fog g).alpha s.framebuffer.tests.alpha.reference) Passes AlphaFails
    unfolding outcome_of judged_of
    alpha_outcomes t d = alpha_opposed s.framebuffer alpha_of incoming stored.stencil stored.depth code l t d

    pub stencil_outcomes : s.framebuffer.buffers.depth_format ≡ 3
        → alpha_passes s.framebuffer.tests.alpha (combiner_of s.stages s.buffer_fog g).alpha ≡ true
        → depth_passes s.framebuffer.tests.depth incoming stored.depth ≡ true
        → Opposed (λ k. (outcome_of (with_frame (stencil_code k s.framebuffer)) g incoming stored).verdict) code
        (compared code (bit_and s.framebuffer.tests.stencil.reference s.framebuffer.tests.stencil.mask)
        (bit_and stored.stencil s.framebuffer.tests.stencil.mask))
        Passes StencilFails
    unfolding outcome_of judged_of
    stencil_outcomes f a d = stencil_opposed s.framebuffer alpha_of incoming stored.stencil stored.depth code l f a d

    pub depth_outcomes : alpha_passes s.framebuffer.tests.alpha (combiner_of s.stages s.buffer_fog g).alpha ≡ true
        → stencil_passes s.framebuffer.tests.stencil s.framebuffer.buffers.depth_format stored.stencil ≡ true
        → Opposed (λ k. (outcome_of (with_frame (depth_code k s.framebuffer)) g incoming stored).verdict) code
        (compared code incoming stored.depth) Passes DepthFails
    unfolding outcome_of judged_of
    depth_outcomes a t = depth_opposed s.framebuffer alpha_of incoming stored.stencil stored.depth code l a t
