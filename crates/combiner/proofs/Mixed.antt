-- A stage's result from its parts as the code makes them. Assumes nothing.
use mathlib.Core.Path.{◌≡◌, refl}
use mathlib.Core.Bool.{Bool, true, false}
use mathlib.Core.List.{List}
use Prim.Native.Nat.{ℕ, ◌/◌, ◌%◌, ◌^◌, ◌≤◌}
use lib.Dec.{eqb}
use native.Mathlib.Omega.{arith}
use lib.ListN.{get_or, set, get_or-eq_default}
use lib.Seq.{get_or-set_other, set-get_or}
use borrow.Author.Tests.{eqb-true}
use Rattle.numbers.specs.Pick.{pick}
use Rattle.settings.specs.Ranges.{bits}
use Rattle.settings.specs.declared.records.Stage.{Stage}
use Rattle.combiner.specs.Dot.{dot3_of}
use Rattle.combiner.specs.Modes.{added_multiplied, combined, scaled}
use Rattle.combiner.specs.Operands.{Sources, source_of, rgb_operand, alpha_operand}
use Rattle.combiner.specs.Stage.{joined, alpha_mixed, stage_of}
use Rattle.combiner.specs.Chain.{buffer_after}
use Rattle.settings.specs.Colours.{colour_of}
use Rattle.combiner.specs.Words.{rgb_in, each2, each3, Each2, Each3, rgb_combined, rgb_scaled, own_alpha, alpha_from, colours, from_table, table_after}
use Rattle.combiner.specs.declared.dot.Rgb.{Rgb}
use Rattle.combiner.proofs.Parts.{same_rgb, source_at, colours_at, colours_set}

pub same_joined : {x y : Rgb} {a b : ℕ} → x ≡ y → a ≡ b → joined x a ≡ joined y b
same_joined p q = rw (p, q)

-- a mode whose calls return what f says, on three channels
pub by_two : (f : ℕ → ℕ → ℕ) {a b r : Rgb} → Each2 (λ x y z. z ≡ f x y) a b r → r ≡ each2 f a b
by_two f h = same_rgb h.0 h.1 h.2

pub by_three : (f : ℕ → ℕ → ℕ → ℕ) {a b c c' r : Rgb} → Each3 (λ x y z w. w ≡ f x y z) a b c r → c ≡ c' → r ≡ each3 f a b c'
by_three f h e = rw e at (same_rgb h.0 h.1 h.2)

-- the last mode, and codes past it
pub last_mode : (mode : ℕ) (a b c : Rgb) (dot : ℕ) → 9 ≤ mode → each3 added_multiplied a b c ≡ rgb_combined mode a b c dot
unfolding combined
last_mode mode a b c dot h = rw (get_or-eq_default, get_or-eq_default, get_or-eq_default)

-- an RGB operand from a word of the table
pub operand_at : (ws : List ℕ) (x code : ℕ) (a : Rgb)
    → a ≡ rgb_operand code (colour_of (get_or ws (x % 16) 0)) → a ≡ rgb_operand code (source_of (colours ws) (x % 16))
operand_at ws x code a e = rw (source_at ws x) e

-- alpha by its own mode, from the words of the table
pub own_at : (ws : List ℕ) (source operand mode dot : ℕ)
    → combined mode
    (alpha_operand (bits operand 12 14) (colour_of (get_or ws (source / 2 ^ 16 % 16) 0)))
    (alpha_operand (bits operand 16 18) (colour_of (get_or ws (source / 2 ^ 20 % 16) 0)))
    (alpha_operand (bits operand 20 22) (colour_of (get_or ws (source / 2 ^ 24 % 16) 0)))
    dot
    ≡ alpha_from ws source operand mode dot
own_at ws source operand mode dot =
    rw (source_at ws (source / 2 ^ 16), source_at ws (source / 2 ^ 20), source_at ws (source / 2 ^ 24))

-- in Dot3 RGBA the red of the result is the dot3
red_dot : (mode a b c dot own : ℕ) (t : Bool) → eqb mode 7 ≡ t → pick t (combined mode a b c dot) own ≡ pick t dot own
unfolding combined
red_dot mode a b c dot own true e = rw (eqb-true mode 7 e)
red_dot mode a b c dot own false e = refl

pub stage_parts : (s : Stage) (from : Sources) (a b c m : Rgb) (alpha : ℕ)
    → a ≡ rgb_operand s.operand.rgb0 from.rgb0
    → b ≡ rgb_operand s.operand.rgb1 from.rgb1
    → c ≡ rgb_operand s.operand.rgb2 from.rgb2
    → m ≡ rgb_combined s.combiner.rgb a b c (dot3_of a b)
    → alpha ≡ pick (eqb s.combiner.rgb 7) m.red (own_alpha s.combiner.alpha s.operand from (dot3_of a b))
    → joined (rgb_scaled s.scale.rgb m) (scaled s.scale.alpha alpha) ≡ stage_of s from
unfolding alpha_mixed stage_of
stage_parts s from a b c m alpha ea eb ec em el =
    let own = own_alpha s.combiner.alpha s.operand from (dot3_of a b) in
    rw (el, em, red_dot s.combiner.rgb a.red b.red c.red (dot3_of a b) own _ refl, ea, eb, ec)

-- the table after a stage, from what the code stores
pub step_table : (ws : List ℕ) (s : Stage) (k rgb alpha buffer result : ℕ)
    → colour_of k ≡ s.colour
    → colour_of buffer ≡ buffer_after rgb alpha (record { previous = colour_of (get_or ws 15 0); buffer = colour_of (get_or ws 13 0) })
    → colour_of result ≡ from_table s (colours (set ws 14 k))
    → colours (set (set (set ws 14 k) 13 buffer) 15 result) ≡ table_after s rgb alpha (colours ws)
unfolding table_after
step_table ws s k rgb alpha buffer result ek eb er =
    rw (
      colours_set (set (set ws 14 k) 13 buffer) 15 result,
      colours_set (set ws 14 k) 13 buffer,
      er,
      eb,
      colours_set ws 14 k,
      ek,
      colours_at ws 15,
      colours_at ws 13,
    )

same_buffer : (ws : List ℕ) (k : ℕ) → set (set ws 14 k) 13 (get_or ws 13 0) ≡ set ws 14 k
same_buffer ws k = rw (get_or-set_other ws 14 13 k 0 (λ e. omega arith)) at (set-get_or (set ws 14 k) 13 0)

-- the same after a stage that has no bit of E0: the buffer stays
pub step_table_0 : (ws : List ℕ) (s : Stage) (k result : ℕ) → colour_of k ≡ s.colour → colour_of result ≡ from_table s
    (colours (set ws 14 k))
    → colours (set (set ws 14 k) 15 result) ≡ table_after s 0 0 (colours ws)
unfolding colour_of
step_table_0 ws s k result ek er = rw (same_buffer ws k) at (step_table ws s k 0 0 (get_or ws 13 0) result ek refl er)

picked : (s t : Bool) (previous buffer : ℕ)
    → joined (rgb_in (pick s previous buffer)) (colour_of (pick t previous buffer)).alpha
    ≡ record {
      red = pick s (colour_of previous).red (colour_of buffer).red;
      green = pick s (colour_of previous).green (colour_of buffer).green;
      blue = pick s (colour_of previous).blue (colour_of buffer).blue;
      alpha = pick t (colour_of previous).alpha (colour_of buffer).alpha;
    }
unfolding colour_of
picked true true previous buffer = refl
picked true false previous buffer = refl
picked false true previous buffer = refl
picked false false previous buffer = refl

pub picked_buffer : (rgb alpha previous buffer : ℕ)
    → joined (rgb_in (pick (eqb rgb 1) previous buffer)) (colour_of (pick (eqb alpha 1) previous buffer)).alpha
    ≡ buffer_after rgb alpha (record { previous = colour_of previous; buffer = colour_of buffer })
picked_buffer rgb alpha previous buffer = picked (eqb rgb 1) (eqb alpha 1) previous buffer
