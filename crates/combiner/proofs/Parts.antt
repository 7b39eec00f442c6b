-- Colours as words: what a word's parts are, and the table of words. Assumes nothing.
use mathlib.Core.Path.{◌≡◌, refl}
use mathlib.Core.List.{List, [], ◌∷◌}
use Prim.Native.Nat.{ℕ, zero, suc, ◌+◌, ◌*◌, ◌/◌, ◌%◌, ◌^◌, ◌<◌, ◌≤◌}
use native.Mathlib.Omega.{arith}
use lib.Dec.{eqb}
use lib.ListN.{get_or, set, get_or-map}
use Rattle.numbers.specs.Pick.{pick}
use Rattle.settings.proofs.Bytes.{Bytes}
use Rattle.settings.proofs.Inverse.{same_colour}
use Rattle.combiner.specs.Operands.{black, source_of, rgb_part, alpha_part}
use Rattle.combiner.specs.Stage.{joined}
use Rattle.settings.specs.Colours.{colour_of}
use Rattle.combiner.specs.Words.{rgb, rgb_in, colours}

pub same_rgb : {r g b r' g' b' : ℕ} → r ≡ r' → g ≡ g' → b ≡ b' → rgb r g b ≡ rgb r' g' b'
same_rgb p q s = cc

-- WORDS

pub joined_back : (low high : ℕ) → low < 0x1000000 → high ≤ 255 → colour_of (low + high * 0x1000000) ≡ joined (rgb_in low) high
unfolding colour_of
joined_back low high h k = same_colour (omega arith) (omega arith) (omega arith) (omega arith)

pub joined_alpha : (low high : ℕ) → high < 0x100000000
    → colour_of (low % 0x1000000 + high / 0x1000000 * 0x1000000) ≡ joined (rgb_in low) (colour_of high).alpha
unfolding colour_of
joined_alpha low high k = same_colour (omega arith) (omega arith) (omega arith) (omega arith)

pub colour_bytes : (x : ℕ) → Bytes (colour_of x)
unfolding colour_of
colour_bytes x = record { red = omega arith; green = omega arith; blue = omega arith; alpha = omega arith }

-- a byte of a word by a shift
by_shift : (half x : ℕ) → half < 4
    → x / 2 ^ ((half * 8 + 24) % 32) % 256
    ≡ get_or ((colour_of x).alpha ∷ (colour_of x).red ∷ (colour_of x).green ∷ (colour_of x).blue ∷ []) half 0
unfolding colour_of
by_shift zero x h = refl
by_shift (suc zero) x h = omega arith
by_shift (suc (suc zero)) x h = refl
by_shift (suc (suc (suc zero))) x h = refl
by_shift (suc (suc (suc (suc n)))) x h = absurd (omega arith)

-- the first bits of the parts that RGB operands name, eight bits for each half code
byte_by_shift : (half x : ℕ) → half < 8 → x < 0x100000000
    → x / 2 ^ (0x2010200820001820 / 2 ^ (half * 8) % 64) % 256
    ≡ pick (eqb half 0) 0
    (get_or (0 ∷ (colour_of x).alpha ∷ (colour_of x).red ∷ 0 ∷ (colour_of x).green ∷ 0 ∷ (colour_of x).blue ∷ 0 ∷ []) half 0)
unfolding colour_of
byte_by_shift zero x h k = omega arith
byte_by_shift (suc zero) x h k = refl
byte_by_shift (suc (suc zero)) x h k = omega arith
byte_by_shift (suc (suc (suc zero))) x h k = omega arith
byte_by_shift (suc (suc (suc (suc zero)))) x h k = refl
byte_by_shift (suc (suc (suc (suc (suc zero))))) x h k = omega arith
byte_by_shift (suc (suc (suc (suc (suc (suc zero)))))) x h k = refl
byte_by_shift (suc (suc (suc (suc (suc (suc (suc zero))))))) x h k = omega arith
byte_by_shift (suc (suc (suc (suc (suc (suc (suc (suc n)))))))) x h k = absurd (omega arith)

pub part_by_shift : (code x : ℕ) → x < 0x100000000
    → x / 2 ^ (0x2010200820001820 / 2 ^ (code / 2 % 8 * 8) % 64) % 256 ≡ rgb_part code (colour_of x) 0
part_by_shift code x k = byte_by_shift (code / 2 % 8) x (omega arith) k

pub alpha_by_shift : (code x : ℕ) → x / 2 ^ ((code / 2 % 4 * 8 + 24) % 32) % 256 ≡ alpha_part code (colour_of x)
alpha_by_shift code x = by_shift (code / 2 % 4) x (omega arith)

-- THE TABLE

none : colour_of 0 ≡ black
unfolding colour_of
none = refl

pub colours_at : (ws : List ℕ) (i : ℕ) → get_or (colours ws) i black ≡ colour_of (get_or ws i 0)
colours_at ws i = rw (← none) (get_or-map colour_of ws i 0)

pub colours_set : (ws : List ℕ) (i x : ℕ) → colours (set ws i x) ≡ set (colours ws) i (colour_of x)
colours_set [] zero x = refl
colours_set [] (suc i) x = refl
colours_set (w ∷ ws) zero x = refl
colours_set (w ∷ ws) (suc i) x = rw (colours_set ws i x)

pub source_at : (ws : List ℕ) (x : ℕ) → source_of (colours ws) (x % 16) ≡ colour_of (get_or ws (x % 16) 0)
source_at ws x = let e : x % 16 % 16 ≡ x % 16 = omega arith in rw e (colours_at ws (x % 16))
