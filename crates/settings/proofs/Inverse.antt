-- A colour's word and a word's colour are inverse. Assumes nothing.
use mathlib.Core.Path.{◌≡◌}
use Prim.Native.Nat.{ℕ, ◌+◌, ◌*◌, ◌/◌, ◌%◌, ◌^◌, ◌<◌}
use native.Mathlib.Nat.{div-div-eq-div-mul}
use native.Mathlib.Omega.{arith}
use Rattle.settings.specs.Colours.{colour_of, word_of}
use Rattle.settings.specs.declared.records.Colour.{Colour}
use Rattle.settings.proofs.Bytes.{Bytes}

pub same_colour : {r r' g g' b b' a a' : ℕ} → r ≡ r' → g ≡ g' → b ≡ b' → a ≡ a'
    → ◌≡◌ {A = Colour} (record { red = r; green = g; blue = b; alpha = a }) (record { red = r'; green = g'; blue = b'; alpha = a' })
same_colour e f g h = rw (e, f, g, h)

colour_back : (c : Colour) → Bytes c → colour_of (word_of c) ≡ c
unfolding colour_of
colour_back c h = same_colour (omega arith) (omega arith) (omega arith) (omega arith)

-- bytes a, b, c, d, each above what is left of x below it
above : (x a b c d q r : ℕ) → x ≡ a + q * 256 → q ≡ b + r * 256 → r ≡ c + d * 256
    → a + b * 0x100 + c * 0x10000 + d * 0x1000000 ≡ x
above x a b c d q r e f g = omega arith

word_back : (x : ℕ) → x < 0x100000000 → word_of (colour_of x) ≡ x
unfolding colour_of
word_back x h =
    let q : x / 2 ^ 8 / 256 ≡ x / 2 ^ 16 = div-div-eq-div-mul x 256 256 in
    let r : x / 2 ^ 16 / 256 ≡ x / 2 ^ 24 = div-div-eq-div-mul x 65536 256 in
    let d : x / 2 ^ 24 ≡ x / 2 ^ 24 % 256 = omega arith in
    above x (x % 256) (x / 2 ^ 8 % 256) (x / 2 ^ 16 % 256) (x / 2 ^ 24 % 256) (x / 2 ^ 8) (x / 2 ^ 16) (omega arith)
    (omega (arith, q)) (omega (arith, r, d))

-- for a colour of bytes, and for a word of 32 bits
pub inverse : ((c : Colour) → Bytes c → colour_of (word_of c) ≡ c) × ((x : ℕ) → x < 0x100000000 → word_of (colour_of x) ≡ x)
inverse = (colour_back, word_back)
