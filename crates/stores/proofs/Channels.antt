-- A logic operation on words is that operation on each channel of the colours that they are. Assumes nothing.
use mathlib.Core.Path.{◌≡◌, refl, sym, ◌∙◌}
use mathlib.Core.List.{map}
use Prim.Native.Nat.{ℕ, ◌/◌, ◌%◌, ◌^◌}
use native.Mathlib.Omega.{arith}
use lib.Bits.{bit_and, bit_or, bit_xor, and_shr, and_mod, or_shr, or_mod, xor_shr, xor_mod}
use lib.ListN.{get_or-map}
use Rattle.settings.specs.Colours.{colour_of}
use Rattle.stores.specs.Logic.{results, logical, logical_colour}

-- the byte of x from bit k up
abbrev byte_at : ℕ → ℕ → ℕ
byte_at k x = x / 2 ^ k % 2 ^ 8

and_byte : (k x y : ℕ) → byte_at k (bit_and x y) ≡ bit_and (byte_at k x) (byte_at k y)
and_byte k x y = rw (and_shr x y k, and_mod (x / 2 ^ k) (y / 2 ^ k) 8)

or_byte : (k x y : ℕ) → byte_at k (bit_or x y) ≡ bit_or (byte_at k x) (byte_at k y)
or_byte k x y = rw (or_shr x y k, or_mod (x / 2 ^ k) (y / 2 ^ k) 8)

xor_byte : (k x y : ℕ) → byte_at k (bit_xor x y) ≡ bit_xor (byte_at k x) (byte_at k y)
xor_byte k x y = rw (xor_shr x y k, xor_mod (x / 2 ^ k) (y / 2 ^ k) 8)

module _ (k : ℕ) (none : byte_at k 0 ≡ 0) (full : byte_at k 0xFFFFFFFF ≡ 255) where
  results_byte : (s d : ℕ) → map (byte_at k) (results 0xFFFFFFFF s d) ≡ results 255 (byte_at k s) (byte_at k d)
  unfolding results
  results_byte s d = simp (and_byte k, or_byte k, xor_byte k, none, full)

  logic_byte : (op s d : ℕ) → byte_at k (logical 0xFFFFFFFF op s d) ≡ logical 255 op (byte_at k s) (byte_at k d)
  logic_byte op s d = sym (get_or-map (byte_at k) (results 0xFFFFFFFF s d) (op % 16) 0) ∙ rw (results_byte s d, none)

first_byte : (x : ℕ) → byte_at 0 x ≡ x % 256
first_byte x = omega arith

pub logic_channels : (op x y : ℕ) → colour_of (logical 0xFFFFFFFF op x y) ≡ logical_colour op (colour_of x) (colour_of y)
unfolding colour_of
logic_channels op x y =
    rw (
      ← first_byte (logical 0xFFFFFFFF op x y),
      ← first_byte x,
      ← first_byte y,
      logic_byte 0 refl refl op x y,
      logic_byte 8 refl refl op x y,
      logic_byte 16 refl refl op x y,
      logic_byte 24 refl refl op x y,
    )
