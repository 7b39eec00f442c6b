-- Decoding reads held bits only. Assumes nothing.
use mathlib.Core.Path.{◌≡◌}
use Prim.Native.Nat.{ℕ}
use lib.Bits.{bit_and}
use lib.ListN.{get_or}
use Rattle.registers.specs.State.{State, sized}
use Rattle.registers.specs.Held.{bits_of}
use Rattle.settings.proofs.HeldBits.{same_settings}
use Rattle.decode.specs.Decoded.{settings_of, decoded_of}

-- two states that agree on the held bits, and are both of the right lengths or both not, decode alike
pub decoded_held_only : (s s' : State) → sized s ≡ sized s'
    → ((i : ℕ) → bit_and (get_or s.cells i 0) (bits_of i) ≡ bit_and (get_or s'.cells i 0) (bits_of i))
    → decoded_of s ≡ decoded_of s'
unfolding decoded_of
decoded_held_only s s' e agree =
    let q : settings_of s ≡ settings_of s' = same_settings s.cells s'.cells agree in
    rw (e, q)
