-- The table "Numbers given back" for decoding and for a fragment: when each refuses with a number, and what the place then means.
use Rattle.std.specs.Prelude.{◌≡◌, true, false, ◌⊎◌, ℕ, ◌≤◌, ◌<◌}
use Rattle.registers.specs.State.{State, sized}
use Rattle.registers.specs.Held.{bits_of}
use Rattle.decode.specs.Decoded.{settings_of, nameless, decoded_of}
use Rattle.fragment.specs.Drawn.{unbuilt_at, largest}
use Rattle.std.specs.Prelude.{Ok}

-- a register's id that is held
abbrev pub HeldId : ℕ → Type 0
HeldId i = bits_of i ≡ 0 → ⊥

-- 13: the place is the lowest id that holds a code without a name
pub record CodeRefused (s : State) (n p : ℕ) : Type 0 where
  pub number : n ≡ 13
  pub lengths : sized s ≡ true
  pub held : HeldId p
  pub why : nameless s p ≡ true
  pub lowest : (j : ℕ) → nameless s j ≡ true → p ≤ j

-- DECODING: 6, then 13
abbrev pub DecodeRefused : State → ℕ → ℕ → Type 0
DecodeRefused s n p = ((n ≡ 6) × (p ≡ 0) × (sized s ≡ false)) ⊎ CodeRefused s n p

-- 14, of a state that is decoded: the place is the lowest id that asks for what is not built
pub record UnbuiltRefused (s : State) (n p : ℕ) : Type 0 where
  pub number : n ≡ 14
  pub decoded : decoded_of s ≡ Ok (settings_of s)
  pub held : HeldId p
  pub why : unbuilt_at (settings_of s) p ≡ true
  pub lowest : (j : ℕ) → unbuilt_at (settings_of s) j ≡ true → p ≤ j

-- the largest depth of its format
abbrev pub top_of : State → ℕ
top_of s = largest (settings_of s).framebuffer.buffers.depth_format

-- 12, of a state that is decoded and built: a depth above the format's largest, "0 incoming, 1 stored", incoming first
pub record DepthRefused (s : State) (incoming stored : ℕ) (n p : ℕ) : Type 0 where
  pub number : n ≡ 12
  pub decoded : decoded_of s ≡ Ok (settings_of s)
  pub built : (j : ℕ) → unbuilt_at (settings_of s) j ≡ false
  pub why : ((p ≡ 0) × (top_of s < incoming)) ⊎ ((p ≡ 1) × (incoming ≤ top_of s) × (top_of s < stored))

-- A FRAGMENT: 6, 13, 14, 12
abbrev pub DrawRefused : State → ℕ → ℕ → ℕ → ℕ → Type 0
DrawRefused s incoming stored n p = DecodeRefused s n p ⊎ UnbuiltRefused s n p ⊎ DepthRefused s incoming stored n p
