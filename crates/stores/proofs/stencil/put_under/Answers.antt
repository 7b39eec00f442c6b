-- A mask's other bits are the same in a byte as in a word. Assumes nothing.
use mathlib.Core.Path.{◌≡◌, sym, ◌∙◌}
use Prim.Native.Nat.{ℕ, ◌-◌, ◌%◌, ◌<◌}
use native.Mathlib.Omega.{arith}
use lib.Bits.{bit_and, and_le_l, and_mod}
use Rattle.stores.proofs.stencil.put_under.Goals as goal

others : (x m : ℕ) → x < 256 → m < 256 → bit_and x (255 - m) ≡ bit_and x (0xFFFFFFFF - m)
others x m h k =
    let wide = bit_and x (0xFFFFFFFF - m) in
    let e : wide % 256 ≡ wide = omega (arith, and_le_l x (0xFFFFFFFF - m)) in
    let p : x % 256 ≡ x = omega arith in
    let q : (0xFFFFFFFF - m) % 256 ≡ 255 - m = omega arith in
    sym (rw (p, q) at (and_mod x (0xFFFFFFFF - m) 8)) ∙ e

pub returns : goal.returns
returns c = rw (others c.args.stored c.args.mask (omega arith) (omega arith))
