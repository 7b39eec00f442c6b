-- Minus a signed number of thirteen bits without asking for its sign. Assumes nothing.
use mathlib.Core.Path.{◌≡◌, refl, sym, ap, ◌∙◌}
use mathlib.Core.Bool.{Bool, true, false}
use Prim.Native.Nat.{ℕ, zero, suc, ◌+◌, ◌-◌, ◌%◌, ◌<◌}
use native.Mathlib.Omega.{arith}
use lib.Dec.{ltb}
use lib.IntN.{pos, negsuc, nat_abs, ◌-ℤ◌}
use borrow.Author.Tests.{ltb-true, ltb-false}
use mir.Syntax.{w32}
use mir.Val.{to_z, of_z, SFits}
use Rattle.numbers.specs.Pick.{pick}
use Rattle.numbers.specs.Ranges.{negated}
use Rattle.numbers.proofs.Signed.{small, fit, back, minus, over, turned_small, over_small, negated_is}

-- both sides by as much
shifted : (x : ℕ) → pos 4096 -ℤ pos (x + 4096) ≡ pos 0 -ℤ pos x
shifted zero = refl
shifted (suc k) =
    let e : suc k + 4096 - suc 4096 ≡ suc k - suc 0 = omega arith in
    minus 4096 (suc k + 4096) (omega arith) ∙ ap negsuc e ∙ sym (minus 0 (suc k) (omega arith))

module _ (x : ℕ) (h : x < 8192) where
  by_sign : (b : Bool) → ltb x 4096 ≡ b → pos 4096 -ℤ pos ((x + 4096) % 8192) ≡ pick b (pos 0 -ℤ pos x) (pos 8192 -ℤ pos x)
  by_sign true t =
      let l = ltb-true x 4096 t in
      let e : (x + 4096) % 8192 ≡ x + 4096 = omega arith in
      rw e (shifted x)
  by_sign false t =
      let l = ltb-false x 4096 t in
      let e : (x + 4096) % 8192 ≡ x - 4096 = omega arith in
      let f : 4096 - (x - 4096) ≡ 8192 - x = omega arith in
      rw e (over 4096 (x - 4096) (omega arith) ∙ ap pos f ∙ sym (over 8192 x (omega arith)))

  small_by : (b : Bool) → ltb x 4096 ≡ b → nat_abs (pick b (pos 0 -ℤ pos x) (pos 8192 -ℤ pos x)) < 0x80000000
  small_by true t = turned_small x 0x80000000 (omega arith)
  small_by false t = over_small 8192 x 0x80000000 (omega arith) (omega arith)

  turned : pos 4096 -ℤ pos ((x + 4096) % 8192) ≡ negated 13 x
  turned = by_sign (ltb x 4096) refl ∙ sym (negated_is 12 x h)

  turned_fits : nat_abs (pos 4096 -ℤ pos ((x + 4096) % 8192)) < 0x80000000
  turned_fits = rw (by_sign (ltb x 4096) refl) (small_by (ltb x 4096) refl)

  -- as it is computed in 32 bits
  pub thirteen_fits : SFits w32 (pos 4096 -ℤ to_z w32 ((x + 4096) % 8192))
  thirteen_fits = rw (small ((x + 4096) % 8192) (omega arith)) (fit (pos 4096 -ℤ pos ((x + 4096) % 8192)) turned_fits)

  pub thirteen : to_z w32 (of_z w32 (pos 4096 -ℤ to_z w32 ((x + 4096) % 8192))) ≡ negated 13 x
  thirteen = rw (small ((x + 4096) % 8192) (omega arith)) (back (pos 4096 -ℤ pos ((x + 4096) % 8192)) turned_fits ∙ turned)
