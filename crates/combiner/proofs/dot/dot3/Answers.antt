-- A sum of three products stays within 195,075 either way. Assumes nothing.
use Rattle.settings.proofs.Signed.{fit, back}
use Rattle.combiner.proofs.Signed.{abs_add}
use Rattle.combiner.specs.Dot.{dot3_of}
use lib.IntN.{nat_abs, ◌+ℤ◌}
use native.Mathlib.Omega.{arith}
use Prim.Native.Nat.{◌≤◌}
use mathlib.Core.Path.{◌∙◌}
use Rattle.combiner.proofs.dot.dot3.Goals as goal

pub overflow_add-term : goal.overflow_add-term
overflow_add-term c =
    let x = c.term in
    let y = c.term-2 in
    rw (back x.result (omega arith), back y.result (omega arith))
    (fit _ (omega (arith, abs_add x.result y.result)))

pub overflow_add-term-2 : goal.overflow_add-term-2
overflow_add-term-2 c =
    let x = c.term.result in
    let y = c.term-2.result in
    let z = c.term-3.result in
    let n : nat_abs (x +ℤ y) ≤ 130050 = omega (arith, abs_add x y) in
    rw (back x (omega arith), back y (omega arith), back z (omega arith), back (x +ℤ y) (omega arith))
    (fit _ (omega (arith, abs_add (x +ℤ y) z)))

pub clamp-requires : goal.clamp-requires
clamp-requires c =
    let x = c.term.result in
    let y = c.term-2.result in
    let z = c.term-3.result in
    let n : nat_abs (x +ℤ y) ≤ 130050 = omega (arith, abs_add x y) in
    let m : nat_abs (x +ℤ y +ℤ z) ≤ 195075 = omega (arith, abs_add (x +ℤ y) z) in
    rw (
      back x (omega arith),
      back y (omega arith),
      back z (omega arith),
      back (x +ℤ y) (omega arith),
      back (x +ℤ y +ℤ z) (omega arith),
    ) m

pub returns : goal.returns
unfolding dot3_of
returns c =
    let x = c.term in
    let y = c.term-2 in
    let z = c.term-3 in
    let n : nat_abs (x.result +ℤ y.result) ≤ 130050 = omega (arith, abs_add x.result y.result) in
    let m : nat_abs (x.result +ℤ y.result +ℤ z.result) ≤ 195075 = omega (arith, abs_add (x.result +ℤ y.result) z.result) in
    c.clamp.ensures ∙
    rw (
      back x.result (omega arith),
      back y.result (omega arith),
      back z.result (omega arith),
      back (x.result +ℤ y.result) (omega arith),
      back (x.result +ℤ y.result +ℤ z.result) (omega arith),
      x.ensures.0,
      y.ensures.0,
      z.ensures.0,
    )
