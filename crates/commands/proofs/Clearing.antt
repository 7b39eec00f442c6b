-- A command whose ids are clear of all that is refused has no write at fault. Assumes nothing.
use mathlib.Core.Path.{◌≡◌, refl}
use mathlib.Core.Bool.{Bool, true, false, not, ◌&&◌, ◌||◌, and-false}
use Prim.Native.Nat.{ℕ, zero, suc, ◌+◌, ◌-◌, ◌≤◌, ◌<◌}
use native.Mathlib.Omega.{arith}
use lib.Dec.{leb, ltb, eqb}
use borrow.Author.Tests.{leb-true, ltb-true, lt-leb, le-ltb, ne_eqb}
use Rattle.numbers.specs.Pick.{pick, within}
use Rattle.numbers.proofs.Tests.{and_true}
use Rattle.words.specs.Writes.{jumps, port_data, fault_of}
use Rattle.commands.specs.Clear.{last_id, clear}

-- a range that ends below lo or starts above hi has no id of lo..hi
apart : (b : Bool) (i j k lo hi : ℕ) → ltb j lo ≡ b → (b || ltb hi i) ≡ true → i ≤ k → k ≤ j → within lo hi k ≡ false
apart true i j k lo hi e t p q = let h : j < lo = ltb-true j lo e in rw (lt-leb lo k (omega arith))
apart false i j k lo hi e t p q = let h : hi < i = ltb-true hi i t in rw (lt-leb k hi (omega arith)) (and-false (leb lo k))

no_jump : (b : Bool) (i j k : ℕ) → ltb j 0x23C ≡ b → (b || ltb 0x23D i) ≡ true → i ≤ k → k ≤ j → jumps k ≡ false
no_jump true i j k e t p q =
    let h : j < 0x23C = ltb-true j 0x23C e in rw (ne_eqb k 0x23C (λ z. omega arith), ne_eqb k 0x23D (λ z. omega arith))
no_jump false i j k e t p q =
    let h : 0x23D < i = ltb-true 0x23D i t in rw (ne_eqb k 0x23C (λ z. omega arith), ne_eqb k 0x23D (λ z. omega arith))

no_port : (b : Bool) (i j k m : ℕ) → eqb m 15 ≡ b
    → (b || ((ltb j 0xE8 || ltb 0xEF i) && (ltb j 0x1C8 || ltb 0x1CF i))) ≡ true → i ≤ k → k ≤ j → (port_data k && not b) ≡ false
no_port true i j k m e t p q = and-false (port_data k)
no_port false i j k m e t p q =
    let u = and_true (ltb j 0xE8 || ltb 0xEF i) (ltb j 0x1C8 || ltb 0x1CF i) t in
    rw (apart (ltb j 0xE8) i j k 0xE8 0xEF refl u.0 p q, apart (ltb j 0x1C8) i j k 0x1C8 0x1CF refl u.1 p q)

-- no id of a clear range is at fault
pub clear_fault : (i j k m : ℕ) → clear i j m ≡ true → i ≤ k → k ≤ j → fault_of k m ≡ 0
unfolding fault_of
clear_fault i j k m t p q =
    let u = and_true (leb j 0x2FF && (ltb j 0x23C || ltb 0x23D i)) _ t in
    let v = and_true (leb j 0x2FF) (ltb j 0x23C || ltb 0x23D i) u.0 in
    let s : j ≤ 0x2FF = leb-true j 0x2FF v.0 in
    rw (le-ltb 0x2FF k (omega arith), no_jump (ltb j 0x23C) i j k refl v.1 p q, no_port (eqb m 15) i j k m refl u.1 p q)

-- THE LAST ID of a run

-- ids stay, or rise by one
pub last_on : (d i n : ℕ) → d ≤ 1 → last_id (i + d) n d ≡ last_id i (suc n) d
last_on zero i n h = omega arith
last_on (suc zero) i n h = let e : i + 1 + n ≡ i + suc n = omega arith in e
last_on (suc (suc d)) i n h = absurd (omega arith)

pub last_before : (d i n : ℕ) → d ≤ 1 → 0 < n → last_id (i + d) (n - 1) d ≡ last_id i n d
last_before d i zero h z = absurd (omega arith)
last_before d i (suc n) h z = let e : suc n - 1 ≡ n = omega arith in rw e (last_on d i n h)

pub last_none : (d i : ℕ) → last_id i 0 d ≡ i
last_none d i = go (eqb d 0)
  where
    go : (b : Bool) → pick b i (i + 0) ≡ i
    go true = refl
    go false = omega arith

pub next_within : (d i n : ℕ) → d ≤ 1 → i + d ≤ last_id i (suc n) d
next_within zero i n h = omega arith
next_within (suc zero) i n h = let e : i + 1 ≤ i + suc n = omega arith in e
next_within (suc (suc d)) i n h = absurd (omega arith)

pub first_within : (d i n : ℕ) → i ≤ last_id i n d
first_within d i n = go (eqb d 0)
  where
    go : (b : Bool) → i ≤ pick b i (i + n)
    go true = omega arith
    go false = omega arith
