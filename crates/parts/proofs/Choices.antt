-- What the code's tests tell, by which it goes several words at once. Assumes nothing.
use Rattle.std.proofs.Common.{◌≡◌, ℕ, ◌≤◌, Bool, true, ◌&&◌, eqb, leb, eqb-true, leb-true}
use Rattle.numbers.proofs.Tests.{and_true}

pub whole_facts : (a b c d : ℕ) (t : Bool) → ((leb a b && leb c d) && t) ≡ true → (a ≤ b) × (c ≤ d) × (t ≡ true)
whole_facts a b c d t e =
    let u = and_true (leb a b && leb c d) t e in
    let v = and_true (leb a b) (leb c d) u.0 in
    (leb-true a b v.0, leb-true c d v.1, u.1)

pub run_facts : (f s i k : ℕ) → (((eqb f 0 && leb s 1) && leb i 0xFFFF) && leb k 65535) ≡ true
    → (f ≡ 0) × (s ≤ 1) × (i ≤ 0xFFFF) × (k ≤ 65535)
run_facts f s i k e =
    let t = and_true ((eqb f 0 && leb s 1) && leb i 0xFFFF) (leb k 65535) e in
    let u = and_true (eqb f 0 && leb s 1) (leb i 0xFFFF) t.0 in
    let v = and_true (eqb f 0) (leb s 1) u.0 in
    (eqb-true f 0 v.0, leb-true s 1 v.1, leb-true i 0xFFFF u.1, leb-true k 65535 t.1)
