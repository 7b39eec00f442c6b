-- When a promise settles a call: any two results that it allows, with what is then in the lent buffers, are equal.
use Rattle.std.specs.Prelude.{◌≡◌}
use Rattle.std.proofs.Common.{◌∙◌, sym}

-- P is the promise at given arguments, of a result r and the parameters at exit e; `see` reads the lent buffers off e
abbrev pub Settles : {R E B : Type 0} → (E → B) → (R → E → Type 0) → Type 0
Settles {R} {E} {B} see P = (r r' : R) (e e' : E) → P r e → P r' e' → (r ≡ r') × (see e ≡ see e')

-- a promise that gives the result's meaning and the buffers by definitions settles the call, where no two results mean the same
pub settled :
    {R D E B : Type 0} (see : E → B) (P : R → E → Type 0) (told : R → D) → ((r r' : R) → told r ≡ told r' → r ≡ r')
    → (d : D) (b : B) → ((r : R) (e : E) → P r e → (told r ≡ d) × (see e ≡ b)) → Settles see P
settled see P told one d b f r r' e e' p q =
    (one r r' ((f r e p).0 ∙ sym (f r' e' q).0), (f r e p).1 ∙ sym (f r' e' q).1)
