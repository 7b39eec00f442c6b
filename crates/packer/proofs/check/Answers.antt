-- What a look says, but for mask 0. Assumes nothing.
use Rattle.std.proofs.Common.{◌≡◌, Err, sym, ap, ◌∙◌, rules}
use Rattle.packer.specs.Checks.{found}
use Rattle.packer.proofs.check.Goals as goal

pub returns-in_err-look : goal.returns-in_err-look
returns-in_err-look c =
    let why = c.in_err-look.field-0.0 in
    let e : c.from_residual.result ≡ Err why = search rules in
    ap found e ∙ sym c.in_err-look.ensures

pub returns : goal.returns
returns c = sym c.in_ok-look.ensures.0
