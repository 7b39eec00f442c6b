-- A refusal of the writes stands; else they can be packed, and what is put is the list of those that are kept. Assumes nothing.
use Rattle.std.proofs.Common.{◌≡◌, Err, ap, ◌∙◌, rules}
use Rattle.words.specs.Reasons.{told}
use Rattle.packer.proofs.Checks.{check_given}
use Rattle.packer.proofs.Packs.{pack_refused, pack_room}
use Rattle.packer.proofs.pack.Goals as goal

pub returns-in_err-live : goal.returns-in_err-live
returns-in_err-live c =
    let why = c.in_err-live.field-0.0 in
    let e : c.from_residual.result ≡ Err why = search rules in
    let r = pack_refused _ _ _ c.args.space.now _ _ c.in_err-live.ensures in
    (ap told e ∙ r.0, r.1)

pub invariant_of-given : goal.invariant_of-given
invariant_of-given c = record { packable = check_given _ _ _ 0 c.in_ok-live.ensures.0 }

pub returns : goal.returns
returns c =
    let o = c.pack_checked.ensures in
    pack_room _ _ _ _ 0 _ _ c.in_ok-live.ensures.0 o.0 o.1
