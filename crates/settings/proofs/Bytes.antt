-- A colour whose channels are bytes. Assumes nothing.
use Prim.Native.Nat.{◌≤◌}
use Rattle.settings.specs.declared.records.Colour.{Colour}

pub record Bytes (c : Colour) : Type 0 where
  pub red : c.red ≤ 255
  pub green : c.green ≤ 255
  pub blue : c.blue ≤ 255
  pub alpha : c.alpha ≤ 255
