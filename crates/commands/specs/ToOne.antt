-- A command whose writes all go to one id that is no port's data. Not of the document.
use Rattle.std.specs.Prelude.{◌≡◌, false}
use Rattle.words.specs.Writes.{fog_data, light_data}
use Rattle.words.specs.declared.Header.{Header}

-- by its header
pub record ToOne (h : Header) : Type 0 where
  pub one : h.step ≡ 0
  pub no_fog : fog_data h.id ≡ false
  pub no_light : light_data h.id ≡ false
