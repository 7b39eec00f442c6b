-- As the calls ensure. Assumes nothing.

use Rattle.pica.proofs.colours.given_of.Goals as goal

pub returns : goal.returns
returns c =
    rw (
      c.colour_of.ensures,
      c.colour_of-2.ensures,
      c.colour_of-3.ensures,
      c.colour_of-4.ensures,
      c.colour_of-5.ensures,
      c.colour_of-6.ensures,
      c.colour_of-7.ensures,
    )
