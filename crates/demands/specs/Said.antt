-- The runs that "some accepted list could carry".
use Rattle.std.specs.Prelude.{◌≡◌, List, [], ◌++◌, ℕ, ◌≤◌, length}
use Rattle.numbers.specs.Answer.{answered}
use Rattle.words.specs.Writes.{Write, kept}
use Rattle.words.specs.Commands.{all_writes}
use Rattle.reader.specs.ListVerdict.{verdict}

-- SOME ACCEPTED LIST CARRIES THE RUN: one of at most 65,536 words that the verdict accepts, and whose writes, those of mask 0 among them,
-- are the run and behind it only writes of mask 0, which fill the list
pub record Said (ws : List Write) : Type 0 where
  pub list : List ℕ
  pub short : length list ≤ 65536
  pub accepted : verdict list ≡ answered (length (kept ws))
  pub filler : List Write
  pub carries : all_writes list ≡ ws ++ filler
  pub nothing : kept filler ≡ []
