-- Which line an input gets, by the test that code makes of its length. Assumes nothing.
use mathlib.Core.Path.{◌≡◌}
use mathlib.Core.Bool.{true, false}
use mathlib.Core.List.{List}
use Prim.Native.Nat.{ℕ, ◌%◌, ◌≤◌}
use lib.Dec.{leb, eqb}
use lib.ListN.{length}
use borrow.Author.Tests.{leb-true}
use Rattle.numbers.proofs.Tests.{and_true}
use Rattle.reader.specs.ListVerdict.{verdict}
use Rattle.lines.specs.Text.{ascii}
use Rattle.lines.specs.Lines.{words_in, line_for, is_list, line_of}

module _ (bytes : List ℕ) where
  pub list_fits : is_list bytes ≡ true → length bytes ≤ 65536
  list_fits e = leb-true (length bytes) 65536 (and_true (leb (length bytes) 65536) (eqb (length bytes % 4) 0) e).0

  pub line_of_list : is_list bytes ≡ true → line_of bytes ≡ line_for (verdict (words_in bytes))
  unfolding line_of
  line_of_list e = rw e

  pub line_of_other : is_list bytes ≡ false → line_of bytes ≡ ascii "input\n"
  unfolding line_of
  line_of_other e = rw e
