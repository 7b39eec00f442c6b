-- What the small program prints: "`ok N` or `refused R at P`; longer input, or bytes that aren't a multiple of four, prints
-- `input`. Each is one line with a newline, numbers in decimal."
use Rattle.std.specs.Prelude.{Bool, ◌&&◌, List, [], ◌∷◌, ◌++◌, ℕ, zero, suc, ◌+◌, ◌*◌, ◌/◌, ◌%◌, leb, eqb, length, get_or}
use Rattle.numbers.specs.Answer.{Answer, answered, refused}
use Rattle.numbers.specs.Pick.{pick}
use Rattle.reader.specs.ListVerdict.{verdict}
use Rattle.lines.specs.Text.{ascii, decimal}

-- word k of the bytes, little-endian
abbrev pub word_at : List ℕ → ℕ → ℕ
word_at bytes k =
    get_or bytes (4 * k) 0 + get_or bytes (4 * k + 1) 0 * 0x100 + get_or bytes (4 * k + 2) 0 * 0x10000 + get_or bytes (4 * k + 3) 0 * 0x1000000

-- the first n words
unfoldable pub first_words : List ℕ → ℕ → List ℕ
first_words bytes zero = []
first_words bytes (suc n) = first_words bytes n ++ (word_at bytes n ∷ [])

-- all of them
abbrev pub words_in : List ℕ → List ℕ
words_in bytes = first_words bytes (length bytes / 4)

-- the line that gives an answer
abbrev pub line_for : Answer → List ℕ
line_for (answered n) = ascii "ok " ++ decimal n ++ ascii "\n"
line_for (refused r p) = ascii "refused " ++ decimal r ++ ascii " at " ++ decimal p ++ ascii "\n"

-- bytes that are read as a list: up to 16,384 words, and whole ones
abbrev pub is_list : List ℕ → Bool
is_list bytes = leb (length bytes) 65536 && eqb (length bytes % 4) 0

-- THE LINE for all the bytes of an input
unfoldable pub line_of : List ℕ → List ℕ
line_of bytes = let line = line_for (verdict (words_in bytes)) in pick (is_list bytes) line (ascii "input\n")
