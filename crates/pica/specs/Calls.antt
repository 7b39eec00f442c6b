-- What the C functions answer, over the definitions of the functions below them. A call answers one number of 64 bits: high 32 bits the
-- refusal's number, 0 where it answered; low 32 bits the answer, or the refusal's place.
use Rattle.std.specs.Prelude.{List, [], ◌∷◌, ℕ, ◌+◌, ◌*◌, ◌%◌, get_or}
use Rattle.numbers.specs.Answer.{Answer, answered, refused, Answers, both, neither, alone}
use Rattle.registers.specs.State.{State}
use Rattle.settings.specs.Colours.{colour_of, word_of}
use Rattle.settings.specs.Flat.{flat}
use Rattle.combiner.specs.declared.Given.{Given}
use Rattle.stores.specs.Tests.{verdict_number}
use Rattle.fragment.specs.Drawn.{drawn_of}
use Rattle.stores.specs.declared.Stored.{Stored}
use Rattle.std.specs.Prelude.{Result, Ok, Err}
use Rattle.words.specs.declared.Refusal.{Refusal}
use Rattle.settings.specs.declared.records.Settings.{Settings}
use Rattle.fragment.specs.declared.Outcome.{Outcome}
use Rattle.words.specs.Reasons.{number_of}

abbrev pub call : ℕ → ℕ → ℕ
call number value = number * 0x100000000 + value % 0x100000000

abbrev pub answer : Answer → ℕ
answer (answered n) = call 0 n
answer (refused r p) = call r p

-- pica_read, pica_close: the number of writes; and besides, in one word, how many of them made a difference, untouched on a refusal
abbrev pub answers : Answers → ℕ
answers a = answer (alone a)

abbrev pub differences_after : Answers → List ℕ → List ℕ
differences_after (both n d) old = d ∷ []
differences_after (neither r p) old = old

-- pica_decode: 0, and one word a field; untouched on a refusal
abbrev pub decode_call : Result Settings Refusal → ℕ
decode_call (Ok s) = call 0 0
decode_call (Err r) = call (number_of r.reason) r.place

abbrev pub fields_after : Result Settings Refusal → List ℕ → List ℕ
fields_after (Ok s) old = flat s
fields_after (Err r) old = old

-- pica_fragment: seven colours, each a word: primary, fragment primary, fragment secondary, textures 0 to 3
abbrev pub given_of : List ℕ → Given
given_of ws =
    record {
      primary = colour_of (get_or ws 0 0);
      fragment_primary = colour_of (get_or ws 1 0);
      fragment_secondary = colour_of (get_or ws 2 0);
      texture0 = colour_of (get_or ws 3 0);
      texture1 = colour_of (get_or ws 4 0);
      texture2 = colour_of (get_or ws 5 0);
      texture3 = colour_of (get_or ws 6 0);
    }

-- 7 is the incoming depth; 8 the stored colour, 9 the stored stencil, of which the low 8 bits count, 10 the stored depth
abbrev pub stored_of : List ℕ → Stored
stored_of ws = record { colour = colour_of (get_or ws 8 0); stencil = get_or ws 9 0 % 256; depth = get_or ws 10 0 }

abbrev pub fragment_of : State → List ℕ → Result Outcome Refusal
fragment_of s ws = drawn_of s (given_of ws) (get_or ws 7 0) (stored_of ws)

-- the verdict
abbrev pub fragment_call : Result Outcome Refusal → ℕ
fragment_call (Ok o) = call 0 (verdict_number o.verdict)
fragment_call (Err r) = call (number_of r.reason) r.place

-- colour, stencil, depth as then stored; untouched on a refusal
abbrev pub stored_words : Stored → List ℕ
stored_words s = word_of s.colour ∷ s.stencil ∷ s.depth ∷ []

abbrev pub stored_words_after : Result Outcome Refusal → List ℕ → List ℕ
stored_words_after (Ok o) old = stored_words o.stored
stored_words_after (Err r) old = old
