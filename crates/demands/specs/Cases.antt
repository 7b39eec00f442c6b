-- The examples of document 01 that are marked P, with request 3's, as one table: each case has what the definitions give and what the
-- documents say, as numbers.
use Rattle.std.specs.Prelude.{List, [], ◌∷◌, ◌++◌, map, ℕ, zero, suc, ◌+◌, ◌*◌, ℤ, pos, negsuc, length, get_or, set, replicate}
use Rattle.numbers.specs.Answer.{Answer, answered, refused}
use Rattle.words.specs.Writes.{writing, ids_in}
use Rattle.words.specs.Commands.{expansion}
use Rattle.registers.specs.State.{State, st}
use Rattle.registers.specs.Applied.{apply, apply_all}
use Rattle.reader.specs.Read.{read_answer}
use Rattle.settings.specs.declared.records.Colour.{Colour}
use Rattle.lines.specs.Text.{ascii}
use Rattle.lines.specs.Lines.{line_of}
use Rattle.packer.specs.Packing.{pack_answer, pack_space}
use Rattle.decode.specs.Decoded.{decoded_of}
use Rattle.combiner.specs.declared.Given.{Given}
use Rattle.fragment.specs.Drawn.{drawn_of, values_of}
use Rattle.std.specs.Prelude.{Result, Ok, Err}
use Rattle.words.specs.declared.Refusal.{Refusal}
use Rattle.settings.specs.declared.records.Settings.{Settings}

pub record Case : Type 0 where
  pub got : List ℤ
  pub want : List ℤ

abbrev case : List ℕ → List ℕ → Case
case g w = record { got = map pos g; want = map pos w }

-- an answer as numbers: 0 and the value, or the refusal's number and place
abbrev numbers : Answer → List ℕ
numbers (answered n) = 0 ∷ n ∷ []
numbers (refused n p) = n ∷ p ∷ []

-- A STATE of zeros, but for some cells
pub record Cell : Type 0 where
  pub id : ℕ
  pub holds : ℕ

abbrev cell : ℕ → ℕ → Cell
cell i x = record { id = i; holds = x }

abbrev setting : List Cell → List ℕ → List ℕ
setting [] cells = cells
setting (c ∷ cs) cells = setting cs (set cells c.id c.holds)

abbrev state : List Cell → State
state cs = st (setting cs (replicate 768 0)) (replicate 128 0) (replicate 6144 0)

-- READING AND WRITING

-- a list of the command with first parameter 0 and this header, with n more words, read into a state of zeros
abbrev reading : ℕ → ℕ → List ℕ
reading header n = numbers (read_answer (state []) (0 ∷ header ∷ replicate n 0))

-- a write to 41 and then one of mask 0, read into a state of zeros
abbrev then0 : ℕ → List ℕ
then0 id = numbers (read_answer (state []) (1 ∷ 0x000F0041 ∷ 2 ∷ id ∷ []))

-- cell 107 after the value 1F71 is written to it under a mask
abbrev cell107 : ℕ → ℕ
cell107 m = get_or (apply (state []) (writing 0x107 m 0x1F71)).cells 0x107 0

-- E6 at 127, then 5 and 6 written to the fog port
abbrev fogged : State
fogged = apply_all (state (cell 0xE6 127 ∷ [])) (writing 0xE8 15 5 ∷ writing 0xE8 15 6 ∷ [])

-- DECODING: the two fields of 68 when both hold x
abbrev minus : ℕ → ℤ
minus zero = pos 0
minus (suc n) = negsuc n

abbrev fields_of68 : Result Settings Refusal → List ℤ
fields_of68 (Ok s) = let xy = s.rasteriser.viewport.xy in xy.x ∷ xy.y ∷ []
fields_of68 (Err r) = []

abbrev offsets : ℕ → ℤ → Case
offsets x n = record { got = fields_of68 (decoded_of (state (cell 0x68 (x + x * 0x10000) ∷ []))); want = n ∷ n ∷ [] }

-- A FRAGMENT in a state whose 117 is built (size 2, format 0): the verdict, red, green, blue, alpha, stencil and depth
abbrev grey : ℕ → ℕ → Colour
grey x a = record { red = x; green = x; blue = x; alpha = a }

abbrev given : Colour → Colour → Given
given first second =
    let none = grey 0 0 in
    record {
      primary = first;
      fragment_primary = none;
      fragment_secondary = none;
      texture0 = second;
      texture1 = none;
      texture2 = none;
      texture3 = none;
    }

abbrev drawing : List Cell → Colour → Colour → ℕ → List ℕ
drawing cs first second stencil =
    values_of (drawn_of (state (cell 0x117 2 ∷ cs)) (given first second) 0 (record { colour = grey 0 0; stencil = stencil; depth = 0 }))

-- the stencil test on (105: always passes), its operation on pass (106), stencil writes allowed (115), depth format 3 (116)
abbrev stencilled : ℕ → ℕ → ℕ → ℕ → List ℕ
stencilled op reference mask stored =
    drawing (cell 0x105 (0x11 + mask * 0x100 + reference * 0x10000) ∷ cell 0x106 (op * 0x100) ∷ cell 0x115 1 ∷ cell 0x116 3 ∷ [])
    (grey 0 0) (grey 0 0) stored

-- the last stage (F8) by a mode, of the primary colour and texture 0; its result is copied (102: 3) to all channels (107, 113)
abbrev mixed : ℕ → Colour → Colour → List ℕ
mixed mode first second =
    drawing (cell 0xF8 0x300030 ∷ cell 0xFA mode ∷ cell 0x102 3 ∷ cell 0x107 0xF00 ∷ cell 0x113 15 ∷ []) first second 0

-- PACKING: ids, masks and values, into a space of so many words that are 9
abbrev packing_into : ℕ → List ℕ → List ℕ → List ℕ → List ℕ
packing_into room is ms vs = numbers (pack_answer is ms vs room) ++ pack_space is ms vs (replicate room 9)

-- with mask F for each, into nine words
abbrev packing : List ℕ → List ℕ → List ℕ
packing is vs = packing_into 9 is (replicate (length is) 15) vs

unfoldable pub cases : List Case
cases =
    -- `AAAAAAAA 802F011C BBBBBBBB CCCCCCCC` is writes to 11C, 11D, 11E; program output `ok 3`
    case (ids_in (expansion (0xAAAAAAAA ∷ 0x802F011C ∷ 0xBBBBBBBB ∷ 0xCCCCCCCC ∷ []))) (0x11C ∷ 0x11D ∷ 0x11E ∷ [])
    ∷ case (line_of (replicate 4 0xAA ++ (0x1C ∷ 0x01 ∷ 0x2F ∷ 0x80 ∷ []) ++ replicate 4 0xBB ++ replicate 4 0xCC)) (ascii "ok 3\n")
    -- value 1F71 to 107, cell 0: mask 1 leaves 71, mask 2 leaves 1F00
    ∷ case (cell107 1 ∷ cell107 2 ∷ []) (0x71 ∷ 0x1F00 ∷ [])
    -- consecutive from 2FE, one extra: accepted. Two extra: refusal 3. From 23B, one extra: 4
    ∷ case (reading 0x801F02FE 2) (0 ∷ 2 ∷ [])
    ∷ case (reading 0x802F02FE 2) (3 ∷ 0 ∷ [])
    ∷ case (reading 0x801F023B 2) (4 ∷ 0 ∷ [])
    -- E6 at 127, two fog writes: entries 127 and 0, E6 at 1
    ∷ case (get_or fogged.fog 127 0 ∷ get_or fogged.fog 0 0 ∷ get_or fogged.cells 0xE6 0 ∷ []) (5 ∷ 6 ∷ 1 ∷ [])
    -- 68 field 3FF is -1, 200 is -512, 1FF is 511
    ∷ offsets 0x3FF (minus 1)
    ∷ offsets 0x200 (minus 512)
    ∷ offsets 0x1FF (pos 511)
    -- stencil A5, replace by 3C, buffer mask 0F: AC. With mask FF, FF by operation 3: FF; by 6: 0
    ∷ case (stencilled 2 0x3C 0x0F 0xA5) (3 ∷ 0 ∷ 0 ∷ 0 ∷ 0 ∷ 0xAC ∷ 0 ∷ [])
    ∷ case (stencilled 3 0 0xFF 0xFF) (3 ∷ 0 ∷ 0 ∷ 0 ∷ 0 ∷ 0xFF ∷ 0 ∷ [])
    ∷ case (stencilled 6 0 0xFF 0xFF) (3 ∷ 0 ∷ 0 ∷ 0 ∷ 0 ∷ 0 ∷ 0 ∷ [])
    -- modulate 128, 128: 64. Dot3 of white and (128,128,128): 3
    ∷ case (mixed 0x10001 (grey 128 128) (grey 128 128)) (3 ∷ 64 ∷ 64 ∷ 64 ∷ 64 ∷ 0 ∷ 0 ∷ [])
    ∷ case (mixed 6 (grey 255 255) (grey 128 255)) (3 ∷ 3 ∷ 3 ∷ 3 ∷ 255 ∷ 0 ∷ 0 ∷ [])
    -- ids 41, 41, 42, 43, mask F, values 1-4: `1 000F0041 2 802F0041 3 4`, and by request 3 "the six-word examples gain the pair `0 0`"
    ∷ case (packing (0x41 ∷ 0x41 ∷ 0x42 ∷ 0x43 ∷ []) (1 ∷ 2 ∷ 3 ∷ 4 ∷ []))
    (0 ∷ 8 ∷ 1 ∷ 0x000F0041 ∷ 2 ∷ 0x802F0041 ∷ 3 ∷ 4 ∷ 0 ∷ 0 ∷ 9 ∷ [])
    -- ids 41, 41, 42, values 1-3: `1 001F0041 2 0 3 000F0042`, and the pair
    ∷ case (packing (0x41 ∷ 0x41 ∷ 0x42 ∷ []) (1 ∷ 2 ∷ 3 ∷ [])) (0 ∷ 8 ∷ 1 ∷ 0x001F0041 ∷ 2 ∷ 0 ∷ 3 ∷ 0x000F0042 ∷ 0 ∷ 0 ∷ 9 ∷ [])
    -- of request 3: space without the pair's two words is none
    ∷ case (packing_into 7 (0x41 ∷ 0x41 ∷ 0x42 ∷ []) (replicate 3 15) (1 ∷ 2 ∷ 3 ∷ [])) (10 ∷ 8 ∷ replicate 7 9)
    -- a write of mask 0 parts nothing, and alone it gives the empty list; its index counts, and it is checked itself
    ∷ case (packing_into 5 (0x41 ∷ 0x99 ∷ 0x42 ∷ []) (15 ∷ 0 ∷ 15 ∷ []) (1 ∷ 2 ∷ 3 ∷ [])) (0 ∷ 4 ∷ 1 ∷ 0x801F0041 ∷ 3 ∷ 0 ∷ 9 ∷ [])
    ∷ case (packing_into 1 (0x41 ∷ 0x42 ∷ []) (0 ∷ 0 ∷ []) (1 ∷ 2 ∷ [])) (0 ∷ 0 ∷ 9 ∷ [])
    ∷ case (packing_into 1 (0x41 ∷ 0x300 ∷ []) (0 ∷ 15 ∷ []) (1 ∷ 2 ∷ [])) (3 ∷ 1 ∷ 9 ∷ [])
    ∷ case (packing_into 1 (0x41 ∷ 0x300 ∷ []) (15 ∷ 0 ∷ []) (1 ∷ 2 ∷ [])) (3 ∷ 1 ∷ 9 ∷ [])
    -- a list of two words is 15, not 2, and of six words too, whatever its commands
    ∷ case (reading 0x001F0041 0) (15 ∷ 0 ∷ [])
    ∷ case (reading 0x000F0300 4) (15 ∷ 0 ∷ [])
    -- a command of mask 0 is checked and not counted: a write to 41, then one of mask 0 to 42, to 300, to 23C, to E8
    ∷ case (then0 0x42) (0 ∷ 1 ∷ [])
    ∷ case (then0 0x300) (3 ∷ 2 ∷ [])
    ∷ case (then0 0x23C) (4 ∷ 2 ∷ [])
    ∷ case (then0 0xE8) (5 ∷ 2 ∷ [])
    ∷ []
