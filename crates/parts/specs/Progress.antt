-- How far a reading has come, word by word: what each word of a list does to the progress, and the writes that it makes. The progress is
-- all that a reader keeps, twelve numbers of 32 bits:
--   come    the words that have come, held at 65,537
--   place   the first word of the command that is followed, counted from the list's start
--   begun   1 where its first parameter has come and its header hasn't
--   first   that parameter
--   id      the id of its last write
--   mask    its mask
--   step    by how much its ids rise
--   left    its extra parameters that are still to come
--   pad     its padding words that are still to come
--   writes  the writes of all commands whose headers have come, but for those of mask 0
--   fault   the number of the first fault, 0 for none; after a command at fault none is followed
--   differences
--           how many of the writes made so far made a difference. Words alone don't tell: `next` and `after` keep it, `onward` adds to it
-- Any twelve numbers may come in: a progress that no call made goes on by the same rules. There a step may be any number, and a mask above
-- 15 counts by its low four bits, but isn't Fh, so that port data is refused under it, nor 0, so that its other writes are made; and its
-- differences may be more than its writes.
use Rattle.std.specs.Prelude.{ℕ, ◌+◌, ◌-◌, ◌%◌, Bool, ◌&&◌, List, [], ◌∷◌, ◌++◌, ◌==◌, nat_lt}
use Rattle.numbers.specs.Pick.{pick}
use Rattle.numbers.specs.Answer.{Answer, answered, refused}
use Rattle.words.specs.Header.{id_of, mask_of, count_of, step_of, adds_of}
use Rattle.words.specs.Writes.{Write, writing, kept, fault_of}
use Rattle.registers.specs.State.{State}
use Rattle.registers.specs.Applied.{differences}
use Rattle.parts.specs.declared.Progress.{Progress}

-- no word has come
abbrev pub fresh : Progress
fresh =
    record {
      come = 0;
      place = 0;
      begun = 0;
      first = 0;
      id = 0;
      mask = 0;
      step = 0;
      left = 0;
      pad = 0;
      writes = 0;
      fault = 0;
      differences = 0;
    }

-- a sum in a field of 32 bits; of a reading that was opened no sum comes near. The words that have come are below 65,536 where one is added
abbrev pub plus : ℕ → ℕ → ℕ
plus a b = (a + b) % 0x100000000

-- the first fault stands
abbrev pub first_of : ℕ → ℕ → ℕ
first_of f g = pick (f == 0) g f

-- p with these five, the rest as it was
abbrev pub moved : Progress → ℕ → ℕ → ℕ → ℕ → ℕ → Progress
moved p come id left pad fault =
    record {
      come = come;
      place = p.place;
      begun = p.begun;
      first = p.first;
      id = id;
      mask = p.mask;
      step = p.step;
      left = left;
      pad = pad;
      writes = p.writes;
      fault = fault;
      differences = p.differences;
    }

-- A WORD COMES, and is one past the limit of 65,536: the words that have come are held at 65,537, and nothing more is done
abbrev pub past : Progress → Progress
past p = moved p 65537 p.id p.left p.pad p.fault

-- or an extra parameter: the next write's value
abbrev pub extra : Progress → Progress
extra p =
    moved p (p.come + 1) (plus p.id p.step) (p.left - 1) p.pad
    (first_of p.fault (fault_of (plus p.id p.step) p.mask))

-- or the padding word, which may be any
abbrev pub padding : Progress → Progress
padding p = moved p (p.come + 1) p.id p.left (p.pad - 1) p.fault

-- or the header: the first parameter is the first write's value, and one padding word follows if the words so far are odd in number
abbrev pub headed : Progress → ℕ → Progress
headed p h =
    record {
      come = p.come + 1;
      place = p.place;
      begun = 0;
      first = p.first;
      id = id_of h;
      mask = mask_of h;
      step = step_of h;
      left = count_of h;
      pad = (2 + count_of h) % 2;
      writes = plus p.writes (adds_of h);
      fault = first_of p.fault (fault_of (id_of h) (mask_of h));
      differences = p.differences;
    }

-- or the first parameter of the next command, whose place it is
abbrev pub started : Progress → ℕ → Progress
started p x =
    record {
      come = p.come + 1;
      place = p.come;
      begun = 1;
      first = x;
      id = p.id;
      mask = p.mask;
      step = p.step;
      left = p.left;
      pad = p.pad;
      writes = p.writes;
      fault = p.fault;
      differences = p.differences;
    }

-- or one after a command at fault: it counts, and nothing more
abbrev pub passed : Progress → Progress
passed p = moved p (p.come + 1) p.id p.left p.pad p.fault

-- which of these a word is: the six cases, by one test after another
abbrev pub by_word : {A : Type 0} → Progress → A → A → A → A → A → A → A
by_word p if_past if_extra if_padding if_header if_first if_passed =
    pick (nat_lt 65535 p.come) if_past
    (pick (nat_lt 0 p.left) if_extra
    (pick (nat_lt 0 p.pad) if_padding
    (pick (nat_lt 0 p.begun) if_header
    (pick (p.fault == 0) if_first if_passed))))

-- THE PROGRESS AFTER ONE WORD, but for its differences
unfoldable pub next : Progress → ℕ → Progress
next p x = by_word p (past p) (extra p) (padding p) (headed p x) (started p x) (passed p)

-- a write is made unless there is a fault so far, its own included, or its mask is 0
abbrev pub sound : ℕ → Write → List Write
sound fault w = pick (fault == 0) (kept (w ∷ [])) []

-- THE WRITES THAT A WORD MAKES: an extra parameter its own, a header the first parameter's; at most one
unfoldable pub makes : Progress → ℕ → List Write
makes p x =
    by_word p []
    (sound (extra p).fault (writing (plus p.id p.step) p.mask x))
    []
    (sound (headed p x).fault (writing (id_of x) (mask_of x) p.first))
    []
    []

-- THE PROGRESS AFTER A PART, word by word, but for its differences; and the writes that the part makes
unfoldable pub after : Progress → List ℕ → Progress
after p [] = p
after p (x ∷ l) = after (next p x) l

unfoldable pub made : Progress → List ℕ → List Write
made p [] = []
made p (x ∷ l) = makes p x ++ made (next p x) l

-- how many words have come, held at 65,537; of a progress that a call made they are held already
abbrev pub held_at : ℕ → ℕ
held_at n = pick (nat_lt 65536 n) 65537 n

abbrev pub counted : Progress → Progress
counted p = moved p (held_at p.come) p.id p.left p.pad p.fault

-- p with this many differences, the rest as it was
abbrev pub tallied : Progress → ℕ → Progress
tallied p d =
    record {
      come = p.come;
      place = p.place;
      begun = p.begun;
      first = p.first;
      id = p.id;
      mask = p.mask;
      step = p.step;
      left = p.left;
      pad = p.pad;
      writes = p.writes;
      fault = p.fault;
      differences = d;
    }

-- THE PROGRESS AFTER A PART THAT IS FED to the state s: its differences rise by those of the writes that the words make, each judged on the
-- state left by those before it
abbrev pub onward : Progress → State → List ℕ → Progress
onward p s part = tallied (after p part) (plus p.differences (differences s (made p part)))

-- no word of the command that is followed is still to come
abbrev pub between : Progress → Bool
between p = p.left == 0 && p.pad == 0 && p.begun == 0

-- the number that a fault is refused by: 3, 4 or 5, also where a progress that no call made has another
abbrev pub fault_number : ℕ → ℕ
fault_number f = pick (f == 3) 3 (pick (f == 4) 4 5)

-- what the commands so far say, were the list to end here: 2, where the command that is followed lacks words, whatever its own writes; then
-- the fault, at its command's first word; else the number of writes
abbrev pub judged_so_far : Progress → Answer
judged_so_far p =
    pick (between p)
    (pick (p.fault == 0) (answered p.writes) (refused (fault_number p.fault) p.place))
    (refused 2 p.place)

-- THE VERDICT AT THE CLOSE: 1; then 15, where the words that have come aren't a multiple of 4; then what the commands say
unfoldable pub closing : Progress → Answer
closing p =
    pick (nat_lt 65536 p.come) (refused 1 0) (pick (p.come % 4 == 0) (judged_so_far p) (refused 15 0))
