-- The reader of a list that arrives in pieces, as the twelve words that a C caller keeps: the progress of the reading, its fields in their
-- order. Any twelve words are a progress.
use Rattle.std.specs.Prelude.{List, [], ◌∷◌, ℕ, get_or}
use Rattle.parts.specs.declared.Progress.{Progress}
use Rattle.std.specs.Prelude.{Result, Ok, Err}
use Rattle.words.specs.declared.Refusal.{Refusal}

abbrev pub progress_of : List ℕ → Progress
progress_of ws =
    record {
      come = get_or ws 0 0;
      place = get_or ws 1 0;
      begun = get_or ws 2 0;
      first = get_or ws 3 0;
      id = get_or ws 4 0;
      mask = get_or ws 5 0;
      step = get_or ws 6 0;
      left = get_or ws 7 0;
      pad = get_or ws 8 0;
      writes = get_or ws 9 0;
      fault = get_or ws 10 0;
      differences = get_or ws 11 0;
    }

abbrev pub words_of : Progress → List ℕ
words_of p =
    p.come ∷ p.place ∷ p.begun ∷ p.first ∷ p.id ∷ p.mask ∷ p.step ∷ p.left ∷ p.pad ∷ p.writes ∷ p.fault
    ∷ p.differences ∷ []

-- pica_open, pica_feed: the progress to go on from; untouched on a refusal
abbrev pub reader_after : Result Progress Refusal → List ℕ → List ℕ
reader_after (Ok p) old = words_of p
reader_after (Err r) old = old
