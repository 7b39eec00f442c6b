-- What an answer of `head_at` says, and what it is. Assumes nothing.
use mathlib.Core.Path.{◌≡◌, refl}
use mathlib.Core.Bool.{Bool, true, false}
use mathlib.Core.List.{List}
use Prim.Native.Nat.{ℕ, ◌+◌, ◌≤◌, ◌<◌}
use native.Mathlib.Omega.{arith}
use lib.ListN.{length}
use borrow.Author.Tests.{leb-true, leb-false, le-leb, lt-leb}
use Rattle.numbers.specs.Pick.{pick}
use Rattle.words.specs.Header.{id_of, mask_of, count_of, step_of, words_of}
use Rattle.words.specs.Commands.{header_at, whole}
use Rattle.words.specs.Taken.{parts_of, head_of, told, head_numbers}
use Rattle.std.specs.Prelude.{Result, Ok, Err}
use Rattle.words.specs.declared.Header.{Header}
use Rattle.words.specs.declared.Reason.TheVariants.{WordsMissing}
use Rattle.words.specs.declared.Refusal.{Refusal}

abbrev taken : List ℕ → ℕ → Result Header Refusal
taken l at = Ok (parts_of (header_at l at))

abbrev lacking : ℕ → Result Header Refusal
lacking at = Err (record { reason = WordsMissing; place = at })

pub head_short : (l : List ℕ) (at : ℕ) → length l < at + words_of (header_at l at) → head_of l at ≡ lacking at
unfolding head_of
head_short l at h = rw (lt-leb (at + words_of (header_at l at)) (length l) h)

pub head_whole : (l : List ℕ) (at : ℕ) → at + words_of (header_at l at) ≤ length l → head_of l at ≡ taken l at
unfolding head_of
head_whole l at h = rw (le-leb (at + words_of (header_at l at)) (length l) h)

-- the answer's numbers are the document's
by_whole : (l : List ℕ) (at : ℕ) (b : Bool)
    → told (pick b (taken l at) (lacking at)) ≡ pick b (told (taken l at)) (told (lacking at))
by_whole l at true = refl
by_whole l at false = refl

pub head_told : (l : List ℕ) (at : ℕ) (r : Result Header Refusal) → r ≡ head_of l at → (r ≡ head_of l at) × (told r ≡ head_numbers l at)
unfolding head_of head_numbers
head_told l at r e = (e, rw e (by_whole l at (whole l at)))

-- a header is its four parts
made : ℕ → ℕ → ℕ → ℕ → Header
made i m n s = record { id = i; mask = m; count = n; step = s }

pub header_one : (w : ℕ) (h : Header) → h.id ≡ id_of w → h.mask ≡ mask_of w → h.count ≡ count_of w → h.step ≡ step_of w → h ≡ parts_of w
unfolding made
header_one w h i m n s =
    let e : made h.id h.mask h.count h.step ≡ made (id_of w) (mask_of w) (count_of w) (step_of w) = rw (i, m, n, s) in e

-- a header that was taken apart: the command's words are there, and these are its parts
pub record Whole (l : List ℕ) (at : ℕ) (h : Header) : Type 0 where
  pub fits : at + words_of (header_at l at) ≤ length l
  pub id : h.id ≡ id_of (header_at l at)
  pub mask : h.mask ≡ mask_of (header_at l at)
  pub count : h.count ≡ count_of (header_at l at)
  pub step : h.step ≡ step_of (header_at l at)

by_taken : (l : List ℕ) (at : ℕ) (h : Header) (b : Bool) → whole l at ≡ b
    → pick b (taken l at) (lacking at) ≡ Ok h → Whole l at h
by_taken l at h true t e = record { fits = leb-true _ _ t; id = cc; mask = cc; count = cc; step = cc }
by_taken l at h false t e = let z : ◌≡◌ {A = ℕ} 0 1 = cc in absurd (omega arith)

pub whole_of : (l : List ℕ) (at : ℕ) (h : Header) → head_of l at ≡ Ok h → Whole l at h
unfolding head_of
whole_of l at h e = by_taken l at h (whole l at) refl e

by_refused : (l : List ℕ) (at : ℕ) (r : Refusal) (b : Bool) → whole l at ≡ b
    → pick b (taken l at) (lacking at) ≡ Err r → length l < at + words_of (header_at l at)
by_refused l at r true t e = let z : ◌≡◌ {A = ℕ} 0 1 = cc in absurd (omega arith)
by_refused l at r false t e = leb-false _ _ t

pub short_of : (l : List ℕ) (at : ℕ) (r : Refusal) → head_of l at ≡ Err r → length l < at + words_of (header_at l at)
unfolding head_of
short_of l at r e = by_refused l at r (whole l at) refl e
