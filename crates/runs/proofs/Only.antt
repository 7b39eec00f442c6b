-- The rule names one list: two shortest lists of a run, of 32-bit words, are equal; so are the lists before filling. Assumes nothing.
use mathlib.Core.Path.{◌≡◌, sym, ap, ◌∙◌}
use mathlib.Core.Bool.{true}
use mathlib.Core.List.{List, ◌∷◌, ◌++◌}
use Prim.Native.Nat.{ℕ, zero, suc, ◌+◌, ◌*◌, ◌-◌, ◌/◌, ◌%◌, ◌≤◌, ◌<◌}
use native.Mathlib.Decide.{dec_lt, dec_le}
use native.Mathlib.Omega.{arith}
use lib.ListN.{length, get_or, take, drop, get_or-eq_default, get_or-append}
use lib.Seq.{take_at, drop_at, ext_get_or}
use borrow.Author.Tests.{ne_eqb}
use Rattle.numbers.proofs.Tests.{and_true}
use Rattle.words.specs.Header.{id_of, mask_of, count_of, step_of, words_of}
use Rattle.words.specs.Writes.{Write, writing}
use Rattle.words.specs.Commands.{header_at, param_at, whole, run, expand, commands, join, full}
use Rattle.words.proofs.Laws.{commands_step, run_length, all_of, join_more, formed_of, full_more}
use Rattle.cuts.proofs.Most.{most_once}
use Rattle.runs.specs.PackedList.{filling, filled}
use Rattle.runs.specs.Shortest.{carried, sizes_of, Tidy, AllTidy, Rule, Shortest, Words32}
use Rattle.runs.proofs.Places.{by_places}

-- a header with no unused bits is its parts
sum : (h a b c i m n s : ℕ) → h ≡ a * 0x10000 + i → a ≡ b * 16 + m → b ≡ c * 256 + n → c ≡ s * 8
    → h ≡ i + m * 0x10000 + n * 0x100000 + s * 0x80000000
sum h a b c i m n s p q r t = omega arith

low : (h : ℕ) → h ≡ h / 0x10000 * 0x10000 + id_of h
low h = omega arith

next : (h : ℕ) → h / 0x10000 ≡ h / 0x100000 * 16 + mask_of h
next h = omega arith

high : (h : ℕ) → h / 0x100000 ≡ h / 0x10000000 * 256 + count_of h
high h = omega arith

top : (h : ℕ) → h < 0x100000000 → h / 0x10000000 % 8 ≡ 0 → h / 0x10000000 ≡ step_of h * 8
top h p u = omega arith

header_sum : (h : ℕ) → h < 0x100000000 → h / 0x10000000 % 8 ≡ 0
    → h ≡ id_of h + mask_of h * 0x10000 + count_of h * 0x100000 + step_of h * 0x80000000
header_sum h p u =
    sum h (h / 0x10000) (h / 0x100000) (h / 0x10000000) (id_of h) (mask_of h) (count_of h) (step_of h) (low h) (next h) (high h) (top h p u)

first : List Write → Write
first l = get_or l 0 (writing 0 0 0)

-- TWO COMMANDS AT ONE PLACE that say the same writes
module _ (l k : List ℕ) (at : ℕ) where
  run_param : (n j i i' : ℕ) → run l at n j i ≡ run k at n j i' → (x : ℕ) → x < n → param_at l at (j + x) ≡ param_at k at (j + x)
  unfolding run first
  run_param zero j i i' e x h = absurd (omega arith)
  run_param (suc n) j i i' e zero h = let z : j + 0 ≡ j = omega arith in rw z (ap (λ (w : List Write). (first w).value) e)
  run_param (suc n) j i i' e (suc x) h =
      let z : j + suc x ≡ j + 1 + x = omega arith in rw z (run_param n (j + 1) _ _ (ap (drop 1) e) x (omega arith))

  run_first : (n j i i' : ℕ) → 1 ≤ n → run l at n j i ≡ run k at n j i' → (i ≡ i') × (mask_of (header_at l at) ≡ mask_of (header_at k at))
  unfolding run first
  run_first zero j i i' h e = absurd (omega arith)
  run_first (suc n) j i i' h e = (ap (λ (w : List Write). (first w).id) e, ap (λ (w : List Write). (first w).mask) e)

  run_second : (n j i i' : ℕ) → 2 ≤ n → run l at n j i ≡ run k at n j i' → i + step_of (header_at l at) ≡ i' + step_of (header_at k at)
  unfolding run
  run_second zero j i i' h e = absurd (omega arith)
  run_second (suc n) j i i' h e = (run_first n (j + 1) _ _ (omega arith) (ap (drop 1) e)).0

  -- a command that says the same writes, with as many parameters, both tidy, has the same words
  module _ (p : header_at l at < 0x100000000) (q : header_at k at < 0x100000000) (c : count_of (header_at l at) ≡ count_of (header_at k at))
      (e : expand l at ≡ expand k at) (t : Tidy l at) (u : Tidy k at) where
    abbrev n : ℕ
    n = count_of (header_at l at) + 1

    runs : run l at n 0 (id_of (header_at l at)) ≡ run k at n 0 (id_of (header_at k at))
    runs = rw (← c) at e

    by_size : Dec (2 ≤ n) → step_of (header_at l at) ≡ step_of (header_at k at)
    by_size (yes h) =
        let i = (run_first n 0 _ _ (omega arith) runs).0 in
        let s = run_second n 0 _ _ h runs in
        omega arith
    by_size (no h) = t.lone (omega arith) ∙ sym (u.lone (omega arith))

    same_header : header_at l at ≡ header_at k at
    same_header =
        let f = run_first n 0 _ _ (omega arith) runs in
        let s = by_size (dec_le 2 n) in
        header_sum (header_at l at) p t.unused ∙ rw (f.0, f.1, c, s) (sym (header_sum (header_at k at) q u.unused))

    param : (x : ℕ) → x < n → param_at l at x ≡ param_at k at x
    param x h = let z : 0 + x ≡ x = omega arith in rw z at (run_param n 0 _ _ runs x h)

    pub same_word : (x : ℕ) → x < words_of (header_at l at) → get_or l (at + x) 0 ≡ get_or k (at + x) 0
    same_word zero h = let z : at + 0 ≡ at = omega arith in rw z (param 0 (omega arith))
    same_word (suc zero) h = same_header
    same_word (suc (suc x)) h = go (dec_lt (suc x) n)
      where
        go : Dec (suc x < n) → get_or l (at + suc (suc x)) 0 ≡ get_or k (at + suc (suc x)) 0
        go (yes v) =
            let z : at + suc (suc x) ≡ at + 1 + suc x = omega arith in
            rw z (rw (ne_eqb (suc x) 0 (λ w. omega arith)) at (param (suc x) v))
        go (no v) =
            let z : at + suc (suc x) ≡ at + 2 + count_of (header_at l at) = omega arith in
            rw z (t.padding (omega arith) ∙ rw c (sym (u.padding (omega arith))))

-- TWO LISTS OF ONE LENGTH whose commands from a place on are alike
module _ (l k : List ℕ) (long : length l ≡ length k) (p : Words32 l) (q : Words32 k) where
  record Alike (ps qs : List ℕ) : Type 0 where
    form : full l ps ≡ true
    form' : full k qs ≡ true
    sizes : carried l ps ≡ carried k qs
    writes : join l ps ≡ join k qs
    tidy : AllTidy l ps
    tidy' : AllTidy k qs

  abbrev Agree : ℕ → Type 0
  Agree at = (x : ℕ) → at ≤ x → get_or l x 0 ≡ get_or k x 0

  abbrev From : ℕ → Type 0
  From at = Alike (commands l at) (commands k at) → Agree at

  end : (at : ℕ) → length l ≤ at → From at
  end at h A x g = get_or-eq_default l 0 (omega arith) ∙ sym (get_or-eq_default k 0 (omega arith))

  step : (at : ℕ) → at < length l → From (at + words_of (header_at l at)) → From at
  step at h rest A x g = go (dec_lt x next)
    where
      next : ℕ
      next = at + words_of (header_at l at)

      B : Alike (at ∷ commands l next) (at ∷ commands k (at + words_of (header_at k at)))
      B = rw (← commands_step l at h, ← commands_step k at (omega arith)) A

      count : count_of (header_at l at) ≡ count_of (header_at k at)
      count = let e = ap (λ (s : List ℕ). get_or s 0 0) B.sizes in omega arith

      over : at + words_of (header_at k at) ≡ next
      over = rw (← count)

      n : ℕ
      n = count_of (header_at l at) + 1

      left : length (expand l at) ≡ n
      left = run_length l at n 0 (id_of (header_at l at))

      right : length (expand k at) ≡ n
      right = run_length k at (count_of (header_at k at) + 1) 0 (id_of (header_at k at)) ∙ omega (arith, count)

      both : expand l at ++ join l (commands l next) ≡ expand k at ++ join k (commands k (at + words_of (header_at k at)))
      both = sym (join_more l at (commands l next)) ∙ B.writes ∙ join_more k at (commands k (at + words_of (header_at k at)))

      this : expand l at ≡ expand k at
      this = sym (take_at (expand l at) _ n left) ∙ ap (take n) both ∙ take_at (expand k at) _ n right

      others : join l (commands l next) ≡ join k (commands k (at + words_of (header_at k at)))
      others = sym (drop_at (expand l at) _ n left) ∙ ap (drop n) both ∙ drop_at (expand k at) _ n right

      C : Alike (commands l next) (commands k (at + words_of (header_at k at)))
      C =
          record {
            form = (and_true (whole l at) _ (sym (full_more l at _) ∙ B.form)).1;
            form' = (and_true (whole k at) _ (sym (full_more k at _) ∙ B.form')).1;
            sizes = ap (drop 1) B.sizes;
            writes = others;
            tidy = B.tidy.1;
            tidy' = B.tidy'.1;
          }

      go : Dec (x < next) → get_or l x 0 ≡ get_or k x 0
      go (yes u) =
          let z : x ≡ at + (x - at) = omega arith in
          rw z (same_word l k at (p (at + 1)) (q (at + 1)) count this B.tidy.0 B.tidy'.0 (x - at) (omega arith))
      go (no u) = rest (rw over at C) x (omega arith)

-- DOCUMENT 01'S RULE NAMES ONE LIST before filling
pub rule_only : (ws : List Write) (l k : List ℕ) → Words32 l → Words32 k → Rule ws l → Rule ws k → l ≡ k
rule_only ws l k p q s u =
    let a = s.least k u.says in
    let b = u.least l s.says in
    let long : length l ≡ length k = omega arith in
    let m = most_once (sizes_of l) (sizes_of k) (s.most k u.says b) (u.most l s.says a) in
    let start : Alike l k long p q (commands l 0) (commands k 0) =
    record {
      form = sym (formed_of l) ∙ s.says.formed;
      form' = sym (formed_of k) ∙ u.says.formed;
      sizes = m;
      writes = sym (all_of l) ∙ s.says.writes ∙ sym u.says.writes ∙ all_of k;
      tidy = s.tidy;
      tidy' = u.tidy;
    } in
    ext_get_or 0 l k long (λ i h. by_places l (From l k long p q) (end l k long p q) (step l k long p q) 0 start i (omega arith))

-- the words of a list before filling are of 32 bits where those of the list are
pub words_before : (l : List ℕ) → Words32 (filled l) → Words32 l
unfolding filled
words_before l p j = go (dec_lt j (length l))
  where
    go : Dec (j < length l) → get_or l j 0 < 0x100000000
    go (yes h) = let e = get_or-append l (filling l) 0 j h in omega (arith, p j)
    go (no h) = let e = get_or-eq_default l 0 {n = j} (omega arith) in omega arith

-- THE RULE NAMES ONE LIST
pub shortest_only : (ws : List Write) (l k : List ℕ) → Words32 l → Words32 k → Shortest ws l → Shortest ws k → l ≡ k
shortest_only ws l k p q s u =
    let a = words_before s.unfilled (rw s.fills at p) in
    let b = words_before u.unfilled (rw u.fills at q) in
    s.fills ∙ ap filled (rule_only ws s.unfilled u.unfilled a b s.rule u.rule) ∙ sym u.fills
