-- The reader finds in a packed list the commands that were laid out, and in them the writes. Assumes nothing.
use mathlib.Core.Path.{◌≡◌, refl, sym, ap, ◌∙◌}
use mathlib.Core.Bool.{true}
use mathlib.Core.List.{List, [], ◌∷◌, ◌++◌}
use Prim.Native.Nat.{ℕ, zero, suc, ◌+◌, ◌-◌, ◌≤◌, ◌<◌}
use native.Mathlib.Omega.{arith}
use lib.ListN.{length, get_or, take, drop, length-append, length-drop, take-append-drop, get_or-append}
use lib.Seq.{drop-drop, drop_at, get_or-drop}
use borrow.Author.Tests.{le-leb, ne_eqb}
use Rattle.words.specs.Header.{mask_of, count_of, step_of, words_of}
use Rattle.words.specs.Writes.{Write, writing, values_in}
use Rattle.words.specs.Commands.{header_at, param_at, run, expand, commands, join, full}
use Rattle.words.proofs.Laws.{commands_end, commands_step, join_none, join_more, full_none, full_more}
use Rattle.cuts.specs.Cuts.{words, first, sizes}
use Rattle.cuts.proofs.Rests.{by_rests}
use Rattle.cuts.proofs.Steps.{sizes_nil, sizes_cons}
use Rattle.runs.specs.Span.{chain, span}
use Rattle.runs.specs.PackedList.{step_for, header, command, OneCommand, packed}
use Rattle.runs.specs.Shortest.{carried, Tidy, AllTidy}
use Rattle.runs.proofs.Chain.{spans, chain_fits, chain_next, step_lone, step_chain}
use Rattle.runs.proofs.Command.{Parts, header_parts, command_extra, command_pad}
use Rattle.runs.proofs.PackedList.{packed_none, packed_more, first_command}

-- every id and mask has its place in a header
abbrev pub Plain : List Write → Type 0
Plain [] = Unit {0}
Plain (w ∷ l) = (w.id < 0x10000) × (w.mask < 16) × Plain l

pub plain_drop : (k : ℕ) (l : List Write) → Plain l → Plain (drop k l)
plain_drop zero l p = p
plain_drop (suc k) [] p = p
plain_drop (suc k) (w ∷ l) p = plain_drop k l p.2

-- A COMMAND'S WRITES: where its parameters are the values of a chain, they are that chain
module _ (L : List ℕ) (at : ℕ) where
  -- its parameters from j on are these values
  abbrev Gives : ℕ → ℕ → List Write → Type 0
  Gives n j ws = (x : ℕ) → x ≤ n → param_at L at (j + x) ≡ get_or (values_in ws) x 0

  one_takes : (n j : ℕ) (w : Write) (l : List Write) → mask_of (header_at L at) ≡ w.mask → Gives n j (w ∷ l)
      → writing w.id (mask_of (header_at L at)) (param_at L at j) ≡ w
  one_takes n j w l m p = let e : j + 0 ≡ j = omega arith in let v = rw e at (p 0 (omega arith)) in rw (m, v)

  run_takes : (n j : ℕ) (w : Write) (l : List Write) → mask_of (header_at L at) ≡ w.mask
      → suc n ≤ chain (step_of (header_at L at)) (w ∷ l) → Gives n j (w ∷ l) → run L at (suc n) j w.id ≡ take (suc n) (w ∷ l)
  unfolding run
  run_takes zero j w l m c p = ap (λ (x : Write). x ∷ []) (one_takes zero j w l m p)
  run_takes (suc n) j w [] m c p = absurd (omega (arith, chain_fits (step_of (header_at L at)) (w ∷ [])))
  run_takes (suc n) j w (b ∷ l) m c p =
      let d = chain_next (step_of (header_at L at)) w b l n c in
      let later : Gives n (j + 1) (b ∷ l) = λ x h. let f : j + 1 + x ≡ j + suc x = omega arith in rw f (p (suc x) (omega arith)) in
      let rest = ap (run L at (suc n) (j + 1)) (sym d.0) ∙ run_takes n (j + 1) b l (m ∙ sym d.1) d.2 later in
      ap (λ (x : Write). x ∷ run L at (suc n) (j + 1) (w.id + step_of (header_at L at))) (one_takes (suc n) j w (b ∷ l) m p)
      ∙ ap (λ (x : List Write). w ∷ x) rest

-- these commands are well formed, and say a run in commands of its sizes
pub record Finds (L : List ℕ) (ps : List ℕ) (ws : List Write) : Type 0 where
  pub form : full L ps ≡ true
  pub writes : join L ps ≡ ws
  pub sizes : carried L ps ≡ sizes span ws
  pub tidy : AllTidy L ps

-- where the packed list of a run stands in a list, the commands from there on are its own
abbrev Stands : List Write → Type 0
Stands ws = (L : List ℕ) (at : ℕ) → drop at L ≡ packed ws → Plain ws → Finds L (commands L at) ws

finds_none : Stands []
finds_none L at e p =
    let n : length L - at ≡ 0 = sym (length-drop at L) ∙ ap length (e ∙ packed_none [] refl) in
    rw (commands_end L at (omega arith))
    (record { form = full_none L; writes = join_none L; sizes = sym (sizes_nil span [] refl); tidy = tt })

-- one command more
module _ (L : List ℕ) (at : ℕ) (a : Write) (l : List Write) (p : Plain (a ∷ l)) (k : ℕ) (f : OneCommand (a ∷ l) k) (R : List ℕ)
    (e : drop at L ≡ command k (a ∷ l) ++ R) where
  word : (j : ℕ) → get_or L (at + j) 0 ≡ get_or (command k (a ∷ l) ++ R) j 0
  word j = sym (get_or-drop at L j 0) ∙ ap (λ (x : List ℕ). get_or x j 0) e

  head : header_at L at ≡ header a.id a.mask k (step_for k (a ∷ l))
  head = word 1

  parts : Parts a.id a.mask k (step_for k (a ∷ l)) (header_at L at)
  parts =
      let s = step_chain k (a ∷ l) f.carried in
      rw head (header_parts a.id a.mask k (step_for k (a ∷ l)) p.0 p.1 f.low f.cap s.1)

  inside : at + words k ≤ length L
  inside = let n = sym (length-drop at L) ∙ ap length e ∙ length-append (command k (a ∷ l)) R in omega (arith, f.long, n, f.low)

  taken : words_of (header_at L at) ≡ words k
  taken = omega (arith, parts.count)

  rest : drop (at + words_of (header_at L at)) L ≡ R
  rest = rw (taken, ← drop-drop (words k) at L, e) (drop_at (command k (a ∷ l)) R (words k) f.long)

  gives : (n : ℕ) → n < k → Gives L at n 0 (a ∷ l)
  gives n h zero q = let z : at ≡ at + 0 = omega arith in rw z (word 0)
  gives n h (suc x) q =
      let z : 0 + suc x ≡ suc x = omega arith in
      let y : at + 1 + suc x ≡ at + (suc x + 1) = omega arith in
      rw (z, ne_eqb (suc x) 0 (λ u. omega arith), y)
      (word (suc x + 1)
      ∙ get_or-append (command k (a ∷ l)) R 0 (suc x + 1) (omega (arith, f.long))
      ∙ command_extra k a l f.low f.fits (suc x) (omega arith) (omega arith))

  expands : expand L at ≡ take k (a ∷ l)
  expands = go k refl
    where
      go : (n : ℕ) → n ≡ k → expand L at ≡ take n (a ∷ l)
      go zero q = absurd (omega (arith, f.low))
      go (suc n) q =
          let s = step_chain k (a ∷ l) f.carried in
          let c : count_of (header_at L at) + 1 ≡ suc n = omega (arith, parts.count) in
          rw (c, parts.id)
          (run_takes L at n 0 a l parts.mask (rw parts.step (omega (arith, s.0))) (gives n (omega arith)))

  tidied : Tidy L at
  tidied =
      let c = parts.count in
      let s = step_chain k (a ∷ l) f.carried in
      record {
        lone = λ q. parts.step ∙ step_lone k a l (omega arith);
        unused = rw head (omega (arith, p.0, p.1, s.1, f.low, f.cap));
        padding =
            λ q.
            let z : at + 2 + count_of (header_at L at) ≡ at + (k + 1) = omega arith in
            rw z
            (word (k + 1)
            ∙ get_or-append (command k (a ∷ l)) R 0 (k + 1) (omega (arith, f.long))
            ∙ command_pad k a l f.low f.fits (omega arith));
      }

  finds_more : Finds L (commands L (at + words k)) (drop k (a ∷ l)) → sizes span (a ∷ l) ≡ k ∷ sizes span (drop k (a ∷ l))
      → Finds L (commands L at) (a ∷ l)
  finds_more s z =
      let n : at + words_of (header_at L at) ≤ length L = omega (arith, taken, inside) in
      let ps = commands L (at + words k) in
      rw (commands_step L at (omega (arith, inside)), taken)
      (record {
        form = full_more L at ps ∙ rw (le-leb (at + words_of (header_at L at)) (length L) n) s.form;
        writes = join_more L at ps ∙ rw (expands, s.writes) (take-append-drop k (a ∷ l));
        sizes = rw (z, parts.count, s.sizes);
        tidy = (tidied, s.tidy);
      })

finds_some : (a : Write) (l : List Write) → ((k : ℕ) → 1 ≤ k → Stands (drop k (a ∷ l))) → Stands (a ∷ l)
finds_some a l ih L at e p =
    let h : 1 ≤ length (a ∷ l) = omega arith in
    let k = first span (a ∷ l) in
    let f = first_command (a ∷ l) h in
    let d = e ∙ packed_more (a ∷ l) h in
    let r = rw (taken L at a l p k f _ d) at (rest L at a l p k f _ d) in
    finds_more L at a l p k f (packed (drop k (a ∷ l))) d (ih k f.low L (at + words k) r (plain_drop k (a ∷ l) p)) (sizes_cons spans a l)

-- THE ROUND TRIP
pub packed_finds : (ws : List Write) → Plain ws → Finds (packed ws) (commands (packed ws) 0) ws
packed_finds ws p = by_rests Stands finds_none finds_some ws (packed ws) 0 refl p
