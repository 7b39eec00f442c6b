-- A command's words, one by one, and what stands in its header. Assumes nothing.
use mathlib.Core.Path.{◌≡◌, refl, ap, ◌∙◌}
use mathlib.Core.List.{List, ◌∷◌}
use Prim.Native.Nat.{ℕ, zero, suc, ◌+◌, ◌-◌, ◌%◌, ◌≤◌, ◌<◌}
use native.Mathlib.Omega.{arith}
use lib.ListN.{length, get_or, take, replicate, length-append, length-take, length-map, length-replicate, get_or-replicate, get_or-append}
use lib.Seq.{get_or-take, get_or-append-add}
use Rattle.words.specs.Header.{id_of, mask_of, count_of, step_of}
use Rattle.words.specs.Writes.{Write, values_in}
use Rattle.cuts.specs.Cuts.{words}
use Rattle.runs.specs.PackedList.{header, command}

-- WHAT STANDS IN A HEADER
pub record Parts (i m k s h : ℕ) : Type 0 where
  pub id : id_of h ≡ i
  pub mask : mask_of h ≡ m
  pub count : count_of h + 1 ≡ k
  pub step : step_of h ≡ s

pub header_parts : (i m k s : ℕ) → i < 0x10000 → m < 16 → 1 ≤ k → k ≤ 256 → s < 2 → Parts i m k s (header i m k s)
header_parts i m k s hi hm hk hk' hs = record { id = omega arith; mask = omega arith; count = omega arith; step = omega arith }

-- THE WORDS OF A COMMAND of k writes, where there are so many
module _ (k : ℕ) (w : Write) (l : List Write) (p : 1 ≤ k) (q : k ≤ suc (length l)) where
  extras : length (take (k - 1) (values_in l)) ≡ k - 1
  extras = length-take (k - 1) (values_in l) ∙ omega (arith, length-map l (λ (w : Write). w.value))

  pub command_length : length (command k (w ∷ l)) ≡ words k
  command_length =
      let n = length-append (take (k - 1) (values_in l)) (replicate ((k + 1) % 2) 0) in
      omega (arith, n, extras, length-replicate {A = ℕ} ((k + 1) % 2) 0)

  -- word j + 1 is parameter j, for the extra parameters
  pub command_extra : (j : ℕ) → 1 ≤ j → j < k → get_or (command k (w ∷ l)) (j + 1) 0 ≡ get_or (values_in (w ∷ l)) j 0
  command_extra zero u v = absurd (omega arith)
  command_extra (suc j) u v =
      let e : suc j + 1 ≡ suc (suc j) = omega arith in
      ap (λ (x : ℕ). get_or (command k (w ∷ l)) x 0) e
      ∙ get_or-append (take (k - 1) (values_in l)) (replicate ((k + 1) % 2) 0) 0 j (omega (arith, extras))
      ∙ get_or-take (k - 1) (values_in l) j 0 (omega arith)

  -- the padding word is 0
  pub command_pad : k % 2 ≡ 0 → get_or (command k (w ∷ l)) (k + 1) 0 ≡ 0
  command_pad e = pad k refl
    where
      xs : List ℕ
      xs = take (k - 1) (values_in l)

      pad : (n : ℕ) → n ≡ k → get_or (command k (w ∷ l)) (n + 1) 0 ≡ 0
      pad zero f = absurd (omega arith)
      pad (suc n) f =
          let g : suc n + 1 ≡ suc (suc (length xs + 0)) = omega (arith, extras) in
          ap (λ (x : ℕ). get_or (command k (w ∷ l)) x 0) g
          ∙ get_or-append-add xs (replicate ((k + 1) % 2) 0) 0 0
          ∙ get_or-replicate ((k + 1) % 2) 0 0 0 (omega arith)
