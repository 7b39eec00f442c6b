-- What `decode` answers, by whether the state is decodable. Assumes nothing.
use mathlib.Core.Path.{◌≡◌, refl, ◌∙◌}
use mathlib.Core.Bool.{Bool, true, false, ◌&&◌}
use Prim.Native.Nat.{ℕ}
use lib.Dec.{eqb}
use Rattle.std.specs.Prelude.{Ok, Err}
use Rattle.numbers.specs.Pick.{pick}
use Rattle.numbers.proofs.Tests.{and_true}
use Rattle.registers.specs.State.{State, sized}
use Rattle.settings.specs.declared.records.Settings.{Settings}
use Rattle.words.specs.declared.Reason.TheVariants.{BufferLength, CodeWithoutName}
use Rattle.decode.specs.Decoded.{Decoded, settings_of, nameless_id, refusal, decoded_of, decodable, length_refusal, code_refusal, refusal_of}

by_tests : (a b : Bool) (x : Settings) (i : ℕ)
    → ◌≡◌ {A = Decoded} (pick a (pick b (Ok x) (refusal CodeWithoutName i)) (refusal BufferLength 0)) (pick (a && b) (Ok x) (Err (pick a (code_refusal i) length_refusal)))
by_tests true true x i = refl
by_tests true false x i = refl
by_tests false b x i = refl

module _ (s : State) where
  pub decodable_sized : decodable s ≡ true → sized s ≡ true
  unfolding decodable
  decodable_sized e = (and_true (sized s) (eqb (nameless_id s) 0) e).0

  decoded_by : decoded_of s ≡ pick (decodable s) (Ok (settings_of s)) (Err (refusal_of s))
  unfolding decoded_of decodable refusal_of
  decoded_by = by_tests (sized s) (eqb (nameless_id s) 0) (settings_of s) (nameless_id s)

  pub decodable_held : decodable s ≡ true → decoded_of s ≡ Ok (settings_of s)
  decodable_held e = decoded_by ∙ rw e

  pub else_refused : decodable s ≡ false → decoded_of s ≡ Err (refusal_of s)
  else_refused e = decoded_by ∙ rw e
