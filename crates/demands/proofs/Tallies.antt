-- What words lead to and make doesn't go by the differences counted so far, nor does the verdict at the close. Assumes nothing.
use mathlib.Core.Path.{◌≡◌, refl, sym, ap, ◌∙◌}
use mathlib.Core.Bool.{Bool, true, false}
use mathlib.Core.List.{List, [], ◌∷◌, ◌++◌}
use Prim.Native.Nat.{ℕ}
use lib.Dec.{eqb, ltb}
use Rattle.numbers.specs.Pick.{pick}
use Rattle.words.specs.Writes.{Write}
use Rattle.parts.specs.Progress.{past, extra, padding, headed, started, passed, next, makes, after, made, tallied, closing}
use Rattle.parts.specs.declared.Progress.{Progress}
use Rattle.parts.proofs.Steps.{after_none, after_more, made_none, made_more}

-- a choice that is tallied
tallied_by : (d : ℕ) (a b c e f : Bool) (p q r s t u : Progress)
    → pick a (tallied p d) (pick b (tallied q d) (pick c (tallied r d) (pick e (tallied s d) (pick f (tallied t d) (tallied u d)))))
    ≡ tallied (pick a p (pick b q (pick c r (pick e s (pick f t u))))) d
tallied_by d true b c e f p q r s t u = refl
tallied_by d false true c e f p q r s t u = refl
tallied_by d false false true e f p q r s t u = refl
tallied_by d false false false true f p q r s t u = refl
tallied_by d false false false false true p q r s t u = refl
tallied_by d false false false false false p q r s t u = refl

next_tallied : (p : Progress) (d x : ℕ) → next (tallied p d) x ≡ tallied (next p x) d
unfolding next
next_tallied p d x =
    tallied_by d (ltb 65535 p.come) (ltb 0 p.left) (ltb 0 p.pad) (ltb 0 p.begun) (eqb p.fault 0)
    (past p) (extra p) (padding p) (headed p x) (started p x) (passed p)

makes_tallied : (p : Progress) (d x : ℕ) → makes (tallied p d) x ≡ makes p x
unfolding makes
makes_tallied p d x = refl

pub after_tallied : (p : Progress) (d : ℕ) (l : List ℕ) → after (tallied p d) l ≡ tallied (after p l) d
after_tallied p d [] = after_none (tallied p d) ∙ ap (λ (q : Progress). tallied q d) (sym (after_none p))
after_tallied p d (x ∷ l) =
    after_more (tallied p d) x l
    ∙ rw (next_tallied p d x) (after_tallied (next p x) d l)
    ∙ ap (λ (q : Progress). tallied q d) (sym (after_more p x l))

pub made_tallied : (p : Progress) (d : ℕ) (l : List ℕ) → made (tallied p d) l ≡ made p l
made_tallied p d [] = made_none (tallied p d) ∙ sym (made_none p)
made_tallied p d (x ∷ l) =
    made_more (tallied p d) x l
    ∙ ap (λ (ws : List Write). ws ++ made (next (tallied p d) x) l) (makes_tallied p d x)
    ∙ ap (λ (ws : List Write). makes p x ++ ws)
    (ap (λ (q : Progress). made q l) (next_tallied p d x) ∙ made_tallied (next p x) d l)
    ∙ sym (made_more p x l)

pub closing_tallied : (p : Progress) (d : ℕ) → closing (tallied p d) ≡ closing p
unfolding closing
closing_tallied p d = refl
