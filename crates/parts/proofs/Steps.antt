-- What a word does, by the tests that code makes, and what a part does, word by word. Assumes nothing.
use Rattle.std.proofs.Common.{◌≡◌, ℕ, ◌<◌, ◌≤◌, Bool, true, false, eqb, ltb, List, [], ◌∷◌, ◌++◌, length, sym, refl, ◌∙◌, append_assoc, arith, le-ltb, lt-ltb, eq-eqb, ne_eqb}
use Rattle.numbers.specs.Pick.{pick}
use Rattle.words.specs.Header.{id_of, mask_of}
use Rattle.words.specs.Writes.{Write, writing, kept}
use Rattle.words.proofs.Laws.{kept_few}
use Rattle.parts.specs.Progress.{plus, past, extra, padding, headed, started, passed, next, sound, makes, after, made}
use Rattle.parts.specs.declared.Progress.{Progress}

-- the word x takes the progress p to q, and makes the writes ws
pub record Takes (p : Progress) (x : ℕ) (q : Progress) (ws : List Write) : Type 0 where
  pub progress : next p x ≡ q
  pub writes : makes p x ≡ ws

module _ (p : Progress) (x : ℕ) where
  pub takes_past : 65535 < p.come → Takes p x (past p) []
  unfolding next makes
  takes_past a = let t = lt-ltb 65535 p.come a in record { progress = rw t; writes = rw t }

  pub takes_extra : p.come ≤ 65535 → 0 < p.left
      → Takes p x (extra p) (sound (extra p).fault (writing (plus p.id p.step) p.mask x))
  unfolding next makes
  takes_extra a b =
      let t = le-ltb 65535 p.come a in
      let u = lt-ltb 0 p.left b in record { progress = rw (t, u); writes = rw (t, u) }

  pub takes_padding : p.come ≤ 65535 → p.left ≤ 0 → 0 < p.pad → Takes p x (padding p) []
  unfolding next makes
  takes_padding a b c =
      let t = le-ltb 65535 p.come a in
      let u = le-ltb 0 p.left b in
      let v = lt-ltb 0 p.pad c in record { progress = rw (t, u, v); writes = rw (t, u, v) }

  pub takes_header : p.come ≤ 65535 → p.left ≤ 0 → p.pad ≤ 0 → 0 < p.begun
      → Takes p x (headed p x) (sound (headed p x).fault (writing (id_of x) (mask_of x) p.first))
  unfolding next makes
  takes_header a b c d =
      let t = le-ltb 65535 p.come a in
      let u = le-ltb 0 p.left b in
      let v = le-ltb 0 p.pad c in
      let w = lt-ltb 0 p.begun d in record { progress = rw (t, u, v, w); writes = rw (t, u, v, w) }

  pub takes_first : p.come ≤ 65535 → p.left ≤ 0 → p.pad ≤ 0 → p.begun ≤ 0 → p.fault ≡ 0 → Takes p x (started p x) []
  unfolding next makes
  takes_first a b c d e =
      let t = le-ltb 65535 p.come a in
      let u = le-ltb 0 p.left b in
      let v = le-ltb 0 p.pad c in
      let w = le-ltb 0 p.begun d in
      let z = eq-eqb p.fault 0 e in record { progress = rw (t, u, v, w, z); writes = rw (t, u, v, w, z) }

  pub takes_nothing : p.come ≤ 65535 → p.left ≤ 0 → p.pad ≤ 0 → p.begun ≤ 0 → (p.fault ≡ 0 → ⊥) → Takes p x (passed p) []
  unfolding next makes
  takes_nothing a b c d e =
      let t = le-ltb 65535 p.come a in
      let u = le-ltb 0 p.left b in
      let v = le-ltb 0 p.pad c in
      let w = le-ltb 0 p.begun d in
      let z = ne_eqb p.fault 0 e in record { progress = rw (t, u, v, w, z); writes = rw (t, u, v, w, z) }

  -- at most one write
  pub makes_most : length (makes p x) ≤ 1
  unfolding makes
  makes_most = go (ltb 65535 p.come) (ltb 0 p.left) (ltb 0 p.pad) (ltb 0 p.begun) (eqb p.fault 0)
    where
      one : (f : Bool) (w : Write) → length (pick f (kept (w ∷ [])) []) ≤ 1
      one true w = kept_few (w ∷ [])
      one false w = omega arith

      go : (a b c d e : Bool)
          → length (pick a [] (pick b (sound (extra p).fault (writing (plus p.id p.step) p.mask x)) (pick c []
          (pick d (sound (headed p x).fault (writing (id_of x) (mask_of x) p.first)) (pick e [] []))))) ≤ 1
      go true b c d e = omega arith
      go false true c d e = one (eqb (extra p).fault 0) _
      go false false true d e = omega arith
      go false false false true e = one (eqb (headed p x).fault 0) _
      go false false false false true = omega arith
      go false false false false false = omega arith

-- A PART

pub after_none : (p : Progress) → after p [] ≡ p
unfolding after
after_none p = refl

pub after_more : (p : Progress) (x : ℕ) (l : List ℕ) → after p (x ∷ l) ≡ after (next p x) l
unfolding after
after_more p x l = refl

pub made_none : (p : Progress) → made p [] ≡ []
unfolding made
made_none p = refl

pub made_more : (p : Progress) (x : ℕ) (l : List ℕ) → made p (x ∷ l) ≡ makes p x ++ made (next p x) l
unfolding made
made_more p x l = refl

-- TWO PARTS, one after another, are the joined part
pub after_append : (p : Progress) (a b : List ℕ) → after p (a ++ b) ≡ after (after p a) b
after_append p [] b = rw (after_none p)
after_append p (x ∷ a) b = after_more p x (a ++ b) ∙ after_append (next p x) a b ∙ rw (after_more p x a)

pub made_append : (p : Progress) (a b : List ℕ) → made p (a ++ b) ≡ made p a ++ made (after p a) b
made_append p [] b = rw (made_none p, after_none p)
made_append p (x ∷ a) b =
    made_more p x (a ++ b)
    ∙ rw (made_append (next p x) a b, made_more p x a, after_more p x a)
    (sym (append_assoc (makes p x) (made (next p x) a) (made (after (next p x) a) b)))
