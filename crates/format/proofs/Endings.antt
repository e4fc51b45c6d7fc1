-- Request 06: a line's text and its ending, and bytes with their carriage returns taken out.
use Prim.Native.Nat.{ℕ, suc, ◌≤◌}
use native.Mathlib.Omega.{arith}
use mathlib.Core.Path.{◌≡◌, refl, ap, ◌∙◌, subst}
use mathlib.Core.Logic.{◌⊎◌, inl, inr}
use mathlib.Core.Bool.{Bool, true, false, cond, ◌&&◌, false≢true}
use mathlib.Core.Option.{none, some}
use mathlib.Core.List.{List, [], ◌∷◌, ◌++◌, map, Memᴰ}
use lib.Dec.{eqb}
use lib.ListN.{length}
use Rattle.limits.specs.Limits.{line_feed, carriage_return}
use Rattle.calculus.specs.Tools.{◌>>=◌, concat}
use Rattle.format.specs.Lines.{is_ending, text, without_returns}
use Rattle.calculus.proofs.Basic.{bind_some, none≢some, some_inj, bool_cases, and_true, eqb_eq}

-- the two endings
abbrev pub feed : List ℕ
feed = line_feed ∷ []

abbrev pub both : List ℕ
both = carriage_return ∷ line_feed ∷ []

-- ---- the text of bytes and an ending

-- two bytes and more before them are no ending
long : (y : ℕ) (u : List ℕ) (x c : ℕ) → is_ending (y ∷ (u ++ (x ∷ c ∷ []))) ≡ false
long y [] x c = refl
long y (z ∷ []) x c = refl
long y (z ∷ w ∷ u) x c = refl

-- a byte before an ending goes to the text
pub onto_text : (y : ℕ) (bs : List ℕ) {t : List ℕ} → is_ending (y ∷ bs) ≡ false → text bs ≡ some t → text (y ∷ bs) ≡ some (y ∷ t)
onto_text y bs n e = rw (n, e)

-- the bytes before a line feed are the text, but for one carriage return directly before it
pub text_last : (u : List ℕ) (x : ℕ) → text (u ++ (x ∷ feed)) ≡ some (cond (eqb x carriage_return) u (u ++ (x ∷ [])))
text_last [] x = go (bool_cases (eqb x carriage_return))
  where
    go : (eqb x carriage_return ≡ true) ⊎ (eqb x carriage_return ≡ false) → text (x ∷ feed) ≡ some (cond (eqb x carriage_return) [] (x ∷ []))
    go (inl t) = rw t
    go (inr t) = rw t
text_last (y ∷ u) x = onto_text y (u ++ (x ∷ feed)) (long y u x line_feed) (text_last u x) ∙ go (bool_cases (eqb x carriage_return))
  where
    go :
        (eqb x carriage_return ≡ true) ⊎ (eqb x carriage_return ≡ false)
        → some (y ∷ cond (eqb x carriage_return) u (u ++ (x ∷ []))) ≡ some (cond (eqb x carriage_return) (y ∷ u) (y ∷ (u ++ (x ∷ []))))
    go (inl t) = rw t
    go (inr t) = rw t

-- any text before both bytes
pub text_both : (t : List ℕ) → text (t ++ both) ≡ some t
text_both t = text_last t carriage_return

-- another last byte is no ending
pub text_none : (u : List ℕ) (x : ℕ) → eqb x line_feed ≡ false → text (u ++ (x ∷ [])) ≡ none
text_none [] x n = ap (λ b. cond b (some []) (text [] >>= λ t. some (x ∷ t))) n
text_none (y ∷ u) x n = onto_none (other u) (text_none u x n)
  where
    no_both : (a b : Bool) → b ≡ false → (a && b) ≡ false
    no_both true b e = e
    no_both false b e = refl

    other : (u : List ℕ) → is_ending (y ∷ (u ++ (x ∷ []))) ≡ false
    other [] = no_both (eqb y carriage_return) (eqb x line_feed) n
    other (z ∷ []) = refl
    other (z ∷ w ∷ u) = refl

    onto_none : is_ending (y ∷ (u ++ (x ∷ []))) ≡ false → text (u ++ (x ∷ [])) ≡ none → text (y ∷ (u ++ (x ∷ []))) ≡ none
    onto_none m e = rw (m, e)

-- a text is what stands before one of the two endings
pub data Ended (l t : List ℕ) : Type 0 where
  by_feed : l ≡ t ++ feed → Ended l t
  by_both : l ≡ t ++ both → Ended l t

ending : (l : List ℕ) → is_ending l ≡ true → Ended l []
ending [] e = absurd (false≢true e)
ending (b ∷ []) e = by_feed (ap (λ x. x ∷ []) (eqb_eq b line_feed e))
ending (b ∷ c ∷ []) e =
    let t = and_true (eqb b carriage_return) (eqb c line_feed) e in
    by_both (ap (λ x. x ∷ c ∷ []) (eqb_eq b carriage_return t.0) ∙ ap (λ x. carriage_return ∷ x ∷ []) (eqb_eq c line_feed t.1))
ending (b ∷ c ∷ d ∷ bs) e = absurd (false≢true e)

onto : (b : ℕ) {l t : List ℕ} → Ended l t → Ended (b ∷ l) (b ∷ t)
onto b (by_feed e) = by_feed (ap (λ x. b ∷ x) e)
onto b (by_both e) = by_both (ap (λ x. b ∷ x) e)

pub text_ended : (l : List ℕ) {t : List ℕ} → text l ≡ some t → Ended l t
text_ended [] e = absurd (none≢some e)
text_ended (b ∷ bs) {t} e = go (bool_cases (is_ending (b ∷ bs))) (λ u. text_ended bs {t = u})
  where
    go :
        (is_ending (b ∷ bs) ≡ true) ⊎ (is_ending (b ∷ bs) ≡ false)
        → ((u : List ℕ) → text bs ≡ some u → Ended bs u)
        → Ended (b ∷ bs) t
    go (inl h) ih = subst (Ended (b ∷ bs)) (some_inj (rw h at e)) (ending (b ∷ bs) h)
    go (inr h) ih =
        let (u, p, q) = bind_some (text bs) (λ u. some (b ∷ u)) (rw h at e) in
        subst (Ended (b ∷ bs)) (some_inj q) (onto b (ih u p))

-- ---- carriage returns taken out

abbrev pub NoReturn : ℕ → Type 0
NoReturn b = eqb b carriage_return ≡ false

-- bytes without a carriage return
abbrev pub Returnless : List ℕ → Type 0
Returnless bs = (b : ℕ) → Memᴰ b bs → NoReturn b

pub without_append : (xs ys : List ℕ) → without_returns (xs ++ ys) ≡ without_returns xs ++ without_returns ys
without_append [] ys = refl
without_append (x ∷ xs) ys = go (bool_cases (eqb x carriage_return)) (without_append xs ys)
  where
    go :
        (eqb x carriage_return ≡ true) ⊎ (eqb x carriage_return ≡ false)
        → without_returns (xs ++ ys) ≡ without_returns xs ++ without_returns ys
        → without_returns (x ∷ (xs ++ ys)) ≡ without_returns (x ∷ xs) ++ without_returns ys
    go (inl t) ih = rw t ih
    go (inr t) ih = rw t (ap (λ zs. x ∷ zs) ih)

pub without_concat : (ls : List (List ℕ)) → without_returns (concat ls) ≡ concat (map without_returns ls)
without_concat [] = refl
without_concat (l ∷ ls) = without_append l (concat ls) ∙ ap (λ zs. without_returns l ++ zs) (without_concat ls)

pub without_none : (xs : List ℕ) → Returnless xs → without_returns xs ≡ xs
without_none [] h = refl
without_none (x ∷ xs) h = rw (h x (Memᴰ.head refl)) (ap (λ zs. x ∷ zs) (without_none xs (λ c m. h c (Memᴰ.tail m))))

pub without_length : (xs : List ℕ) → length (without_returns xs) ≤ length xs
without_length [] = omega arith
without_length (x ∷ xs) = go (bool_cases (eqb x carriage_return)) (without_length xs)
  where
    go : (eqb x carriage_return ≡ true) ⊎ (eqb x carriage_return ≡ false) → length (without_returns xs) ≤ length xs → length (without_returns (x ∷ xs)) ≤ suc (length xs)
    go (inl t) ih = rw t (omega arith)
    go (inr t) ih = rw t (omega arith)

-- a text without a carriage return and either ending
pub text_feed : (t : List ℕ) → Returnless t → text (t ++ feed) ≡ some t
text_feed [] h = refl
text_feed (x ∷ []) h = rw (h x (Memᴰ.head refl))
text_feed (x ∷ y ∷ t) h = onto_text x (y ∷ (t ++ feed)) (other t) (text_feed (y ∷ t) (λ c m. h c (Memᴰ.tail m)))
  where
    other : (t : List ℕ) → is_ending (x ∷ y ∷ (t ++ feed)) ≡ false
    other [] = refl
    other (z ∷ t) = refl

-- a line of a text without a carriage return has that text
pub ended_text : {l t : List ℕ} → Ended l t → Returnless t → text l ≡ some t
ended_text {l} {t} (by_feed e) h = ap text e ∙ text_feed t h
ended_text {l} {t} (by_both e) h = ap text e ∙ text_both t

-- a line whose text has no carriage return, with its carriage returns taken out, ends with the line feed alone
pub without_line : {l t : List ℕ} → Ended l t → Returnless t → without_returns l ≡ t ++ feed
without_line {l} {t} (by_feed e) h = ap without_returns e ∙ without_append t feed ∙ ap (λ u. u ++ feed) (without_none t h)
without_line {l} {t} (by_both e) h = ap without_returns e ∙ without_append t both ∙ ap (λ u. u ++ feed) (without_none t h)
