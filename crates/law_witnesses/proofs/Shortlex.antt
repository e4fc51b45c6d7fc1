-- The order of request 09: fewer letters first, then byte order.
use Prim.Native.Nat.{ℕ, suc, ◌+◌, ◌<◌, ◌≤◌}
use native.Mathlib.Nat.{eq-or-lt_of_le, le_of_eq, le_of_lt, ne_of_gt}
use native.Mathlib.Omega.{arith}
use mathlib.Core.Path.{◌≡◌, refl, sym, ap, ap₂, ◌∙◌}
use mathlib.Core.Logic.{◌⊎◌, inl, inr, ⊎_elim}
use mathlib.Core.Bool.{true, false, cond, ◌||◌}
use mathlib.Core.List.{List, [], ◌∷◌, ◌++◌}
use lib.Dec.{ltb, eqb}
use lib.ListN.{length, length-append}
use Rattle.law_ranking.specs.Numbering.{before}
use Rattle.law_witnesses.specs.Showing.{sooner}
use Rattle.calculus.proofs.Basic.{not_both, neither, ltb_false, not_ltb, eq_eqb, not_eqb, le_or_lt}

-- lists of one length, of which the first is the second or stands before it in byte order
pub data Upto : List ℕ → List ℕ → Type 0 where
  done : Upto [] []
  lower : {x y : ℕ} {xs ys : List ℕ} → x < y → length xs ≡ length ys → Upto (x ∷ xs) (y ∷ ys)
  same : {x y : ℕ} {xs ys : List ℕ} → x ≡ y → Upto xs ys → Upto (x ∷ xs) (y ∷ ys)

pub upto_length : {xs ys : List ℕ} → Upto xs ys → length xs ≡ length ys
upto_length done = refl
upto_length (lower l e) = ap suc e
upto_length (same e u) = ap suc (upto_length u)

pub upto_refl : (xs : List ℕ) → Upto xs xs
upto_refl [] = done
upto_refl (x ∷ xs) = same refl (upto_refl xs)

pub upto_append : {xs ys us vs : List ℕ} → Upto xs ys → Upto us vs → Upto (xs ++ us) (ys ++ vs)
upto_append done u = u
upto_append {us = us} {vs = vs} (lower {xs = xs} {ys = ys} l e) u =
    lower l (length-append xs us ∙ ap₂ ◌+◌ e (upto_length u) ∙ sym (length-append ys vs))
upto_append (same e u) k = same e (upto_append u k)

pub upto_trans : {xs ys zs : List ℕ} → Upto xs ys → Upto ys zs → Upto xs zs
upto_trans done u = u
upto_trans (lower {x} l e) (lower {y = z} k f) = let h : x < z = omega arith in lower h (e ∙ f)
upto_trans (lower {x} l e) (same {y = z} f u) = let h : x < z = omega arith in lower h (e ∙ upto_length u)
upto_trans (same {x} e u) (lower {y = z} k f) = let h : x < z = omega arith in lower h (upto_length u ∙ f)
upto_trans (same e u) (same f k) = same (e ∙ f) (upto_trans u k)

pub upto_antisym : {xs ys : List ℕ} → Upto xs ys → Upto ys xs → xs ≡ ys
upto_antisym done u = refl
upto_antisym (lower l e) (lower k f) = absurd (omega arith)
upto_antisym (lower l e) (same f u) = absurd (omega arith)
upto_antisym (same e u) (lower k f) = absurd (omega arith)
upto_antisym (same e u) (same f k) = ap₂ ◌∷◌ e (upto_antisym u k)

-- no other list of the length stands before it
upto_not_before : {xs ys : List ℕ} → Upto xs ys → before ys xs ≡ false
upto_not_before done = refl
upto_not_before (lower {xs = xs} {ys = ys} l e) = ap₂ (λ p q. p || cond q (before ys xs) false) (not_ltb (le_of_lt l)) (not_eqb (λ h. ne_of_gt l h))
upto_not_before (same {x} {y} {xs} {ys} e u) =
    ap₂ (λ p q. p || cond q (before ys xs) false) (not_ltb (le_of_eq e)) (eq_eqb (sym e)) ∙ upto_not_before u

not_before_upto : (xs ys : List ℕ) → length xs ≡ length ys → before ys xs ≡ false → Upto xs ys
not_before_upto [] [] e h = done
not_before_upto [] (y ∷ ys) e h = absurd (omega arith)
not_before_upto (x ∷ xs) [] e h = absurd (omega arith)
not_before_upto (x ∷ xs) (y ∷ ys) e h =
    let n = neither (ltb y x) (cond (eqb y x) (before ys xs) false) h in
    let l : length xs ≡ length ys = omega arith in
    go (eq-or-lt_of_le (ltb_false y x n.0)) n.1 (not_before_upto xs ys l)
  where
    go : (x ≡ y) ⊎ (x < y) → cond (eqb y x) (before ys xs) false ≡ false → (before ys xs ≡ false → Upto xs ys) → Upto (x ∷ xs) (y ∷ ys)
    go (inl d) k below = same d (below (ap (λ b. cond b (before ys xs) false) (sym (eq_eqb (sym d))) ∙ k))
    go (inr d) k below = let l : length xs ≡ length ys = omega arith in lower d l

-- the first is not sooner than the second
pub data NotAfter : List ℕ → List ℕ → Type 0 where
  fewer : {xs ys : List ℕ} → length xs < length ys → NotAfter xs ys
  earlier : {xs ys : List ℕ} → Upto xs ys → NotAfter xs ys

pub not_after_length : {xs ys : List ℕ} → NotAfter xs ys → length xs ≤ length ys
not_after_length (fewer l) = omega arith
not_after_length (earlier u) = le_of_eq (upto_length u)

pub not_after_refl : (xs : List ℕ) → NotAfter xs xs
not_after_refl xs = earlier (upto_refl xs)

pub not_after_trans : {xs ys zs : List ℕ} → NotAfter xs ys → NotAfter ys zs → NotAfter xs zs
not_after_trans {xs} {zs = zs} (fewer l) k = let h = not_after_length k in let j : length xs < length zs = omega arith in fewer j
not_after_trans {xs} {zs = zs} (earlier u) (fewer l) = let h = upto_length u in let j : length xs < length zs = omega arith in fewer j
not_after_trans (earlier u) (earlier k) = earlier (upto_trans u k)

pub not_after_append : {xs ys us vs : List ℕ} → NotAfter xs ys → NotAfter us vs → NotAfter (xs ++ us) (ys ++ vs)
not_after_append {xs} {ys} {us} {vs} (fewer l) k =
    let h = not_after_length k in
    let j : length (xs ++ us) < length (ys ++ vs) = omega (arith, length-append xs us, length-append ys vs) in
    fewer j
not_after_append {xs} {ys} {us} {vs} (earlier u) (fewer l) =
    let h = upto_length u in
    let j : length (xs ++ us) < length (ys ++ vs) = omega (arith, length-append xs us, length-append ys vs) in
    fewer j
not_after_append (earlier u) (earlier k) = earlier (upto_append u k)

pub not_after_antisym : {xs ys : List ℕ} → NotAfter xs ys → NotAfter ys xs → xs ≡ ys
not_after_antisym (fewer l) k = let h = not_after_length k in absurd (omega arith)
not_after_antisym (earlier u) (fewer l) = let h = upto_length u in absurd (omega arith)
not_after_antisym (earlier u) (earlier k) = upto_antisym u k

not_after_cons : {x y : ℕ} {xs ys : List ℕ} → x ≡ y → NotAfter xs ys → NotAfter (x ∷ xs) (y ∷ ys)
not_after_cons {x} {y} {xs} {ys} e (fewer l) = let j : length (x ∷ xs) < length (y ∷ ys) = omega arith in fewer j
not_after_cons e (earlier u) = earlier (same e u)

-- a letter before both
pub not_after_under : (x : ℕ) {xs ys : List ℕ} → NotAfter xs ys → NotAfter (x ∷ xs) (x ∷ ys)
not_after_under x n = not_after_cons refl n

-- the test says so
pub not_after_sooner : {xs ys : List ℕ} → NotAfter xs ys → sooner ys xs ≡ false
not_after_sooner (fewer {xs} {ys} l) =
    ap₂ (λ p q. p || cond q (before ys xs) false) (not_ltb (le_of_lt l)) (not_eqb (λ h. ne_of_gt l h))
not_after_sooner (earlier {xs} {ys} u) =
    ap₂ (λ p q. p || cond q (before ys xs) false) (not_ltb (le_of_eq (upto_length u))) (eq_eqb (sym (upto_length u)))
    ∙ upto_not_before u

pub sooner_not_after : (xs ys : List ℕ) → sooner ys xs ≡ false → NotAfter xs ys
sooner_not_after xs ys h =
    let n = neither (ltb (length ys) (length xs)) (cond (eqb (length ys) (length xs)) (before ys xs) false) h in
    go (eq-or-lt_of_le (ltb_false (length ys) (length xs) n.0)) n.1
  where
    go : (length xs ≡ length ys) ⊎ (length xs < length ys) → cond (eqb (length ys) (length xs)) (before ys xs) false ≡ false → NotAfter xs ys
    go (inl d) k = earlier (not_before_upto xs ys d (ap (λ b. cond b (before ys xs) false) (sym (eq_eqb (sym d))) ∙ k))
    go (inr d) k = fewer d

-- one of two lists is not after the other
pub total_order : (xs ys : List ℕ) → sooner ys xs ≡ true → NotAfter ys xs
total_order xs ys h = go (le_or_lt (length ys) (length xs))
  where
    byte : (xs ys : List ℕ) → length xs ≡ length ys → Upto xs ys ⊎ Upto ys xs
    byte [] [] e = inl done
    byte [] (y ∷ ys) e = absurd (omega arith)
    byte (x ∷ xs) [] e = absurd (omega arith)
    byte (x ∷ xs) (y ∷ ys) e = at (le_or_lt x y) (byte xs ys (omega arith))
      where
        at : (x ≤ y) ⊎ (y < x) → Upto xs ys ⊎ Upto ys xs → Upto (x ∷ xs) (y ∷ ys) ⊎ Upto (y ∷ ys) (x ∷ xs)
        at (inr l) k = let j : length ys ≡ length xs = omega arith in inr (lower l j)
        at (inl l) k = within (eq-or-lt_of_le l) k
          where
            within : (x ≡ y) ⊎ (x < y) → Upto xs ys ⊎ Upto ys xs → Upto (x ∷ xs) (y ∷ ys) ⊎ Upto (y ∷ ys) (x ∷ xs)
            within (inr d) k = let j : length xs ≡ length ys = omega arith in inl (lower d j)
            within (inl d) (inl u) = inl (same d u)
            within (inl d) (inr u) = inr (same (sym d) u)

    go : (length ys ≤ length xs) ⊎ (length xs < length ys) → NotAfter ys xs
    go (inr l) = absurd (not_both h (not_after_sooner {xs = xs} {ys = ys} (fewer l)))
    go (inl l) = at (eq-or-lt_of_le l)
      where
        at : (length ys ≡ length xs) ⊎ (length ys < length xs) → NotAfter ys xs
        at (inr d) = fewer d
        at (inl d) = ⊎_elim (λ u. absurd (not_both h (not_after_sooner {xs = xs} {ys = ys} (earlier u)))) (λ u. earlier u) (byte xs ys (sym d))
