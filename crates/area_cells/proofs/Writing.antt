-- Bytes written into an area one after the other.
use Prim.Native.Nat.{ℕ, zero, suc, ◌+◌, ◌-◌, ◌≤◌, ◌<◌, min}
use native.Mathlib.Nat.{add-zero, add-suc, suc-add}
use native.Mathlib.Numerals.{add-one}
use native.Mathlib.Omega.{arith}
use mathlib.Core.Path.{◌≡◌, refl, sym, ap, ap₂, ◌∙◌, subst}
use mathlib.Core.Logic.{◌⊎◌, inl, inr}
use mathlib.Core.Bool.{Bool, true, false, cond}
use mathlib.Core.List.{List, [], ◌∷◌, ◌++◌}
use lib.Dec.{leb, ltb}
use lib.ListN.{length, set, length-set, length-append}
use lib.Seq.{sets, length-sets}
use borrow.Author.Tests.{lt-ltb, le-ltb, leb-true, leb-false}
use Rattle.area_cells.specs.Areas.{Writes, Prints}

-- the place behind a byte, within the area and past it
pub place_in : (l : List ℕ) (at : ℕ) → at < length l → at + 1 ≡ cond (ltb at (length l)) (suc at) at
place_in l at h = add-one at ∙ sym (ap (λ c. cond c (suc at) at) (lt-ltb at (length l) h))

pub place_out : (l : List ℕ) (at : ℕ) → length l ≤ at → at ≡ cond (ltb at (length l)) (suc at) at
place_out l at h = sym (ap (λ c. cond c (suc at) at) (le-ltb at (length l) h))

-- a run of stores in two parts
pub sets_append : (xs ys l : List ℕ) (at : ℕ) → sets l at (xs ++ ys) ≡ sets (sets l at xs) (at + length xs) ys
sets_append [] ys l at = ap (λ k. sets l k ys) (sym (add-zero at))
sets_append (x ∷ xs) ys l at =
    sets_append xs ys (set l at x) (suc at) ∙ ap (λ k. sets (sets (set l at x) (suc at) xs) k ys) (suc-add at (length xs) ∙ sym (add-suc at (length xs)))

-- nothing written
pub writes_none : (l : List ℕ) (at : ℕ) → Writes l l at at []
writes_none l at = record { kept = refl; area = λ h. refl; place = λ h. sym (add-zero at) }

-- one byte
pub writes_one : {l l' : List ℕ} {at end b : ℕ} → l' ≡ set l at b → end ≡ cond (ltb at (length l)) (suc at) at → Writes l l' at end (b ∷ [])
writes_one {l} {l'} {at} {end} {b} e p =
    record {
      kept = ap length e ∙ length-set l at b;
      area = λ h. e;
      place = λ h. p ∙ ap (λ c. cond c (suc at) at) (lt-ltb at (length l) (omega arith)) ∙ omega arith;
    }

-- one after the other
pub writes_both : {l l₁ l₂ : List ℕ} {at m end : ℕ} {xs ys : List ℕ} → Writes l l₁ at m xs → Writes l₁ l₂ m end ys → Writes l l₂ at end (xs ++ ys)
writes_both {l} {l₁} {l₂} {at} {m} {end} {xs} {ys} w u =
    let n = length-append xs ys in
    let first : at + length (xs ++ ys) ≤ length l → at + length xs ≤ length l = λ h. omega (arith, n) in
    let second : at + length (xs ++ ys) ≤ length l → m + length ys ≤ length l₁ = λ h. let p = w.place (first h) in let k = w.kept in omega (arith, n, p, k) in
    record {
      kept = u.kept ∙ w.kept;
      area = λ h. u.area (second h) ∙ ap₂ (λ a k. sets a k ys) (w.area (first h)) (w.place (first h)) ∙ sym (sets_append xs ys l at);
      place = λ h. let p = w.place (first h) in let q = u.place (second h) in omega (arith, n, p, q);
    }

-- the same bytes by another name
pub writes_as : {l l' : List ℕ} {at end : ℕ} {bs cs : List ℕ} → bs ≡ cs → Writes l l' at end bs → Writes l l' at end cs
writes_as {l} {l'} {at} {end} e w = subst (Writes l l' at end) e w

-- ---- in an area of any length

by_test : (m n : ℕ) (b : Bool) → leb m n ≡ b → (m ≤ n) ⊎ (n < m)
by_test m n true e = inl (leb-true m n e)
by_test m n false e = inr (leb-false m n e)

le_or_lt : (m n : ℕ) → (m ≤ n) ⊎ (n < m)
le_or_lt m n = by_test m n (leb m n) refl

-- nothing is stored past the end
set_past : (l : List ℕ) (at b : ℕ) → length l ≤ at → set l at b ≡ l
set_past [] at b h = refl
set_past (x ∷ l) zero b h = absurd (omega arith)
set_past (x ∷ l) (suc at) b h = ap (λ k. x ∷ k) (set_past l at b (omega arith))

sets_past : (bs l : List ℕ) (at : ℕ) → length l ≤ at → sets l at bs ≡ l
sets_past [] l at h = refl
sets_past (b ∷ bs) l at h = ap (λ k. sets k (suc at) bs) (set_past l at b h) ∙ sets_past bs l (suc at) (omega arith)

-- nothing printed
pub prints_none : (l : List ℕ) (at : ℕ) → Prints l l at at []
prints_none l at = record { area = refl; place = omega arith }

-- one byte
pub prints_one : {l l' : List ℕ} {at end b : ℕ} → l' ≡ set l at b → end ≡ cond (ltb at (length l)) (suc at) at → Prints l l' at end (b ∷ [])
prints_one {l} {l'} {at} {end} {b} e p = record { area = e; place = go (le_or_lt (length l) at) }
  where
    go : (length l ≤ at) ⊎ (at < length l) → end ≡ at + min 1 (length l - at)
    go (inl h) = p ∙ ap (λ c. cond c (suc at) at) (le-ltb at (length l) h) ∙ omega arith
    go (inr h) = p ∙ ap (λ c. cond c (suc at) at) (lt-ltb at (length l) h) ∙ omega arith

-- one after the other: where the first do not fit, nothing of either is stored behind the end
both_area : (l : List ℕ) (at : ℕ) {m : ℕ} (xs ys : List ℕ) → m ≡ at + min (length xs) (length l - at)
    → (at + length xs ≤ length l) ⊎ (length l < at + length xs) → sets (sets l at xs) m ys ≡ sets l at (xs ++ ys)
both_area l at {m} xs ys e (inl h) =
    let place : m ≡ at + length xs = omega arith in
    ap (λ k. sets (sets l at xs) k ys) place ∙ sym (sets_append xs ys l at)
both_area l at {m} xs ys e (inr h) =
    let long = length-sets l at xs in
    sets_past ys (sets l at xs) m (omega (arith, long)) ∙ sym (sets_append xs ys l at ∙ sets_past ys (sets l at xs) (at + length xs) (omega (arith, long)))

pub prints_both : {l l₁ l₂ : List ℕ} {at m end : ℕ} {xs ys : List ℕ} → Prints l l₁ at m xs → Prints l₁ l₂ m end ys → Prints l l₂ at end (xs ++ ys)
prints_both {l} {l₁} {l₂} {at} {m} {end} {xs} {ys} w u =
    let n = length-append xs ys in
    let long : length l₁ ≡ length l = ap length w.area ∙ length-sets l at xs in
    let p = w.place in
    let q = u.place in
    record {
      area = u.area ∙ ap (λ k. sets k m ys) w.area ∙ both_area l at xs ys p (le_or_lt (at + length xs) (length l));
      place = omega (arith, n, long, p, q);
    }

-- the same bytes by another name
pub prints_as : {l l' : List ℕ} {at end : ℕ} {bs cs : List ℕ} → bs ≡ cs → Prints l l' at end bs → Prints l l' at end cs
prints_as {l} {l'} {at} {end} e w = subst (Prints l l' at end) e w

-- the area keeps its length
pub prints_kept : {l l' : List ℕ} {at end : ℕ} {bs : List ℕ} → Prints l l' at end bs → length l' ≡ length l
prints_kept {l} {at = at} {bs = bs} w = ap length w.area ∙ length-sets l at bs

-- bytes printed are written where they fit
pub prints_writes : {l l' : List ℕ} {at end : ℕ} {bs : List ℕ} → Prints l l' at end bs → Writes l l' at end bs
prints_writes {l} {l'} {at} {end} {bs} w =
    record { kept = prints_kept w; area = λ h. w.area; place = λ h. let p = w.place in omega arith }
