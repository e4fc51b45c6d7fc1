-- The counts of the code are those of the model: values side by side that a row of patterns matches, by their letters.
use Prim.Native.Nat.{ℕ, zero, suc, ◌+◌}
use native.Mathlib.Omega.{arith}
use mathlib.Core.Path.{◌≡◌, refl, sym}
use mathlib.Core.List.{List, ◌∷◌}
use Rattle.calculus.specs.Trees.{Ty, tunit, tlist, tsum, tprod, left, right, Pat, pvar}
use Rattle.calculus.specs.Shapes.{Shape}
use Rattle.law_witnesses.specs.Seeking.{how_many, ways}
use Rattle.fault_tallies.specs.Tallies.{more, more_in}
use Rattle.fault_tallies.proofs.Linear.{list_unique}

-- a function of the number of letters counts what a row matches; and all there are
abbrev pub Counts : (ℕ → ℕ) → List Ty → List Pat → Type 0
Counts W ts row = (r : ℕ) → W r ≡ ways r ts row

abbrev pub CountsAll : (ℕ → ℕ) → List Ty → Type 0
CountsAll W ts = (r : ℕ) → W r ≡ how_many r ts

one : (m n : ℕ) → m ≡ n → m ≡ n + 0
one m n e = omega arith

two : (a b c d : ℕ) → a ≡ c → b ≡ d → a + b ≡ c + (d + 0)
two a b c d e f = omega arith

first : (m n : ℕ) → m ≡ n → m ≡ n + (0 + 0)
first m n e = omega arith

second : (m n : ℕ) → m ≡ n → m ≡ 0 + (n + 0)
second m n e = omega arith

turned : (a b c d : ℕ) → a ≡ c → b ≡ d → d + (c + 0) ≡ a + b
turned a b c d e f = omega arith

pub more_all : (a : Ty) {ts : List Ty} {W : ℕ → ℕ} → CountsAll W ts → CountsAll (more a W) (a ∷ ts)
more_all tunit h zero = refl
more_all tunit h (suc r) = one _ _ (h r)
more_all (tlist a) {ts} {W} h r =
    sym (list_unique a W (λ n. how_many n (tlist a ∷ ts)) refl (λ n. turned _ _ _ _ (h n) (more_all a {ts = tlist a ∷ ts} (λ s. refl) n)) r)
more_all (tsum a b) h zero = refl
more_all (tsum a b) h (suc r) = two _ _ _ _ (more_all a h r) (more_all b h r)
more_all (tprod a b) h zero = refl
more_all (tprod a b) h (suc r) = one _ _ (more_all a (more_all b h) r)

pub more_any : (a : Ty) (n : ℕ) {ts : List Ty} {row : List Pat} {W : ℕ → ℕ} → Counts W ts row → Counts (more a W) (a ∷ ts) (pvar n ∷ row)
more_any tunit n h zero = refl
more_any tunit n h (suc r) = one _ _ (h r)
more_any (tlist a) n {ts} {row} {W} h r =
    sym
    (list_unique a W (λ s. ways s (tlist a ∷ ts) (pvar n ∷ row)) refl
    (λ s. turned _ _ _ _ (h s) (more_any a n {ts = tlist a ∷ ts} {row = pvar n ∷ row} (λ q. refl) s)) r)
more_any (tsum a b) n h zero = refl
more_any (tsum a b) n h (suc r) = two _ _ _ _ (more_any a n h r) (more_any b n h r)
more_any (tprod a b) n h zero = refl
more_any (tprod a b) n h (suc r) = one _ _ (more_any a n (more_any b n h) r)

pub more_in_lem : {p : Pat} {a : Ty} → Shape p a → {ts : List Ty} {row : List Pat} {W : ℕ → ℕ} → Counts W ts row → Counts (more_in p a W) (a ∷ ts) (p ∷ row)
more_in_lem Shape.unit h zero = refl
more_in_lem Shape.unit h (suc r) = one _ _ (h r)
more_in_lem Shape.nil h zero = refl
more_in_lem Shape.nil h (suc r) = second _ _ (h r)
more_in_lem (Shape.var {n} {a}) h r = more_any a n h r
more_in_lem (Shape.inj s) h zero = refl
more_in_lem (Shape.inj {t = left} s) h (suc r) = first _ _ (more_in_lem s h r)
more_in_lem (Shape.inj {t = right} s) h (suc r) = second _ _ (more_in_lem s h r)
more_in_lem (Shape.pair s u) h zero = refl
more_in_lem (Shape.pair s u) h (suc r) = one _ _ (more_in_lem s (more_in_lem u h) r)
more_in_lem (Shape.cons s u) h zero = refl
more_in_lem (Shape.cons s u) h (suc r) = first _ _ (more_in_lem s (more_in_lem u h) r)
