-- Substitution of closed values in terms: putting values into a pattern is the substitution of what the slots hold, and after a let its
-- pattern's variables stand for the values that were matched.
use Prim.Native.Nat.{ℕ}
use mathlib.Core.Path.{◌≡◌, refl, sym, ap, ap₂, ◌∙◌, subst, fun_ext}
use mathlib.Core.Logic.{◌⊎◌, inl, inr}
use mathlib.Core.Bool.{Bool, true, false, cond}
use mathlib.Core.Option.{Option, none, some}
use mathlib.Core.List.Memᴰ
use mathlib.Core.List.{List, [], ◌∷◌, Memᴰ}
use lib.Dec.{eqb}
use Rattle.calculus.specs.Tools.{or_else}
use Rattle.calculus.specs.Trees.{Pat, Val, vinj, vars, vleaf, vnode}
use Rattle.calculus.specs.Slots.{Slots, empty}
use Rattle.calculus.specs.Reduction.{build}
use Rattle.calculus.specs.Paper.{Valuation, Matches}
use Rattle.calculus.specs.Terms.{Term, evar, einj, eapp, elet, pat_term, val_term, look, or_var, without, replace, eleaf, enode}
use Rattle.calculus.proofs.Basic.{none≢some, bool_cases, eqb_false, eqb_eq}
use Rattle.calculus.proofs.Slots.{slot, Contained, slot_empty}
use Rattle.calculus.proofs.Binding.{Gives, Bound, build_found, gives_var, var_gives}

-- ---- substitution

-- a closed value has no variable
pub replace_value : (f : ℕ → Option Val) (v : Val) → replace f (val_term v) ≡ val_term v
replace_value f (vleaf l) = refl
replace_value f (vinj t v) = ap (einj t) (replace_value f v)
replace_value f (vnode k v w) = ap₂ (enode k) (replace_value f v) (replace_value f w)

-- a substitution that gives what the valuation gives turns the pattern into the value
matches_replace : {σ : Valuation} {p : Pat} {v : Val} → Matches σ p v → (g : ℕ → Option Val) → ((n : ℕ) (w : Val) → Gives σ n w → g n ≡ some w)
    → replace g (pat_term p) ≡ val_term v
matches_replace (Matches.leaf e) g h = ap eleaf e
matches_replace (Matches.var {σ} {n} {v} e) g h = ap (or_var n) (h n v (subst (λ ρ. Gives ρ n v) (sym e) (Memᴰ.head refl)))
matches_replace (Matches.inj e m) g h = ap₂ einj e (matches_replace m g h)
matches_replace (Matches.node {σ} {ρ} s m k d e) g h =
    let a = matches_replace m g (λ n w i. h n w (subst (λ τ. Gives τ n w) (sym e) (Memᴰ.append_left ρ i))) in
    let b = matches_replace k g (λ n w i. h n w (subst (λ τ. Gives τ n w) (sym e) (Memᴰ.append_right σ i))) in
    λ i. enode (s i) (a i) (b i)

-- putting values into a pattern is substitution, by the slots or by more
pub build_replace : (q : Pat) (e : Slots Val) {v : Val} {d : Slots Val} (g : ℕ → Option Val)
    → Contained (slot e) g → build q e ≡ some (v, d) → replace g (pat_term q) ≡ val_term v
build_replace q e g below h = let f = build_found q e h in matches_replace f.matches g (λ n w i. below n w (f.bound.held n w i))

-- what g gives, else what f gives
abbrev pub over : (ℕ → Option Val) → (ℕ → Option Val) → ℕ → Option Val
over f g n = or_else (g n) (f n)

without_over : (ms : List ℕ) (f g : ℕ → Option Val) (n : ℕ) → over (without ms f) (without ms g) n ≡ without ms (over f g) n
without_over [] f g n = refl
without_over (m ∷ ms) f g n = go (eqb n m) (without_over ms f g n)
  where
    go : (b : Bool) → over (without ms f) (without ms g) n ≡ without ms (over f g) n
        → or_else (cond b none (without ms g n)) (cond b none (without ms f n)) ≡ cond b none (without ms (over f g) n)
    go true h = refl
    go false h = h

replace_var : (f : ℕ → Option Val) (n : ℕ) (x : Option Val) → replace f (or_var n x) ≡ or_var n (or_else x (f n))
replace_var f n none = refl
replace_var f n (some v) = replace_value f v

-- two substitutions are one
pub replace_over : (f g : ℕ → Option Val) (t : Term) → replace f (replace g t) ≡ replace (over f g) t
replace_over f g (evar n) = replace_var f n (g n)
replace_over f g (eleaf l) = refl
replace_over f g (einj s t) = ap (einj s) (replace_over f g t)
replace_over f g (enode k t u) = ap₂ (enode k) (replace_over f g t) (replace_over f g u)
replace_over f g (eapp i t) = ap (eapp i) (replace_over f g t)
replace_over f g (elet p t u) =
    ap₂ (elet p) (replace_over f g t)
    (replace_over (without (vars p) f) (without (vars p) g) u ∙ ap (λ h. replace h u) (fun_ext (without_over (vars p) f g)))

-- ---- a let takes the variables of its pattern anew

without_mem : {n : ℕ} (ms : List ℕ) (f : ℕ → Option Val) → Memᴰ n ms → without ms f n ≡ none
without_mem [] f i = absurd (Memᴰ.not-nil i)
without_mem {n} (m ∷ ms) f i = go (bool_cases (eqb n m)) (without_mem ms f) (Memᴰ.cases_cons i)
  where
    go : (eqb n m ≡ true) ⊎ (eqb n m ≡ false) → (Memᴰ n ms → without ms f n ≡ none)
        → (n ≡ m) ⊎ Memᴰ n ms → without (m ∷ ms) f n ≡ none
    go (inl e) later i = ap (λ b. cond b none (without ms f n)) e
    go (inr e) later (inl h) = absurd (eqb_false e h)
    go (inr e) later (inr i) = ap (λ b. cond b none (without ms f n)) e ∙ later i

without_other : {n : ℕ} (ms : List ℕ) (f : ℕ → Option Val) → (Memᴰ n ms → ⊥) → without ms f n ≡ f n
without_other [] f no_mem = refl
without_other {n} (m ∷ ms) f no_mem = go (bool_cases (eqb n m)) (without_other ms f (λ i. no_mem (Memᴰ.tail i)))
  where
    go : (eqb n m ≡ true) ⊎ (eqb n m ≡ false) → without ms f n ≡ f n → without (m ∷ ms) f n ≡ f n
    go (inl e) later = absurd (no_mem (Memᴰ.head (eqb_eq n m e)))
    go (inr e) later = ap (λ b. cond b none (without ms f n)) e ∙ later

-- a variable to which a valuation gives something is looked up, and it gives what is looked up
pub look_gives : (σ : Valuation) {n : ℕ} {v : Val} → Gives σ n v → (w : Val) × (look σ n ≡ some w) × Gives σ n w
look_gives [] i = absurd (Memᴰ.not-nil i)
look_gives (b ∷ σ) {n} {v} i = go (bool_cases (eqb n b.0)) (λ j. look_gives σ j) (Memᴰ.cases_cons i)
  where
    go : (eqb n b.0 ≡ true) ⊎ (eqb n b.0 ≡ false) → (Gives σ n v → (w : Val) × (look σ n ≡ some w) × Gives σ n w)
        → ((n, v) ≡ b) ⊎ Gives σ n v → (w : Val) × (look (b ∷ σ) n ≡ some w) × Gives (b ∷ σ) n w
    go (inl e) later i =
        (b.1, ap (λ t. cond t (some b.1) (look σ n)) e, Memᴰ.head (ap (λ m. (m, b.1)) (eqb_eq n b.0 e)))
    go (inr e) later (inl h) = absurd (eqb_false e (ap (λ c. c.0) h))
    go (inr e) later (inr i) =
        let (w, looked, given) = later i in
        (w, ap (λ t. cond t (some b.1) (look σ n)) e ∙ looked, Memᴰ.tail given)

-- what is bound is looked up
bound_look : {σ : Valuation} {e d : Slots Val} → Bound σ e d → (n : ℕ) (v : Val) → Gives σ n v → look σ n ≡ some v
bound_look {σ} b n v i =
    let (w, looked, given) = look_gives σ i in
    looked ∙ sym (b.held n w given) ∙ b.held n v i

-- After a let's pattern is matched, the slots hold no more than the substitution before it, without the variables that the let binds, and
-- its valuation together.
pub bound_over : {σ : Valuation} {p : Pat} {u : Val} {e d : Slots Val} (g : ℕ → Option Val)
    → Matches σ p u → Bound σ e d → Contained (slot e) g → Contained (slot d) (over (look σ) (without (vars p) g))
bound_over {σ} {p} {u} {e} {d} g matches b below n v h = go (b.whence n v h)
  where
    fresh : slot e n ≡ some v → Memᴰ n (vars p) → ⊥
    fresh h i = let (w, given) = var_gives matches n i in none≢some (sym (b.new n w given) ∙ h)

    go : Gives σ n v ⊎ (slot e n ≡ some v) → over (look σ) (without (vars p) g) n ≡ some v
    go (inl i) = ap (λ x. or_else x (look σ n)) (without_mem (vars p) g (gives_var matches n v i)) ∙ bound_look b n v i
    go (inr h) = ap (λ x. or_else x (look σ n)) (without_other (vars p) g (fresh h) ∙ below n v h)

-- At the start the slots hold no more than the valuation.
pub bound_start : {σ : Valuation} {d : Slots Val} → Bound σ (empty Val) d → Contained (slot d) (look σ)
bound_start {σ} b n v h = go (b.whence n v h)
  where
    go : Gives σ n v ⊎ (slot (empty Val) n ≡ some v) → look σ n ≡ some v
    go (inl i) = bound_look b n v i
    go (inr h) = absurd (none≢some (sym (slot_empty n) ∙ h))
