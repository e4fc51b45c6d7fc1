-- The law of matching: a pattern binds a closed value exactly when some choice of closed values for its variables turns it into the
-- value.
use Prim.Native.Nat.{ℕ, ◌<◌}
use mathlib.Core.Path.{◌≡◌, refl, sym, ap, ap₂, ◌∙◌, subst}
use mathlib.Core.Logic.{◌↔◌}
use mathlib.Core.Bool.{true}
use mathlib.Core.Option.{none, some, get_or}
use mathlib.Core.List.Memᴰ
use mathlib.Core.List.{Memᴰ}
use lib.ListN.{length}
use Rattle.limits.specs.Limits.{variables}
use Rattle.calculus.specs.Tools.{is_some, ◌>>=◌}
use Rattle.calculus.specs.Trees.{Pat, pvar, pinj, Val, vinj, Clause, vars, pleaf, pnode, vleaf, unit_leaf, vnode}
use Rattle.calculus.specs.Slots.{Slots, empty}
use Rattle.calculus.specs.Reduction.{bind, hits}
use Rattle.calculus.specs.Paper.{Distinct, fill, Matched, Valuation, Matches}
use Rattle.calculus.proofs.Basic.{some_bind, true_guard, same_tag_refl, is_some_true, distinct_left, distinct_right, distinct_across, same_leaf_refl, same_node_refl}
use Rattle.calculus.proofs.Slots.{slot, put_empty, slot_empty, length_empty}
use Rattle.calculus.proofs.Binding.{bind_length, Gives, bind_found, bind_fresh}

-- ---- from binding to a choice

-- a choice that agrees with the valuation turns the pattern into the value
pub matches_fill : {σ : Valuation} {p : Pat} {v : Val} → Matches σ p v → (χ : ℕ → Val) → ((n : ℕ) (w : Val) → Gives σ n w → χ n ≡ w) → fill χ p ≡ v
matches_fill (Matches.leaf e) χ h = ap vleaf e
matches_fill (Matches.var {σ} {n} {v} e) χ h = h n v (subst (λ ρ. Gives ρ n v) (sym e) (Memᴰ.head refl))
matches_fill (Matches.inj e m) χ h = ap₂ vinj e (matches_fill m χ h)
matches_fill (Matches.node {σ} {ρ} s m k d e) χ h =
    let a = matches_fill m χ (λ n w i. h n w (subst (λ τ. Gives τ n w) (sym e) (Memᴰ.append_left ρ i))) in
    let b = matches_fill k χ (λ n w i. h n w (subst (λ τ. Gives τ n w) (sym e) (Memᴰ.append_right σ i))) in
    λ i. vnode (s i) (a i) (b i)

-- what the slots hold is the choice
pub bind_matched : (p : Pat) (v : Val) (e d : Slots Val) → bind p v e ≡ some d → Matched p v
bind_matched p v e d h =
    let f = bind_found p v e h in
    let χ : ℕ → Val = λ n. get_or (slot d n) (vleaf unit_leaf) in
    record { choice = χ; turns = matches_fill f.matches χ (λ n w i. ap (λ x. get_or x (vleaf unit_leaf)) (f.bound.held n w i)) }

-- ---- from a choice to binding

pub fill_bind : (χ : ℕ → Val) (p : Pat) (e : Slots Val) → Distinct (vars p) → ((n : ℕ) → Memᴰ n (vars p) → n < length e)
    → ((n : ℕ) → Memᴰ n (vars p) → slot e n ≡ none) → (d : Slots Val) × (bind p (fill χ p) e ≡ some d)
fill_bind χ (pleaf l) e d h k = (e, some_bind (λ _. some e) (true_guard (same_leaf_refl l)))
fill_bind χ (pvar n) e d h k = put_empty n (χ n) e (h n (Memᴰ.head refl)) (k n (Memᴰ.head refl))
fill_bind χ (pinj t p) e d h k =
    let r = fill_bind χ p e d h k in (r.0, some_bind (λ _. bind p (fill χ p) e) (true_guard (same_tag_refl t)) ∙ r.1)
fill_bind χ (pnode o p q) e d h k =
    let r = fill_bind χ p e (distinct_left (vars p) (vars q) d) (λ n m. h n (Memᴰ.append_left (vars q) m)) (λ n m. k n (Memᴰ.append_left (vars q) m)) in
    let s = fill_bind χ q r.0 (distinct_right (vars p) (vars q) d)
    (λ n m. subst (λ z. n < z) (sym (bind_length p (fill χ p) e r.1)) (h n (Memᴰ.append_right (vars p) m)))
    (λ n m. bind_fresh p (fill χ p) e r.1 n (λ j. distinct_across (vars p) (vars q) d j m) (k n (Memᴰ.append_right (vars p) m))) in
    (s.0, some_bind (λ _. bind p (fill χ p) e >>= bind q (fill χ q)) (true_guard (same_node_refl o)) ∙ some_bind (λ c. bind q (fill χ q) c) r.1 ∙ s.1)

pub matched_bind : (p : Pat) (v : Val) → Distinct (vars p) → ((n : ℕ) → Memᴰ n (vars p) → n < variables) → Matched p v
    → (d : Slots Val) × (bind p v (empty Val) ≡ some d)
matched_bind p v d h m =
    let r = fill_bind m.choice p (empty Val) d (λ n k. subst (λ z. n < z) (sym (length_empty Val)) (h n k)) (λ n k. slot_empty n) in
    (r.0, subst (λ z. bind p z (empty Val) ≡ some r.0) m.turns r.1)

-- ---- clauses

pub hit_matched : (v : Val) (c : Clause) → hits v c ≡ true → Matched c.lhs v
hit_matched v c h = let r = is_some_true (bind c.lhs v (empty Val)) h in bind_matched c.lhs v (empty Val) r.0 r.1

-- "A clause matches a closed value when some choice of closed values for the variables of its left pattern turns that pattern into the
-- value": for a clause that keeps the variables rule, whose variables have slots.
pub matching : (c : Clause) (v : Val) → Distinct (vars c.lhs) → ((n : ℕ) → Memᴰ n (vars c.lhs) → n < variables)
    → (hits v c ≡ true) ↔ Matched c.lhs v
matching c v d h = (hit_matched v c, λ m. ap is_some (matched_bind c.lhs v d h m).1)
