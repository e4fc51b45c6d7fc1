-- The paper's matching σ[v] = w of section 2.3 and document 01's "some choice of closed values" are the same.
use Prim.Native.Nat.{ℕ, ◌<◌}
use mathlib.Core.Path.{◌≡◌, sym, ap, ◌∙◌, subst}
use mathlib.Core.Logic.{◌↔◌, ◌⊎◌, inl, inr}
use mathlib.Core.Option.{get_or}
use mathlib.Core.List.Memᴰ
use mathlib.Core.List.{Memᴰ}
use Rattle.limits.specs.Limits.{variables}
use Rattle.calculus.specs.Trees.{Pat, Val, vars, vleaf, unit_leaf}
use Rattle.calculus.specs.Slots.{empty}
use Rattle.calculus.specs.Terms.{look}
use Rattle.calculus.specs.Paper.{Valuation, Matches, Matched, Distinct}
use Rattle.calculus.proofs.Binding.{Gives, bind_found}
use Rattle.calculus.proofs.Matching.{matches_fill, matched_bind}
use Rattle.calculus.proofs.Substitution.{look_gives}

-- a valuation of a pattern gives a variable one value
gives_unique : {σ : Valuation} {p : Pat} {v : Val} → Matches σ p v → (n : ℕ) (u w : Val) → Gives σ n u → Gives σ n w → u ≡ w
gives_unique (Matches.leaf s) n u w i j = absurd (Memᴰ.not-nil i)
gives_unique (Matches.var e) n u w i j =
    ap (λ b. b.1) (Memᴰ.eq_of_singleton (subst (λ ρ. Gives ρ n u) e i))
    ∙ sym (ap (λ b. b.1) (Memᴰ.eq_of_singleton (subst (λ ρ. Gives ρ n w) e j)))
gives_unique (Matches.inj e m) n u w i j = gives_unique m n u w i j
gives_unique (Matches.node {σ} {ρ} s m k d e) n u w i j =
    go (gives_unique m n u w) (gives_unique k n u w)
    (Memᴰ.append_cases σ (subst (λ τ. Gives τ n u) e i)) (Memᴰ.append_cases σ (subst (λ τ. Gives τ n w) e j))
  where
    go : (Gives σ n u → Gives σ n w → u ≡ w) → (Gives ρ n u → Gives ρ n w → u ≡ w) → Gives σ n u ⊎ Gives ρ n u → Gives σ n w ⊎ Gives ρ n w → u ≡ w
    go f g (inl a) (inl b) = f a b
    go f g (inl a) (inr b) = absurd (d n u w a b)
    go f g (inr a) (inl b) = absurd (d n w u b a)
    go f g (inr a) (inr b) = g a b

pub matches_matched : {σ : Valuation} {p : Pat} {v : Val} → Matches σ p v → Matched p v
matches_matched {σ} m = record { choice = χ; turns = matches_fill m χ agrees }
  where
    χ : ℕ → Val
    χ n = get_or (look σ n) (vleaf unit_leaf)

    agrees : (n : ℕ) (w : Val) → Gives σ n w → χ n ≡ w
    agrees n w i =
        let r = look_gives σ i in ap (λ x. get_or x (vleaf unit_leaf)) r.1 ∙ gives_unique m n r.0 w r.2 i

-- For a pattern without repeated variables, whose variables have slots: some valuation matches exactly when some choice does.
pub matches_iff : (p : Pat) (v : Val) → Distinct (vars p) → ((n : ℕ) → Memᴰ n (vars p) → n < variables)
    → ((σ : Valuation) × Matches σ p v) ↔ Matched p v
matches_iff p v d h = (
  (λ m. matches_matched m.1),
  (λ m. let f = bind_found p v (empty Val) (matched_bind p v d h m).1 in (f.σ, f.matches)),
)
