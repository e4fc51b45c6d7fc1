-- Isos whose clauses are permuted have the same least and greatest counts, and have to do with lists alike.
use Prim.Native.Nat.{ℕ, min, max}
use native.Mathlib.Omega.{arith}
use mathlib.Core.Path.{◌≡◌, refl, ap, ap₂, ◌∙◌}
use mathlib.Core.List.{List, [], ◌∷◌, ◌++◌, map}
use lib.ListN.{length}
use mathlib.Core.Bool.{Bool, true, ◌&&◌}
use lib.ListN.{get_or}
use Rattle.calculus.specs.Tools.{all}
use Rattle.calculus.specs.Trees.{Iso}
use Rattle.calculus.specs.Lists.{list_free, free_iso, free_from, free_isos}
use Rattle.law_costs.specs.Costs.{least_of, greatest_of, clause_cost, iso_cost, costs_from, least_costs, greatest_costs}
use Rattle.law_reordering.specs.Reordered.{Permuted, empty, keep, swap, then, AlikeIso, Alike, more}
use Rattle.law_reordering.proofs.Alike.{swapped, perm_length, alike_map, alike_all}

least_swap : (x y : ℕ) (ns : List ℕ) → least_of (x ∷ (y ∷ ns)) ≡ least_of (y ∷ (x ∷ ns))
least_swap x y [] = let h : min x y ≡ min y x = omega arith in h
least_swap x y (n ∷ ns) = let m : ℕ = least_of (n ∷ ns) in let h : min x (min y m) ≡ min y (min x m) = omega arith in h

perm_least : {xs ys : List ℕ} → Permuted xs ys → least_of xs ≡ least_of ys
perm_least empty = refl
perm_least (keep {x} {y} {xs} {ys} e p) = go xs ys (perm_length p) (perm_least p)
  where
    go : (ms ns : List ℕ) → length ms ≡ length ns → least_of ms ≡ least_of ns → least_of (x ∷ ms) ≡ least_of (y ∷ ns)
    go [] [] h q = e
    go [] (n ∷ ns) h q = absurd (omega arith)
    go (m ∷ ms) [] h q = absurd (omega arith)
    go (m ∷ ms) (n ∷ ns) h q = ap₂ min e q
perm_least (swap {x} {y} {xs = xs} p q r) = least_swap x y xs ∙ ap least_of (swapped p q r)
perm_least (then p q) = perm_least p ∙ perm_least q

perm_greatest : {xs ys : List ℕ} → Permuted xs ys → greatest_of xs ≡ greatest_of ys
perm_greatest empty = refl
perm_greatest (keep e p) = ap₂ max e (perm_greatest p)
perm_greatest (swap {x} {y} {xs = xs} p q r) =
    let m : ℕ = greatest_of xs in let h : max x (max y m) ≡ max y (max x m) = omega arith in h ∙ ap greatest_of (swapped p q r)
perm_greatest (then p q) = perm_greatest p ∙ perm_greatest q

module _ (pick : List ℕ → ℕ) (unordered : (xs ys : List ℕ) → Permuted xs ys → pick xs ≡ pick ys) where
  iso_cost_alike : (known : List ℕ) {o n : Iso} → AlikeIso o n → iso_cost pick known o ≡ iso_cost pick known n
  iso_cost_alike known {o} {n} a = unordered (map (clause_cost known) o.clauses) (map (clause_cost known) n.clauses) (alike_map a (clause_cost known) (λ c. refl))

  costs_alike : (known : List ℕ) {os ns : List Iso} → Alike os ns → costs_from pick known os ≡ costs_from pick known ns
  costs_alike known Alike.none = refl
  costs_alike known (more {o} {n} {os} a h) =
      ap (λ c. costs_from pick (known ++ (c ∷ [])) os) (iso_cost_alike known a) ∙ costs_alike (known ++ (iso_cost pick known n ∷ [])) h

pub least_alike : {os ns : List Iso} → Alike os ns → least_costs os ≡ least_costs ns
unfolding least_costs
least_alike h = costs_alike least_of (λ xs ys p. perm_least p) [] h

pub greatest_alike : {os ns : List Iso} → Alike os ns → greatest_costs os ≡ greatest_costs ns
unfolding greatest_costs
greatest_alike h = costs_alike greatest_of (λ xs ys p. perm_greatest p) [] h

free_iso_alike : (known : List Bool) {o n : Iso} → AlikeIso o n → free_iso known o ≡ free_iso known n
free_iso_alike known a =
    ap₂ ◌&&◌ (ap₂ ◌&&◌ (ap list_free a.from) (ap list_free a.to)) (alike_all a (λ c. all (λ l. get_or known l.iso true) c.lets) (λ c. refl))

free_from_alike : (known : List Bool) {os ns : List Iso} → Alike os ns → free_from known os ≡ free_from known ns
free_from_alike known Alike.none = refl
free_from_alike known (more {o} {n} {os} a h) =
    ap (λ b. free_from (known ++ (b ∷ [])) os) (free_iso_alike known a) ∙ free_from_alike (known ++ (free_iso known n ∷ [])) h

pub free_alike : {os ns : List Iso} → Alike os ns → free_isos os ≡ free_isos ns
unfolding free_isos
free_alike h = free_from_alike [] h
