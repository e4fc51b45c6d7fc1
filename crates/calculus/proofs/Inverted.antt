-- The inversion of a file that satisfies the judgements satisfies them too.
use mathlib.Core.Path.{◌≡◌, refl, sym, ap, subst}
use mathlib.Core.List.{List, [], ◌∷◌, map}
use Rattle.calculus.specs.Trees.{Ty, Clause, Iso, invert_clause, invert}
use Rattle.calculus.specs.Clauses.{Sigs, sigs_of}
use Rattle.calculus.specs.Paper.{Apart, Covers, ClauseOk, IsoOk, FileOk}
use Rattle.calculus.proofs.Basic.{each_map, index_of_map}
use Rattle.calculus.proofs.Inverse.{lefts_invert, rights_invert}
use Rattle.calculus.proofs.Variables.{variables_invert, shapes_invert}
use Rattle.calculus.proofs.Typing.{swap_sigs, linear_invert}
use Prim.Native.Nat.{ℕ}
use Rattle.calculus.proofs.Recursion.{recursion_invert}

pub sigs_invert : (os : List Iso) → sigs_of (map invert os) ≡ swap_sigs (sigs_of os)
sigs_invert [] = refl
sigs_invert (o ∷ os) = ap (λ l. (o.to, o.from) ∷ l) (sigs_invert os)

pub clause_invert : (sigs : Sigs) (a b : Ty) (c : Clause) → ClauseOk sigs a b c → ClauseOk (swap_sigs sigs) b a (invert_clause c)
clause_invert sigs a b c h =
    record {
      variables = variables_invert c h.variables;
      shapes = shapes_invert c h.shapes;
      types = linear_invert sigs a b c h.types;
    }

pub iso_invert : (sigs : Sigs) (i : ℕ) (o : Iso) → IsoOk sigs i o → IsoOk (swap_sigs sigs) i (invert o)
iso_invert sigs i o h =
    record {
      clauses = each_map (ClauseOk (swap_sigs sigs) o.to o.from) invert_clause o.clauses (λ c m. clause_invert sigs o.from o.to c (h.clauses c m));
      recursion = recursion_invert i o h.recursion;
      lefts_apart = subst Apart (sym (lefts_invert o)) h.rights_apart;
      rights_apart = subst Apart (sym (rights_invert o)) h.lefts_apart;
      lefts_cover = subst (Covers o.to) (sym (lefts_invert o)) h.rights_cover;
      rights_cover = subst (Covers o.from) (sym (rights_invert o)) h.lefts_cover;
    }

pub file_invert : (os : List Iso) → FileOk os → FileOk (map invert os)
file_invert os h i q e =
    let r = index_of_map invert os i e in
    subst (IsoOk (sigs_of (map invert os)) i) r.2
    (subst (λ s. IsoOk s i (invert r.0)) (sym (sigs_invert os)) (iso_invert (sigs_of os) i r.0 (h i r.0 r.1)))
