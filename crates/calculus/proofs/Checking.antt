-- Accepted exactly when typed: the tests of a clause, an iso and a file decide the judgements, and each of 8 to 14 is given exactly
-- when its own condition fails, in the stated order. The conditions on a clause are the linear typing of Table 1.
use Prim.Native.Nat.{ℕ, ◌≤◌, zero, suc, ◌+◌}
use mathlib.Core.Path.{◌≡◌, refl, sym, ap, ap₂, ◌∙◌, subst}
use mathlib.Core.Logic.{◌↔◌, ◌⊎◌, inl, inr}
use mathlib.Core.Bool.{Bool, true, false, not, false≢true, cond, ◌||◌}
use mathlib.Core.Option.{Option, none, some}
use mathlib.Core.List.{List, [], ◌∷◌, Memᴰ}
use Rattle.limits.specs.Limits.{max_tags}
use Rattle.calculus.specs.Tools.{all, first_failing, first_of, or_else}
use Rattle.calculus.specs.Trees.{Ty, left, right, Pat, pvar, pinj, Let, Clause, Iso, same_tag, vars, tags, unit_leaf, empty_leaf, pair_node, element_node, pleaf, pnode, same_node}
use Rattle.calculus.specs.Slots.{Slots}
use Rattle.calculus.specs.Refusals.{Refusal, clause_line, iso_line, variable, let_shape, bad_type, overlap, gap, recursion}
use Rattle.calculus.specs.Clauses.{Sigs, variables_rule, let_shapes, typed, clause_fault, clash, apart, full_weight, lefts, rights, side_fault, at, iso_fault}
use Rattle.calculus.specs.Clauses.{fault, sigs_of, zoned, clause_rule, structural, recursion_rule, at_breach, breach, recursion_fault, fault_from}
use Rattle.calculus.specs.Paper.{Fits, Chain, Orth, left_right, right_left, under, fst, snd, Apart, Distinct, Covers, ClauseOk, IsoOk, FileOk, nil_cons}
use Rattle.calculus.specs.Paper.{cons_nil, Recursion}
use Rattle.calculus.specs.Faulty.{ClauseFault, SideFault, overlap_left, overlap_right, gap_left, gap_right, FirstClause, FirstBreach, Breach, IsoFault, FirstIso}
use Rattle.calculus.proofs.Basic.{none≢some, some_inj, or_else_cases, or_else_none, not_both, is_false, and_true, true_and, or_true, true_or_left}
use Rattle.calculus.proofs.Basic.{true_or_right, none_failing, each_map, all_mem, mem_all, first_of_none, none_first_of, mem_index, same_node_eq}
use Rattle.calculus.proofs.Basic.{eq_same_node}
use Rattle.calculus.proofs.Formed.{Formed}
use Rattle.calculus.proofs.Variables.{variables_iff, shapes_iff, distinct_lhs, distinct_rhs}
use Rattle.calculus.proofs.Typing.{typed_iff}
use Rattle.calculus.proofs.Covering.{covering}
use native.Mathlib.Nat.{zero-add, add-zero}
use native.Mathlib.Omega.{arith}
use lib.ListN.{get_elem?}
use Rattle.calculus.proofs.Matrix.{fits_shape}
use Rattle.calculus.specs.Shapes.{Shape}
use Rattle.calculus.proofs.Recursion.{rule_iff, zoned_iff, structural_iff, recursion_iff}

-- ---- a test that decides a judgement

-- a test that fails refutes the judgement
refuted : {b : Bool} {P : Type 0} → (b ≡ true) ↔ P → b ≡ false → ¬ P
refuted r e p = not_both (r.1 p) e

fails : {P : Type 0} (b : Bool) → (b ≡ true) ↔ P → ¬ P → b ≡ false
fails b r h = is_false b (λ e. h (r.0 e))

-- ---- orthogonality

pub clash_orth : (p q : Pat) → clash p q ≡ true → Orth p q
clash_orth (pvar n) q e = absurd (false≢true e)
clash_orth (pleaf l) (pvar m) e = absurd (false≢true e)
clash_orth (pleaf l) (pleaf k) e = absurd (false≢true e)
clash_orth (pleaf l) (pinj t q) e = absurd (false≢true e)
clash_orth (pleaf unit_leaf) (pnode k q r) e = absurd (false≢true e)
clash_orth (pleaf empty_leaf) (pnode pair_node q r) e = absurd (false≢true e)
clash_orth (pleaf empty_leaf) (pnode element_node q r) e = nil_cons
clash_orth (pinj s p) (pvar m) e = absurd (false≢true e)
clash_orth (pinj s p) (pleaf k) e = absurd (false≢true e)
clash_orth (pinj left p) (pinj left q) e = under refl (clash_orth p q e)
clash_orth (pinj left p) (pinj right q) e = left_right
clash_orth (pinj right p) (pinj left q) e = right_left
clash_orth (pinj right p) (pinj right q) e = under refl (clash_orth p q e)
clash_orth (pinj s p) (pnode k q r) e = absurd (false≢true e)
clash_orth (pnode m p p') (pvar n) e = absurd (false≢true e)
clash_orth (pnode m p p') (pleaf unit_leaf) e = absurd (false≢true e)
clash_orth (pnode pair_node p p') (pleaf empty_leaf) e = absurd (false≢true e)
clash_orth (pnode element_node p p') (pleaf empty_leaf) e = cons_nil
clash_orth (pnode m p p') (pinj t q) e = absurd (false≢true e)
clash_orth (pnode m p p') (pnode k q q') e =
    let h = and_true (same_node m k) (clash p q || clash p' q') e in
    let s = same_node_eq m k h.0 in
    elim (or_true (clash p q) (clash p' q') h.1) [ inl x ↦ fst s (clash_orth p q x) | inr x ↦ snd s (clash_orth p' q' x) ]

pub orth_clash : {p q : Pat} → Orth p q → clash p q ≡ true
orth_clash left_right = refl
orth_clash right_left = refl
orth_clash nil_cons = refl
orth_clash cons_nil = refl
orth_clash (under {s} {t} {p} {q} e h) = true_or_right (not (same_tag s t)) (orth_clash h)
orth_clash (fst {k} {m} {p} {q} {p'} {q'} s h) = true_and (eq_same_node s) (true_or_left (clash p' q') (orth_clash h))
orth_clash (snd {k} {m} {p} {q} {p'} {q'} s h) = true_and (eq_same_node s) (true_or_right (clash p q) (orth_clash h))

pub apart_of : (ps : List Pat) → apart ps ≡ true → Apart ps
apart_of [] e = Apart.alone
apart_of (p ∷ ps) e =
    let h = and_true (all (clash p) ps) (apart ps) e in Apart.beside (λ q m. clash_orth p q (all_mem (clash p) h.0 m)) (apart_of ps h.1)

pub of_apart : {ps : List Pat} → Apart ps → apart ps ≡ true
of_apart Apart.alone = refl
of_apart (Apart.beside {p} {ps} f h) = true_and (mem_all (clash p) ps (λ q m. orth_clash (f q m))) (of_apart h)

pub apart_iff : (ps : List Pat) → (apart ps ≡ true) ↔ Apart ps
apart_iff ps = (apart_of ps, of_apart)

-- ---- 8 to 10

module _ (sigs : Sigs) (a b : Ty) (c : Clause) where
  abbrev tests : Bool → Bool → Bool → Option Refusal
  tests p q r = first_failing ((p, variable clause_line) ∷ (q, let_shape clause_line) ∷ (r, bad_type clause_line) ∷ [])

  pub clause_ok : clause_fault sigs a b c ≡ none → ClauseOk sigs a b c
  unfolding clause_fault
  clause_ok e =
      let e₁ = none_failing (variables_rule c) (variable clause_line) _ e in
      let e₂ = none_failing (let_shapes c) (let_shape clause_line) _ e₁.1 in
      let e₃ = none_failing (typed sigs a b c) (bad_type clause_line) _ e₂.1 in
      record { variables = (variables_iff c).0 e₁.0; shapes = (shapes_iff c).0 e₂.0; types = (typed_iff sigs a b c).0 e₃.0 }

  pub ok_clause : ClauseOk sigs a b c → clause_fault sigs a b c ≡ none
  unfolding clause_fault
  ok_clause h = rw ((variables_iff c).1 h.variables, (shapes_iff c).1 h.shapes, (typed_iff sigs a b c).1 h.types)

  pub clause_fault_lem : (f : Refusal) → clause_fault sigs a b c ≡ some f → ClauseFault sigs a b c f
  unfolding clause_fault
  clause_fault_lem f = go (variables_rule c) (let_shapes c) (typed sigs a b c) refl refl refl
    where
      go : (p q r : Bool) → variables_rule c ≡ p → let_shapes c ≡ q → typed sigs a b c ≡ r → tests p q r ≡ some f → ClauseFault sigs a b c f
      go true true true hp hq hr e = absurd (none≢some e)
      go true true false hp hq hr e =
          subst (ClauseFault sigs a b c) (some_inj e)
          (ClauseFault.types ((variables_iff c).0 hp) ((shapes_iff c).0 hq) (refuted (typed_iff sigs a b c) hr))
      go true false r hp hq hr e =
          subst (ClauseFault sigs a b c) (some_inj e) (ClauseFault.shapes ((variables_iff c).0 hp) (refuted (shapes_iff c) hq))
      go false q r hp hq hr e = subst (ClauseFault sigs a b c) (some_inj e) (ClauseFault.variables (refuted (variables_iff c) hp))

  pub fault_clause : {f : Refusal} → ClauseFault sigs a b c f → clause_fault sigs a b c ≡ some f
  unfolding clause_fault
  fault_clause (ClauseFault.variables h) = rw (fails (variables_rule c) (variables_iff c) h)
  fault_clause (ClauseFault.shapes h k) = rw ((variables_iff c).1 h, fails (let_shapes c) (shapes_iff c) k)
  fault_clause (ClauseFault.types h k l) =
      rw ((variables_iff c).1 h, (shapes_iff c).1 k, fails (typed sigs a b c) (typed_iff sigs a b c) l)

  pub clause_fault_iff : (f : Refusal) → (clause_fault sigs a b c ≡ some f) ↔ ClauseFault sigs a b c f
  clause_fault_iff f = (clause_fault_lem f, fault_clause)

-- ---- 11 to 14

-- the patterns of an iso's sides have at most the left and right nodes that a weight can tell
pub record Light (o : Iso) : Type 0 where
  pub lhs : (c : Clause) → Memᴰ c o.clauses → tags c.lhs ≤ max_tags
  pub rhs : (c : Clause) → Memᴰ c o.clauses → tags c.rhs ≤ max_tags

-- the right pattern fits
pub rhs_fits : {sigs : Sigs} {d : Slots Ty} {ls : List Let} {p : Pat} {b : Ty} → Chain sigs d ls p b → (e : Slots Ty) × Fits e p b
rhs_fits (Chain.value {d = d} f) = (d, f)
rhs_fits (Chain.step s k j x y i c) = rhs_fits c

-- and has the shape of its type
pub rhs_shape : {sigs : Sigs} {d : Slots Ty} {ls : List Let} {p : Pat} {b : Ty} → Chain sigs d ls p b → Shape p b
rhs_shape (Chain.value f) = fits_shape f
rhs_shape (Chain.step s k j x y i c) = rhs_shape c

module _ (sigs : Sigs) (o : Iso) (light : Light o) (ok : (c : Clause) → Memᴰ c o.clauses → ClauseOk sigs o.from o.to c) where
  left_cover : Apart (lefts o) → (full_weight (lefts o) ≡ true) ↔ Covers o.from (lefts o)
  left_cover =
      covering o.from (lefts o)
      (each_map (λ p. Shape p o.from) (λ c. c.lhs) o.clauses (λ c m. fits_shape (ok c m).types.lhs))
      (each_map (λ p. Distinct (vars p)) (λ c. c.lhs) o.clauses (λ c m. distinct_lhs c (ok c m).variables))
      (each_map (λ p. tags p ≤ max_tags) (λ c. c.lhs) o.clauses light.lhs)

  right_cover : Apart (rights o) → (full_weight (rights o) ≡ true) ↔ Covers o.to (rights o)
  right_cover =
      covering o.to (rights o)
      (each_map (λ p. Shape p o.to) (λ c. c.rhs) o.clauses (λ c m. rhs_shape (ok c m).types.rest))
      (each_map (λ p. Distinct (vars p)) (λ c. c.rhs) o.clauses (λ c m. distinct_rhs c (ok c m).variables))
      (each_map (λ p. tags p ≤ max_tags) (λ c. c.rhs) o.clauses light.rhs)

  abbrev side_tests : Bool → Bool → Bool → Bool → Option Refusal
  side_tests p q r s = first_failing ((p, overlap iso_line left) ∷ (q, overlap iso_line right) ∷ (r, gap iso_line left) ∷ (s, gap iso_line right) ∷ [])

  pub side_ok : (i : ℕ) → Recursion i o → side_fault o ≡ none → IsoOk sigs i o
  unfolding side_fault
  side_ok i rule e =
      let e₁ = none_failing (apart (lefts o)) (overlap iso_line left) _ e in
      let e₂ = none_failing (apart (rights o)) (overlap iso_line right) _ e₁.1 in
      let e₃ = none_failing (full_weight (lefts o)) (gap iso_line left) _ e₂.1 in
      let e₄ = none_failing (full_weight (rights o)) (gap iso_line right) _ e₃.1 in
      let l = apart_of (lefts o) e₁.0 in
      let m = apart_of (rights o) e₂.0 in
      record { clauses = ok; recursion = rule; lefts_apart = l; rights_apart = m; lefts_cover = (left_cover l).0 e₃.0; rights_cover = (right_cover m).0 e₄.0 }

  pub side_fault_lem : (f : Refusal) → side_fault o ≡ some f → SideFault o f
  unfolding side_fault
  side_fault_lem f = go (apart (lefts o)) (apart (rights o)) (full_weight (lefts o)) (full_weight (rights o)) refl refl refl refl
    where
      go : (p q r s : Bool) → apart (lefts o) ≡ p → apart (rights o) ≡ q → full_weight (lefts o) ≡ r → full_weight (rights o) ≡ s
          → side_tests p q r s ≡ some f → SideFault o f
      go true true true true hp hq hr hs e = absurd (none≢some e)
      go true true true false hp hq hr hs e =
          let l = apart_of (lefts o) hp in
          let m = apart_of (rights o) hq in
          subst (SideFault o) (some_inj e) (gap_right l m ((left_cover l).0 hr) (refuted (right_cover m) hs))
      go true true false s hp hq hr hs e =
          let l = apart_of (lefts o) hp in
          subst (SideFault o) (some_inj e) (gap_left l (apart_of (rights o) hq) (refuted (left_cover l) hr))
      go true false r s hp hq hr hs e =
          subst (SideFault o) (some_inj e) (overlap_right (apart_of (lefts o) hp) (refuted (apart_iff (rights o)) hq))
      go false q r s hp hq hr hs e = subst (SideFault o) (some_inj e) (overlap_left (refuted (apart_iff (lefts o)) hp))

  pub fault_side : {f : Refusal} → SideFault o f → side_fault o ≡ some f
  unfolding side_fault
  fault_side (overlap_left h) = rw (fails (apart (lefts o)) (apart_iff (lefts o)) h)
  fault_side (overlap_right h k) = rw (of_apart h, fails (apart (rights o)) (apart_iff (rights o)) k)
  fault_side (gap_left h k l) = rw (of_apart h, of_apart k, fails (full_weight (lefts o)) (left_cover h) l)
  fault_side (gap_right h k l m) =
      rw (of_apart h, of_apart k, (left_cover h).1 l, fails (full_weight (rights o)) (right_cover k) m)

pub ok_side : (sigs : Sigs) (i : ℕ) (o : Iso) → Light o → IsoOk sigs i o → side_fault o ≡ none
unfolding side_fault
ok_side sigs i o light h =
    rw (
      of_apart h.lefts_apart,
      of_apart h.rights_apart,
      (left_cover sigs o light h.clauses h.lefts_apart).1 h.lefts_cover,
      (right_cover sigs o light h.clauses h.rights_apart).1 h.rights_cover,
    )

-- ---- a refusal and its line

pub at_none : (n : ℕ) (x : Option Refusal) → at n x ≡ none → x ≡ none
at_none n none e = refl
at_none n (some f) e = absurd (none≢some (sym e))

at_some : (n m : ℕ) (f : Refusal) (x : Option Refusal) → at n x ≡ some (f, m) → (x ≡ some f) × (m ≡ n)
at_some n m f none e = absurd (none≢some e)
at_some n m f (some g) e = (ap some (ap (λ r. r.0) (some_inj e)), ap (λ r. r.1) (sym (some_inj e)))

module _ (sigs : Sigs) (a b : Ty) where
  abbrev at_clause : Clause → Option (Refusal × ℕ)
  at_clause c = at c.line (clause_fault sigs a b c)

  clauses_ok : (cs : List Clause) → first_of at_clause cs ≡ none → (c : Clause) → Memᴰ c cs → ClauseOk sigs a b c
  clauses_ok cs e c m = clause_ok sigs a b c (at_none c.line (clause_fault sigs a b c) (first_of_none at_clause cs e c m))

  ok_clauses : (cs : List Clause) → ((c : Clause) → Memᴰ c cs → ClauseOk sigs a b c) → first_of at_clause cs ≡ none
  ok_clauses cs h = none_first_of at_clause cs (λ c m. ap (at c.line) (ok_clause sigs a b c (h c m)))

  first_clause : (cs : List Clause) (f : Refusal) (n : ℕ) → first_of at_clause cs ≡ some (f, n) → FirstClause sigs a b cs f n
  first_clause [] f n e = absurd (none≢some e)
  first_clause (c ∷ cs) f n e = go (or_else_cases (at_clause c) (first_of at_clause cs) (f, n) e) (first_clause cs f n)
    where
      go : (at_clause c ≡ some (f, n)) ⊎ ((at_clause c ≡ none) × (first_of at_clause cs ≡ some (f, n)))
          → (first_of at_clause cs ≡ some (f, n) → FirstClause sigs a b cs f n) → FirstClause sigs a b (c ∷ cs) f n
      go (inl h) k = let r = at_some c.line n f (clause_fault sigs a b c) h in FirstClause.here (clause_fault_lem sigs a b c f r.0) r.1
      go (inr h) k = FirstClause.later (clause_ok sigs a b c (at_none c.line (clause_fault sigs a b c) h.0)) (k h.1)

  clause_first : {cs : List Clause} {f : Refusal} {n : ℕ} → FirstClause sigs a b cs f n → first_of at_clause cs ≡ some (f, n)
  clause_first (FirstClause.here {c} {cs} {f} {n} h e) =
      ap (λ x. or_else (at c.line x) (first_of at_clause cs)) (fault_clause sigs a b c h) ∙ ap (λ m. some (f, m)) (sym e)
  clause_first (FirstClause.later {c} {cs} h k) = ap₂ or_else (ap (at c.line) (ok_clause sigs a b c h)) (clause_first k)

-- ---- 23

none_breach : (i : ℕ) (cs : List Clause) → first_of (at_breach i) cs ≡ none → all (clause_rule i) cs ≡ true
none_breach i [] e = refl
none_breach i (c ∷ cs) e =
    let h = or_else_none (at_breach i c) (first_of (at_breach i) cs) e in true_and (go (clause_rule i c) h.0) (none_breach i cs h.1)
  where
    go : (b : Bool) → ◌≡◌ {A = Option (Refusal × ℕ)} (cond b none (some (recursion clause_line, c.line))) none → b ≡ true
    go true k = refl
    go false k = absurd (none≢some (sym k))

first_breach : (i : ℕ) (cs : List Clause) (f : Refusal) (n : ℕ) → first_of (at_breach i) cs ≡ some (f, n) → (f ≡ recursion clause_line) × FirstBreach i cs n
first_breach i [] f n e = absurd (none≢some e)
first_breach i (c ∷ cs) f n e = go (clause_rule i c) refl e (first_breach i cs f n)
  where
    go : (b : Bool) → clause_rule i c ≡ b → or_else (cond b none (some (recursion clause_line, c.line))) (first_of (at_breach i) cs) ≡ some (f, n)
        → (first_of (at_breach i) cs ≡ some (f, n) → (f ≡ recursion clause_line) × FirstBreach i cs n) → (f ≡ recursion clause_line) × FirstBreach i (c ∷ cs) n
    go true h x rec = let r = rec x in (r.0, FirstBreach.later ((rule_iff i c).0 h) r.1)
    go false h x rec = (ap (λ r. r.0) (sym (some_inj x)), FirstBreach.here (refuted (rule_iff i c) h) (ap (λ r. r.1) (sym (some_inj x))))

breach_first : (i : ℕ) {cs : List Clause} {n : ℕ} → FirstBreach i cs n → first_of (at_breach i) cs ≡ some (recursion clause_line, n)
breach_first i (FirstBreach.here {c} {cs} {n} h e) =
    ap (λ b. or_else (cond b none (some (recursion clause_line, c.line))) (first_of (at_breach i) cs)) (fails (clause_rule i c) (rule_iff i c) h)
    ∙ ap (λ m. some (recursion clause_line, m)) (sym e)
breach_first i (FirstBreach.later {c} {cs} h k) =
    ap (λ b. or_else (cond b none (some (recursion clause_line, c.line))) (first_of (at_breach i) cs)) ((rule_iff i c).1 h) ∙ breach_first i k

module _ (i : ℕ) (o : Iso) where
  pub recursion_ok : recursion_fault i o ≡ none → Recursion i o
  unfolding recursion_fault recursion_rule structural
  recursion_ok = go (recursion_rule i o) refl
    where
      whole : (zoned o.from ≡ true) → first_of (at_breach i) o.clauses ≡ none → Recursion i o
      whole z e = Recursion.written ((structural_iff i o).0 (true_and z (none_breach i o.clauses e)))

      zone : (b : Bool) → zoned o.from ≡ b → cond b (first_of (at_breach i) o.clauses) (some (recursion iso_line, o.line)) ≡ none → Recursion i o
      zone true z e = whole z e
      zone false z e = absurd (none≢some (sym e))

      go : (b : Bool) → recursion_rule i o ≡ b → cond b none (breach i o) ≡ none → Recursion i o
      go true h e = (recursion_iff i o).0 h
      go false h e = zone (zoned o.from) refl e

  pub ok_recursion : Recursion i o → recursion_fault i o ≡ none
  unfolding recursion_fault
  ok_recursion r = ap (λ b. cond b none (breach i o)) ((recursion_iff i o).1 r)

  pub recursion_fault_lem : (f : Refusal) (n : ℕ) → recursion_fault i o ≡ some (f, n) → (¬ Recursion i o) × Breach i o f n
  unfolding recursion_fault
  recursion_fault_lem f n = go (recursion_rule i o) refl
    where
      zone : (b : Bool) → zoned o.from ≡ b → cond b (first_of (at_breach i) o.clauses) (some (recursion iso_line, o.line)) ≡ some (f, n) → Breach i o f n
      zone true z e =
          let r = first_breach i o.clauses f n e in subst (λ g. Breach i o g n) (sym r.0) (Breach.in_clause ((zoned_iff o.from).0 z) r.1)
      zone false z e =
          subst (λ g. Breach i o g n) (ap (λ r. r.0) (some_inj e))
          (Breach.in_type (refuted (zoned_iff o.from) z) (ap (λ r. r.1) (sym (some_inj e))))

      go : (b : Bool) → recursion_rule i o ≡ b → cond b none (breach i o) ≡ some (f, n) → (¬ Recursion i o) × Breach i o f n
      go true h e = absurd (none≢some e)
      go false h e = (refuted (recursion_iff i o) h, zone (zoned o.from) refl e)

  pub fault_recursion : {f : Refusal} {n : ℕ} → ¬ Recursion i o → Breach i o f n → recursion_fault i o ≡ some (f, n)
  unfolding recursion_fault
  fault_recursion h b = ap (λ x. cond x none (breach i o)) (fails (recursion_rule i o) (recursion_iff i o) h) ∙ place b
    where
      place : {f : Refusal} {n : ℕ} → Breach i o f n → breach i o ≡ some (f, n)
      place (Breach.in_type z e) =
          ap (λ x. cond x (first_of (at_breach i) o.clauses) (some (recursion iso_line, o.line))) (fails (zoned o.from) (zoned_iff o.from) z)
          ∙ ap (λ m. some (recursion iso_line, m)) (sym e)
      place (Breach.in_clause z k) =
          ap (λ x. cond x (first_of (at_breach i) o.clauses) (some (recursion iso_line, o.line))) ((zoned_iff o.from).1 z) ∙ breach_first i k

-- ---- an iso, and the isos in order

module _ (sigs : Sigs) (i : ℕ) (o : Iso) (light : Light o) where
  abbrev in_clauses : Option (Refusal × ℕ)
  in_clauses = first_of (at_clause sigs o.from o.to) o.clauses

  abbrev after_clauses : Option (Refusal × ℕ)
  after_clauses = or_else (recursion_fault i o) (at o.line (side_fault o))

  pub iso_ok : iso_fault sigs i o ≡ none → IsoOk sigs i o
  unfolding iso_fault
  iso_ok e =
      let h = or_else_none in_clauses after_clauses e in
      let k = or_else_none (recursion_fault i o) (at o.line (side_fault o)) h.1 in
      side_ok sigs o light (clauses_ok sigs o.from o.to o.clauses h.0) i (recursion_ok i o k.0) (at_none o.line (side_fault o) k.1)

  pub ok_iso : IsoOk sigs i o → iso_fault sigs i o ≡ none
  unfolding iso_fault
  ok_iso h =
      ap₂ or_else (ok_clauses sigs o.from o.to o.clauses h.clauses)
      (ap₂ or_else (ok_recursion i o h.recursion) (ap (at o.line) (ok_side sigs i o light h)))

  pub iso_fault_lem : (f : Refusal) (n : ℕ) → iso_fault sigs i o ≡ some (f, n) → IsoFault sigs i o f n
  unfolding iso_fault
  iso_fault_lem f n e = go (or_else_cases in_clauses after_clauses (f, n) e)
    where
      later : ((c : Clause) → Memᴰ c o.clauses → ClauseOk sigs o.from o.to c)
          → (recursion_fault i o ≡ some (f, n)) ⊎ ((recursion_fault i o ≡ none) × (at o.line (side_fault o) ≡ some (f, n))) → IsoFault sigs i o f n
      later ok (inl h) =
          let r = recursion_fault_lem i o f n h in IsoFault.in_recursion ok r.0 r.1
      later ok (inr h) =
          let r = at_some o.line n f (side_fault o) h.1 in
          IsoFault.in_sides ok (recursion_ok i o h.0) (side_fault_lem sigs o light ok f r.0) r.1

      go : (in_clauses ≡ some (f, n)) ⊎ ((in_clauses ≡ none) × (after_clauses ≡ some (f, n))) → IsoFault sigs i o f n
      go (inl h) = IsoFault.in_clause (first_clause sigs o.from o.to o.clauses f n h)
      go (inr h) =
          later (clauses_ok sigs o.from o.to o.clauses h.0) (or_else_cases (recursion_fault i o) (at o.line (side_fault o)) (f, n) h.1)

  pub fault_iso : {f : Refusal} {n : ℕ} → IsoFault sigs i o f n → iso_fault sigs i o ≡ some (f, n)
  unfolding iso_fault
  fault_iso (IsoFault.in_clause h) = ap (λ x. or_else x after_clauses) (clause_first sigs o.from o.to h)
  fault_iso (IsoFault.in_recursion ok h b) =
      ap₂ or_else (ok_clauses sigs o.from o.to o.clauses ok) (ap (λ x. or_else x (at o.line (side_fault o))) (fault_recursion i o h b))
  fault_iso (IsoFault.in_sides {f} {n} ok r h e) =
      ap₂ or_else (ok_clauses sigs o.from o.to o.clauses ok)
      (ap₂ or_else (ok_recursion i o r) (ap (at o.line) (fault_side sigs o light ok h) ∙ ap (λ m. some (f, m)) (sym e)))

-- every iso of a list is light
abbrev AllLight : List Iso → Type 0
AllLight os = (o : Iso) → Memᴰ o os → Light o

module _ (sigs : Sigs) where
  -- the isos of a list, numbered from i on
  abbrev AllOk : ℕ → List Iso → Type 0
  AllOk i os = (j : ℕ) (o : Iso) → get_elem? os j ≡ some o → IsoOk sigs (i + j) o

  ok_cons : (i : ℕ) (o : Iso) (os : List Iso) → IsoOk sigs i o → AllOk (suc i) os → AllOk i (o ∷ os)
  ok_cons i o os h k zero q e = subst (λ n. IsoOk sigs n q) (sym (add-zero i)) (subst (IsoOk sigs i) (some_inj e) h)
  ok_cons i o os h k (suc j) q e = subst (λ n. IsoOk sigs n q) (omega arith) (k j q e)

  isos_ok : (i : ℕ) (os : List Iso) → AllLight os → fault_from sigs i os ≡ none → AllOk i os
  isos_ok i [] light e j o h = absurd (none≢some h)
  isos_ok i (o ∷ os) light e j q k =
      let h = or_else_none (iso_fault sigs i o) (fault_from sigs (suc i) os) e in
      ok_cons i o os (iso_ok sigs i o (light o (Memᴰ.head refl)) h.0) (isos_ok (suc i) os (λ q m. light q (Memᴰ.tail m)) h.1) j q k

  ok_isos : (i : ℕ) (os : List Iso) → AllLight os → AllOk i os → fault_from sigs i os ≡ none
  ok_isos i [] light h = refl
  ok_isos i (o ∷ os) light h =
      ap₂ or_else (ok_iso sigs i o (light o (Memᴰ.head refl)) (subst (λ n. IsoOk sigs n o) (add-zero i) (h 0 o refl)))
      (ok_isos (suc i) os (λ q m. light q (Memᴰ.tail m)) (λ j q e. subst (λ n. IsoOk sigs n q) (omega arith) (h (suc j) q e)))

  first_iso : (i : ℕ) (os : List Iso) → AllLight os → (f : Refusal) (n : ℕ) → fault_from sigs i os ≡ some (f, n) → FirstIso sigs i os f n
  first_iso i [] light f n e = absurd (none≢some e)
  first_iso i (o ∷ os) light f n e =
      go (or_else_cases (iso_fault sigs i o) (fault_from sigs (suc i) os) (f, n) e) (first_iso (suc i) os (λ q k. light q (Memᴰ.tail k)) f n)
    where
      go : (iso_fault sigs i o ≡ some (f, n)) ⊎ ((iso_fault sigs i o ≡ none) × (fault_from sigs (suc i) os ≡ some (f, n)))
          → (fault_from sigs (suc i) os ≡ some (f, n) → FirstIso sigs (suc i) os f n) → FirstIso sigs i (o ∷ os) f n
      go (inl h) k = FirstIso.here (iso_fault_lem sigs i o (light o (Memᴰ.head refl)) f n h)
      go (inr h) k = FirstIso.later (iso_ok sigs i o (light o (Memᴰ.head refl)) h.0) (k h.1)

  iso_first : {i : ℕ} {os : List Iso} {f : Refusal} {n : ℕ} → AllLight os → FirstIso sigs i os f n → fault_from sigs i os ≡ some (f, n)
  iso_first light (FirstIso.here {i} {o} {os} h) = ap (λ x. or_else x (fault_from sigs (suc i) os)) (fault_iso sigs i o (light o (Memᴰ.head refl)) h)
  iso_first light (FirstIso.later {i} {o} h k) =
      ap₂ or_else (ok_iso sigs i o (light o (Memᴰ.head refl)) h) (iso_first (λ q m. light q (Memᴰ.tail m)) k)

-- ---- a file

pub light_of : (os : List Iso) → Formed os → (o : Iso) → Memᴰ o os → Light o
light_of os h o m =
    let r = mem_index m in
    record { lhs = λ c k. (h r.0 o r.1 c k).lhs.light; rhs = λ c k. (h r.0 o r.1 c k).rhs.light }

pub file_ok : (os : List Iso) → Formed os → (fault os ≡ none) ↔ FileOk os
unfolding fault
file_ok os h = (
  λ e i o k. subst (λ n. IsoOk (sigs_of os) n o) (zero-add i) (isos_ok (sigs_of os) 0 os (light_of os h) e i o k),
  λ g. ok_isos (sigs_of os) 0 os (light_of os h) (λ j o e. subst (λ n. IsoOk (sigs_of os) n o) (sym (zero-add j)) (g j o e)),
)

pub file_fault : (os : List Iso) → Formed os → (f : Refusal) (n : ℕ) → (fault os ≡ some (f, n)) ↔ FirstIso (sigs_of os) 0 os f n
unfolding fault
file_fault os h f n = (first_iso (sigs_of os) 0 os (light_of os h) f n, iso_first (sigs_of os) (light_of os h))
