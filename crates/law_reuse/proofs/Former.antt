-- What the former rule accepts is accepted, and every service answers as it did.
use Prim.Native.Nat.{ℕ, suc, ◌+◌}
use native.Mathlib.Nat.{zero-add, add-zero}
use native.Mathlib.Omega.{arith}
use mathlib.Core.Path.{◌≡◌, refl, sym, ap, ap₂, ◌∙◌, subst}
use mathlib.Core.Logic.{◌⊎◌, inl, inr}
use mathlib.Core.Bool.{Bool, true, false, cond, not, false≢true}
use mathlib.Core.Option.{Option, none, some}
use mathlib.Core.List.Memᴰ
use mathlib.Core.List.{List, [], ◌∷◌, ◌++◌, Memᴰ}
use lib.Dec.{eqb}
use lib.ListN.{get_elem?, length}
use Rattle.calculus.specs.Tools.{all, first_of, or_else}
use Rattle.calculus.specs.Trees.{Ty, tunit, tlist, tsum, tprod, Pat, pvar, pleaf, pinj, pnode, unit_leaf, empty_leaf, pair_node, element_node, Let, Clause, Iso, same_type, part}
use Rattle.calculus.specs.Refusals.{Refusal, clause_line, variable, let_shape, bad_type, too_long}
use Rattle.calculus.specs.Clauses.{Deed, binds, uses, events, history, alternate, variables_rule, let_shapes, Sigs, sigs_of, recursion_fault, side_fault, at}
use Rattle.calculus.specs.Clauses as today
use Rattle.format.specs.Lines.{Row, lines}
use Rattle.format.specs.Judge.{Reading, rows, faulty, start, read_from}
use Rattle.format.specs.Unfold.{isos_of}
use Rattle.format.specs.Idle.{idle_fault}
use Rattle.model.specs.Services.{accepted, refused, judged, over, verdict, check_by, check, turn_by, turn, run_by, run_service}
use Rattle.model.specs.Desk.{desk_by, file_part, desk}
use Rattle.model.specs.Sheet.{sheet_by, sheet}
use Rattle.calculus.proofs.Basic.{bind_some, none≢some, some_inj, bool_cases, not_true, or_true, eqb_eq, eq_eqb, eqb_false, same_type_eq, none_failing}
use Rattle.calculus.proofs.Basic.{failing_none, or_else_none, all_mem, mem_all, first_of_none, none_first_of}
use Rattle.calculus.proofs.Formed.{Formed, FormedClause}
use Rattle.model.proofs.Files.{refused≢accepted, judged_accepted, InForm, formed_of, verdict_in_form, passes_read}
use Rattle.format.proofs.Idling.{idle_none}
use Rattle.calculus.proofs.Variables.{variables_iff}
use Rattle.calculus.proofs.Typing.{typed_iff}
use Rattle.law_reuse.specs.Bindings.{Under, Along, Assigned}
use Rattle.law_reuse.specs.Former.{once, once_rule, Demands, joined, fit, fit_lets, demands, alike, agree, agreeing, typed_once, clause_fault, iso_fault, fault_from, fault, former, after_reading}
use Rattle.law_reuse.proofs.Bindings.{assigned_linear}

-- ---- 8

once_alternate : (ds : List Deed) → once ds ≡ true → alternate ds ≡ true
once_alternate [] h = refl
once_alternate (uses ∷ ds) h = absurd (false≢true h)
once_alternate (binds ∷ []) h = absurd (false≢true h)
once_alternate (binds ∷ (binds ∷ ds)) h = absurd (false≢true h)
once_alternate (binds ∷ (uses ∷ [])) h = refl
once_alternate (binds ∷ (uses ∷ (d ∷ ds))) h = absurd (false≢true h)

-- a number that is bound once is never bound while live
pub once_variables : (c : Clause) → once_rule c ≡ true → variables_rule c ≡ true
unfolding once_rule variables_rule
once_variables c h =
    mem_all (λ v. alternate (history v.name (events c))) (events c)
    λ v m. once_alternate (history v.name (events c)) (all_mem (λ v. once (history v.name (events c))) h m)

-- ---- 10

-- an assignment that meets demands
abbrev Met : (ℕ → Ty) → Demands → Type 0
Met Γ ds = (n : ℕ) (t : Ty) → Memᴰ (n, t) ds → Γ n ≡ t

abbrev Meets : (ℕ → Ty) → Option Demands → Type 0
Meets Γ x = (ds : Demands) × (x ≡ some ds) × Met Γ ds

meets_none : {Γ : ℕ → Ty} → Meets Γ none → ⊥
meets_none (ds, e, h) = none≢some e

meets_both : {Γ : ℕ → Ty} (x y : Option Demands) → Meets Γ (joined x y) → Meets Γ x × Meets Γ y
meets_both none y m = absurd (meets_none m)
meets_both (some ds) none m = absurd (meets_none m)
meets_both {Γ} (some ds) (some es) (fs, e, h) =
    let k : Met Γ (ds ++ es) = subst (Met Γ) (sym (some_inj e)) h in
    ((ds, refl, λ n t m. k n t (Memᴰ.append_left es m)), (es, refl, λ n t m. k n t (Memᴰ.append_right ds m)))

fit_under : {Γ : ℕ → Ty} (p : Pat) (a : Ty) → Meets Γ (fit p a) → Under Γ p a
fit_under {Γ} (pvar n) a (ds, e, h) = Under.var (subst (Met Γ) (sym (some_inj e)) h n a (Memᴰ.head refl))
fit_under (pleaf unit_leaf) tunit m = Under.unit
fit_under (pleaf unit_leaf) (tlist a) m = absurd (meets_none m)
fit_under (pleaf unit_leaf) (tsum a b) m = absurd (meets_none m)
fit_under (pleaf unit_leaf) (tprod a b) m = absurd (meets_none m)
fit_under (pleaf empty_leaf) tunit m = absurd (meets_none m)
fit_under (pleaf empty_leaf) (tlist a) m = Under.nil
fit_under (pleaf empty_leaf) (tsum a b) m = absurd (meets_none m)
fit_under (pleaf empty_leaf) (tprod a b) m = absurd (meets_none m)
fit_under (pinj t p) tunit m = absurd (meets_none m)
fit_under (pinj t p) (tlist a) m = absurd (meets_none m)
fit_under (pinj t p) (tsum a b) m = Under.inj (fit_under p (part t a b) m)
fit_under (pinj t p) (tprod a b) m = absurd (meets_none m)
fit_under (pnode pair_node p q) tunit m = absurd (meets_none m)
fit_under (pnode pair_node p q) (tlist a) m = absurd (meets_none m)
fit_under (pnode pair_node p q) (tsum a b) m = absurd (meets_none m)
fit_under (pnode pair_node p q) (tprod a b) m =
    let h = meets_both (fit p a) (fit q b) m in Under.pair (fit_under p a h.0) (fit_under q b h.1)
fit_under (pnode element_node p q) tunit m = absurd (meets_none m)
fit_under (pnode element_node p q) (tlist a) m =
    let h = meets_both (fit p a) (fit q (tlist a)) m in Under.cons (fit_under p a h.0) (fit_under q (tlist a) h.1)
fit_under (pnode element_node p q) (tsum a b) m = absurd (meets_none m)
fit_under (pnode element_node p q) (tprod a b) m = absurd (meets_none m)

-- one assignment for the whole clause: no binding changes a type
along : {Γ : ℕ → Ty} (sigs : Sigs) (ls : List Let) (r : Pat) (b : Ty) → Meets Γ (fit_lets sigs ls) → Under Γ r b → Along sigs Γ ls r b
along sigs [] r b m u = Along.value u
along {Γ} sigs (l ∷ ls) r b (ds, e, h) u = go (bind_some (get_elem? sigs l.iso) lets e) (λ m. along sigs ls r b m u)
  where
    lets : Ty × Ty → Option Demands
    lets s = joined (fit l.q s.0) (joined (fit l.p s.1) (fit_lets sigs ls))

    go : (s : Ty × Ty) × (get_elem? sigs l.iso ≡ some s) × (lets s ≡ some ds) → (Meets Γ (fit_lets sigs ls) → Along sigs Γ ls r b)
        → Along sigs Γ (l ∷ ls) r b
    go (s, known, d) later =
        let m = meets_both (fit l.q s.0) (joined (fit l.p s.1) (fit_lets sigs ls)) (ds, d, h) in
        let k = meets_both (fit l.p s.1) (fit_lets sigs ls) m.1 in
        Along.step s Γ known (fit_under l.q s.0 m.0) (fit_under l.p s.1 k.0) (λ n x. refl) (later k.1)

-- the type that the first demand on a number asks for
abbrev lookup : Demands → ℕ → Ty
lookup [] n = tunit
lookup (d ∷ ds) n = cond (eqb n d.0) d.1 (lookup ds n)

lookup_mem : (n : ℕ) (t : Ty) {ds : Demands} → Memᴰ (n, t) ds → Memᴰ (n, lookup ds n) ds
lookup_mem n t (Memᴰ.head {x = d} {xs = ds} e) =
    Memᴰ.head (ap₂ (λ m u. (m, u)) (ap (λ r. r.0) e) (ap (λ b. cond b d.1 (lookup ds n)) (eq_eqb (ap (λ r. r.0) e))))
lookup_mem n t (Memᴰ.tail {x = d} {xs = ds} m) = go (bool_cases (eqb n d.0)) (lookup_mem n t m)
  where
    go : (eqb n d.0 ≡ true) ⊎ (eqb n d.0 ≡ false) → Memᴰ (n, lookup ds n) ds → Memᴰ (n, lookup (d ∷ ds) n) (d ∷ ds)
    go (inl e) k = Memᴰ.head (ap₂ (λ m u. (m, u)) (eqb_eq n d.0 e) (ap (λ b. cond b d.1 (lookup ds n)) e))
    go (inr e) k = Memᴰ.tail (subst (λ u. Memᴰ (n, u) ds) (sym (ap (λ b. cond b d.1 (lookup ds n)) e)) k)

-- two demands on one number
same_demand : (n : ℕ) (t u : Ty) → alike (n, t) (n, u) ≡ true → t ≡ u
same_demand n t u h = go (or_true (not (eqb n n)) (same_type t u) h)
  where
    go : (not (eqb n n) ≡ true) ⊎ (same_type t u ≡ true) → t ≡ u
    go (inl e) = absurd (eqb_false {m = n} (not_true (eqb n n) e) refl)
    go (inr e) = same_type_eq t u e

agree_met : (ds : Demands) → agree ds ≡ true → Met (lookup ds) ds
agree_met ds h n t m =
    same_demand n (lookup ds n) t (all_mem (alike (n, lookup ds n)) (all_mem (λ d. all (alike d) ds) h (lookup_mem n t m)) m)

agreeing_some : (x : Option Demands) → agreeing x ≡ true → (Γ : ℕ → Ty) × Meets Γ x
agreeing_some none h = absurd (false≢true h)
agreeing_some (some ds) h = (lookup ds, (ds, refl, agree_met ds h))

once_assigned : (sigs : Sigs) (a b : Ty) (c : Clause) → typed_once sigs a b c ≡ true → Assigned sigs a b c
unfolding typed_once
once_assigned sigs a b c h =
    let (Γ, m) = agreeing_some (demands sigs a b c) h in
    let x = meets_both (fit c.lhs a) (joined (fit_lets sigs c.lets) (fit c.rhs b)) m in
    let y = meets_both (fit_lets sigs c.lets) (fit c.rhs b) x.1 in
    record { Γ = Γ; lhs = fit_under c.lhs a x.0; rest = along sigs c.lets c.rhs b y.0 (fit_under c.rhs b y.1) }

-- ---- clauses, isos, files

clause_kept : {i : ℕ} (sigs : Sigs) (a b : Ty) (c : Clause) → FormedClause i c → clause_fault sigs a b c ≡ none → today.clause_fault sigs a b c ≡ none
unfolding clause_fault today.clause_fault
clause_kept sigs a b c f e =
    let e₁ = none_failing (once_rule c) (variable clause_line) _ e in
    let e₂ = none_failing (let_shapes c) (let_shape clause_line) _ e₁.1 in
    let e₃ = none_failing (typed_once sigs a b c) (bad_type clause_line) _ e₂.1 in
    let v = once_variables c e₁.0 in
    let t = assigned_linear sigs a b c f ((variables_iff c).0 v) (once_assigned sigs a b c e₃.0) in
    failing_none (variable clause_line) v (failing_none (let_shape clause_line) e₂.0 (failing_none (bad_type clause_line) ((typed_iff sigs a b c).1 t) refl))

at_kept : (n : ℕ) (x y : Option Refusal) → (x ≡ none → y ≡ none) → at n x ≡ none → at n y ≡ none
at_kept n none y h e = ap (at n) (h refl)
at_kept n (some f) y h e = absurd (none≢some (sym e))

iso_kept : (sigs : Sigs) (i : ℕ) (o : Iso) → ((c : Clause) → Memᴰ c o.clauses → FormedClause i c) → iso_fault sigs i o ≡ none → today.iso_fault sigs i o ≡ none
unfolding iso_fault today.iso_fault
iso_kept sigs i o f e = ap₂ or_else (none_first_of _ o.clauses (λ c m. each c m (first_of_none _ o.clauses h.0 c m))) h.1
  where
    h : (first_of (λ c. at c.line (clause_fault sigs o.from o.to c)) o.clauses ≡ none) × (or_else (recursion_fault i o) (at o.line (side_fault o)) ≡ none)
    h = or_else_none _ (or_else (recursion_fault i o) (at o.line (side_fault o))) e

    each : (c : Clause) → Memᴰ c o.clauses → at c.line (clause_fault sigs o.from o.to c) ≡ none
        → at c.line (today.clause_fault sigs o.from o.to c) ≡ none
    each c m = at_kept c.line _ _ (clause_kept sigs o.from o.to c (f c m))

from_kept : (sigs : Sigs) (i : ℕ) (os : List Iso)
    → ((j : ℕ) (o : Iso) → get_elem? os j ≡ some o → (c : Clause) → Memᴰ c o.clauses → FormedClause (i + j) c)
    → fault_from sigs i os ≡ none → today.fault_from sigs i os ≡ none
from_kept sigs i [] f e = refl
from_kept sigs i (o ∷ os) f e =
    let h = or_else_none (iso_fault sigs i o) (fault_from sigs (suc i) os) e in
    ap₂ or_else (iso_kept sigs i o (λ c m. subst (λ n. FormedClause n c) (add-zero i) (f 0 o refl c m)) h.0)
    (from_kept sigs (suc i) os (λ j p g c m. subst (λ n. FormedClause n c) (omega arith) (f (suc j) p g c m)) h.1)

pub fault_kept : (os : List Iso) → Formed os → fault os ≡ none → today.fault os ≡ none
unfolding fault today.fault
fault_kept os f e = from_kept (sigs_of os) 0 os (λ j o g c m. subst (λ n. FormedClause n c) (sym (zero-add j)) (f j o g c m)) e

-- a file that the former rule accepts is in form, and no refusal was found
former_form : (bs : List ℕ) (rs : List Row) → former bs ≡ accepted rs → InForm bs rs × (fault (isos_of rs) ≡ none)
unfolding former
former_form bs rs = go (over bs) refl (read_from start 1 (lines bs)) refl
  where
    go : (b : Bool) → over bs ≡ b → (r : Reading) → read_from start 1 (lines bs) ≡ r → cond b (refused too_long 0) (after_reading r) ≡ accepted rs
        → InForm bs rs × (fault (isos_of rs) ≡ none)
    go true o r e h = absurd (refused≢accepted h)
    go false o (faulty f n) e h = absurd (refused≢accepted h)
    go false o (rows qs) e h =
        let x = judged_accepted qs rs (or_else (idle_fault qs) (fault (isos_of qs))) h in
        let y = or_else_none (idle_fault qs) (fault (isos_of qs)) x.1 in
        let reads : read_from start 1 (lines bs) ≡ rows rs = e ∙ ap rows x.0 in
        let used = (idle_none (passes_read bs rs reads)).0 (subst (λ q. idle_fault q ≡ none) x.0 y.0) in
        (record { fits = o; reads = reads; used = used }, subst (λ q. fault (isos_of q) ≡ none) x.0 y.1)

-- ---- the services

-- a file that the former rule accepts is accepted, with the same rows
pub same_verdict : (bs : List ℕ) (rs : List Row) → former bs ≡ accepted rs → verdict bs ≡ accepted rs
same_verdict bs rs h =
    let (form, clear) = former_form bs rs h in
    verdict_in_form bs rs form ∙ ap (judged rs) (fault_kept (isos_of rs) (formed_of bs rs form) clear)

-- every service answers by the verdict of its file
module _ (bs : List ℕ) (rs : List Row) (h : former bs ≡ accepted rs) where
  same : former bs ≡ verdict bs
  same = h ∙ sym (same_verdict bs rs h)

  pub same_check : (table work : List ℕ) → check_by (former bs) table work ≡ check bs table work
  unfolding check
  same_check table work = ap (λ v. check_by v table work) same

  pub same_turn : (table work output : List ℕ) → turn_by (former bs) (length bs) table work output ≡ turn bs table work output
  unfolding turn
  same_turn table work output = ap (λ v. turn_by v (length bs) table work output) same

  pub same_run : (table work : List ℕ) (i : ℕ) (back : Bool) (budget : ℕ) (value result : List ℕ)
      → run_by (former bs) table work i back budget value result ≡ run_service bs table work i back budget value result
  unfolding run_service
  same_run table work i back budget value result = ap (λ v. run_by v table work i back budget value result) same

  pub same_sheet : (table work queries numbers letters : List ℕ)
      → sheet_by (former bs) table work queries numbers letters ≡ sheet bs table work queries numbers letters
  unfolding sheet
  same_sheet table work queries numbers letters = ap (λ v. sheet_by v table work queries numbers letters) same

-- the desk program, whose input has the file before the queries
pub same_desk : (bs : List ℕ) (rs : List Row) → former (file_part bs) ≡ accepted rs → desk_by (former (file_part bs)) bs ≡ desk bs
unfolding desk
same_desk bs rs h = ap (λ v. desk_by v bs) (same (file_part bs) rs h)
