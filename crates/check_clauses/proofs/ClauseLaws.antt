-- The L lines of a clause one by one: what is left of a walk over them gives what the whole walk gives. And what the tests of a clause come to
-- once its lines are walked.
use Prim.Native.Nat.{ℕ, zero, suc, ◌+◌, ◌-◌, ◌<◌, ◌≤◌}
use native.Mathlib.Omega.{arith}
use native.Mathlib.Numerals.{add-one}
use mathlib.Core.Path.{◌≡◌, refl, sym, ap, ap₂, ◌∙◌}
use mathlib.Core.Bool.{Bool, true, false, cond, ◌&&◌}
use mathlib.Core.Option.{Option, none, some}
use mathlib.Core.List.{List, [], ◌∷◌, ◌++◌, map}
use lib.Dec.{ltb}
use lib.ListN.{length, get_or, get_elem?, replicate}
use borrow.Author.Tests.{lt-ltb, le-ltb}
use Rattle.limits.specs.Limits.{max_lines, variables}
use Rattle.calculus.specs.Tools.{first_failing}
use Rattle.calculus.specs.Trees.{Ty, Pat, Let, vars}
use Rattle.calculus.specs.Clauses.{Deed, binds, uses, Event, deeds, let_events, plain, used, clause_fault}
use Rattle.calculus.specs.Slots.{Slots}
use Rattle.calculus.specs.Refusals.{Refusal, clause_line, variable, let_shape, bad_type}
use Rattle.table_trees.specs.Unfolding.{cell_of, type_of, pattern_of}
use Rattle.table_walks.specs.InTable.{let_at, lets_in, clause_in, sigs_in}
use Rattle.check_variables.specs.Marks.{mark_one, mark_all, mark_events, settled_all}
use Rattle.check_typing.specs.Fitting.{fit_all, env_view, fresh_env}
use Rattle.check_typing.specs.declared.Env as E
use Rattle.check_typing.specs.Rules.{Slotted, marked, shaped, fit_let, fitted_lets, fitted, tested_fault}
use Rattle.check_typing.proofs.Meeting.{used_env}
use Rattle.check_typing.proofs.Rules.{clause_fault_rule}

-- ---- the L lines from row n up to row `to`

lets_more : (t : List ℕ) (base n to : ℕ) → n < to → lets_in t base n (to - n) ≡ let_at t base n ∷ lets_in t base (n + 1) (to - (n + 1))
lets_more t base n to h =
    let more : to - n ≡ suc (to - suc n) = omega arith in
    ap (lets_in t base n) more ∙ ap (λ k. let_at t base n ∷ lets_in t base k (to - k)) (sym (add-one n))

lets_none : (t : List ℕ) (base n to : ℕ) → to ≤ n → lets_in t base n (to - n) ≡ []
lets_none t base n to h =
    let nothing : to - n ≡ 0 = omega arith in
    ap (lets_in t base n) nothing

-- ---- the variables rule

pub events_append : (vs ws : List Event) (m : List ℕ) → mark_events (vs ++ ws) m ≡ mark_events ws (mark_events vs m)
events_append [] ws m = refl
events_append (v ∷ vs) ws m = events_append vs ws (mark_one v.deed v.name m)

pub numbers_marked : (d : Deed) (ns m : List ℕ) → mark_events (map (λ n. record { deed = d; name = n }) ns) m ≡ mark_all d ns m
numbers_marked d [] m = refl
numbers_marked d (n ∷ ns) m = numbers_marked d ns (mark_one d n m)

-- the deeds of a pattern, and then some
pub deeds_first : (d : Deed) (p : Pat) (vs : List Event) (m : List ℕ) {k : List ℕ} → k ≡ mark_all d (vars p) m
    → mark_events (deeds d p ++ vs) m ≡ mark_events vs k
deeds_first d p vs m e = events_append (deeds d p) vs m ∙ ap (mark_events vs) (numbers_marked d (vars p) m ∙ sym e)

-- what is left of the marks from row n on gives the marks of the whole walk
pub record MarksLeft (t : List ℕ) (base from to n : ℕ) (first m : List ℕ) : Type 0 where
  pub same : mark_events (let_events (lets_in t base n (to - n))) m ≡ mark_events (let_events (lets_in t base from (to - from))) first

module _ {t : List ℕ} {base from to n : ℕ} {first m : List ℕ} (h : MarksLeft t base from to n first m) where
  pub marks_step : {q p : ℕ} {used bound : List ℕ} → n < to → q ≡ cell_of t n 3 → used ≡ mark_all uses (vars (pattern_of t base q)) m
      → p ≡ cell_of t n 1 → bound ≡ mark_all binds (vars (pattern_of t base p)) used → MarksLeft t base from to (n + 1) first bound
  marks_step {used = used} {bound = bound} l eq eu ep eb =
      let ls : List Let = lets_in t base (n + 1) (to - (n + 1)) in
      let line : Let = let_at t base n in
      let uses_q : used ≡ mark_all uses (vars line.q) m = eu ∙ ap (λ k. mark_all uses (vars (pattern_of t base k)) m) eq in
      let binds_p : bound ≡ mark_all binds (vars line.p) used = eb ∙ ap (λ k. mark_all binds (vars (pattern_of t base k)) used) ep in
      record {
        same =
            sym (deeds_first uses line.q (deeds binds line.p ++ let_events ls) m uses_q ∙ deeds_first binds line.p (let_events ls) used binds_p)
            ∙ sym (ap (λ xs. mark_events (let_events xs) m) (lets_more t base n to l))
            ∙ h.same;
      }

  pub marks_end : to ≤ n → m ≡ mark_events (let_events (lets_in t base from (to - from))) first
  marks_end l = sym (ap (λ xs. mark_events (let_events xs) m) (lets_none t base n to l)) ∙ h.same

-- the left pattern binds, the L lines use and bind, the right pattern uses
pub clause_marked : (t : List ℕ) (base row end : ℕ) {l r : ℕ} {start bound stepped done : List ℕ} {b : Bool}
    → start ≡ replicate variables 0 → l ≡ cell_of t row 1 → bound ≡ mark_all binds (vars (pattern_of t base l)) start
    → stepped ≡ mark_events (let_events (lets_in t base (row + 1) (end - (row + 1)))) bound
    → r ≡ cell_of t row 2 → done ≡ mark_all uses (vars (pattern_of t base r)) stepped → b ≡ settled_all done
    → b ≡ marked (clause_in t base row end)
unfolding marked
clause_marked t base row end {start = start} {bound = bound} {stepped = stepped} {done = done} es el eb et er ed e =
    let ls : List Let = lets_in t base (suc row) (end - suc row) in
    let lp : Pat = pattern_of t base (cell_of t row 1) in
    let rp : Pat = pattern_of t base (cell_of t row 2) in
    let fresh : List ℕ = replicate variables 0 in
    let binds_l : bound ≡ mark_all binds (vars lp) fresh = eb ∙ ap₂ (λ k m. mark_all binds (vars (pattern_of t base k)) m) el es in
    let walks : stepped ≡ mark_events (let_events ls) bound = et ∙ ap (λ k. mark_events (let_events (lets_in t base k (end - k))) bound) (add-one row) in
    let uses_r : done ≡ mark_all uses (vars rp) stepped = ed ∙ ap (λ k. mark_all uses (vars (pattern_of t base k)) stepped) er in
    let to_lets : mark_events (deeds binds lp ++ (let_events ls ++ deeds uses rp)) fresh ≡ mark_events (let_events ls ++ deeds uses rp) bound = deeds_first binds lp
    (let_events ls ++ deeds uses rp) fresh binds_l in
    let to_right : mark_events (let_events ls ++ deeds uses rp) bound ≡ mark_events (deeds uses rp) stepped = events_append (let_events ls) (deeds uses rp) bound ∙ ap
    (mark_events (deeds uses rp)) (sym walks) in
    e ∙ ap settled_all (sym (to_lets ∙ to_right ∙ numbers_marked uses (vars rp) stepped ∙ sym uses_r))

-- ---- let shapes

-- what is left of the shapes from row n on decides the whole
pub record ShapesLeft (t : List ℕ) (base from to n : ℕ) : Type 0 where
  pub same : shaped (lets_in t base n (to - n)) ≡ shaped (lets_in t base from (to - from))

module _ {t : List ℕ} {base from to n : ℕ} (h : ShapesLeft t base from to n) where
  -- the L line in row n and those after it decide the whole
  opened : n < to → (plain (pattern_of t base (cell_of t n 1)) && plain (pattern_of t base (cell_of t n 3))) && shaped (lets_in t base (n + 1) (to - (n + 1)))
      ≡ shaped (lets_in t base from (to - from))
  opened l = sym (ap shaped (lets_more t base n to l)) ∙ h.same

  plain_at : {p : ℕ} {a b : Bool} (k : ℕ) → p ≡ cell_of t n k → a ≡ plain (pattern_of t base p) → a ≡ b → plain (pattern_of t base (cell_of t n k)) ≡ b
  plain_at k e a x = ap (λ j. plain (pattern_of t base j)) (sym e) ∙ sym a ∙ x

  pub shapes_first : {p : ℕ} {a : Bool} → n < to → p ≡ cell_of t n 1 → a ≡ plain (pattern_of t base p) → a ≡ false
      → false ≡ shaped (lets_in t base from (to - from))
  shapes_first l e a x =
      sym (ap (λ y. (y && plain (pattern_of t base (cell_of t n 3))) && shaped (lets_in t base (n + 1) (to - (n + 1)))) (plain_at 1 e a x)) ∙ opened l

  pub shapes_second : {p q : ℕ} {a b : Bool} → n < to → p ≡ cell_of t n 1 → a ≡ plain (pattern_of t base p) → a ≡ true
      → q ≡ cell_of t n 3 → b ≡ plain (pattern_of t base q) → b ≡ false → false ≡ shaped (lets_in t base from (to - from))
  shapes_second l e a x f b y =
      sym (ap₂ (λ y z. (y && z) && shaped (lets_in t base (n + 1) (to - (n + 1)))) (plain_at 1 e a x) (plain_at 3 f b y)) ∙ opened l

  pub shapes_step : {p q : ℕ} {a b : Bool} → n < to → p ≡ cell_of t n 1 → a ≡ plain (pattern_of t base p) → a ≡ true
      → q ≡ cell_of t n 3 → b ≡ plain (pattern_of t base q) → b ≡ true → ShapesLeft t base from to (n + 1)
  shapes_step l e a x f b y =
      record { same = sym (ap₂ (λ y z. (y && z) && shaped (lets_in t base (n + 1) (to - (n + 1)))) (plain_at 1 e a x) (plain_at 3 f b y)) ∙ opened l }

  pub shapes_end : to ≤ n → true ≡ shaped (lets_in t base from (to - from))
  shapes_end l = sym (ap shaped (lets_none t base n to l)) ∙ h.same

-- ---- typing

known_at : {A B : Type 0} (f : A → B) (xs : List A) (i : ℕ) (d : A) → i < length xs → get_elem? (map f xs) i ≡ some (f (get_or xs i d))
known_at f [] i d h = absurd (omega arith)
known_at f (x ∷ xs) zero d h = refl
known_at f (x ∷ xs) (suc i) d h = known_at f xs i d (omega arith)

unknown_at : {A B : Type 0} (f : A → B) (xs : List A) (i : ℕ) → length xs ≤ i → get_elem? (map f xs) i ≡ none
unknown_at f [] i h = refl
unknown_at f (x ∷ xs) zero h = absurd (omega arith)
unknown_at f (x ∷ xs) (suc i) h = unknown_at f xs i (omega arith)

-- the from-type and the to-type of the iso whose I line is in row r
types_at : List ℕ → ℕ → Ty × Ty
types_at t r = (type_of t (cell_of t r 1), type_of t (cell_of t r 2))

module _ (t : List ℕ) (base n : ℕ) (starts : List ℕ) (e : Option (Slots Ty)) {i : ℕ} (ei : i ≡ cell_of t n 2) where
  -- an iso that the clause may name: q fits its from-type, then p its to-type
  pub let_known : {head q a p b : ℕ} {used done : Option (Slots Ty)} → i < length starts → head ≡ get_or starts i 0
      → q ≡ cell_of t n 3 → a ≡ cell_of t head 1 → used ≡ fit_all false (pattern_of t base q) (type_of t a) e
      → p ≡ cell_of t n 1 → b ≡ cell_of t head 2 → done ≡ fit_all true (pattern_of t base p) (type_of t b) used
      → done ≡ fit_let (get_elem? (sigs_in t starts) (cell_of t n 2)) (let_at t base n) e
  unfolding types_at
  let_known {head} {used = used} {done = done} l eh eq ea eu ep eb ed =
      let first : used ≡ fit_all false (let_at t base n).q (types_at t head).0 e = eu ∙ ap₂ (λ k j. fit_all false (pattern_of t base k) (type_of t j) e) eq ea in
      let second : done ≡ fit_all true (let_at t base n).p (types_at t head).1 used = ed ∙ ap₂ (λ k j. fit_all true (pattern_of t base k) (type_of t j) used) ep eb in
      let known : get_elem? (sigs_in t starts) (cell_of t n 2) ≡ some (types_at t head) = ap (get_elem? (sigs_in t starts)) (sym ei) ∙ known_at (types_at t) starts i 0 l ∙ ap
      (λ r. some (types_at t r)) (sym eh) in
      second ∙ ap (fit_all true (let_at t base n).p (types_at t head).1) first ∙ sym (ap (λ s. fit_let s (let_at t base n) e) known)

  -- any other iso: nothing fits
  pub let_unknown : {done : Option (Slots Ty)} → length starts ≤ i → done ≡ none
      → done ≡ fit_let (get_elem? (sigs_in t starts) (cell_of t n 2)) (let_at t base n) e
  unfolding types_at
  let_unknown l ed =
      let unknown : get_elem? (sigs_in t starts) (cell_of t n 2) ≡ none = ap (get_elem? (sigs_in t starts)) (sym ei) ∙ unknown_at (types_at t) starts i l in
      ed ∙ sym (ap (λ s. fit_let s (let_at t base n) e) unknown)

-- what is left to fit from row n on gives the types of the whole walk
pub record FitsLeft (t starts : List ℕ) (base from to n : ℕ) (first e : Option (Slots Ty)) : Type 0 where
  pub same : fitted_lets (sigs_in t starts) (lets_in t base n (to - n)) e ≡ fitted_lets (sigs_in t starts) (lets_in t base from (to - from)) first

module _ {t starts : List ℕ} {base from to n : ℕ} {first e : Option (Slots Ty)} (h : FitsLeft t starts base from to n first e) where
  pub fits_step : {d : Option (Slots Ty)} → n < to → d ≡ fit_let (get_elem? (sigs_in t starts) (cell_of t n 2)) (let_at t base n) e
      → FitsLeft t starts base from to (n + 1) first d
  fits_step l x =
      record {
        same =
            ap (fitted_lets (sigs_in t starts) (lets_in t base (n + 1) (to - (n + 1)))) x
            ∙ sym (ap (λ xs. fitted_lets (sigs_in t starts) xs e) (lets_more t base n to l))
            ∙ h.same;
      }

  pub fits_end : to ≤ n → e ≡ fitted_lets (sigs_in t starts) (lets_in t base from (to - from)) first
  fits_end l = sym (ap (λ xs. fitted_lets (sigs_in t starts) xs e) (lets_none t base n to l)) ∙ h.same

-- no variable has a type yet
fresh_view : (t : List ℕ) {e : E.Env} → e ≡ fresh_env → env_view t e ≡ some (replicate variables none)
unfolding fresh_env
fresh_view t h = ap (env_view t) h

-- the left pattern, the L lines and the right pattern fit in turn, and no variable is live in the end
pub clause_fitted : (t starts : List ℕ) (base a b row end : ℕ) (start bound stepped done : E.Env) {l r : ℕ} {v : Bool} → start ≡ fresh_env
    → l ≡ cell_of t row 1 → env_view t bound ≡ fit_all true (pattern_of t base l) (type_of t a) (env_view t start)
    → env_view t stepped ≡ fitted_lets (sigs_in t starts) (lets_in t base (row + 1) (end - (row + 1))) (env_view t bound)
    → r ≡ cell_of t row 2 → env_view t done ≡ fit_all false (pattern_of t base r) (type_of t b) (env_view t stepped)
    → v ≡ (done.fits && settled_all done.line) → v ≡ fitted (sigs_in t starts) (type_of t a) (type_of t b) (clause_in t base row end)
unfolding fitted
clause_fitted t starts base a b row end start bound stepped done es el eb et er ed ev =
    let ls : List Let = lets_in t base (suc row) (end - suc row) in
    let left : env_view t bound ≡ fit_all true (pattern_of t base (cell_of t row 1)) (type_of t a) (some (replicate variables none)) = eb ∙ ap₂
    (λ k e. fit_all true (pattern_of t base k) (type_of t a) e) el (fresh_view t es) in
    let walks : env_view t stepped ≡ fitted_lets (sigs_in t starts) ls (env_view t bound) = et
    ∙ ap (λ k. fitted_lets (sigs_in t starts) (lets_in t base k (end - k)) (env_view t bound)) (add-one row) in
    let right : env_view t done ≡ fit_all false (pattern_of t base (cell_of t row 2)) (type_of t b) (env_view t stepped) = ed ∙ ap
    (λ k. fit_all false (pattern_of t base k) (type_of t b) (env_view t stepped)) er in
    ev ∙ used_env t done ∙ ap used (right ∙ ap (fit_all false (pattern_of t base (cell_of t row 2)) (type_of t b)) (walks ∙ ap (fitted_lets (sigs_in t starts) ls) left))

-- ---- the lowest of 8 to 10

tests : Bool → Bool → Bool → Option Refusal
tests v s f = first_failing ((v, variable clause_line) ∷ (s, let_shape clause_line) ∷ (f, bad_type clause_line) ∷ [])

module _ (t starts : List ℕ) (base a b row end : ℕ) where
  abbrev shapes_of : Bool
  shapes_of = shaped (lets_in t base (suc row) (end - suc row))

  abbrev types_of : Bool
  types_of = fitted (sigs_in t starts) (type_of t a) (type_of t b) (clause_in t base row end)

  abbrev fault_of : Option Refusal
  fault_of = tested_fault (sigs_in t starts) (type_of t a) (type_of t b) (clause_in t base row end)

  -- what the three tests come to
  by_tests : {v s f : Bool} → v ≡ marked (clause_in t base row end) → s ≡ shapes_of → f ≡ types_of → tests v s f ≡ fault_of
  unfolding tests
  by_tests ev es ef = λ i. first_failing ((ev i, variable clause_line) ∷ (es i, let_shape clause_line) ∷ (ef i, bad_type clause_line) ∷ [])

  from_next : {s : Bool} → s ≡ shaped (lets_in t base (row + 1) (end - (row + 1))) → s ≡ shapes_of
  from_next e = e ∙ ap (λ k. shaped (lets_in t base k (end - k))) (add-one row)

  -- what is owed: the model's refusal where every variable has a slot, and that of the tests for any row of the table
  abbrev Owed : Option Refusal → Type 0
  Owed x = (row < max_lines → Slotted (clause_in t base row end) → x ≡ clause_fault (sigs_in t starts) (type_of t a) (type_of t b) (clause_in t base row end))
      × (x ≡ cond (ltb row max_lines) fault_of none)

  pub no_row : max_lines ≤ row → Owed none
  no_row l = ((λ h. absurd (omega arith)), sym (ap (λ k. cond k fault_of none) (le-ltb row max_lines l)))

  module _ (h : row < max_lines) where
    owed : {x : Option Refusal} → x ≡ fault_of → Owed x
    owed e = (
      (λ k slots. e ∙ sym (clause_fault_rule (sigs_in t starts) (type_of t a) (type_of t b) (clause_in t base row end) slots)),
      e ∙ sym (ap (λ k. cond k fault_of none) (lt-ltb row max_lines h)),
    )

    module _ {v : Bool} (ev : row < max_lines → v ≡ marked (clause_in t base row end)) where
      pub fault_variable : v ≡ false → Owed (some (variable clause_line))
      unfolding tests
      fault_variable xv = owed (by_tests (sym xv ∙ ev h) refl refl)

      module _ (xv : v ≡ true) {s : Bool} (es : s ≡ shaped (lets_in t base (row + 1) (end - (row + 1)))) where
        pub fault_shape : s ≡ false → Owed (some (let_shape clause_line))
        unfolding tests
        fault_shape xs = owed (by_tests (sym xv ∙ ev h) (sym xs ∙ from_next es) refl)

        module _ (xs : s ≡ true) {f : Bool} (ef : row < max_lines → f ≡ types_of) where
          pub fault_type : f ≡ false → Owed (some (bad_type clause_line))
          unfolding tests
          fault_type xf = owed (by_tests (sym xv ∙ ev h) (sym xs ∙ from_next es) (sym xf ∙ ef h))

          pub fault_none : f ≡ true → Owed none
          unfolding tests
          fault_none xf = owed (by_tests (sym xv ∙ ev h) (sym xs ∙ from_next es) (sym xf ∙ ef h))
