-- Binding and using a variable in the code's entries for types, and the fit of two nodes by their kinds.
use Prim.Native.Nat.{ℕ, zero, suc, ◌+◌, ◌-◌, ◌*◌, ◌<◌, ◌≤◌}
use native.Mathlib.Omega.{arith}
use native.Mathlib.Nat.{suc-ne-zero}
use native.Mathlib.Numerals.{add-one}
use mathlib.Core.Path.{◌≡◌, refl, sym, ap, ap₂, ◌∙◌, subst}
use mathlib.Core.Bool.{Bool, true, false, cond, ◌&&◌}
use mathlib.Core.Option.{Option, none, some}
use mathlib.Core.List.{List, [], ◌∷◌, map}
use lib.ListN.{length, length-map, length-set, get_or, set, get_or-map}
use Rattle.calculus.specs.Tools.{◌>>=◌, guard}
use Rattle.calculus.specs.Trees.{Ty, tunit, tlist, tsum, tprod, Pat, pleaf, unit_leaf, empty_leaf, pvar, pnode, pair_node, element_node, same_type}
use Rattle.calculus.specs.Slots.{Slots, put, get, all_empty}
use Rattle.format.specs.Judge.{type_node, pattern_node}
use Rattle.calculus.specs.Clauses.{learn, spend, used}
use Rattle.calculus.proofs.Basic.{same_type_refl, some_bind, bind_assoc, none≢some, not_eqb, same_bind}
use Rattle.table_trees.specs.Unfolding.{cell_of, smaller_of, type_of, pattern_of}
use Rattle.table_trees.proofs.Cases.{sums, products, Whole, node_whole, Injects, lefts, rights, Plain}
use Rattle.table_trees.proofs.Unfolding.{rank, type_past, type_node_lem, type_sum, type_prod, type_list, pattern_var, pattern_pair, pattern_empty, pattern_element}
use Rattle.table_trees.proofs.Unfolding.{pattern_call, opened}
use Rattle.table_trees.proofs.Lines.{no_unit}
use Rattle.check_shapes.proofs.Sameness.{Naming, two, list}
use Rattle.check_variables.specs.Marks.{settled_all}
use Rattle.check_typing.specs.declared.Env.{Env}
use Rattle.check_bare.specs.Bare.{Bare, unit, pair}
use Rattle.check_typing.specs.Fitting.{fitting, fit_all, entry_view, EntryOf, view_if, view_of, env_view, Fitted, HasParts, of_left, of_right, of_pair, list_part}

-- ---- entries

pub entry_within : (a : ℕ) → EntryOf a (a + 1)
entry_within a t = ap (entry_view t) (add-one a)

pub entry_past : (a : ℕ) → 4096 ≤ a → EntryOf a 4097
entry_past a h t = ap some (type_past t 4096 (omega arith) ∙ sym (type_past t a h))

-- an entry other than 0 is one more than its line
entry_known : (t : List ℕ) (k : ℕ) → (k ≡ 0 → ⊥) → entry_view t k ≡ some (type_of t (k - 1))
entry_known t zero h = absurd (h refl)
entry_known t (suc k) h = let e : k ≡ suc k - 1 = omega arith in ap (λ x. some (type_of t x)) e

map_set : {A B : Type 0} (f : A → B) (l : List A) (i : ℕ) (a : A) → map f (set l i a) ≡ set (map f l) i (f a)
map_set f [] i a = refl
map_set f (x ∷ l) zero a = refl
map_set f (x ∷ l) (suc i) a = ap (λ r. f x ∷ r) (map_set f l i a)

-- ---- slots by their number

module _ {A : Type 0} where
  put_free : (n : ℕ) (a : A) (e : Slots A) → n < length e → get_or e n none ≡ none → put n a e ≡ some (set e n (some a))
  put_free n a [] h g = absurd (omega arith)
  put_free zero a (none ∷ e) h g = refl
  put_free zero a (some b ∷ e) h g = absurd (none≢some (sym g))
  put_free (suc n) a (s ∷ e) h g = some_bind (λ r. some (s ∷ r)) (put_free n a e (omega arith) g)

  put_full : (n : ℕ) (a b : A) (e : Slots A) → get_or e n none ≡ some b → put n a e ≡ none
  put_full n a b [] g = refl
  put_full zero a b (none ∷ e) g = absurd (none≢some g)
  put_full zero a b (some c ∷ e) g = refl
  put_full (suc n) a b (s ∷ e) g = ap (λ x. x >>= λ r. some (s ∷ r)) (put_full n a b e g)

  put_out : (n : ℕ) (a : A) (e : Slots A) → length e ≤ n → put n a e ≡ none
  put_out n a [] h = refl
  put_out zero a (s ∷ e) h = absurd (omega arith)
  put_out (suc n) a (s ∷ e) h = ap (λ x. x >>= λ r. some (s ∷ r)) (put_out n a e (omega arith))

  get_full : (n : ℕ) (b : A) (e : Slots A) → get_or e n none ≡ some b → get n e ≡ some (b, set e n none)
  get_full n b [] g = absurd (none≢some g)
  get_full zero b (none ∷ e) g = absurd (none≢some g)
  get_full zero b (some c ∷ e) g = ap (λ x. x >>= λ d. some (d, none ∷ e)) g
  get_full (suc n) b (s ∷ e) g = some_bind (λ r. some (r.0, s ∷ r.1)) (get_full n b e g)

  get_free : (n : ℕ) (e : Slots A) → get_or e n none ≡ none → get n e ≡ none
  get_free n [] g = refl
  get_free zero (none ∷ e) g = refl
  get_free zero (some c ∷ e) g = absurd (none≢some (sym g))
  get_free (suc n) (s ∷ e) g = ap (λ x. x >>= λ r. some (r.0, s ∷ r.1)) (get_free n e g)

  get_d_out : (n : ℕ) (e : Slots A) → length e ≤ n → get_or e n none ≡ none
  get_d_out n [] h = refl
  get_d_out zero (s ∷ e) h = absurd (omega arith)
  get_d_out (suc n) (s ∷ e) h = get_d_out n e (omega arith)

-- ---- one variable

module _ (t : List ℕ) (n a : ℕ) (l : List ℕ) (wide : length l ≡ 32) where
  slots : Slots Ty
  slots = map (entry_view t) l

  one : (b : Bool) → fitting b (pvar n) (type_of t a) slots ≡ fit_all b (pvar n) (type_of t a) (view_of t true l)
  unfolding slots
  one b = refl

  slots_wide : length slots ≡ 32
  unfolding slots
  slots_wide = length-map l (entry_view t) ∙ wide

  entry : {k : ℕ} → k ≡ get_or l n 0 → get_or slots n none ≡ entry_view t k
  unfolding slots
  entry i = get_or-map (entry_view t) l n 0 ∙ ap (entry_view t) (sym i)

  -- a use gives nothing where no type is known
  use_free : get_or slots n none ≡ none → fitting false (pvar n) (type_of t a) slots ≡ none
  use_free g = ap (λ x. x >>= λ r. guard (same_type r.0 (type_of t a)) >>= λ _. some r.1) (get_free n slots g)

  -- nothing fits, and the entries are as they were
  misfit : (b : Bool) → fitting b (pvar n) (type_of t a) slots ≡ none → Fitted t b (pvar n) (type_of t a) l false l
  misfit b h = record { long = refl; fitted = sym h ∙ one b }

  pub assign_out : (b : Bool) → 32 ≤ n → Fitted t b (pvar n) (type_of t a) l false l
  assign_out true h = misfit true (put_out n (type_of t a) slots (omega (arith, slots_wide)))
  assign_out false h = misfit false (use_free (get_d_out n slots (omega (arith, slots_wide))))

  pub assign_first : (b : Bool) (v : ℕ) {k : ℕ} → b ≡ true → n < 32 → k ≡ get_or l n 0 → k ≡ 0 → EntryOf a v → Fitted t b (pvar n) (type_of t a) l true (set l n v)
  unfolding slots
  assign_first b v q h i z w = subst (λ c. Fitted t c (pvar n) (type_of t a) l true (set l n v)) (sym q) (record { long = length-set l n v; fitted = bound })
    where
      bound : view_of t true (set l n v) ≡ fit_all true (pvar n) (type_of t a) (view_of t true l)
      bound =
          ap some (map_set (entry_view t) l n v ∙ ap (set slots n) (w t))
          ∙ sym (put_free n (type_of t a) slots (omega (arith, slots_wide)) (entry i ∙ ap (entry_view t) z))
          ∙ one true

  pub assign_live : (b : Bool) {k : ℕ} → b ≡ true → k ≡ get_or l n 0 → (k ≡ 0 → ⊥) → Fitted t b (pvar n) (type_of t a) l false l
  assign_live b {k} q i z =
      subst (λ c. Fitted t c (pvar n) (type_of t a) l false l) (sym q)
      (misfit true (put_full n (type_of t a) (type_of t (k - 1)) slots (entry i ∙ entry_known t k z)))

  pub assign_unknown : (b : Bool) {k : ℕ} → b ≡ false → k ≡ get_or l n 0 → k ≡ 0 → Fitted t b (pvar n) (type_of t a) l false l
  assign_unknown b q i z = subst (λ c. Fitted t c (pvar n) (type_of t a) l false l) (sym q) (misfit false (use_free (entry i ∙ ap (entry_view t) z)))

  -- a use of a known type: the same, or none fits
  used_known : {k : ℕ} {s : Bool} → k ≡ get_or l n 0 → (k ≡ 0 → ⊥) → s ≡ same_type (type_of t (k - 1)) (type_of t a)
      → fitting false (pvar n) (type_of t a) slots ≡ (guard s >>= λ _. some (set slots n none))
  used_known {k} i z w =
      some_bind (λ r. guard (same_type r.0 (type_of t a)) >>= λ _. some r.1) (get_full n (type_of t (k - 1)) slots (entry i ∙ entry_known t k z))
      ∙ ap (λ s. guard s >>= λ _. some (set slots n none)) (sym w)

  pub assign_same : (b : Bool) {k : ℕ} {s : Bool} → b ≡ false → k ≡ get_or l n 0 → (k ≡ 0 → ⊥) → s ≡ same_type (type_of t (k - 1)) (type_of t a) → s ≡ true
      → Fitted t b (pvar n) (type_of t a) l true (set l n 0)
  unfolding slots
  assign_same b q i z w y = subst (λ c. Fitted t c (pvar n) (type_of t a) l true (set l n 0)) (sym q) (record { long = length-set l n 0; fitted = spent })
    where
      spent : view_of t true (set l n 0) ≡ fit_all false (pvar n) (type_of t a) (view_of t true l)
      spent =
          ap some (map_set (entry_view t) l n 0)
          ∙ sym (used_known i z w ∙ ap (λ s. guard s >>= λ _. some (set slots n none)) y)
          ∙ one false

  pub assign_other : (b : Bool) {k : ℕ} {s : Bool} → b ≡ false → k ≡ get_or l n 0 → (k ≡ 0 → ⊥) → s ≡ same_type (type_of t (k - 1)) (type_of t a) → s ≡ false
      → Fitted t b (pvar n) (type_of t a) l false l
  assign_other b q i z w y =
      subst (λ c. Fitted t c (pvar n) (type_of t a) l false l) (sym q)
      (misfit false (used_known i z w ∙ ap (λ s. guard s >>= λ _. some (set slots n none)) y))

-- ---- two nodes, by their kinds

pub has_parts : (k : ℕ) → 1 ≤ k → (k ≡ 1 → ⊥) → k < 5 → HasParts k
has_parts zero h v l = absurd (omega arith)
has_parts (suc zero) h v l = absurd (v refl)
has_parts (suc (suc zero)) h v l = of_left
has_parts (suc (suc (suc zero))) h v l = of_right
has_parts (suc (suc (suc (suc zero)))) h v l = of_pair
has_parts (suc (suc (suc (suc (suc k))))) h v l = absurd (omega arith)

parts_tag : {k : ℕ} → HasParts k → (k ≡ 4 → ⊥) → Injects k
parts_tag of_left h = lefts
parts_tag of_right h = rights
parts_tag of_pair h = absurd (h refl)

parts_no_unit : {k : ℕ} → HasParts k → k ≡ 0 → ⊥
parts_no_unit of_left e = absurd (omega arith)
parts_no_unit of_right e = absurd (omega arith)
parts_no_unit of_pair e = absurd (omega arith)

leaf_is_unit : {k : ℕ} → Plain k → (k ≡ 1 → ⊥) → (n : ℕ) (p q : Pat) → (pleaf unit_leaf) ≡ pattern_node k n p q
leaf_is_unit Plain.unit h n p q = refl
leaf_is_unit Plain.var h n p q = absurd (h refl)
leaf_is_unit (Plain.other k) h n p q = refl

unit_misfit : (c : Bool) {k : ℕ} (a b : Ty) → Naming k → (e : Slots Ty) → fitting c (pleaf unit_leaf) (type_node k a b) e ≡ none
unit_misfit true a b (two sums) e = refl
unit_misfit true a b (two products) e = refl
unit_misfit true a b list e = refl
unit_misfit false a b (two sums) e = refl
unit_misfit false a b (two products) e = refl
unit_misfit false a b list e = refl

-- empty fits lists alone
empty_misfit : (c : Bool) (k : ℕ) (a b : Ty) → (k ≡ 3 → ⊥) → (e : Slots Ty) → fitting c (pleaf empty_leaf) (type_node k a b) e ≡ none
empty_misfit c (suc (suc (suc zero))) a b h e = absurd (h refl)
empty_misfit true zero a b h e = refl
empty_misfit true (suc zero) a b h e = refl
empty_misfit true (suc (suc zero)) a b h e = refl
empty_misfit true (suc (suc (suc (suc k)))) a b h e = refl
empty_misfit false zero a b h e = refl
empty_misfit false (suc zero) a b h e = refl
empty_misfit false (suc (suc zero)) a b h e = refl
empty_misfit false (suc (suc (suc (suc k)))) a b h e = refl

tag_misfit : (c : Bool) {j : ℕ} → Injects j → (n : ℕ) (p q : Pat) (k : ℕ) (a b : Ty) → (k ≡ 1 → ⊥) → (e : Slots Ty) → fitting c (pattern_node j n p q) (type_node k a b) e ≡ none
tag_misfit c i n p q (suc zero) a b h e = absurd (h refl)
tag_misfit true lefts n p q zero a b h e = refl
tag_misfit true lefts n p q (suc (suc zero)) a b h e = refl
tag_misfit true lefts n p q (suc (suc (suc zero))) a b h e = refl
tag_misfit true lefts n p q (suc (suc (suc (suc k)))) a b h e = refl
tag_misfit true rights n p q zero a b h e = refl
tag_misfit true rights n p q (suc (suc zero)) a b h e = refl
tag_misfit true rights n p q (suc (suc (suc zero))) a b h e = refl
tag_misfit true rights n p q (suc (suc (suc (suc k)))) a b h e = refl
tag_misfit false lefts n p q zero a b h e = refl
tag_misfit false lefts n p q (suc (suc zero)) a b h e = refl
tag_misfit false lefts n p q (suc (suc (suc zero))) a b h e = refl
tag_misfit false lefts n p q (suc (suc (suc (suc k)))) a b h e = refl
tag_misfit false rights n p q zero a b h e = refl
tag_misfit false rights n p q (suc (suc zero)) a b h e = refl
tag_misfit false rights n p q (suc (suc (suc zero))) a b h e = refl
tag_misfit false rights n p q (suc (suc (suc (suc k)))) a b h e = refl

tag_fit : (c : Bool) {j : ℕ} → Injects j → (n : ℕ) (p q : Pat) (f : ℕ → Ty) (x : Option (Slots Ty)) → fit_all c p (f j) x ≡ fit_all c (pattern_node j n p q) (tsum (f 2) (f 3)) x
tag_fit true lefts n p q f x = refl
tag_fit true rights n p q f x = refl
tag_fit false lefts n p q f x = refl
tag_fit false rights n p q f x = refl

pair_misfit : (c : Bool) (p q : Pat) (k : ℕ) (a b : Ty) → (k ≡ 2 → ⊥) → (e : Slots Ty) → fitting c (pnode pair_node p q) (type_node k a b) e ≡ none
pair_misfit c p q (suc (suc zero)) a b h e = absurd (h refl)
pair_misfit true p q zero a b h e = refl
pair_misfit true p q (suc zero) a b h e = refl
pair_misfit true p q (suc (suc (suc zero))) a b h e = refl
pair_misfit true p q (suc (suc (suc (suc k)))) a b h e = refl
pair_misfit false p q zero a b h e = refl
pair_misfit false p q (suc zero) a b h e = refl
pair_misfit false p q (suc (suc (suc zero))) a b h e = refl
pair_misfit false p q (suc (suc (suc (suc k)))) a b h e = refl

element_misfit : (c : Bool) (p q : Pat) (k : ℕ) (a b : Ty) → (k ≡ 3 → ⊥) → (e : Slots Ty) → fitting c (pnode element_node p q) (type_node k a b) e ≡ none
element_misfit c p q (suc (suc (suc zero))) a b h e = absurd (h refl)
element_misfit true p q zero a b h e = refl
element_misfit true p q (suc zero) a b h e = refl
element_misfit true p q (suc (suc zero)) a b h e = refl
element_misfit true p q (suc (suc (suc (suc k)))) a b h e = refl
element_misfit false p q zero a b h e = refl
element_misfit false p q (suc zero) a b h e = refl
element_misfit false p q (suc (suc zero)) a b h e = refl
element_misfit false p q (suc (suc (suc (suc k)))) a b h e = refl

-- the parts one after the other, in the order of the deed
pair_bind : (p q : Pat) (a b : Ty) (x : Option (Slots Ty)) → fit_all true q b (fit_all true p a x) ≡ fit_all true (pnode pair_node p q) (tprod a b) x
pair_bind p q a b x = bind_assoc x (learn p a) (learn q b)

pair_use : (p q : Pat) (a b : Ty) (x : Option (Slots Ty)) → fit_all false p a (fit_all false q b x) ≡ fit_all false (pnode pair_node p q) (tprod a b) x
pair_use p q a b x = bind_assoc x (spend q b) (spend p a)

element_bind : (p q : Pat) (a : Ty) (x : Option (Slots Ty)) → fit_all true q (tlist a) (fit_all true p a x) ≡ fit_all true (pnode element_node p q) (tlist a) x
element_bind p q a x = bind_assoc x (learn p a) (learn q (tlist a))

element_use : (p q : Pat) (a : Ty) (x : Option (Slots Ty)) → fit_all false p a (fit_all false q (tlist a) x) ≡ fit_all false (pnode element_node p q) (tlist a) x
element_use p q a x = bind_assoc x (spend q (tlist a)) (spend p a)

none_fits : (c : Bool) (P : Pat) (A : Ty) (x : Option (Slots Ty)) → ((e : Slots Ty) → fitting c P A e ≡ none) → none ≡ fit_all c P A x
none_fits c P A none h = refl
none_fits c P A (some e) h = sym (h e)

-- ---- the part of a list by its number

pub list_first : (t : List ℕ) (a : ℕ) {i r : ℕ} → i ≡ 2 → r ≡ smaller_of (cell_of t a 2) a → r ≡ list_part t a i
list_first t a e s = s ∙ sym (ap (list_part t a) e)

pub list_second : (t : List ℕ) (a : ℕ) {i : ℕ} → (i ≡ 2 → ⊥) → a ≡ list_part t a i
list_second t a h = sym (ap (λ b. cond b (smaller_of (cell_of t a 2) a) a) (not_eqb h))

-- ---- P line p of kind j on T line a of kind k

module _ (t : List ℕ) (base p a : ℕ) (c : Bool) (x : Option (Slots Ty)) {j k : ℕ} (u : j ≡ cell_of t (base + p) 1) (v : k ≡ cell_of t a 1) where
  kind : type_node k (type_of t (smaller_of (cell_of t a 2) a)) (type_of t (smaller_of (cell_of t a 3) a)) ≡ type_of t a
  kind = ap (λ c. type_node c (type_of t (smaller_of (cell_of t a 2) a)) (type_of t (smaller_of (cell_of t a 3) a))) v ∙ sym (type_node_lem t a)

  -- a P line that names nothing and is no variable
  module _ (h : Plain j) (y : j ≡ 1 → ⊥) where
    pub fit_unit : Whole k → x ≡ fit_all c (pattern_of t base p) (type_of t a) x
    fit_unit z =
        same c ∙ ap₂ (λ q b. fit_all c q b x) (leaf_is_unit h y _ _ _ ∙ opened t base p u) (sym (node_whole _ _ z) ∙ kind)
      where
        same : (c : Bool) → x ≡ fit_all c (pleaf unit_leaf) tunit x
        same true = same_bind x
        same false = same_bind x

    pub fit_unit_not : {r : Option (Slots Ty)} → r ≡ none → Naming k → r ≡ fit_all c (pattern_of t base p) (type_of t a) x
    fit_unit_not e z =
        e ∙ none_fits c (pleaf unit_leaf) _ x (unit_misfit c _ _ z) ∙ ap₂ (λ q b. fit_all c q b x) (leaf_is_unit h y _ _ _ ∙ opened t base p u) kind

  pub fit_var : {n : ℕ} {r : Option (Slots Ty)} → j ≡ 1 → n ≡ cell_of t (base + p) 2 → r ≡ fit_all c (pvar n) (type_of t a) x
      → r ≡ fit_all c (pattern_of t base p) (type_of t a) x
  fit_var y i e = e ∙ ap (λ q. fit_all c q (type_of t a) x) (ap pvar i ∙ sym (pattern_var t base p (sym u ∙ y)))

  pub fit_tag_not : {r : Option (Slots Ty)} → r ≡ none → HasParts j → (j ≡ 4 → ⊥) → (k ≡ 1 → ⊥) → r ≡ fit_all c (pattern_of t base p) (type_of t a) x
  fit_tag_not e h l y =
      e ∙ none_fits c _ _ x (tag_misfit c (parts_tag h l) _ _ _ k _ _ y) ∙ ap₂ (λ q b. fit_all c q b x) (opened t base p u) kind

  pub fit_tag : {q b : ℕ} {r : Option (Slots Ty)} → HasParts j → (j ≡ 4 → ⊥) → k ≡ 1 → q ≡ smaller_of (cell_of t (base + p) 2) p → b ≡ smaller_of (cell_of t a j) a
      → r ≡ fit_all c (pattern_of t base q) (type_of t b) x → r ≡ fit_all c (pattern_of t base p) (type_of t a) x
  fit_tag h l y s w e =
      e
      ∙ ap₂ (λ q b. fit_all c (pattern_of t base q) (type_of t b) x) s w
      ∙ tag_fit c (parts_tag h l) _ _ _ (λ i. type_of t (smaller_of (cell_of t a i) a)) x
      ∙ ap₂ (λ q b. fit_all c q b x) (opened t base p u) (sym (type_sum t a (sym v ∙ y)))

  pub fit_pair_not : {r : Option (Slots Ty)} → r ≡ none → j ≡ 4 → (k ≡ 2 → ⊥) → r ≡ fit_all c (pattern_of t base p) (type_of t a) x
  fit_pair_not e h l =
      e ∙ none_fits c _ _ x (pair_misfit c _ _ k _ _ l) ∙ ap₂ (λ q b. fit_all c q b x) (sym (pattern_pair t base p (sym u ∙ h))) kind

  -- empty fits a list, and nothing else
  pub fit_empty : j ≡ 5 → k ≡ 3 → x ≡ fit_all c (pattern_of t base p) (type_of t a) x
  fit_empty h l = same c ∙ ap₂ (λ q b. fit_all c q b x) (sym (pattern_empty t base p (sym u ∙ h))) (sym (type_list t a (sym v ∙ l)))
    where
      same : (c : Bool) → x ≡ fit_all c (pleaf empty_leaf) (tlist (type_of t (smaller_of (cell_of t a 2) a))) x
      same true = same_bind x
      same false = same_bind x

  pub fit_empty_not : {r : Option (Slots Ty)} → r ≡ none → j ≡ 5 → (k ≡ 3 → ⊥) → r ≡ fit_all c (pattern_of t base p) (type_of t a) x
  fit_empty_not e h l =
      e ∙ none_fits c _ _ x (empty_misfit c k _ _ l) ∙ ap₂ (λ q b. fit_all c q b x) (sym (pattern_empty t base p (sym u ∙ h))) kind

  pub fit_element_not : {r : Option (Slots Ty)} → r ≡ none → j ≡ 6 → (k ≡ 3 → ⊥) → r ≡ fit_all c (pattern_of t base p) (type_of t a) x
  fit_element_not e h l =
      e ∙ none_fits c _ _ x (element_misfit c _ _ k _ _ l) ∙ ap₂ (λ q b. fit_all c q b x) (sym (pattern_element t base p (sym u ∙ h))) kind

  -- what field i of both lines names
  abbrev fit_field : Bool → ℕ → Option (Slots Ty) → Option (Slots Ty)
  fit_field c i x = fit_all c (pattern_of t base (smaller_of (cell_of t (base + p) i) p)) (type_of t (smaller_of (cell_of t a i) a)) x

  in_turn : j ≡ 4 → k ≡ 2 → fit_field c (cond c 3 2) (fit_field c (cond c 2 3) x) ≡ fit_all c (pattern_of t base p) (type_of t a) x
  in_turn h l = go c ∙ ap₂ (λ q b. fit_all c q b x) (sym (pattern_pair t base p (sym u ∙ h))) (sym (type_prod t a (sym v ∙ l)))
    where
      go : (c : Bool) → fit_field c (cond c 3 2) (fit_field c (cond c 2 3) x)
          ≡ fit_all c (pnode pair_node (pattern_of t base (smaller_of (cell_of t (base + p) 2) p)) (pattern_of t base (smaller_of (cell_of t (base + p) 3) p)))
          (tprod (type_of t (smaller_of (cell_of t a 2) a)) (type_of t (smaller_of (cell_of t a 3) a))) x
      go true = pair_bind (pattern_of t base (smaller_of (cell_of t (base + p) 2) p)) (pattern_of t base (smaller_of (cell_of t (base + p) 3) p)) (type_of t (smaller_of (cell_of t a 2) a))
          (type_of t (smaller_of (cell_of t a 3) a)) x
      go false = pair_use (pattern_of t base (smaller_of (cell_of t (base + p) 2) p)) (pattern_of t base (smaller_of (cell_of t (base + p) 3) p)) (type_of t (smaller_of (cell_of t a 2) a))
          (type_of t (smaller_of (cell_of t a 3) a)) x

  pub fit_pair : {f g q b q' b' : ℕ} {m r : Option (Slots Ty)} → j ≡ 4 → k ≡ 2 → f ≡ cond c 2 3 → g ≡ cond c 3 2
      → q ≡ smaller_of (cell_of t (base + p) f) p → b ≡ smaller_of (cell_of t a f) a → m ≡ fit_all c (pattern_of t base q) (type_of t b) x
      → q' ≡ smaller_of (cell_of t (base + p) g) p → b' ≡ smaller_of (cell_of t a g) a → r ≡ fit_all c (pattern_of t base q') (type_of t b') m
      → r ≡ fit_all c (pattern_of t base p) (type_of t a) x
  fit_pair {q = q} {b} {q'} {b'} {m = m} h l ef eg s w e s' w' e' =
      e'
      ∙ ap₂ (λ q b. fit_all c (pattern_of t base q) (type_of t b) m) (s' ∙ ap (λ i. smaller_of (cell_of t (base + p) i) p) eg) (w' ∙ ap (λ i. smaller_of (cell_of t a i) a) eg)
      ∙ ap (fit_field c (cond c 3 2))
      (e ∙ ap₂ (λ q b. fit_all c (pattern_of t base q) (type_of t b) x) (s ∙ ap (λ i. smaller_of (cell_of t (base + p) i) p) ef) (w ∙ ap (λ i. smaller_of (cell_of t a i) a) ef))
      ∙ in_turn h l

  -- what field i of an element names, on its part of a list
  abbrev fit_part : Bool → ℕ → Option (Slots Ty) → Option (Slots Ty)
  fit_part c i x = fit_all c (pattern_of t base (smaller_of (cell_of t (base + p) i) p)) (type_of t (list_part t a i)) x

  list_in_turn : j ≡ 6 → k ≡ 3 → fit_part c (cond c 3 2) (fit_part c (cond c 2 3) x) ≡ fit_all c (pattern_of t base p) (type_of t a) x
  list_in_turn h l = go c ∙ ap₂ (λ q b. fit_all c q b x) (sym (pattern_element t base p (sym u ∙ h))) (sym is_list)
    where
      is_list : type_of t a ≡ tlist (type_of t (smaller_of (cell_of t a 2) a))
      is_list = type_list t a (sym v ∙ l)

      go : (c : Bool) → fit_part c (cond c 3 2) (fit_part c (cond c 2 3) x)
          ≡ fit_all c (pnode element_node (pattern_of t base (smaller_of (cell_of t (base + p) 2) p)) (pattern_of t base (smaller_of (cell_of t (base + p) 3) p)))
          (tlist (type_of t (smaller_of (cell_of t a 2) a))) x
      go true =
          ap (λ b. fit_all true (pattern_of t base (smaller_of (cell_of t (base + p) 3) p)) b (fit_part true 2 x)) is_list
          ∙ element_bind (pattern_of t base (smaller_of (cell_of t (base + p) 2) p)) (pattern_of t base (smaller_of (cell_of t (base + p) 3) p)) (type_of t (smaller_of (cell_of t a 2) a)) x
      go false =
          ap (λ b. fit_part false 2 (fit_all false (pattern_of t base (smaller_of (cell_of t (base + p) 3) p)) b x)) is_list
          ∙ element_use (pattern_of t base (smaller_of (cell_of t (base + p) 2) p)) (pattern_of t base (smaller_of (cell_of t (base + p) 3) p)) (type_of t (smaller_of (cell_of t a 2) a)) x

  pub fit_element : {f g q b q' b' : ℕ} {m r : Option (Slots Ty)} → j ≡ 6 → k ≡ 3 → f ≡ cond c 2 3 → g ≡ cond c 3 2
      → q ≡ smaller_of (cell_of t (base + p) f) p → b ≡ list_part t a f → m ≡ fit_all c (pattern_of t base q) (type_of t b) x
      → q' ≡ smaller_of (cell_of t (base + p) g) p → b' ≡ list_part t a g → r ≡ fit_all c (pattern_of t base q') (type_of t b') m
      → r ≡ fit_all c (pattern_of t base p) (type_of t a) x
  fit_element {q = q} {b} {q'} {b'} {m = m} h l ef eg s w e s' w' e' =
      e'
      ∙ ap₂ (λ q b. fit_all c (pattern_of t base q) (type_of t b) m) (s' ∙ ap (λ i. smaller_of (cell_of t (base + p) i) p) eg) (w' ∙ ap (list_part t a) eg)
      ∙ ap (fit_part c (cond c 3 2))
      (e ∙ ap₂ (λ q b. fit_all c (pattern_of t base q) (type_of t b) x) (s ∙ ap (λ i. smaller_of (cell_of t (base + p) i) p) ef) (w ∙ ap (list_part t a) ef))
      ∙ list_in_turn h l

-- ---- the recursion: the parts of a line, and from there the lines that it names

pub parts_call : {i j m : ℕ} → i ≤ j → 2 * j + 1 ≡ m → 2 * i < m
parts_call h e = omega arith

twice : {i j m : ℕ} → i < j → 2 * j ≡ m → 2 * i + 1 < m
twice h e = omega arith

pub part_call : (t : List ℕ) (base p i : ℕ) {k q m : ℕ} → 2 * rank p ≡ m → k ≡ cell_of t (base + p) 1 → HasParts k → q ≡ smaller_of i p → 2 * rank q + 1 < m
part_call t base p i r e h s = twice (pattern_call t base p i refl e (parts_no_unit h) s) r

pub element_call : (t : List ℕ) (base p i : ℕ) {q m : ℕ} → 2 * rank p ≡ m → cell_of t (base + p) 1 ≡ 6 → q ≡ smaller_of i p → 2 * rank q + 1 < m
element_call t base p i r h s = twice (pattern_call t base p i refl refl (no_unit h) s) r

-- what has failed stays failed
pub fit_stopped : (t : List ℕ) (e : Env) (c : Bool) (p : Pat) (a : Ty) → e.fits ≡ false → env_view t e ≡ fit_all c p a (env_view t e)
fit_stopped t e c p a h = failed ∙ sym (ap (fit_all c p a) failed)
  where
    failed : env_view t e ≡ none
    failed = ap (λ b. view_of t b e.line) h

-- what has fitted goes on
pub fit_going : (t : List ℕ) (e : Env) (c : Bool) (p : Pat) (a : Ty) {r : Bool} {z : List ℕ} → e.fits ≡ true → Fitted t c p a e.line r z → view_of t r z ≡ fit_all c p a (env_view t e)
fit_going t e c p a h f = f.fitted ∙ ap (λ b. fit_all c p a (view_of t b e.line)) (sym h)

-- ---- a line is the same as itself

pub same_self : (t : List ℕ) (b a : ℕ) → b ≡ a → true ≡ same_type (type_of t b) (type_of t a)
same_self t b a e = sym (ap (λ x. same_type (type_of t x) (type_of t a)) e ∙ same_type_refl (type_of t a))

-- ---- a line of units and pairs

bare_learn : {p : Pat} {a : Ty} → Bare p a → (e : Slots Ty) → learn p a e ≡ some e
bare_learn unit e = refl
bare_learn (pair {q = q} {b = b} x y) e = ap (λ z. z >>= λ d. learn q b d) (bare_learn x e) ∙ bare_learn y e

bare_spend : {p : Pat} {a : Ty} → Bare p a → (e : Slots Ty) → spend p a e ≡ some e
bare_spend unit e = refl
bare_spend (pair {p = p} {a = a} x y) e = ap (λ z. z >>= λ d. spend p a d) (bare_spend y e) ∙ bare_spend x e

-- it fits its type and changes nothing, whatever has fitted so far
pub bare_same : (c : Bool) {p : Pat} {a : Ty} → Bare p a → (x : Option (Slots Ty)) → x ≡ fit_all c p a x
bare_same c h none = refl
bare_same true h (some e) = sym (bare_learn h e)
bare_same false h (some e) = sym (bare_spend h e)

-- ---- once all is fitted

entries_settled : (t l : List ℕ) → settled_all l ≡ all_empty (map (entry_view t) l)
entries_settled t [] = refl
entries_settled t (zero ∷ l) = entries_settled t l
entries_settled t (suc k ∷ l) = ap (λ b. b && settled_all l) (not_eqb (suc-ne-zero k))

-- all fitted, and no entry is live
pub used_env : (t : List ℕ) (e : Env) → (e.fits && settled_all e.line) ≡ used (env_view t e)
used_env t e = go e.fits
  where
    go : (b : Bool) → (b && settled_all e.line) ≡ used (view_if b (map (entry_view t) e.line))
    go true = entries_settled t e.line
    go false = refl

pub fits_and : {f b x : Bool} → f ≡ true → b ≡ x → b ≡ (f && x)
fits_and {x = x} h q = q ∙ sym (ap (λ f. f && x) h)

pub fails_and : {f : Bool} (x : Bool) → f ≡ false → false ≡ (f && x)
fails_and x h = sym (ap (λ f. f && x) h)
