-- The tests of refusal 23 by the kinds of lines, and the loops over L rows.
use Prim.Native.Nat.{ℕ, zero, suc, ◌+◌, ◌-◌, ◌<◌, ◌≤◌}
use native.Mathlib.Nat.{add-zero, add-suc, suc-add}
use native.Mathlib.Omega.{arith}
use native.Mathlib.Numerals.{add-one}
use mathlib.Core.Path.{◌≡◌, refl, sym, ap, ap₂, ◌∙◌}
use mathlib.Core.Bool.{Bool, true, false, cond, not, ◌&&◌, ◌||◌}
use mathlib.Core.List.{List, [], ◌∷◌, ◌++◌, map, reverse, reverse-cons}
use lib.Dec.{eqb}
use Rattle.calculus.specs.Trees.{Ty, Tag, left, right, unit_leaf, empty_leaf, pair_node, element_node, Pat, pvar, pleaf, pinj, pnode, Let, invert_let, vars}
use Rattle.calculus.specs.Clauses.{is_list, zoned, is_var, on_tail, elem, calls, no_calls, tail_calls, tail_rule, shown_rule, shown, clause_rule}
use Rattle.calculus.proofs.Basic.{eq_eqb, not_eqb}
use Rattle.format.specs.Judge.{type_node, pattern_node}
use Rattle.table_trees.specs.Unfolding.{cell_of, smaller_of, type_of, pattern_of}
use Rattle.table_trees.proofs.Cases.{Injects, lefts, rights, Joins, pairs, elements, Leaf, unit, var, empty, other}
use Rattle.table_trees.proofs.Unfolding.{type_node_lem, type_prod, type_list, pattern_var, pattern_pair, pattern_empty, pattern_element, opened}
use Rattle.table_walks.specs.InTable.{let_at, lets_in, clause_in}
use Rattle.check_recursion.specs.Turned.{lets_back, lets_toward, clause_toward}

-- ---- types

list_kind : (k : ℕ) (a b : Ty) → eqb k 3 ≡ is_list (type_node k a b)
list_kind zero a b = not_eqb {m = 0} {n = 3} (λ e. omega (arith, e))
list_kind (suc zero) a b = not_eqb {m = 1} {n = 3} (λ e. omega (arith, e))
list_kind (suc (suc zero)) a b = not_eqb {m = 2} {n = 3} (λ e. omega (arith, e))
list_kind (suc (suc (suc zero))) a b = eq_eqb {m = 3} {n = 3} refl
list_kind (suc (suc (suc (suc k)))) a b = not_eqb {m = suc (suc (suc (suc k)))} {n = 3} (λ e. omega (arith, e))

pub list_told : (t : List ℕ) (a : ℕ) {k : ℕ} → k ≡ cell_of t a 1 → eqb k 3 ≡ is_list (type_of t a)
list_told t a {k} e = ap (λ k. eqb k 3) e ∙ list_kind (cell_of t a 1) _ _ ∙ ap is_list (sym (type_node_lem t a))

pub zoned_list : (t : List ℕ) (a : ℕ) {k : ℕ} → k ≡ cell_of t a 1 → k ≡ 3 → true ≡ zoned (type_of t a)
zoned_list t a e z = sym (ap zoned (type_list t a (sym e ∙ z)))

pub zoned_product : (t : List ℕ) (a : ℕ) {k b : ℕ} {r : Bool} → k ≡ cell_of t a 1 → k ≡ 2 → b ≡ smaller_of (cell_of t a 2) a → r ≡ is_list (type_of t b) → r ≡ zoned (type_of t a)
zoned_product t a e z s i = i ∙ ap (λ x. is_list (type_of t x)) s ∙ sym (ap zoned (type_prod t a (sym e ∙ z)))

zoned_kind : (k : ℕ) (a b : Ty) → (k ≡ 3 → ⊥) → (k ≡ 2 → ⊥) → false ≡ zoned (type_node k a b)
zoned_kind zero a b h l = refl
zoned_kind (suc zero) a b h l = refl
zoned_kind (suc (suc zero)) a b h l = absurd (l refl)
zoned_kind (suc (suc (suc zero))) a b h l = absurd (h refl)
zoned_kind (suc (suc (suc (suc k)))) a b h l = refl

pub zoned_other : (t : List ℕ) (a : ℕ) {k : ℕ} → k ≡ cell_of t a 1 → (k ≡ 3 → ⊥) → (k ≡ 2 → ⊥) → false ≡ zoned (type_of t a)
zoned_other t a {k} e h l = zoned_kind k _ _ h l ∙ ap (λ k. zoned (type_node k (type_of t (smaller_of (cell_of t a 2) a)) (type_of t (smaller_of (cell_of t a 3) a)))) e
    ∙ ap zoned (sym (type_node_lem t a))

-- ---- patterns: k is the kind of P line q

-- what holds of the node of each kind: of a unit and of a number that is no kind, of a variable, of left and right, of a pair, of empty, of an element
by_kind : (Q : Pat → Type 0) (k n : ℕ) (p q : Pat) → Q (pleaf unit_leaf) → (k ≡ 1 → Q (pvar n)) → ((g : Tag) → Q (pinj g p))
    → (k ≡ 4 → Q (pnode pair_node p q)) → (k ≡ 5 → Q (pleaf empty_leaf)) → (k ≡ 6 → Q (pnode element_node p q)) → Q (pattern_node k n p q)
by_kind Q zero n p q u v i b e m = u
by_kind Q (suc zero) n p q u v i b e m = v refl
by_kind Q (suc (suc zero)) n p q u v i b e m = i left
by_kind Q (suc (suc (suc zero))) n p q u v i b e m = i right
by_kind Q (suc (suc (suc (suc zero)))) n p q u v i b e m = b refl
by_kind Q (suc (suc (suc (suc (suc zero))))) n p q u v i b e m = e refl
by_kind Q (suc (suc (suc (suc (suc (suc zero)))))) n p q u v i b e m = m refl
by_kind Q (suc (suc (suc (suc (suc (suc (suc k))))))) n p q u v i b e m = u

var_kind : (k m n : ℕ) (p q : Pat) → (k ≡ 1 → ⊥) → false ≡ is_var m (pattern_node k n p q)
var_kind k m n p q h = by_kind (λ r. false ≡ is_var m r) k n p q refl (λ e. absurd (h e)) (λ g. refl) (λ e. refl) (λ e. refl) (λ e. refl)

tail_kind : (k m n : ℕ) (p q : Pat) → (k ≡ 1 → ⊥) → (k ≡ 4 → ⊥) → false ≡ on_tail m (pattern_node k n p q)
tail_kind k m n p q h l = by_kind (λ r. false ≡ on_tail m r) k n p q refl (λ e. absurd (h e)) (λ g. refl) (λ e. absurd (l e)) (λ e. refl) (λ e. refl)

rule_kind : (k i : ℕ) (ls : List Let) (n : ℕ) (p q : Pat) → (k ≡ 1 → ⊥) → no_calls i ls ≡ tail_rule i (pattern_node k n p q) ls
rule_kind k i ls n p q h = by_kind (λ r. no_calls i ls ≡ tail_rule i r ls) k n p q refl (λ e. absurd (h e)) (λ g. refl) (λ e. refl) (λ e. refl) (λ e. refl)

shown_kind : (k i : ℕ) (ls : List Let) (n : ℕ) (p q : Pat) → (k ≡ 5 → ⊥) → (k ≡ 6 → ⊥) → false ≡ shown_rule i (pattern_node k n p q) ls
shown_kind k i ls n p q h l =
    by_kind (λ r. false ≡ shown_rule i r ls) k n p q refl (λ e. refl) (λ g. refl) (λ e. refl) (λ e. absurd (h e)) (λ e. absurd (l e))

whole_kind : (k n : ℕ) (p q : Pat) → (k ≡ 4 → ⊥) → pattern_node k n p q ≡ shown (pattern_node k n p q)
whole_kind k n p q h = by_kind (λ r. r ≡ shown r) k n p q refl (λ e. refl) (λ g. refl) (λ e. absurd (h e)) (λ e. refl) (λ e. refl)

or_none : (b : Bool) → b ≡ (b || false)
or_none true = refl
or_none false = refl

elem_append : (n : ℕ) (xs ys : List ℕ) → elem n (xs ++ ys) ≡ (elem n xs || elem n ys)
elem_append n [] ys = refl
elem_append n (x ∷ xs) ys = go (eqb n x) (elem_append n xs ys)
  where
    go : (b : Bool) → elem n (xs ++ ys) ≡ (elem n xs || elem n ys) → (b || elem n (xs ++ ys)) ≡ ((b || elem n xs) || elem n ys)
    go true i = refl
    go false i = i

injected_elem : {k : ℕ} → Injects k → (m n : ℕ) (p q : Pat) → elem m (vars p) ≡ elem m (vars (pattern_node k n p q))
injected_elem lefts m n p q = refl
injected_elem rights m n p q = refl

leaf_elem : {k : ℕ} → Leaf k → (k ≡ 1 → ⊥) → (m n : ℕ) (p q : Pat) → false ≡ elem m (vars (pattern_node k n p q))
leaf_elem unit h m n p q = refl
leaf_elem var h m n p q = absurd (h refl)
leaf_elem empty h m n p q = refl
leaf_elem (other k) h m n p q = refl

joined_elem : {k : ℕ} → Joins k → (m n : ℕ) (p q : Pat) → (elem m (vars p) || elem m (vars q)) ≡ elem m (vars (pattern_node k n p q))
joined_elem pairs m n p q = sym (elem_append m (vars p) (vars q))
joined_elem elements m n p q = sym (elem_append m (vars p) (vars q))

module _ (t : List ℕ) (base q m : ℕ) {k : ℕ} (e : k ≡ cell_of t (base + q) 1) where
  pub var_is : {x : ℕ} → k ≡ 1 → x ≡ cell_of t (base + q) 2 → eqb m x ≡ is_var m (pattern_of t base q)
  var_is z i = ap (eqb m) i ∙ sym (ap (is_var m) (pattern_var t base q (sym e ∙ z)))

  pub var_not : (k ≡ 1 → ⊥) → false ≡ is_var m (pattern_of t base q)
  var_not h = var_kind k m _ _ _ h ∙ ap (is_var m) (opened t base q e)

  pub tail_var : {x : ℕ} → k ≡ 1 → x ≡ cell_of t (base + q) 2 → eqb m x ≡ on_tail m (pattern_of t base q)
  tail_var z i = ap (eqb m) i ∙ sym (ap (on_tail m) (pattern_var t base q (sym e ∙ z)))

  pub tail_pair : {a : ℕ} {r : Bool} → k ≡ 4 → a ≡ smaller_of (cell_of t (base + q) 2) q → r ≡ is_var m (pattern_of t base a) → r ≡ on_tail m (pattern_of t base q)
  tail_pair z s i = i ∙ ap (λ x. is_var m (pattern_of t base x)) s ∙ sym (ap (on_tail m) (pattern_pair t base q (sym e ∙ z)))

  pub tail_not : (k ≡ 1 → ⊥) → (k ≡ 4 → ⊥) → false ≡ on_tail m (pattern_of t base q)
  tail_not h l = tail_kind k m _ _ _ h l ∙ ap (on_tail m) (opened t base q e)

  pub holds_var : {x : ℕ} → k ≡ 1 → x ≡ cell_of t (base + q) 2 → eqb m x ≡ elem m (vars (pattern_of t base q))
  holds_var {x} z i = or_none (eqb m x) ∙ ap (λ x. eqb m x || false) i ∙ sym (ap (λ p. elem m (vars p)) (pattern_var t base q (sym e ∙ z)))

  pub holds_tag : {a : ℕ} {r : Bool} → Injects k → a ≡ smaller_of (cell_of t (base + q) 2) q → r ≡ elem m (vars (pattern_of t base a)) → r ≡ elem m (vars (pattern_of t base q))
  holds_tag h s i = i ∙ ap (λ x. elem m (vars (pattern_of t base x))) s ∙ injected_elem h m _ _ _ ∙ ap (λ p. elem m (vars p)) (opened t base q e)

  joined : Joins k → (elem m (vars (pattern_of t base (smaller_of (cell_of t (base + q) 2) q))) || elem m (vars (pattern_of t base (smaller_of (cell_of t (base + q) 3) q)))) ≡ elem m
      (vars (pattern_of t base q))
  joined h = joined_elem h m _ _ _ ∙ ap (λ p. elem m (vars p)) (opened t base q e)

  pub holds_first : {a : ℕ} {r : Bool} → Joins k → a ≡ smaller_of (cell_of t (base + q) 2) q → r ≡ elem m (vars (pattern_of t base a)) → r ≡ true → true ≡ elem m (vars (pattern_of t base q))
  holds_first h s i z =
      sym (ap (λ b. b || elem m (vars (pattern_of t base (smaller_of (cell_of t (base + q) 3) q)))) (sym (i ∙ ap (λ x. elem m (vars (pattern_of t base x))) s) ∙ z)) ∙ joined h

  pub holds_second : {a b : ℕ} {r x : Bool} → Joins k → a ≡ smaller_of (cell_of t (base + q) 2) q → r ≡ elem m (vars (pattern_of t base a)) → r ≡ false
      → b ≡ smaller_of (cell_of t (base + q) 3) q → x ≡ elem m (vars (pattern_of t base b)) → x ≡ elem m (vars (pattern_of t base q))
  holds_second h s i z s' i' =
      i'
      ∙ ap (λ x. elem m (vars (pattern_of t base x))) s'
      ∙ sym (ap (λ b. b || elem m (vars (pattern_of t base (smaller_of (cell_of t (base + q) 3) q)))) (sym (i ∙ ap (λ x. elem m (vars (pattern_of t base x))) s) ∙ z))
      ∙ joined h

  pub holds_none : Leaf k → (k ≡ 1 → ⊥) → false ≡ elem m (vars (pattern_of t base q))
  holds_none h l = leaf_elem h l m _ _ _ ∙ ap (λ p. elem m (vars p)) (opened t base q e)

module _ (t : List ℕ) (base q i : ℕ) (ls : List Let) {k : ℕ} (e : k ≡ cell_of t (base + q) 1) where
  pub rule_var : {x : ℕ} {r : Bool} → k ≡ 1 → x ≡ cell_of t (base + q) 2 → r ≡ tail_calls i x ls → r ≡ tail_rule i (pattern_of t base q) ls
  rule_var z j h = h ∙ ap (λ x. tail_calls i x ls) j ∙ sym (ap (λ p. tail_rule i p ls) (pattern_var t base q (sym e ∙ z)))

  pub rule_other : {r : Bool} → (k ≡ 1 → ⊥) → r ≡ no_calls i ls → r ≡ tail_rule i (pattern_of t base q) ls
  rule_other z h = h ∙ rule_kind k i ls _ _ _ z ∙ ap (λ p. tail_rule i p ls) (opened t base q e)

  pub shown_empty : {r : Bool} → k ≡ 5 → r ≡ no_calls i ls → r ≡ shown_rule i (pattern_of t base q) ls
  shown_empty z h = h ∙ sym (ap (λ p. shown_rule i p ls) (pattern_empty t base q (sym e ∙ z)))

  pub shown_element : {a : ℕ} {r : Bool} → k ≡ 6 → a ≡ smaller_of (cell_of t (base + q) 3) q → r ≡ tail_rule i (pattern_of t base a) ls → r ≡ shown_rule i (pattern_of t base q) ls
  shown_element z s h = h ∙ ap (λ x. tail_rule i (pattern_of t base x) ls) s ∙ sym (ap (λ p. shown_rule i p ls) (pattern_element t base q (sym e ∙ z)))

  pub shown_other : (k ≡ 5 → ⊥) → (k ≡ 6 → ⊥) → false ≡ shown_rule i (pattern_of t base q) ls
  shown_other h l = shown_kind k i ls _ _ _ h l ∙ ap (λ p. shown_rule i p ls) (opened t base q e)

module _ (t : List ℕ) (base p : ℕ) {k : ℕ} (e : k ≡ cell_of t (base + p) 1) where
  pub shown_pair : {a : ℕ} → k ≡ 4 → a ≡ smaller_of (cell_of t (base + p) 2) p → pattern_of t base a ≡ shown (pattern_of t base p)
  shown_pair z s = ap (pattern_of t base) s ∙ sym (ap shown (pattern_pair t base p (sym e ∙ z)))

  pub shown_whole : (k ≡ 4 → ⊥) → pattern_of t base p ≡ shown (pattern_of t base p)
  shown_whole h = sym (opened t base p e) ∙ whole_kind k _ _ _ h ∙ ap shown (opened t base p e)

-- ---- the L rows from n up to `to`

lets_more : (t : List ℕ) (base n to : ℕ) → n < to → lets_in t base n (to - n) ≡ let_at t base n ∷ lets_in t base (n + 1) (to - (n + 1))
lets_more t base n to h =
    let more : to - n ≡ suc (to - suc n) = omega arith in
    ap (lets_in t base n) more ∙ ap (λ k. let_at t base n ∷ lets_in t base k (to - k)) (sym (add-one n))

lets_none : (t : List ℕ) (base n to : ℕ) → to ≤ n → lets_in t base n (to - n) ≡ []
lets_none t base n to h =
    let nothing : to - n ≡ 0 = omega arith in
    ap (lets_in t base n) nothing

pub call_on : {a b r s : Bool} → a ≡ b → a ≡ true → r ≡ s → r ≡ (b && s)
call_on {s = s} e h o = o ∙ sym (ap (λ y. y && s) (sym e ∙ h))

pub call_off : {a b : Bool} (s : Bool) → a ≡ b → a ≡ false → false ≡ (b && s)
call_off s e h = sym (ap (λ y. y && s) (sym e ∙ h))

-- what is left from row n on decides the whole
pub record CallsLeft (t : List ℕ) (base i from to n : ℕ) : Type 0 where
  pub same : no_calls i (lets_in t base n (to - n)) ≡ no_calls i (lets_in t base from (to - from))

module _ {t : List ℕ} {base i from to n : ℕ} (h : CallsLeft t base i from to n) where
  calls_open : n < to → (not (eqb (cell_of t n 2) i) && no_calls i (lets_in t base (n + 1) (to - (n + 1)))) ≡ no_calls i (lets_in t base from (to - from))
  calls_open l = sym (ap (no_calls i) (lets_more t base n to l)) ∙ h.same

  pub calls_one : {x : ℕ} → n < to → x ≡ cell_of t n 2 → x ≡ i → false ≡ no_calls i (lets_in t base from (to - from))
  calls_one l e z = sym (ap (λ b. not b && no_calls i (lets_in t base (n + 1) (to - (n + 1)))) (eq_eqb (sym e ∙ z))) ∙ calls_open l

  pub calls_step : {x : ℕ} → n < to → x ≡ cell_of t n 2 → (x ≡ i → ⊥) → CallsLeft t base i from to (n + 1)
  calls_step l e z =
      record { same = sym (ap (λ b. not b && no_calls i (lets_in t base (n + 1) (to - (n + 1)))) (not_eqb (λ y. z (e ∙ y)))) ∙ calls_open l }

  pub calls_end : to ≤ n → true ≡ no_calls i (lets_in t base from (to - from))
  calls_end l = sym (ap (no_calls i) (lets_none t base n to l)) ∙ h.same

-- ---- the L rows of the turned file

-- one row more at the end
lets_last : (t : List ℕ) (base n count : ℕ) → lets_in t base n (suc count) ≡ lets_in t base n count ++ (let_at t base (n + count) ∷ [])
lets_last t base n zero = ap (λ k. let_at t base k ∷ []) (sym (add-zero n))
lets_last t base n (suc count) =
    ap (λ ls. let_at t base n ∷ ls) (lets_last t base (suc n) count)
    ∙ ap (λ k. let_at t base n ∷ (lets_in t base (suc n) count ++ (let_at t base k ∷ []))) (suc-add n count ∙ sym (add-suc n count))

-- calls do not depend on the direction
quiet_append : (i : ℕ) (ls ms : List Let) → no_calls i (ls ++ ms) ≡ (no_calls i ls && no_calls i ms)
quiet_append i [] ms = refl
quiet_append i (l ∷ ls) ms = go (not (calls i l)) (quiet_append i ls ms)
  where
    go : (b : Bool) → no_calls i (ls ++ ms) ≡ (no_calls i ls && no_calls i ms) → (b && no_calls i (ls ++ ms)) ≡ ((b && no_calls i ls) && no_calls i ms)
    go true e = e
    go false e = refl

and_back : (a b : Bool) → (a && (b && true)) ≡ (b && a)
and_back true true = refl
and_back true false = refl
and_back false true = refl
and_back false false = refl

quiet_back : (t : List ℕ) (base i n count : ℕ) → no_calls i (lets_in t base n count) ≡ no_calls i (lets_back t base n count)
quiet_back t base i n zero = refl
quiet_back t base i n (suc count) =
    ap (no_calls i) (lets_last t base n count)
    ∙ quiet_append i (lets_in t base n count) (let_at t base (n + count) ∷ [])
    ∙ and_back (no_calls i (lets_in t base n count)) (not (eqb (cell_of t (n + count) 2) i))
    ∙ ap (λ b. not (eqb (cell_of t (n + count) 2) i) && b) (quiet_back t base i n count)

pub quiet_toward : (back : Bool) (t : List ℕ) (base i n count : ℕ) → no_calls i (lets_in t base n count) ≡ no_calls i (lets_toward back t base n count)
quiet_toward true t base i n count = quiet_back t base i n count
quiet_toward false t base i n count = refl

-- it is the turned clause's list
append_map : (ls ms : List Let) → map invert_let (ls ++ ms) ≡ map invert_let ls ++ map invert_let ms
append_map [] ms = refl
append_map (l ∷ ls) ms = ap (λ r. invert_let l ∷ r) (append_map ls ms)

reverse_last : (ls : List Let) (l : Let) → reverse (ls ++ (l ∷ [])) ≡ l ∷ reverse ls
reverse_last [] l = refl
reverse_last (m ∷ ls) l =
    reverse-cons m (ls ++ (l ∷ [])) ∙ ap (λ r. r ++ (m ∷ [])) (reverse_last ls l) ∙ ap (λ r. l ∷ r) (sym (reverse-cons m ls))

pub turned_lets : (t : List ℕ) (base n count : ℕ) → reverse (map invert_let (lets_in t base n count)) ≡ lets_back t base n count
turned_lets t base n zero = refl
turned_lets t base n (suc count) =
    ap (λ ls. reverse (map invert_let ls)) (lets_last t base n count)
    ∙ ap reverse (append_map (lets_in t base n count) (let_at t base (n + count) ∷ []))
    ∙ reverse_last (map invert_let (lets_in t base n count)) (invert_let (let_at t base (n + count)))
    ∙ ap (λ ls. invert_let (let_at t base (n + count)) ∷ ls) (turned_lets t base n count)

back_more : (t : List ℕ) (base from n : ℕ) → from < n → lets_back t base from (n - from) ≡ invert_let (let_at t base (n - 1)) ∷ lets_back t base from (n - 1 - from)
back_more t base from n h =
    let more : n - from ≡ suc (n - 1 - from) = omega arith in
    let last : from + (n - 1 - from) ≡ n - 1 = omega arith in
    ap (lets_back t base from) more ∙ ap (λ k. invert_let (let_at t base k) ∷ lets_back t base from (n - 1 - from)) last

back_none : (t : List ℕ) (base from n : ℕ) → n ≤ from → lets_back t base from (n - from) ≡ []
back_none t base from n h =
    let nothing : n - from ≡ 0 = omega arith in
    ap (lets_back t base from) nothing

abbrev toward_let : Bool → Let → Let
toward_let back l = cond back (invert_let l) l

-- the L rows from a up to b, of which n comes first in the direction of a run: q is what it uses, and those from c up to d are left
pub record Shrunk (t : List ℕ) (base : ℕ) (back : Bool) (a b n q c d : ℕ) : Type 0 where
  pub more : lets_toward back t base a (b - a) ≡ toward_let back (let_at t base n) ∷ lets_toward back t base c (d - c)
  pub uses : pattern_of t base q ≡ (toward_let back (let_at t base n)).q

-- m is the row and the field of what it uses
pub shrunk_forth : (t : List ℕ) (base : ℕ) (back : Bool) {a b q c d : ℕ} {m : ℕ × ℕ} → a < b → back ≡ false → m ≡ (a + 1 - 1, 3) → q ≡ cell_of t m.0 m.1 → c ≡ a + 1 → d ≡ b
    → Shrunk t base back a b m.0 q c d
shrunk_forth t base true l z en eq ec ed = cc
shrunk_forth t base false {a} {b} {q} {c} {d} {m} l z en eq ec ed =
    let n : m.0 ≡ a = ap (λ (x : ℕ × ℕ). x.0) en ∙ omega arith in
    record {
      more = lets_more t base a b l ∙ ap₂ (λ x y. let_at t base a ∷ lets_in t base x (y - x)) (sym ec) (sym ed) ∙ ap (λ x. let_at t base x ∷ lets_in t base c (d - c)) (sym n);
      uses = ap (pattern_of t base) (eq ∙ ap (cell_of t m.0) (ap (λ (x : ℕ × ℕ). x.1) en));
    }

pub shrunk_back : (t : List ℕ) (base : ℕ) (back : Bool) {a b q c d : ℕ} {m : ℕ × ℕ} → a < b → back ≡ true → m ≡ (b - 1, 1) → q ≡ cell_of t m.0 m.1 → c ≡ a → d ≡ b - 1
    → Shrunk t base back a b m.0 q c d
shrunk_back t base false l z en eq ec ed = cc
shrunk_back t base true {a} {b} {q} {c} {d} {m} l z en eq ec ed =
    let n : m.0 ≡ b - 1 = ap (λ (x : ℕ × ℕ). x.0) en in
    record {
      more = back_more t base a b l ∙ ap₂ (λ x y. invert_let (let_at t base (b - 1)) ∷ lets_back t base x (y - x)) (sym ec) (sym ed)
          ∙ ap (λ x. invert_let (let_at t base x) ∷ lets_back t base c (d - c)) (sym n);
      uses = ap (pattern_of t base) (eq ∙ ap (cell_of t m.0) (ap (λ (x : ℕ × ℕ). x.1) en));
    }

pub record TailLeft (t : List ℕ) (base i v : ℕ) (back : Bool) (from to a b : ℕ) : Type 0 where
  pub same : tail_calls i v (lets_toward back t base a (b - a)) ≡ tail_calls i v (lets_toward back t base from (to - from))

module _ {t : List ℕ} {base i v : ℕ} {back : Bool} {from to a b n q c d : ℕ} (h : TailLeft t base i v back from to a b) (s : Shrunk t base back a b n q c d) where
  abbrev further : List Let
  further = lets_toward back t base c (d - c)

  abbrev whole : Bool
  whole = tail_calls i v (lets_toward back t base from (to - from))

  abbrev by_call : Bool → Bool
  by_call z = cond z (on_tail v (pattern_of t base q) && no_calls i further) (cond (elem v (vars (pattern_of t base q))) (no_calls i further) (tail_calls i v further))

  same_calls : (b : Bool) → calls i (toward_let b (let_at t base n)) ≡ eqb (cell_of t n 2) i
  same_calls true = refl
  same_calls false = refl

  tail_open : by_call (eqb (cell_of t n 2) i) ≡ whole
  tail_open =
      ap by_call (sym (same_calls back))
      ∙ ap (λ r. cond (calls i (toward_let back (let_at t base n))) (on_tail v r && no_calls i further) (cond (elem v (vars r)) (no_calls i further) (tail_calls i v further))) s.uses
      ∙ sym (ap (tail_calls i v) s.more)
      ∙ h.same

  module _ {x : ℕ} (e : x ≡ cell_of t n 2) where
    pub tail_call : {r : Bool} → x ≡ i → r ≡ (on_tail v (pattern_of t base q) && no_calls i (lets_in t base c (d - c))) → r ≡ whole
    tail_call z o = o ∙ ap (λ y. on_tail v (pattern_of t base q) && y) (quiet_toward back t base i c (d - c)) ∙ sym (ap by_call (eq_eqb (sym e ∙ z))) ∙ tail_open

    passing : (x ≡ i → ⊥) → by_call false ≡ whole
    passing z = sym (ap by_call (not_eqb (λ y. z (e ∙ y)))) ∙ tail_open

    pub tail_used : {u r : Bool} → (x ≡ i → ⊥) → u ≡ elem v (vars (pattern_of t base q)) → u ≡ true → r ≡ no_calls i (lets_in t base c (d - c)) → r ≡ whole
    tail_used z y w o =
        o ∙ quiet_toward back t base i c (d - c) ∙ sym (ap (λ b. cond b (no_calls i further) (tail_calls i v further)) (sym y ∙ w)) ∙ passing z

    pub tail_step : {u : Bool} → (x ≡ i → ⊥) → u ≡ elem v (vars (pattern_of t base q)) → u ≡ false → TailLeft t base i v back from to c d
    tail_step z y w = record { same = sym (ap (λ b. cond b (no_calls i further) (tail_calls i v further)) (sym y ∙ w)) ∙ passing z }

pub tail_end : {t : List ℕ} {base i v : ℕ} (back : Bool) {from to a b : ℕ} → TailLeft t base i v back from to a b → b ≤ a → true ≡ tail_calls i v (lets_toward back t base from (to - from))
tail_end {t} {base} {i} {v} back {a = a} {b = b} h l = sym (ap (tail_calls i v) (none_toward back)) ∙ h.same
  where
    none_toward : (back : Bool) → lets_toward back t base a (b - a) ≡ []
    none_toward true = back_none t base a b l
    none_toward false = lets_none t base a b l

-- ---- a clause

pub clause_told : (t : List ℕ) (base i : ℕ) (back : Bool) (row end s : ℕ) {f p : ℕ} {r : Bool} → f ≡ cond back 2 1 → p ≡ cell_of t row f
    → pattern_of t base s ≡ shown (pattern_of t base p)
    → r ≡ shown_rule i (pattern_of t base s) (lets_toward back t base (row + 1) (end - (row + 1)))
    → r ≡ clause_rule i (clause_toward back (clause_in t base row end))
clause_told t base i back row end s {f} {p} ef ep es er =
    er
    ∙ ap (λ q. shown_rule i q (lets_toward back t base (row + 1) (end - (row + 1)))) (es ∙ ap (λ x. shown (pattern_of t base x)) (ep ∙ ap (cell_of t row) ef))
    ∙ ap (λ k. shown_rule i (shown (pattern_of t base (cell_of t row (cond back 2 1)))) (lets_toward back t base k (end - k))) (add-one row)
    ∙ go back
  where
    go : (b : Bool) → shown_rule i (shown (pattern_of t base (cell_of t row (cond b 2 1)))) (lets_toward b t base (suc row) (end - suc row))
        ≡ clause_rule i (clause_toward b (clause_in t base row end))
    go true = ap (shown_rule i (shown (pattern_of t base (cell_of t row 2)))) (sym (turned_lets t base (suc row) (end - suc row)))
    go false = refl
