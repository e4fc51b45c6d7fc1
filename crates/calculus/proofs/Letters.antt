-- Letters and closed values: writing and reading undo each other, and the test of a value against a type decides `Of`.
use Prim.Native.Nat.{ℕ, ◌<◌}
use native.Mathlib.Omega.{arith}
use mathlib.Core.Path.{◌≡◌, refl, sym, ap, ◌∙◌}
use mathlib.Core.Logic.{◌↔◌}
use mathlib.Core.Bool.{Bool, true, false, cond, false≢true}
use mathlib.Core.Option.{some, Option}
use mathlib.Core.List.{List, [], ◌∷◌, ◌++◌, map, append_assoc, append-nil}
use lib.Dec.{eqb}
use lib.ListN.{length}
use Rattle.calculus.specs.Tools.{◌>>=◌, concat}
use Rattle.calculus.specs.Trees.{Ty, tunit, tsum, tprod, Tag, left, right, Val, vinj, part, tlist, Leaf, unit_leaf, empty_leaf, Node, pair_node, element_node, vleaf, vnode}
use Rattle.calculus.specs.Letters.{letter_of, letters, on_inj, on_letter, values_of, single, value_of, inhabits, leaf_letter, node_letter, on_node}
use Rattle.calculus.specs.Paper.{Of}
use Rattle.calculus.proofs.Basic.{bind_some, some_bind, none≢some, some_inj, eqb_eq, and_true, true_and}

-- ---- writing, then reading

on_letter_leaf : (l : Leaf) (vs : List Val) → on_letter (leaf_letter l) vs ≡ some (vleaf l ∷ vs)
on_letter_leaf unit_leaf vs = refl
on_letter_leaf empty_leaf vs = refl

on_letter_tag : (t : Tag) (v : Val) (vs : List Val) → on_letter (letter_of t) (v ∷ vs) ≡ some (vinj t v ∷ vs)
on_letter_tag left v vs = refl
on_letter_tag right v vs = refl

on_letter_node : (k : Node) (v w : Val) (vs : List Val) → on_letter (node_letter k) (v ∷ (w ∷ vs)) ≡ some (vnode k v w ∷ vs)
on_letter_node pair_node v w vs = refl
on_letter_node element_node v w vs = refl

-- the letters of a value before other letters put the value before the values of those
values_letters : (v : Val) (bs : List ℕ) (vs : List Val) → values_of bs ≡ some vs → values_of (letters v ++ bs) ≡ some (v ∷ vs)
values_letters (vleaf l) bs vs e = some_bind (on_letter (leaf_letter l)) e ∙ on_letter_leaf l vs
values_letters (vinj t v) bs vs e = some_bind (on_letter (letter_of t)) (values_letters v bs vs e) ∙ on_letter_tag t v vs
values_letters (vnode k v w) bs vs e =
    ap (λ l. values_of l >>= on_letter (node_letter k)) (append_assoc (letters v) (letters w) bs)
    ∙ some_bind (on_letter (node_letter k)) (values_letters v (letters w ++ bs) (w ∷ vs) (values_letters w bs vs e))
    ∙ on_letter_node k v w vs

pub value_letters : (v : Val) → value_of (letters v) ≡ some v
unfolding value_of
value_letters v =
    ap (λ l. values_of l >>= single) (sym (append-nil (letters v))) ∙ some_bind single (values_letters v [] [] refl)

pub letters_injective : (v w : Val) → letters v ≡ letters w → v ≡ w
letters_injective v w e = some_inj (sym (value_letters v) ∙ ap value_of e ∙ value_letters w)

-- a value has a letter
pub letters_some : (v : Val) → 0 < length (letters v)
letters_some (vleaf l) = omega arith
letters_some (vinj t v) = omega arith
letters_some (vnode k v w) = omega arith

-- ---- reading, then writing

abbrev all_letters : List Val → List ℕ
all_letters vs = concat (map letters vs)

inj_letters : (t : Tag) (us vs : List Val) → on_inj t us ≡ some vs → letter_of t ∷ all_letters us ≡ all_letters vs
inj_letters t [] vs e = absurd (none≢some e)
inj_letters t (u ∷ us) vs e = ap all_letters (some_inj e)

node_letters : (k : Node) (us vs : List Val) → on_node k us ≡ some vs → node_letter k ∷ all_letters us ≡ all_letters vs
node_letters k [] vs e = absurd (none≢some e)
node_letters k (u ∷ []) vs e = absurd (none≢some e)
node_letters k (u ∷ (w ∷ us)) vs e =
    ap (λ l. node_letter k ∷ l) (sym (append_assoc (letters u) (letters w) (all_letters us))) ∙ ap all_letters (some_inj e)

-- one test of a letter: what holds where it passes, and where the others decide
one_letter : (b c : ℕ) (us vs : List Val) (x y : Option (List Val)) → (x ≡ some vs → c ∷ all_letters us ≡ all_letters vs)
    → (y ≡ some vs → b ∷ all_letters us ≡ all_letters vs) → cond (eqb b c) x y ≡ some vs → b ∷ all_letters us ≡ all_letters vs
one_letter b c us vs x y h k = go (eqb b c) refl
  where
    go : (p : Bool) → eqb b c ≡ p → cond p x y ≡ some vs → b ∷ all_letters us ≡ all_letters vs
    go true e z = ap (λ d. d ∷ all_letters us) (eqb_eq b c e) ∙ h z
    go false e z = k z

letter_letters : (b : ℕ) (us vs : List Val) → on_letter b us ≡ some vs → b ∷ all_letters us ≡ all_letters vs
letter_letters b us vs =
    one_letter b (leaf_letter unit_leaf) us vs _ _ (λ e. ap all_letters (some_inj e))
    (one_letter b (leaf_letter empty_leaf) us vs _ _ (λ e. ap all_letters (some_inj e))
    (one_letter b (letter_of left) us vs _ _ (inj_letters left us vs)
    (one_letter b (letter_of right) us vs _ _ (inj_letters right us vs)
    (one_letter b (node_letter pair_node) us vs _ _ (node_letters pair_node us vs)
    (one_letter b (node_letter element_node) us vs _ _ (node_letters element_node us vs) (λ e. absurd (none≢some e)))))))

letters_values : (bs : List ℕ) (vs : List Val) → values_of bs ≡ some vs → bs ≡ all_letters vs
letters_values [] vs e = ap all_letters (some_inj e)
letters_values (b ∷ bs) vs e =
    let r = bind_some (values_of bs) (on_letter b) e in
    ap (λ l. b ∷ l) (letters_values bs r.0 r.1) ∙ letter_letters b r.0 vs r.2

single_is : (vs : List Val) (v : Val) → single vs ≡ some v → vs ≡ v ∷ []
single_is [] v e = absurd (none≢some e)
single_is (u ∷ []) v e = ap (λ w. w ∷ []) (some_inj e)
single_is (u ∷ (w ∷ vs)) v e = absurd (none≢some e)

pub letters_value : (bs : List ℕ) (v : Val) → value_of bs ≡ some v → bs ≡ letters v
unfolding value_of
letters_value bs v e =
    let r = bind_some (values_of bs) single e in
    letters_values bs r.0 r.1 ∙ ap all_letters (single_is r.0 v r.2) ∙ append-nil (letters v)

-- ---- closed values of a type

pub inhabits_of : (v : Val) (a : Ty) → inhabits v a ≡ true → Of v a
inhabits_of (vleaf unit_leaf) tunit e = Of.unit
inhabits_of (vleaf unit_leaf) (tlist a) e = absurd (false≢true e)
inhabits_of (vleaf unit_leaf) (tsum a b) e = absurd (false≢true e)
inhabits_of (vleaf unit_leaf) (tprod a b) e = absurd (false≢true e)
inhabits_of (vleaf empty_leaf) tunit e = absurd (false≢true e)
inhabits_of (vleaf empty_leaf) (tlist a) e = Of.nil
inhabits_of (vleaf empty_leaf) (tsum a b) e = absurd (false≢true e)
inhabits_of (vleaf empty_leaf) (tprod a b) e = absurd (false≢true e)
inhabits_of (vinj t v) tunit e = absurd (false≢true e)
inhabits_of (vinj t v) (tlist a) e = absurd (false≢true e)
inhabits_of (vinj t v) (tsum a b) e = Of.inj (inhabits_of v (part t a b) e)
inhabits_of (vinj t v) (tprod a b) e = absurd (false≢true e)
inhabits_of (vnode pair_node v w) tunit e = absurd (false≢true e)
inhabits_of (vnode pair_node v w) (tlist a) e = absurd (false≢true e)
inhabits_of (vnode pair_node v w) (tsum a b) e = absurd (false≢true e)
inhabits_of (vnode pair_node v w) (tprod a b) e =
    let h = and_true (inhabits v a) (inhabits w b) e in Of.pair (inhabits_of v a h.0) (inhabits_of w b h.1)
inhabits_of (vnode element_node v w) tunit e = absurd (false≢true e)
inhabits_of (vnode element_node v w) (tlist a) e =
    let h = and_true (inhabits v a) (inhabits w (tlist a)) e in Of.cons (inhabits_of v a h.0) (inhabits_of w (tlist a) h.1)
inhabits_of (vnode element_node v w) (tsum a b) e = absurd (false≢true e)
inhabits_of (vnode element_node v w) (tprod a b) e = absurd (false≢true e)

pub of_inhabits : {v : Val} {a : Ty} → Of v a → inhabits v a ≡ true
of_inhabits Of.unit = refl
of_inhabits Of.nil = refl
of_inhabits (Of.inj h) = of_inhabits h
of_inhabits (Of.pair h k) = true_and (of_inhabits h) (of_inhabits k)
of_inhabits (Of.cons h k) = true_and (of_inhabits h) (of_inhabits k)

pub inhabits_iff : (v : Val) (a : Ty) → (inhabits v a ≡ true) ↔ Of v a
inhabits_iff v a = (inhabits_of v a, of_inhabits)
