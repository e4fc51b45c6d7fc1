-- One letter more: what the arrays then hold.
use Prim.Native.Nat.{ℕ, zero, suc, ◌+◌, ◌-◌, ◌<◌, ◌≤◌}
use native.Mathlib.Numerals.{add-one}
use native.Mathlib.Omega.{arith}
use mathlib.Core.Path.{◌≡◌, refl, sym, ap, ap₂, ◌∙◌, subst}
use mathlib.Core.Bool.{Bool, cond, true, false, true≢false}
use mathlib.Core.Logic.{◌⊎◌, inl, inr}
use mathlib.Core.Option.{none, some}
use mathlib.Core.List.{List, ◌∷◌, map}
use lib.Dec.{eqb}
use lib.ListN.{length, get_or, set, drop, length-set}
use lib.Seq.{drop-cons}
use borrow.Author.Tests.{lt-ltb, le-ltb}
use Rattle.calculus.specs.Trees.{unit_leaf, empty_leaf, left, right, pair_node, element_node, Pat}
use Rattle.format.specs.Judge.{pattern_node}
use Rattle.law_witnesses.specs.Showing.{Move, leaf, tag, node}
use Rattle.law_witnesses.specs.Seeking.{after}
use Rattle.calculus.proofs.Basic.{le_or_lt, drop_set_same}
use Rattle.table_trees.specs.Unfolding.{cell_of, smaller_of, type_of, pattern_of}
use Rattle.table_trees.proofs.Cases as K
use Rattle.table_trees.proofs.Unfolding.{pattern_node_lem}
use Rattle.fault_tallies.specs.Tallies.{part_of}
use Rattle.fault_stacks.specs.Stacks.{types_from, row_from, move_of, kind_on, plain_kind, types_after, top_after, TypesStepped, RowStepped}

-- ---- arrays from a place on

pub pushed : (s : List ℕ) (top a b : ℕ) → top < length s → 0 < top → drop (top - 1) (set (set s top b) (top - 1) a) ≡ a ∷ (b ∷ drop (suc top) s)
pushed s top a b h p =
    let e : suc (top - 1) ≡ top = omega arith in
    drop_set_same (set s top b) (top - 1) a (omega (arith, length-set s top b))
    ∙ ap (λ n. a ∷ drop n (set s top b)) e
    ∙ ap (λ l. a ∷ l) (drop_set_same s top b h)

-- ---- the letter

-- a kind of P lines, and what its letter does
pub data Begins : ℕ → Move → Type 0 where
  units : Begins 0 (leaf unit_leaf)
  empties : Begins 5 (leaf empty_leaf)
  lefts : Begins 2 (tag left)
  rights : Begins 3 (tag right)
  pairs : Begins 4 (node pair_node)
  elements : Begins 6 (node element_node)

pub begins : (c : ℕ) → Begins (kind_on c) (move_of c)
begins c = go (eqb c 85) (eqb c 78) (eqb c 76) (eqb c 82) (eqb c 75)
  where
    go : (u n l r k : Bool)
        → Begins (cond u 0 (cond n 5 (cond l 2 (cond r 3 (cond k 6 4)))))
        (cond u (leaf unit_leaf) (cond n (leaf empty_leaf) (cond l (tag left) (cond r (tag right) (cond k (node element_node) (node pair_node))))))
    go true n l r k = Begins.units
    go false true l r k = Begins.empties
    go false false true r k = Begins.lefts
    go false false false true k = Begins.rights
    go false false false false true = Begins.elements
    go false false false false false = Begins.pairs

-- ---- T lines

module _ (t s : List ℕ) (top : ℕ) (h : top < length s) where
  next_types : types_from t s top ≡ type_of t (get_or s top 0) ∷ types_from t s (suc top)
  next_types = ap (map (type_of t)) (drop-cons s top 0 h)

  after_next : (m : Move) → types_after m (type_of t (get_or s top 0) ∷ types_from t s (suc top)) ≡ types_after m (types_from t s top)
  after_next m = ap (types_after m) (sym next_types)

  abbrev Stepped : Move → List ℕ → ℕ → Type 0
  Stepped m s' r = (r ≡ top_after m top) × (types_from t s' r ≡ types_after m (types_from t s top))

  two : (a b k : ℕ) (m : Move) → Begins k m → K.Joins k → 0 < top → type_of t b ≡ part_of right (type_of t (get_or s top 0)) → type_of t a ≡ part_of left (type_of t (get_or s top 0))
      → Stepped m (set (set s top b) (top - 1) a) (top - 1)
  two a b _ m Begins.pairs K.pairs p g f =
      (refl, ap (map (type_of t)) (pushed s top a b h p) ∙ ap₂ (λ x y. x ∷ (y ∷ types_from t s (suc top))) f g ∙ after_next m)
  two a b _ m Begins.elements K.elements p g f =
      (refl, ap (map (type_of t)) (pushed s top a b h p) ∙ ap₂ (λ x y. x ∷ (y ∷ types_from t s (suc top))) f g ∙ after_next m)
  two a b _ _ units x13 p g f = elim x13 [ ]
  two a b _ _ empties x14 p g f = elim x14 [ ]
  two a b _ _ lefts x15 p g f = elim x15 [ ]
  two a b _ _ rights x16 p g f = elim x16 [ ]

  one_left : (a k : ℕ) (m : Move) → Begins k m → k ≡ 2 → type_of t a ≡ part_of left (type_of t (get_or s top 0)) → Stepped m (set s top a) top
  one_left a _ m Begins.units e f = absurd (omega arith)
  one_left a _ m Begins.empties e f = absurd (omega arith)
  one_left a _ m Begins.lefts e f = (refl, ap (map (type_of t)) (drop_set_same s top a h) ∙ ap (λ x. x ∷ types_from t s (suc top)) f ∙ after_next (tag left))
  one_left a _ m Begins.rights e f = absurd (omega arith)
  one_left a _ m Begins.pairs e f = absurd (omega arith)
  one_left a _ m Begins.elements e f = absurd (omega arith)

  one_right : (a k : ℕ) (m : Move) → Begins k m → k ≡ 3 → type_of t a ≡ part_of right (type_of t (get_or s top 0)) → Stepped m (set s top a) top
  one_right a _ m Begins.units e f = absurd (omega arith)
  one_right a _ m Begins.empties e f = absurd (omega arith)
  one_right a _ m Begins.lefts e f = absurd (omega arith)
  one_right a _ m Begins.rights e f = (refl, ap (map (type_of t)) (drop_set_same s top a h) ∙ ap (λ x. x ∷ types_from t s (suc top)) f ∙ after_next (tag right))
  one_right a _ m Begins.pairs e f = absurd (omega arith)
  one_right a _ m Begins.elements e f = absurd (omega arith)

  no_part : (k : ℕ) (m : Move) → Begins k m → (k ≡ 4 → ⊥) → (k ≡ 6 → ⊥) → (k ≡ 2 → ⊥) → (k ≡ 3 → ⊥) → Stepped m s (top + 1)
  no_part _ m Begins.units p e l r = (refl, ap (types_from t s) (add-one top) ∙ after_next m)
  no_part _ m Begins.empties p e l r = (refl, ap (types_from t s) (add-one top) ∙ after_next m)
  no_part _ m Begins.lefts p e l r = absurd (l refl)
  no_part _ m Begins.rights p e l r = absurd (r refl)
  no_part _ m Begins.pairs p e l r = absurd (p refl)
  no_part _ m Begins.elements p e l r = absurd (e refl)

  -- k is the kind that the letter c begins
  module _ (c : ℕ) {k : ℕ} (is : k ≡ kind_on c) where
    own : Begins k (move_of c)
    own = subst (λ n. Begins n (move_of c)) (sym is) (begins c)

    pub types_two : (a b : ℕ) → K.Joins k → 0 < top → type_of t b ≡ part_of right (type_of t (get_or s top 0)) → type_of t a ≡ part_of left (type_of t (get_or s top 0))
        → TypesStepped t c s (set (set s top b) (top - 1) a) top (top - 1)
    types_two a b j p g f = two a b k (move_of c) own j p g f

    pub types_left : (a : ℕ) → k ≡ 2 → type_of t a ≡ part_of left (type_of t (get_or s top 0)) → TypesStepped t c s (set s top a) top top
    types_left a e f = one_left a k (move_of c) own e f

    pub types_right : (a : ℕ) → k ≡ 3 → type_of t a ≡ part_of right (type_of t (get_or s top 0)) → TypesStepped t c s (set s top a) top top
    types_right a e f = one_right a k (move_of c) own e f

    pub types_leaf : (k ≡ 4 → ⊥) → (k ≡ 6 → ⊥) → (k ≡ 2 → ⊥) → (k ≡ 3 → ⊥) → TypesStepped t c s s top (top + 1)
    types_leaf p e l r = no_part k (move_of c) own p e l r

-- ---- P lines

pub plain_past : {k : ℕ} → 6 < k → 0 ≡ plain_kind k
plain_past {k} h = sym (ap (λ b. cond b 0 k) (lt-ltb 6 k h))

pub plain_in : {k : ℕ} → k ≤ 6 → k ≡ plain_kind k
plain_in {k} h = sym (ap (λ b. cond b 0 k) (le-ltb 6 k h))

plain_small : (k : ℕ) → plain_kind k < 7
plain_small k = go (le_or_lt k 6)
  where
    go : (k ≤ 6) ⊎ (6 < k) → plain_kind k < 7
    go (inl h) = subst (λ n. n < 7) (plain_in h) (omega arith)
    go (inr h) = subst (λ n. n < 7) (plain_past h) (omega arith)

-- by the kind of the P line
module _ (n : ℕ) (l r : Pat) (rest : List Pat) where
  plain_node : (k : ℕ) → pattern_node k n l r ≡ pattern_node (plain_kind k) n l r
  plain_node k = go k (le_or_lt k 6)
    where
      past : (k : ℕ) → 6 < k → pattern_node k n l r ≡ pattern_node 0 n l r
      past zero h = absurd (omega arith)
      past (suc zero) h = absurd (omega arith)
      past (suc (suc zero)) h = absurd (omega arith)
      past (suc (suc (suc zero))) h = absurd (omega arith)
      past (suc (suc (suc (suc zero)))) h = absurd (omega arith)
      past (suc (suc (suc (suc (suc zero))))) h = absurd (omega arith)
      past (suc (suc (suc (suc (suc (suc zero)))))) h = absurd (omega arith)
      past (suc (suc (suc (suc (suc (suc (suc k))))))) h = refl

      go : (k : ℕ) → (k ≤ 6) ⊎ (6 < k) → pattern_node k n l r ≡ pattern_node (plain_kind k) n l r
      go k (inl h) = ap (λ m. pattern_node m n l r) (plain_in h)
      go k (inr h) = past k h ∙ ap (λ m. pattern_node m n l r) (plain_past h)

  -- no kind but its own goes on with a letter, and no variable
  dead : {o : ℕ} {m : Move} → Begins o m → (k : ℕ) → (k ≡ 1 → ⊥) → (k ≡ o → ⊥) → k < 7 → after m (pattern_node k n l r ∷ rest) ≡ none
  dead Begins.units zero v o b = absurd (o refl)
  dead Begins.units (suc zero) v o b = absurd (v refl)
  dead Begins.units (suc (suc zero)) v o b = refl
  dead Begins.units (suc (suc (suc zero))) v o b = refl
  dead Begins.units (suc (suc (suc (suc zero)))) v o b = refl
  dead Begins.units (suc (suc (suc (suc (suc zero))))) v o b = refl
  dead Begins.units (suc (suc (suc (suc (suc (suc zero)))))) v o b = refl
  dead Begins.units (suc (suc (suc (suc (suc (suc (suc k))))))) v o b = absurd (omega arith)
  dead Begins.empties zero v o b = refl
  dead Begins.empties (suc zero) v o b = absurd (v refl)
  dead Begins.empties (suc (suc zero)) v o b = refl
  dead Begins.empties (suc (suc (suc zero))) v o b = refl
  dead Begins.empties (suc (suc (suc (suc zero)))) v o b = refl
  dead Begins.empties (suc (suc (suc (suc (suc zero))))) v o b = absurd (o refl)
  dead Begins.empties (suc (suc (suc (suc (suc (suc zero)))))) v o b = refl
  dead Begins.empties (suc (suc (suc (suc (suc (suc (suc k))))))) v o b = absurd (omega arith)
  dead Begins.lefts zero v o b = refl
  dead Begins.lefts (suc zero) v o b = absurd (v refl)
  dead Begins.lefts (suc (suc zero)) v o b = absurd (o refl)
  dead Begins.lefts (suc (suc (suc zero))) v o b = refl
  dead Begins.lefts (suc (suc (suc (suc zero)))) v o b = refl
  dead Begins.lefts (suc (suc (suc (suc (suc zero))))) v o b = refl
  dead Begins.lefts (suc (suc (suc (suc (suc (suc zero)))))) v o b = refl
  dead Begins.lefts (suc (suc (suc (suc (suc (suc (suc k))))))) v o b = absurd (omega arith)
  dead Begins.rights zero v o b = refl
  dead Begins.rights (suc zero) v o b = absurd (v refl)
  dead Begins.rights (suc (suc zero)) v o b = refl
  dead Begins.rights (suc (suc (suc zero))) v o b = absurd (o refl)
  dead Begins.rights (suc (suc (suc (suc zero)))) v o b = refl
  dead Begins.rights (suc (suc (suc (suc (suc zero))))) v o b = refl
  dead Begins.rights (suc (suc (suc (suc (suc (suc zero)))))) v o b = refl
  dead Begins.rights (suc (suc (suc (suc (suc (suc (suc k))))))) v o b = absurd (omega arith)
  dead Begins.pairs zero v o b = refl
  dead Begins.pairs (suc zero) v o b = absurd (v refl)
  dead Begins.pairs (suc (suc zero)) v o b = refl
  dead Begins.pairs (suc (suc (suc zero))) v o b = refl
  dead Begins.pairs (suc (suc (suc (suc zero)))) v o b = absurd (o refl)
  dead Begins.pairs (suc (suc (suc (suc (suc zero))))) v o b = refl
  dead Begins.pairs (suc (suc (suc (suc (suc (suc zero)))))) v o b = refl
  dead Begins.pairs (suc (suc (suc (suc (suc (suc (suc k))))))) v o b = absurd (omega arith)
  dead Begins.elements zero v o b = refl
  dead Begins.elements (suc zero) v o b = absurd (v refl)
  dead Begins.elements (suc (suc zero)) v o b = refl
  dead Begins.elements (suc (suc (suc zero))) v o b = refl
  dead Begins.elements (suc (suc (suc (suc zero)))) v o b = refl
  dead Begins.elements (suc (suc (suc (suc (suc zero))))) v o b = refl
  dead Begins.elements (suc (suc (suc (suc (suc (suc zero)))))) v o b = absurd (o refl)
  dead Begins.elements (suc (suc (suc (suc (suc (suc (suc k))))))) v o b = absurd (omega arith)

  -- k is its own kind
  goes_two : (k : ℕ) {o : ℕ} {m : Move} → Begins o m → K.Joins o → k ≡ o → after m (pattern_node k n l r ∷ rest) ≡ some (l ∷ (r ∷ rest))
  goes_two k Begins.pairs K.pairs e = ap (λ j. after (node pair_node) (pattern_node j n l r ∷ rest)) e
  goes_two k Begins.elements K.elements e = ap (λ j. after (node element_node) (pattern_node j n l r ∷ rest)) e
  goes_two k units x7 e = elim x7 [ ]
  goes_two k empties x8 e = elim x8 [ ]
  goes_two k lefts x9 e = elim x9 [ ]
  goes_two k rights x10 e = elim x10 [ ]

  -- or a variable
  var_two : (k : ℕ) {o : ℕ} {m : Move} → Begins o m → K.Joins o → k ≡ 1 → after m (pattern_node k n l r ∷ rest) ≡ some (pattern_node k n l r ∷ (pattern_node k n l r ∷ rest))
  var_two k {m = m} Begins.pairs K.pairs e = ap (λ j. after m (pattern_node j n l r ∷ rest)) e ∙ ap (λ j. some (pattern_node j n l r ∷ (pattern_node j n l r ∷ rest))) (sym e)
  var_two k {m = m} Begins.elements K.elements e = ap (λ j. after m (pattern_node j n l r ∷ rest)) e ∙ ap (λ j. some (pattern_node j n l r ∷ (pattern_node j n l r ∷ rest))) (sym e)
  var_two k units x7 e = elim x7 [ ]
  var_two k empties x8 e = elim x8 [ ]
  var_two k lefts x9 e = elim x9 [ ]
  var_two k rights x10 e = elim x10 [ ]

module _ (t : List ℕ) (base : ℕ) (s : List ℕ) (top c : ℕ) (h : top < length s) {k o : ℕ}
    (same : k ≡ plain_kind (cell_of t (base + get_or s top 0) 1)) (is : o ≡ kind_on c) where
  abbrev p : ℕ
  p = get_or s top 0

  abbrev below : ℕ → Pat
  below j = pattern_of t base (smaller_of (cell_of t (base + p) j) p)

  abbrev line : ℕ → Pat
  line j = pattern_node j (cell_of t (base + p) 2) (below 2) (below 3)

  abbrev rest : List Pat
  rest = row_from t base s (suc top)

  own_kind : Begins o (move_of c)
  own_kind = subst (λ n. Begins n (move_of c)) (sym is) (begins c)

  at_line : pattern_of t base p ≡ line k
  at_line = pattern_node_lem t base p ∙ plain_node (cell_of t (base + p) 2) (below 2) (below 3) rest (cell_of t (base + p) 1) ∙ ap line (sym same)

  next_row : row_from t base s top ≡ line k ∷ rest
  next_row = ap (map (pattern_of t base)) (drop-cons s top 0 h) ∙ ap (λ z. z ∷ rest) at_line

  goes : (s' : List ℕ) (m : Move) → move_of c ≡ m → after m (line k ∷ rest) ≡ some (row_from t base s' (top_after m top)) → RowStepped t base c s s' top true
  goes s' m e d = (
    λ b. ap₂ after e next_row ∙ d ∙ ap (λ x. some (row_from t base s' (top_after x top))) (sym e),
    λ b. absurd (true≢false b),
  )

  put_one : (q : ℕ) → q ≡ smaller_of (cell_of t (base + p) 2) p → row_from t base (set s top q) top ≡ below 2 ∷ rest
  put_one q e = ap (map (pattern_of t base)) (drop_set_same s top q h) ∙ ap (λ x. pattern_of t base x ∷ rest) e

  put_two : (q r : ℕ) → 0 < top → q ≡ smaller_of (cell_of t (base + p) 2) p → r ≡ smaller_of (cell_of t (base + p) 3) p
      → row_from t base (set (set s top r) (top - 1) q) (top - 1) ≡ below 2 ∷ (below 3 ∷ rest)
  put_two q r z e f = ap (map (pattern_of t base)) (pushed s top q r h z) ∙ ap₂ (λ x y. pattern_of t base x ∷ (pattern_of t base y ∷ rest)) e f

  put_same : 0 < top → row_from t base (set s (top - 1) p) (top - 1) ≡ line k ∷ (line k ∷ rest)
  put_same z =
      let e : suc (top - 1) ≡ top = omega arith in
      ap (map (pattern_of t base)) (drop_set_same s (top - 1) p (omega arith) ∙ ap (λ n. p ∷ drop n s) e)
      ∙ ap₂ ◌∷◌ at_line next_row

  past : row_from t base s (top + 1) ≡ rest
  past = ap (row_from t base s) (add-one top)

  joins_top : {n : ℕ} {m : Move} → Begins n m → K.Joins n → top_after m top ≡ top - 1
  joins_top Begins.pairs K.pairs = refl
  joins_top Begins.elements K.elements = refl
  joins_top units x4 = elim x4 [ ]
  joins_top empties x5 = elim x5 [ ]
  joins_top lefts x6 = elim x6 [ ]
  joins_top rights x7 = elim x7 [ ]

  pub row_var_two : k ≡ 1 → K.Joins o → 0 < top → RowStepped t base c s (set s (top - 1) p) top true
  row_var_two e j z =
      goes (set s (top - 1) p) (move_of c) refl
      (var_two (cell_of t (base + p) 2) (below 2) (below 3) rest k own_kind j e ∙ ap some (sym (put_same z))
      ∙ ap (λ x. some (row_from t base (set s (top - 1) p) x)) (sym (joins_top own_kind j)))

  pub row_var : k ≡ 1 → (o ≡ 4 → ⊥) → (o ≡ 6 → ⊥) → RowStepped t base c s s top true
  row_var e q f = goes s (move_of c) refl (go own_kind q f)
    where
      here : (m : Move) → after m (line 1 ∷ rest) ≡ some (row_from t base s (top_after m top)) → after m (line k ∷ rest) ≡ some (row_from t base s (top_after m top))
      here m d = ap (λ j. after m (line j ∷ rest)) e ∙ d

      stays : line 1 ∷ rest ≡ row_from t base s top
      stays = ap (λ j. line j ∷ rest) (sym e) ∙ sym next_row

      go : {n : ℕ} {m : Move} → Begins n m → (n ≡ 4 → ⊥) → (n ≡ 6 → ⊥) → after m (line k ∷ rest) ≡ some (row_from t base s (top_after m top))
      go Begins.units q f = here (leaf unit_leaf) (ap some (sym past))
      go Begins.empties q f = here (leaf empty_leaf) (ap some (sym past))
      go Begins.lefts q f = here (tag left) (ap some stays)
      go Begins.rights q f = here (tag right) (ap some stays)
      go Begins.pairs q f = absurd (q refl)
      go Begins.elements q f = absurd (f refl)

  pub row_not : (k ≡ 1 → ⊥) → (k ≡ o → ⊥) → RowStepped t base c s s top false
  row_not v d = (
    λ b. absurd (true≢false (sym b)),
    λ b. ap (after (move_of c)) next_row
        ∙ dead (cell_of t (base + p) 2) (below 2) (below 3) rest own_kind k v d (subst (λ n. n < 7) (sym same) (plain_small (cell_of t (base + p) 1))),
  )

  pub row_two : (q r : ℕ) → k ≡ o → K.Joins o → 0 < top → q ≡ smaller_of (cell_of t (base + p) 2) p → r ≡ smaller_of (cell_of t (base + p) 3) p
      → RowStepped t base c s (set (set s top r) (top - 1) q) top true
  row_two q r e j z f g =
      goes (set (set s top r) (top - 1) q) (move_of c) refl
      (goes_two (cell_of t (base + p) 2) (below 2) (below 3) rest k own_kind j e ∙ ap some (sym (put_two q r z f g))
      ∙ ap (λ x. some (row_from t base (set (set s top r) (top - 1) q) x)) (sym (joins_top own_kind j)))

  pub row_one : (q : ℕ) → k ≡ o → (o ≡ 2) ⊎ (o ≡ 3) → q ≡ smaller_of (cell_of t (base + p) 2) p → RowStepped t base c s (set s top q) top true
  row_one q e w f = goes (set s top q) (move_of c) refl (go own_kind e w)
    where
      go : {n : ℕ} {m : Move} → Begins n m → k ≡ n → (n ≡ 2) ⊎ (n ≡ 3) → after m (line k ∷ rest) ≡ some (row_from t base (set s top q) (top_after m top))
      go Begins.units e (inl w) = absurd (omega arith)
      go Begins.units e (inr w) = absurd (omega arith)
      go Begins.empties e (inl w) = absurd (omega arith)
      go Begins.empties e (inr w) = absurd (omega arith)
      go Begins.lefts e w = ap (λ j. after (tag left) (line j ∷ rest)) e ∙ ap some (sym (put_one q f))
      go Begins.rights e w = ap (λ j. after (tag right) (line j ∷ rest)) e ∙ ap some (sym (put_one q f))
      go Begins.pairs e (inl w) = absurd (omega arith)
      go Begins.pairs e (inr w) = absurd (omega arith)
      go Begins.elements e (inl w) = absurd (omega arith)
      go Begins.elements e (inr w) = absurd (omega arith)

  pub row_leaf : k ≡ o → (o ≡ 4 → ⊥) → (o ≡ 6 → ⊥) → (o ≡ 2 → ⊥) → (o ≡ 3 → ⊥) → RowStepped t base c s s top true
  row_leaf e a b d f = goes s (move_of c) refl (go own_kind e a b d f)
    where
      go : {n : ℕ} {m : Move} → Begins n m → k ≡ n → (n ≡ 4 → ⊥) → (n ≡ 6 → ⊥) → (n ≡ 2 → ⊥) → (n ≡ 3 → ⊥)
          → after m (line k ∷ rest) ≡ some (row_from t base s (top_after m top))
      go Begins.units e a b d f = ap (λ j. after (leaf unit_leaf) (line j ∷ rest)) e ∙ ap some (sym past)
      go Begins.empties e a b d f = ap (λ j. after (leaf empty_leaf) (line j ∷ rest)) e ∙ ap some (sym past)
      go Begins.lefts e a b d f = absurd (d refl)
      go Begins.rights e a b d f = absurd (f refl)
      go Begins.pairs e a b d f = absurd (a refl)
      go Begins.elements e a b d f = absurd (b refl)
