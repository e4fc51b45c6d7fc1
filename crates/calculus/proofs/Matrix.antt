-- Rows of patterns that fit a row of types. Pairwise orthogonal rows have weights so that a row with k tags weighs the 2^k-th part of a
-- whole. Either the weights sum to the whole and each row of closed values of the types is matched, or they sum to less and here is one
-- that no row matches. By induction on the constructors in the rows, not on types: a column of variables is dropped; otherwise the
-- first column is opened, for each constructor that its type has.
use Prim.Native.Nat.{ℕ, zero, suc, ◌+◌, ◌*◌, ◌^◌, ◌<◌, ◌≤◌}
use native.Mathlib.Nat.{not-suc-le-zero, le_of_suc-le-suc, le_refl}
use native.Mathlib.Omega.{arith}
use mathlib.Core.Path.{◌≡◌, refl, sym, ap, ap₂, ◌∙◌, subst, subst₂}
use mathlib.Core.Logic.{◌⊎◌, inl, inr}
use mathlib.Core.Bool.{false≢true}
use mathlib.Core.Option.{Option, none, some}
use mathlib.Core.List.Memᴰ
use mathlib.Core.List.{List, [], ◌∷◌, map, Memᴰ}
use lib.Pow.{pow-add}
use Rattle.calculus.specs.Tools.{◌>>=◌, guard, total}
use Rattle.calculus.specs.Trees.{Ty, tunit, tlist, tsum, tprod, Leaf, unit_leaf, empty_leaf, Tag, left, right, Node, pair_node, element_node, Pat, pvar}
use Rattle.calculus.specs.Trees.{pleaf, pinj, pnode, Val, vleaf, vinj, vnode, same_leaf, same_tag, same_node, part, leaf_tags, node_tags, tags}
use Rattle.calculus.specs.Slots.{Slots}
use Rattle.calculus.specs.Paper.{Of, Fits, Orth}
use Rattle.calculus.specs.Shapes.{Shape}
use Rattle.calculus.proofs.Basic.{bind_some, some_bind, none≢some, some_inj, guard_true, true_guard, same_leaf_eq, eq_same_leaf, same_tag_eq, eq_same_tag, same_node_eq, eq_same_node}
use Rattle.calculus.proofs.Orthogonal.{Alike}

-- ---- a pattern has the shape of a type

pub fits_shape : {d : Slots Ty} {p : Pat} {a : Ty} → Fits d p a → Shape p a
fits_shape (Fits.unit e) = Shape.unit
fits_shape (Fits.nil e) = Shape.nil
fits_shape (Fits.var e h k) = Shape.var
fits_shape (Fits.inj f) = Shape.inj (fits_shape f)
fits_shape (Fits.pair j f g) = Shape.pair (fits_shape f) (fits_shape g)
fits_shape (Fits.cons j f g) = Shape.cons (fits_shape f) (fits_shape g)

-- every type has a closed value
pub some_value : (a : Ty) → (v : Val) × Of v a
some_value tunit = (vleaf unit_leaf, Of.unit)
some_value (tlist a) = (vleaf empty_leaf, Of.nil)
some_value (tsum a b) = let r = some_value a in (vinj left r.0, Of.inj r.1)
some_value (tprod a b) = let r = some_value a in let s = some_value b in (vnode pair_node r.0 s.0, Of.pair r.1 s.1)

-- ---- columns

pub data Shapes : List Pat → List Ty → Type 0 where
  end : Shapes [] []
  more : {p : Pat} {a : Ty} {ps : List Pat} {ts : List Ty} → Shape p a → Shapes ps ts → Shapes (p ∷ ps) (a ∷ ts)

pub data Ofs : List Val → List Ty → Type 0 where
  end : Ofs [] []
  more : {v : Val} {a : Ty} {vs : List Val} {ts : List Ty} → Of v a → Ofs vs ts → Ofs (v ∷ vs) (a ∷ ts)

pub data Alikes : List Pat → List Val → Type 0 where
  end : Alikes [] []
  more : {p : Pat} {v : Val} {ps : List Pat} {vs : List Val} → Alike p v → Alikes ps vs → Alikes (p ∷ ps) (v ∷ vs)

pub data Orths : List Pat → List Pat → Type 0 where
  here : {p q : Pat} {ps qs : List Pat} → Orth p q → Orths (p ∷ ps) (q ∷ qs)
  later : {p q : Pat} {ps qs : List Pat} → Orths ps qs → Orths (p ∷ ps) (q ∷ qs)

abbrev pub tags_all : List Pat → ℕ
tags_all [] = 0
tags_all (p ∷ ps) = tags p + tags_all ps

-- constructors
abbrev size : Pat → ℕ
size (pvar n) = 0
size (pleaf l) = 1
size (pinj t p) = 1 + size p
size (pnode k p q) = 1 + (size p + size q)

abbrev size_all : List Pat → ℕ
size_all [] = 0
size_all (p ∷ ps) = size p + size_all ps

-- 1 for a constructor, 0 for a variable
abbrev headed : Pat → ℕ
headed (pvar n) = 0
headed (pleaf l) = 1
headed (pinj t p) = 1
headed (pnode k p q) = 1

abbrev headed_first : List Pat → ℕ
headed_first [] = 0
headed_first (p ∷ ps) = headed p

-- ---- rows

pub record Row : Type 0 where
  pub weight : ℕ
  pub pats : List Pat

abbrev pub weights : List Row → ℕ
weights rs = total (map (λ r. r.weight) rs)

abbrev sizes : List Row → ℕ
sizes rs = total (map (λ r. size_all r.pats) rs)

abbrev heads : List Row → ℕ
heads rs = total (map (λ r. headed_first r.pats) rs)

pub data ApartRows : List Row → Type 0 where
  alone : ApartRows []
  beside : {r : Row} {rs : List Row} → ((s : Row) → Memᴰ s rs → Orths r.pats s.pats) → ApartRows rs → ApartRows (r ∷ rs)

pub record Matrix (whole : ℕ) (ts : List Ty) (rs : List Row) : Type 0 where
  pub shapes : (r : Row) → Memᴰ r rs → Shapes r.pats ts
  pub weighs : (r : Row) → Memᴰ r rs → r.weight * 2 ^ tags_all r.pats ≡ whole
  pub apart : ApartRows rs

-- the weights are whole and each row of values has a match, or they fall short and some row of values has none
abbrev pub Full : ℕ → List Ty → List Row → Type 0
Full whole ts rs = (weights rs ≡ whole) × ((vs : List Val) → Ofs vs ts → (r : Row) × Memᴰ r rs × Alikes r.pats vs)

abbrev pub Short : ℕ → List Ty → List Row → Type 0
Short whole ts rs = (weights rs < whole) × (vs : List Val) × Ofs vs ts × ((r : Row) → Memᴰ r rs → Alikes r.pats vs → ⊥)

abbrev pub Outcome : ℕ → List Ty → List Row → Type 0
Outcome whole ts rs = Full whole ts rs ⊎ Short whole ts rs

-- ---- no column

no_orths : {qs : List Pat} → Orths [] qs → ⊥
no_orths o = elim o [ ]

no_column : (whole : ℕ) → 0 < whole → (rs : List Row) → Matrix whole [] rs → Outcome whole [] rs
no_column whole pos [] m = inr (pos, [], Ofs.end, λ r i a. Memᴰ.not-nil i)
no_column whole pos (r ∷ []) m = go r.pats refl (m.shapes r (Memᴰ.head refl)) (m.weighs r (Memᴰ.head refl))
  where
    all : Alikes r.pats [] → (vs : List Val) → Ofs vs [] → (s : Row) × Memᴰ s (r ∷ []) × Alikes s.pats vs
    all a [] o = (r, Memᴰ.head refl, a)
    all a (v ∷ vs) o = elim o [ ]

    go : (ps : List Pat) → r.pats ≡ ps → Shapes ps [] → r.weight * 2 ^ tags_all ps ≡ whole → Outcome whole [] (r ∷ [])
    go [] e s w = inl (omega (arith, w), all (subst (λ ps. Alikes ps []) (sym e) Alikes.end))
    go (p ∷ ps) e s w = elim s [ ]
no_column whole pos (r ∷ (s ∷ rs)) m = go r.pats (m.shapes r (Memᴰ.head refl)) (first m.apart)
  where
    first : ApartRows (r ∷ (s ∷ rs)) → Orths r.pats s.pats
    first (ApartRows.beside h a) = h s (Memᴰ.head refl)

    go : (ps : List Pat) → Shapes ps [] → Orths ps s.pats → Outcome whole [] (r ∷ (s ∷ rs))
    go [] h o = absurd (no_orths o)
    go (p ∷ ps) h o = elim h [ ]

-- ---- a column of variables

abbrev rest : List Pat → List Pat
rest [] = []
rest (p ∷ ps) = ps

abbrev dropped : Row → Row
dropped r = record { weight = r.weight; pats = rest r.pats }

headed_zero : (rs : List Row) → heads rs ≡ 0 → (r : Row) → Memᴰ r rs → headed_first r.pats ≡ 0
headed_zero (s ∷ rs) e r (Memᴰ.head h) = ap (λ x. headed_first x.pats) h ∙ omega arith
headed_zero (s ∷ rs) e r (Memᴰ.tail i) = headed_zero rs (omega arith) r i
headed_zero [] e r x'' = elim x'' [ ]

rest_shapes : {a : Ty} {ts : List Ty} (ps : List Pat) → Shapes ps (a ∷ ts) → Shapes (rest ps) ts
rest_shapes (p ∷ ps) (Shapes.more s h) = h
rest_shapes {a = a} {ts = ts} [] x' = elim x' [ ]

rest_tags : {a : Ty} {ts : List Ty} (ps : List Pat) → Shapes ps (a ∷ ts) → headed_first ps ≡ 0 → tags_all (rest ps) ≡ tags_all ps
rest_tags (pvar n ∷ ps) (Shapes.more s h) e = omega arith
rest_tags (pleaf l ∷ ps) (Shapes.more s h) e = absurd (omega arith)
rest_tags (pinj t p ∷ ps) (Shapes.more s h) e = absurd (omega arith)
rest_tags (pnode k p q ∷ ps) (Shapes.more s h) e = absurd (omega arith)
rest_tags {a = a} {ts = ts} [] x'' e = elim x'' [ ]

rest_orths : (ps qs : List Pat) → headed_first ps ≡ 0 → Orths ps qs → Orths (rest ps) (rest qs)
rest_orths (pvar n ∷ ps) (q ∷ qs) e (Orths.here o) = elim o [ ]
rest_orths (pleaf l ∷ ps) (q ∷ qs) e (Orths.here o) = absurd (omega arith)
rest_orths (pinj t p ∷ ps) (q ∷ qs) e (Orths.here o) = absurd (omega arith)
rest_orths (pnode k p p' ∷ ps) (q ∷ qs) e (Orths.here o) = absurd (omega arith)
rest_orths (p ∷ ps) (q ∷ qs) e (Orths.later o) = o
rest_orths [] qs e x'' = elim x'' [ ]
rest_orths (p ∷ ps) [] e x5 = elim x5 [ ]

rest_alikes : {a : Ty} {ts : List Ty} (ps : List Pat) {v : Val} {vs : List Val} → Shapes ps (a ∷ ts) → headed_first ps ≡ 0
    → Alikes (rest ps) vs → Alikes ps (v ∷ vs)
rest_alikes (pvar n ∷ ps) s e h = Alikes.more Alike.var h
rest_alikes (pleaf l ∷ ps) s e h = absurd (omega arith)
rest_alikes (pinj t p ∷ ps) s e h = absurd (omega arith)
rest_alikes (pnode k p q ∷ ps) s e h = absurd (omega arith)
rest_alikes {a = a} {ts = ts} [] {v = v} {vs = vs} s e h = elim s [ ]

alikes_rest : (ps : List Pat) {v : Val} {vs : List Val} → Alikes ps (v ∷ vs) → Alikes (rest ps) vs
alikes_rest (p ∷ ps) (Alikes.more a h) = h
alikes_rest [] {v = v} {vs = vs} x' = elim x' [ ]

drop_weights : (rs : List Row) → weights (map dropped rs) ≡ weights rs
drop_weights [] = refl
drop_weights (r ∷ rs) = ap (λ n. r.weight + n) (drop_weights rs)

drop_apart : (rs : List Row) → heads rs ≡ 0 → ApartRows rs → ApartRows (map dropped rs)
drop_apart [] e a = ApartRows.alone
drop_apart (r ∷ rs) e (ApartRows.beside h a) =
    ApartRows.beside
    (λ s i. let t = Memᴰ.of_map dropped rs i in
    subst (λ s. Orths (rest r.pats) s.pats) t.2 (rest_orths r.pats t.0.pats (headed_zero (r ∷ rs) e r (Memᴰ.head refl)) (h t.0 t.1)))
    (drop_apart rs (omega arith) a)

drop_sizes : (rs : List Row) → sizes (map dropped rs) ≤ sizes rs
drop_sizes [] = omega arith
drop_sizes (r ∷ rs) = let h = drop_sizes rs in let k = rest_size r.pats in omega arith
  where
    rest_size : (ps : List Pat) → size_all (rest ps) ≤ size_all ps
    rest_size [] = omega arith
    rest_size (p ∷ ps) = omega arith

module _ {whole : ℕ} {a : Ty} {ts : List Ty} {rs : List Row} (m : Matrix whole (a ∷ ts) rs) (e : heads rs ≡ 0) where
  drop_matrix : Matrix whole ts (map dropped rs)
  drop_matrix = record {
    shapes = λ r i. let t = Memᴰ.of_map dropped rs i in subst (λ s. Shapes s.pats ts) t.2 (rest_shapes t.0.pats (m.shapes t.0 t.1));
    weighs = λ r i. let t = Memᴰ.of_map dropped rs i in
        subst (λ s. s.weight * 2 ^ tags_all s.pats ≡ whole) t.2
        (ap (λ n. t.0.weight * 2 ^ n) (rest_tags t.0.pats (m.shapes t.0 t.1) (headed_zero rs e t.0 t.1)) ∙ m.weighs t.0 t.1);
    apart = drop_apart rs e m.apart;
  }

  drop_outcome : Outcome whole ts (map dropped rs) → Outcome whole (a ∷ ts) rs
  drop_outcome (inl f) = inl (sym (drop_weights rs) ∙ f.0, all)
    where
      all : (vs : List Val) → Ofs vs (a ∷ ts) → (r : Row) × Memᴰ r rs × Alikes r.pats vs
      all (v ∷ vs) (Ofs.more o os) =
          let r = f.1 vs os in
          let t = Memᴰ.of_map dropped rs r.1 in
          (t.0, t.1, rest_alikes t.0.pats (m.shapes t.0 t.1) (headed_zero rs e t.0 t.1) (subst (λ s. Alikes s.pats vs) (sym t.2) r.2))
      all [] x'' = elim x'' [ ]
  drop_outcome (inr f) =
      let d = some_value a in
      inr (
        subst (λ n. n < whole) (drop_weights rs) f.0,
        d.0 ∷ f.1,
        Ofs.more d.1 f.2,
        λ r i h. f.3 (dropped r) (Memᴰ.map dropped i) (alikes_rest r.pats h),
      )

-- ---- the constructors at the top of a column

pub data Head : Type 0 where
  leaf : Leaf → Head
  tag : Tag → Head
  node : Node → Head

abbrev head_tags : Head → ℕ
head_tags (leaf l) = leaf_tags l
head_tags (tag t) = 1
head_tags (node k) = node_tags k

-- a row's patterns below a constructor in place of its first pattern, if that has the constructor or is a variable
abbrev push : Head → Pat → List Pat → Option (List Pat)
push (leaf l) (pvar n) ps = some ps
push (leaf l) (pleaf k) ps = guard (same_leaf l k) >>= λ _. some ps
push (leaf l) (pinj t p) ps = none
push (leaf l) (pnode k p q) ps = none
push (tag t) (pvar n) ps = some (pvar n ∷ ps)
push (tag t) (pleaf k) ps = none
push (tag t) (pinj s p) ps = guard (same_tag t s) >>= λ _. some (p ∷ ps)
push (tag t) (pnode k p q) ps = none
push (node k) (pvar n) ps = some (pvar n ∷ (pvar n ∷ ps))
push (node k) (pleaf l) ps = none
push (node k) (pinj t p) ps = none
push (node k) (pnode m p q) ps = guard (same_node k m) >>= λ _. some (p ∷ (q ∷ ps))

-- the tags that go
abbrev bonus : Head → Pat → ℕ
bonus h (pvar n) = 0
bonus h (pleaf l) = head_tags h
bonus h (pinj t p) = head_tags h
bonus h (pnode k p q) = head_tags h

data Pushed : Head → Pat → List Pat → List Pat → Type 0 where
  var_leaf : {l : Leaf} {n : ℕ} {ps qs : List Pat} → ps ≡ qs → Pushed (leaf l) (pvar n) ps qs
  var_tag : {t : Tag} {n : ℕ} {ps qs : List Pat} → pvar n ∷ ps ≡ qs → Pushed (tag t) (pvar n) ps qs
  var_node : {k : Node} {n : ℕ} {ps qs : List Pat} → pvar n ∷ (pvar n ∷ ps) ≡ qs → Pushed (node k) (pvar n) ps qs
  leaf_same : {l k : Leaf} {ps qs : List Pat} → l ≡ k → ps ≡ qs → Pushed (leaf l) (pleaf k) ps qs
  tag_same : {t s : Tag} {p : Pat} {ps qs : List Pat} → t ≡ s → p ∷ ps ≡ qs → Pushed (tag t) (pinj s p) ps qs
  node_same : {k m : Node} {p q : Pat} {ps qs : List Pat} → k ≡ m → p ∷ (q ∷ ps) ≡ qs → Pushed (node k) (pnode m p q) ps qs

pushed : (h : Head) (p : Pat) (ps : List Pat) {qs : List Pat} → push h p ps ≡ some qs → Pushed h p ps qs
pushed (leaf l) (pvar n) ps e = var_leaf (some_inj e)
pushed (leaf l) (pleaf k) ps e =
    let g = bind_some (guard (same_leaf l k)) (λ _. some ps) e in
    leaf_same (same_leaf_eq l k (guard_true (same_leaf l k) g.1)) (some_inj g.2)
pushed (leaf l) (pinj t p) ps e = absurd (none≢some e)
pushed (leaf l) (pnode k p q) ps e = absurd (none≢some e)
pushed (tag t) (pvar n) ps e = var_tag (some_inj e)
pushed (tag t) (pleaf k) ps e = absurd (none≢some e)
pushed (tag t) (pinj s p) ps e =
    let g = bind_some (guard (same_tag t s)) (λ _. some (p ∷ ps)) e in
    tag_same (same_tag_eq t s (guard_true (same_tag t s) g.1)) (some_inj g.2)
pushed (tag t) (pnode k p q) ps e = absurd (none≢some e)
pushed (node k) (pvar n) ps e = var_node (some_inj e)
pushed (node k) (pleaf l) ps e = absurd (none≢some e)
pushed (node k) (pinj t p) ps e = absurd (none≢some e)
pushed (node k) (pnode m p q) ps e =
    let g = bind_some (guard (same_node k m)) (λ _. some (p ∷ (q ∷ ps))) e in
    node_same (same_node_eq k m (guard_true (same_node k m) g.1)) (some_inj g.2)

pushed_tags : {h : Head} {p : Pat} {ps qs : List Pat} → Pushed h p ps qs → tags_all (p ∷ ps) ≡ bonus h p + tags_all qs
pushed_tags (var_leaf e) = ap (λ qs. 0 + tags_all qs) e
pushed_tags (var_tag {n = n} {ps = ps} e) = zeros (tags_all ps) ∙ ap (λ qs. 0 + tags_all qs) e
  where
    zeros : (t : ℕ) → 0 + t ≡ 0 + (0 + t)
    zeros t = omega arith
pushed_tags (var_node {n = n} {ps = ps} e) = zeros (tags_all ps) ∙ ap (λ qs. 0 + tags_all qs) e
  where
    zeros : (t : ℕ) → 0 + t ≡ 0 + (0 + (0 + t))
    zeros t = omega arith
pushed_tags (leaf_same s e) = ap₂ (λ l qs. leaf_tags l + tags_all qs) (sym s) e
pushed_tags (tag_same {p = p} {ps = ps} s e) = omega arith ∙ ap (λ qs. 1 + tags_all qs) e
pushed_tags (node_same {m = m} {p = p} {q = q} {ps = ps} s e) = regroup (node_tags m) (tags p) (tags q) (tags_all ps) ∙ ap₂ (λ k qs. node_tags k + tags_all qs) (sym s) e
  where
    regroup : (k x y z : ℕ) → k + (x + y) + z ≡ k + (x + (y + z))
    regroup k x y z = omega arith

pushed_size : {h : Head} {p : Pat} {ps qs : List Pat} → Pushed h p ps qs → size_all qs + headed p ≡ size_all (p ∷ ps)
pushed_size (var_leaf e) = ap (λ qs. size_all qs + 0) (sym e) ∙ omega arith
pushed_size (var_tag e) = ap (λ qs. size_all qs + 0) (sym e) ∙ omega arith
pushed_size (var_node e) = ap (λ qs. size_all qs + 0) (sym e) ∙ omega arith
pushed_size (leaf_same s e) = ap (λ qs. size_all qs + 1) (sym e) ∙ omega arith
pushed_size (tag_same s e) = ap (λ qs. size_all qs + 1) (sym e) ∙ omega arith
pushed_size (node_same s e) = ap (λ qs. size_all qs + 1) (sym e) ∙ omega arith

-- two orthogonal rows stay orthogonal
cast : {ps qs ps' qs' : List Pat} → ps ≡ ps' → qs ≡ qs' → Orths ps qs → Orths ps' qs'
cast e f o = subst₂ Orths e f o

pushed_here : {h : Head} {p q : Pat} {ps qs ps' qs' : List Pat} → Pushed h p ps ps' → Pushed h q qs qs' → Orth p q → Orths ps' qs'
pushed_here (var_leaf e) y o = elim o [ ]
pushed_here (var_tag e) y o = elim o [ ]
pushed_here (var_node e) y o = elim o [ ]
pushed_here (leaf_same s e) (var_leaf f) o = elim o [ ]
pushed_here (leaf_same s e) (leaf_same t f) o = elim o [ ]
pushed_here (tag_same s e) (var_tag f) o = elim o [ ]
pushed_here (tag_same s e) (tag_same t f) Orth.left_right = absurd (false≢true cc)
pushed_here (tag_same s e) (tag_same t f) Orth.right_left = absurd (false≢true cc)
pushed_here (tag_same s e) (tag_same t f) (Orth.under r o) = cast e f (Orths.here o)
pushed_here (node_same s e) (var_node f) o = elim o [ ]
pushed_here (node_same s e) (node_same t f) (Orth.fst r o) = cast e f (Orths.here o)
pushed_here (node_same s e) (node_same t f) (Orth.snd r o) = cast e f (Orths.later (Orths.here o))

pushed_later : {h : Head} {p q : Pat} {ps qs ps' qs' : List Pat} → Pushed h p ps ps' → Pushed h q qs qs' → Orths ps qs → Orths ps' qs'
pushed_later (var_leaf e) (var_leaf f) o = cast e f o
pushed_later (var_leaf e) (leaf_same t f) o = cast e f o
pushed_later (leaf_same s e) (var_leaf f) o = cast e f o
pushed_later (leaf_same s e) (leaf_same t f) o = cast e f o
pushed_later (var_tag e) (var_tag f) o = cast e f (Orths.later o)
pushed_later (var_tag e) (tag_same t f) o = cast e f (Orths.later o)
pushed_later (tag_same s e) (var_tag f) o = cast e f (Orths.later o)
pushed_later (tag_same s e) (tag_same t f) o = cast e f (Orths.later o)
pushed_later (var_node e) (var_node f) o = cast e f (Orths.later (Orths.later o))
pushed_later (var_node e) (node_same t f) o = cast e f (Orths.later (Orths.later o))
pushed_later (node_same s e) (var_node f) o = cast e f (Orths.later (Orths.later o))
pushed_later (node_same s e) (node_same t f) o = cast e f (Orths.later (Orths.later o))

pushed_orths : {h : Head} {p q : Pat} {ps qs ps' qs' : List Pat} → Pushed h p ps ps' → Pushed h q qs qs' → Orths (p ∷ ps) (q ∷ qs) → Orths ps' qs'
pushed_orths x y (Orths.here o) = pushed_here x y o
pushed_orths x y (Orths.later o) = pushed_later x y o

-- ---- values below a constructor

abbrev con : Head → List Val → List Val
con (leaf l) vs = vleaf l ∷ vs
con (tag t) [] = []
con (tag t) (v ∷ vs) = vinj t v ∷ vs
con (node k) [] = []
con (node k) (v ∷ []) = []
con (node k) (v ∷ (w ∷ vs)) = vnode k v w ∷ vs

pushed_alikes : {h : Head} {p : Pat} {ps qs : List Pat} (us : List Val) → Pushed h p ps qs → Alikes qs us → Alikes (p ∷ ps) (con h us)
pushed_alikes us (var_leaf e) a = Alikes.more Alike.var (subst (λ qs. Alikes qs us) (sym e) a)
pushed_alikes us (var_tag {t = t} {n = n} {ps = ps} e) a = go us (subst (λ qs. Alikes qs us) (sym e) a)
  where
    go : (us : List Val) → Alikes (pvar n ∷ ps) us → Alikes (pvar n ∷ ps) (con (tag t) us)
    go (u ∷ us) (Alikes.more a h) = Alikes.more Alike.var h
    go [] x3 = elim x3 [ ]
pushed_alikes us (var_node {k = k} {n = n} {ps = ps} e) a = go us (subst (λ qs. Alikes qs us) (sym e) a)
  where
    go : (us : List Val) → Alikes (pvar n ∷ (pvar n ∷ ps)) us → Alikes (pvar n ∷ ps) (con (node k) us)
    go (u ∷ []) (Alikes.more a h) = elim h [ ]
    go (u ∷ (w ∷ us)) (Alikes.more a (Alikes.more b h)) = Alikes.more Alike.var h
    go [] x3 = elim x3 [ ]
pushed_alikes us (leaf_same s e) a = Alikes.more (Alike.leaf (sym s)) (subst (λ qs. Alikes qs us) (sym e) a)
pushed_alikes us (tag_same {t = t} {s = s} {p = p} {ps = ps} same e) a = go us (subst (λ qs. Alikes qs us) (sym e) a)
  where
    go : (us : List Val) → Alikes (p ∷ ps) us → Alikes (pinj s p ∷ ps) (con (tag t) us)
    go (u ∷ us) (Alikes.more a h) = Alikes.more (Alike.inj (sym same) a) h
    go [] x3 = elim x3 [ ]
pushed_alikes us (node_same {k = k} {m = m} {p = p} {q = q} {ps = ps} same e) a = go us (subst (λ qs. Alikes qs us) (sym e) a)
  where
    go : (us : List Val) → Alikes (p ∷ (q ∷ ps)) us → Alikes (pnode m p q ∷ ps) (con (node k) us)
    go (u ∷ []) (Alikes.more a h) = elim h [ ]
    go (u ∷ (w ∷ us)) (Alikes.more a (Alikes.more b h)) = Alikes.more (Alike.node (sym same) a b) h
    go [] x3 = elim x3 [ ]

alikes_pushed : (h : Head) (p : Pat) (ps : List Pat) (us : List Val) → Alikes (p ∷ ps) (con h us) → (qs : List Pat) × (push h p ps ≡ some qs) × Alikes qs us
alikes_pushed (leaf l) (pvar n) ps us (Alikes.more a h) = (ps, refl, h)
alikes_pushed (leaf l) (pleaf k) ps us (Alikes.more (Alike.leaf e) h) = (ps, some_bind (λ _. some ps) (true_guard (eq_same_leaf (sym e))), h)
alikes_pushed (leaf l) (pinj t p) ps us (Alikes.more a h) = elim a [ ]
alikes_pushed (leaf l) (pnode k p q) ps us (Alikes.more a h) = elim a [ ]
alikes_pushed (tag t) p ps [] a = elim a [ ]
alikes_pushed (tag t) (pvar n) ps (u ∷ us) (Alikes.more a h) = (pvar n ∷ ps, refl, Alikes.more Alike.var h)
alikes_pushed (tag t) (pleaf k) ps (u ∷ us) (Alikes.more a h) = elim a [ ]
alikes_pushed (tag t) (pinj s p) ps (u ∷ us) (Alikes.more (Alike.inj e a) h) =
    (p ∷ ps, some_bind (λ _. some (p ∷ ps)) (true_guard (eq_same_tag (sym e))), Alikes.more a h)
alikes_pushed (tag t) (pnode k p q) ps (u ∷ us) (Alikes.more a h) = elim a [ ]
alikes_pushed (node k) p ps [] a = elim a [ ]
alikes_pushed (node k) p ps (u ∷ []) a = elim a [ ]
alikes_pushed (node k) (pvar n) ps (u ∷ (w ∷ us)) (Alikes.more a h) = (pvar n ∷ (pvar n ∷ ps), refl, Alikes.more Alike.var (Alikes.more Alike.var h))
alikes_pushed (node k) (pleaf l) ps (u ∷ (w ∷ us)) (Alikes.more a h) = elim a [ ]
alikes_pushed (node k) (pinj t p) ps (u ∷ (w ∷ us)) (Alikes.more a h) = elim a [ ]
alikes_pushed (node k) (pnode m p q) ps (u ∷ (w ∷ us)) (Alikes.more (Alike.node e a b) h) =
    (p ∷ (q ∷ ps), some_bind (λ _. some (p ∷ (q ∷ ps))) (true_guard (eq_same_node (sym e))), Alikes.more a (Alikes.more b h))

-- ---- rows below a constructor

abbrev push_first : Head → ℕ → List Pat → Option Row
push_first h w [] = none
push_first h w (p ∷ ps) = push h p ps >>= λ qs. some (record { weight = 2 ^ bonus h p * w; pats = qs })

abbrev push_row : Head → Row → Option Row
push_row h r = push_first h r.weight r.pats

abbrev add : Option Row → List Row → List Row
add none rs = rs
add (some r) rs = r ∷ rs

abbrev below : Head → List Row → List Row
below h [] = []
below h (r ∷ rs) = add (push_row h r) (below h rs)

-- what a row becomes
record Became (h : Head) (r s : Row) : Type 0 where
  first : Pat
  others : List Pat
  row : r.pats ≡ first ∷ others
  pushes : Pushed h first others s.pats
  weighs : s.weight ≡ 2 ^ bonus h first * r.weight

became : (h : Head) (r s : Row) → push_row h r ≡ some s → Became h r s
became h r s = go r.pats refl
  where
    go : (ps : List Pat) → r.pats ≡ ps → push_first h r.weight ps ≡ some s → Became h r s
    go [] e x = absurd (none≢some x)
    go (p ∷ ps) e x =
        let g = bind_some (push h p ps) (λ qs. some (record { weight = 2 ^ bonus h p * r.weight; pats = qs })) x in
        record {
          first = p;
          others = ps;
          row = e;
          pushes = subst (Pushed h p ps) (ap (λ s. s.pats) (some_inj g.2)) (pushed h p ps g.1);
          weighs = ap (λ s. s.weight) (sym (some_inj g.2));
        }

mem_add : {s : Row} (x : Option Row) (rs : List Row) → Memᴰ s (add x rs) → (x ≡ some s) ⊎ Memᴰ s rs
mem_add none rs i = inr i
mem_add (some r) rs (Memᴰ.head e) = inl (ap some (sym e))
mem_add (some r) rs (Memᴰ.tail i) = inr i

mem_below : (h : Head) (rs : List Row) {s : Row} → Memᴰ s (below h rs) → (r : Row) × Memᴰ r rs × (push_row h r ≡ some s)
mem_below h [] i = absurd (Memᴰ.not-nil i)
mem_below h (r ∷ rs) {s} i = go (mem_add (push_row h r) (below h rs) i) (λ j. mem_below h rs j)
  where
    go : (push_row h r ≡ some s) ⊎ Memᴰ s (below h rs) → (Memᴰ s (below h rs) → (r : Row) × Memᴰ r rs × (push_row h r ≡ some s))
        → (q : Row) × Memᴰ q (r ∷ rs) × (push_row h q ≡ some s)
    go (inl e) k = (r, Memᴰ.head refl, e)
    go (inr j) k = let t = k j in (t.0, Memᴰ.tail t.1, t.2)

add_mem : {s : Row} (x : Option Row) (rs : List Row) → Memᴰ s rs → Memᴰ s (add x rs)
add_mem none rs i = i
add_mem (some r) rs i = Memᴰ.tail i

add_head : {s : Row} (x : Option Row) (rs : List Row) → x ≡ some s → Memᴰ s (add x rs)
add_head none rs e = absurd (none≢some e)
add_head (some r) rs e = Memᴰ.head (sym (some_inj e))

below_mem : (h : Head) (rs : List Row) {r s : Row} → Memᴰ r rs → push_row h r ≡ some s → Memᴰ s (below h rs)
below_mem h (q ∷ rs) (Memᴰ.head e) x = add_head (push_row h q) (below h rs) (ap (push_row h) (sym e) ∙ x)
below_mem h (q ∷ rs) (Memᴰ.tail i) x = add_mem (push_row h q) (below h rs) (below_mem h rs i x)
below_mem h [] {r = r} {s = s} x3 x = elim x3 [ ]

below_apart : (h : Head) (rs : List Row) → ApartRows rs → ApartRows (below h rs)
below_apart h [] a = ApartRows.alone
below_apart h (r ∷ rs) (ApartRows.beside f a) = go (push_row h r) refl (below_apart h rs a)
  where
    go : (x : Option Row) → push_row h r ≡ x → ApartRows (below h rs) → ApartRows (add x (below h rs))
    go none e b = b
    go (some s) e b = ApartRows.beside apart b
      where
        apart : (t : Row) → Memᴰ t (below h rs) → Orths s.pats t.pats
        apart t i =
            let q = mem_below h rs i in
            let x = became h r s e in
            let y = became h q.0 t q.2 in
            pushed_orths x.pushes y.pushes (subst (λ ps. Orths ps (y.first ∷ y.others)) x.row (subst (Orths r.pats) y.row (f q.0 q.1)))

-- fewer constructors
below_sizes : (h : Head) (rs : List Row) → sizes (below h rs) + heads rs ≤ sizes rs
below_sizes h [] = omega arith
below_sizes h (r ∷ rs) = go (push_row h r) refl (below_sizes h rs)
  where
    headed_size : (ps : List Pat) → headed_first ps ≤ size_all ps
    headed_size [] = omega arith
    headed_size (pvar n ∷ ps) = omega arith
    headed_size (pleaf l ∷ ps) = omega arith
    headed_size (pinj t p ∷ ps) = omega arith
    headed_size (pnode k p q ∷ ps) = omega arith

    go : (x : Option Row) → push_row h r ≡ x → sizes (below h rs) + heads rs ≤ sizes rs → sizes (add x (below h rs)) + heads (r ∷ rs) ≤ sizes (r ∷ rs)
    go none e l = let k = headed_size r.pats in omega arith
    go (some s) e l =
        let x = became h r s e in
        let k = pushed_size x.pushes in
        let y = ap size_all x.row in
        let z = ap headed_first x.row in
        omega arith

-- ---- weights below the constructors of a type

abbrev share : Option Row → ℕ
share none = 0
share (some r) = r.weight

add_weights : (x : Option Row) (rs : List Row) → weights (add x rs) ≡ share x + weights rs
add_weights none rs = omega arith
add_weights (some r) rs = refl

one_weights : (h : Head) (rs : List Row) → ((r : Row) → Memᴰ r rs → share (push_row h r) ≡ r.weight) → weights (below h rs) ≡ weights rs
one_weights h [] f = refl
one_weights h (r ∷ rs) f =
    add_weights (push_row h r) (below h rs) ∙ ap₂ ◌+◌ (f r (Memᴰ.head refl)) (one_weights h rs (λ s i. f s (Memᴰ.tail i)))

two_weights : (h k : Head) (rs : List Row) → ((r : Row) → Memᴰ r rs → share (push_row h r) + share (push_row k r) ≡ 2 * r.weight)
    → weights (below h rs) + weights (below k rs) ≡ 2 * weights rs
two_weights h k [] f = refl
two_weights h k (r ∷ rs) f =
    let x = add_weights (push_row h r) (below h rs) in
    let y = add_weights (push_row k r) (below k rs) in
    let z = f r (Memᴰ.head refl) in
    let w = two_weights h k rs (λ s i. f s (Memᴰ.tail i)) in
    omega arith

unit_share : {ts : List Ty} (w : ℕ) {ps : List Pat} → Shapes ps (tunit ∷ ts) → share (push_first (leaf unit_leaf) w ps) ≡ w
unit_share w (Shapes.more Shape.var s) = omega arith
unit_share w (Shapes.more Shape.unit s) = omega arith

product_share : {a b : Ty} {ts : List Ty} (w : ℕ) {ps : List Pat} → Shapes ps (tprod a b ∷ ts) → share (push_first (node pair_node) w ps) ≡ w
product_share w (Shapes.more Shape.var s) = omega arith
product_share w (Shapes.more (Shape.pair x y) s) = omega arith

sum_share : {a b : Ty} {ts : List Ty} (w : ℕ) {ps : List Pat} → Shapes ps (tsum a b ∷ ts)
    → share (push_first (tag left) w ps) + share (push_first (tag right) w ps) ≡ 2 * w
sum_share w (Shapes.more Shape.var s) = omega arith
sum_share w (Shapes.more (Shape.inj {t = left} x) s) = omega arith
sum_share w (Shapes.more (Shape.inj {t = right} x) s) = omega arith

list_share : {a : Ty} {ts : List Ty} (w : ℕ) {ps : List Pat} → Shapes ps (tlist a ∷ ts)
    → share (push_first (leaf empty_leaf) w ps) + share (push_first (node element_node) w ps) ≡ 2 * w
list_share w (Shapes.more Shape.var s) = omega arith
list_share w (Shapes.more Shape.nil s) = omega arith
list_share w (Shapes.more (Shape.cons x y) s) = omega arith

-- ---- the rows below a constructor fit the types below it

-- whatever is pushed fits
abbrev Opens : Head → Ty → List Ty → List Ty → Type 0
Opens h c ts us = (p : Pat) (ps qs : List Pat) → Shape p c → Shapes ps ts → Pushed h p ps qs → Shapes qs us

leaf_opens : (l : Leaf) (c : Ty) (ts : List Ty) → Opens (leaf l) c ts ts
leaf_opens l c ts p ps qs s h (var_leaf e) = subst (λ x. Shapes x ts) e h
leaf_opens l c ts p ps qs s h (leaf_same r e) = subst (λ x. Shapes x ts) e h

tag_opens : (t : Tag) (a b : Ty) (ts : List Ty) → Opens (tag t) (tsum a b) ts (part t a b ∷ ts)
tag_opens t a b ts p ps qs s h (var_tag e) = subst (λ x. Shapes x (part t a b ∷ ts)) e (Shapes.more Shape.var h)
tag_opens t a b ts p ps qs (Shape.inj {p = q} s) h (tag_same r e) =
    subst (λ x. Shapes x (part t a b ∷ ts)) e (Shapes.more (subst (λ t. Shape q (part t a b)) (sym r) s) h)

pair_opens : (a b : Ty) (ts : List Ty) → Opens (node pair_node) (tprod a b) ts (a ∷ (b ∷ ts))
pair_opens a b ts p ps qs s h (var_node e) = subst (λ x. Shapes x (a ∷ (b ∷ ts))) e (Shapes.more Shape.var (Shapes.more Shape.var h))
pair_opens a b ts p ps qs (Shape.pair x y) h (node_same r e) = subst (λ x. Shapes x (a ∷ (b ∷ ts))) e (Shapes.more x (Shapes.more y h))

element_opens : (a : Ty) (ts : List Ty) → Opens (node element_node) (tlist a) ts (a ∷ (tlist a ∷ ts))
element_opens a ts p ps qs s h (var_node e) = subst (λ x. Shapes x (a ∷ (tlist a ∷ ts))) e (Shapes.more Shape.var (Shapes.more Shape.var h))
element_opens a ts p ps qs (Shape.cons x y) h (node_same r e) = subst (λ x. Shapes x (a ∷ (tlist a ∷ ts))) e (Shapes.more x (Shapes.more y h))

shapes_first : {p : Pat} {ps : List Pat} {c : Ty} {ts : List Ty} → Shapes (p ∷ ps) (c ∷ ts) → Shape p c × Shapes ps ts
shapes_first (Shapes.more s h) = (s, h)

module _ {whole : ℕ} {c : Ty} {ts : List Ty} {rs : List Row} (h : Head) (m : Matrix whole (c ∷ ts) rs) where
  below_matrix : (us : List Ty) → Opens h c ts us → Matrix whole us (below h rs)
  below_matrix us f = record { shapes = shapes; weighs = weighs; apart = below_apart h rs m.apart }
    where
      shapes : (s : Row) → Memᴰ s (below h rs) → Shapes s.pats us
      shapes s i =
          let q = mem_below h rs i in
          let x = became h q.0 s q.2 in
          let y = shapes_first (subst (λ ps. Shapes ps (c ∷ ts)) x.row (m.shapes q.0 q.1)) in
          f x.first x.others s.pats y.0 y.1 x.pushes

      weighs : (s : Row) → Memᴰ s (below h rs) → s.weight * 2 ^ tags_all s.pats ≡ whole
      weighs s i =
          let q = mem_below h rs i in
          let x = became h q.0 s q.2 in
          ap (λ w. w * 2 ^ tags_all s.pats) x.weighs
          ∙ regroup (2 ^ bonus h x.first) q.0.weight (2 ^ tags_all s.pats)
          ∙ ap (λ n. q.0.weight * n) (sym (pow-add 2 (bonus h x.first) (tags_all s.pats)))
          ∙ ap (λ n. q.0.weight * 2 ^ n) (sym (pushed_tags x.pushes) ∙ ap tags_all (sym x.row))
          ∙ m.weighs q.0 q.1
        where
          regroup : (x y z : ℕ) → x * y * z ≡ y * (x * z)
          regroup x y z = omega arith

  -- a row that matches below matches above
  lift : (vs : List Val) (s : Row) → Memᴰ s (below h rs) → Alikes s.pats vs → (r : Row) × Memᴰ r rs × Alikes r.pats (con h vs)
  lift vs s i a =
      let q = mem_below h rs i in
      let x = became h q.0 s q.2 in
      (q.0, q.1, subst (λ ps. Alikes ps (con h vs)) (sym x.row) (pushed_alikes vs x.pushes a))

  -- and where none matches below none does above
  sink : (vs : List Val) → ((s : Row) → Memᴰ s (below h rs) → Alikes s.pats vs → ⊥) → (r : Row) → Memᴰ r rs → Alikes r.pats (con h vs) → ⊥
  sink vs f r i = go r.pats refl (m.shapes r i)
    where
      go : (ps : List Pat) → r.pats ≡ ps → Shapes ps (c ∷ ts) → Alikes ps (con h vs) → ⊥
      go (p ∷ ps) e s a =
          let q = alikes_pushed h p ps vs a in
          let t : Row = record { weight = 2 ^ bonus h p * r.weight; pats = q.0 } in
          f t
          (below_mem h rs i (ap (push_first h r.weight) e ∙ some_bind (λ qs. some (record { weight = 2 ^ bonus h p * r.weight; pats = qs })) q.1))
          q.2
      go [] e s a = elim s [ ]

-- the values of a type below its constructors
abbrev Under : Head → List Ty → Ty → List Ty → List Val → Type 0
Under h us c ts vs = (ws : List Val) × Ofs ws us × (con h ws ≡ vs)

one_outcome : {whole : ℕ} {c : Ty} {ts us : List Ty} {rs : List Row} (h : Head) → Matrix whole (c ∷ ts) rs → weights (below h rs) ≡ weights rs
    → ((vs : List Val) → Ofs vs (c ∷ ts) → Under h us c ts vs) → ((ws : List Val) → Ofs ws us → Ofs (con h ws) (c ∷ ts))
    → Outcome whole us (below h rs) → Outcome whole (c ∷ ts) rs
one_outcome {c = c} {ts = ts} {us = us} {rs = rs} h m e take give (inl f) = inl (sym e ∙ f.0, all)
  where
    all : (vs : List Val) → Ofs vs (c ∷ ts) → (r : Row) × Memᴰ r rs × Alikes r.pats vs
    all vs o =
        let t = take vs o in
        let r = f.1 t.0 t.1 in
        let q = lift h m t.0 r.0 r.1 r.2 in
        (q.0, q.1, subst (Alikes q.0.pats) t.2 q.2)
one_outcome {whole = whole} h m e take give (inr f) =
    inr (subst (λ n. n < whole) e f.0, con h f.1, give f.1 f.2, sink h m f.1 f.3)

weights_le : {whole : ℕ} {ts : List Ty} {rs : List Row} → Outcome whole ts rs → weights rs ≤ whole
weights_le (inl f) = let e = f.0 in omega arith
weights_le (inr f) = let e = f.0 in omega arith

two_outcome : {whole : ℕ} {c : Ty} {ts us xs : List Ty} {rs : List Row} (h k : Head) → Matrix whole (c ∷ ts) rs
    → weights (below h rs) + weights (below k rs) ≡ 2 * weights rs
    → ((vs : List Val) → Ofs vs (c ∷ ts) → Under h us c ts vs ⊎ Under k xs c ts vs)
    → ((ws : List Val) → Ofs ws us → Ofs (con h ws) (c ∷ ts)) → ((ws : List Val) → Ofs ws xs → Ofs (con k ws) (c ∷ ts))
    → Outcome whole us (below h rs) → Outcome whole xs (below k rs) → Outcome whole (c ∷ ts) rs
two_outcome {c = c} {ts = ts} {us = us} {xs = xs} {rs = rs} h k m e take give grant (inl f) (inl g) =
    inl (let x = f.0 in let y = g.0 in omega arith, λ vs o. all vs (take vs o))
  where
    all : (vs : List Val) → Under h us c ts vs ⊎ Under k xs c ts vs → (r : Row) × Memᴰ r rs × Alikes r.pats vs
    all vs (inl t) =
        let r = f.1 t.0 t.1 in
        let q = lift h m t.0 r.0 r.1 r.2 in
        (q.0, q.1, subst (Alikes q.0.pats) t.2 q.2)
    all vs (inr t) =
        let r = g.1 t.0 t.1 in
        let q = lift k m t.0 r.0 r.1 r.2 in
        (q.0, q.1, subst (Alikes q.0.pats) t.2 q.2)
two_outcome h k m e take give grant (inl f) (inr g) =
    inr (let x = f.0 in let y = g.0 in omega arith, con k g.1, grant g.1 g.2, sink k m g.1 g.3)
two_outcome h k m e take give grant (inr f) o =
    inr (let x = f.0 in let y = weights_le o in omega arith, con h f.1, give f.1 f.2, sink h m f.1 f.3)

-- ---- the column of each type

unit_under : {ts : List Ty} (vs : List Val) → Ofs vs (tunit ∷ ts) → Under (leaf unit_leaf) ts tunit ts vs
unit_under (v ∷ vs) (Ofs.more Of.unit o) = (vs, o, refl)
unit_under {ts = ts} [] x' = elim x' [ ]

product_under : {a b : Ty} {ts : List Ty} (vs : List Val) → Ofs vs (tprod a b ∷ ts) → Under (node pair_node) (a ∷ (b ∷ ts)) (tprod a b) ts vs
product_under (v ∷ vs) (Ofs.more (Of.pair {v = x} {w = y} p q) o) = (x ∷ (y ∷ vs), Ofs.more p (Ofs.more q o), refl)
product_under {a = a} {b = b} {ts = ts} [] x' = elim x' [ ]

product_over : {a b : Ty} {ts : List Ty} (ws : List Val) → Ofs ws (a ∷ (b ∷ ts)) → Ofs (con (node pair_node) ws) (tprod a b ∷ ts)
product_over (v ∷ []) (Ofs.more p o) = elim o [ ]
product_over (v ∷ (w ∷ ws)) (Ofs.more p (Ofs.more q o)) = Ofs.more (Of.pair p q) o
product_over {a = a} {b = b} {ts = ts} [] x' = elim x' [ ]

sum_under : {a b : Ty} {ts : List Ty} (vs : List Val) → Ofs vs (tsum a b ∷ ts)
    → Under (tag left) (a ∷ ts) (tsum a b) ts vs ⊎ Under (tag right) (b ∷ ts) (tsum a b) ts vs
sum_under (v ∷ vs) (Ofs.more (Of.inj {t = left} {v = x} p) o) = inl (x ∷ vs, Ofs.more p o, refl)
sum_under (v ∷ vs) (Ofs.more (Of.inj {t = right} {v = x} p) o) = inr (x ∷ vs, Ofs.more p o, refl)
sum_under {a = a} {b = b} {ts = ts} [] x' = elim x' [ ]

sum_over : (t : Tag) {a b : Ty} {ts : List Ty} (ws : List Val) → Ofs ws (part t a b ∷ ts) → Ofs (con (tag t) ws) (tsum a b ∷ ts)
sum_over t (v ∷ ws) (Ofs.more p o) = Ofs.more (Of.inj p) o
sum_over t {a = a} {b = b} {ts = ts} [] x' = elim x' [ ]

list_under : {a : Ty} {ts : List Ty} (vs : List Val) → Ofs vs (tlist a ∷ ts)
    → Under (leaf empty_leaf) ts (tlist a) ts vs ⊎ Under (node element_node) (a ∷ (tlist a ∷ ts)) (tlist a) ts vs
list_under (v ∷ vs) (Ofs.more Of.nil o) = inl (vs, o, refl)
list_under (v ∷ vs) (Ofs.more (Of.cons {v = x} {w = y} p q) o) = inr (x ∷ (y ∷ vs), Ofs.more p (Ofs.more q o), refl)
list_under {a = a} {ts = ts} [] x' = elim x' [ ]

list_over : {a : Ty} {ts : List Ty} (ws : List Val) → Ofs ws (a ∷ (tlist a ∷ ts)) → Ofs (con (node element_node) ws) (tlist a ∷ ts)
list_over (v ∷ []) (Ofs.more p o) = elim o [ ]
list_over (v ∷ (w ∷ ws)) (Ofs.more p (Ofs.more q o)) = Ofs.more (Of.cons p q) o
list_over {a = a} {ts = ts} [] x' = elim x' [ ]

-- ---- the dichotomy

-- matrices with fewer than n constructors
abbrev Below : ℕ → ℕ → Type 0
Below whole n = (ts : List Ty) (rs : List Row) → sizes rs < n → Matrix whole ts rs → Outcome whole ts rs

open_column : (whole : ℕ) (c : Ty) (ts : List Ty) (rs : List Row) (n : ℕ) → Below whole n → sizes rs ≤ n → 0 < heads rs → Matrix whole (c ∷ ts) rs
    → Outcome whole (c ∷ ts) rs
open_column whole tunit ts rs n rec l h m =
    one_outcome (leaf unit_leaf) m (one_weights (leaf unit_leaf) rs (λ r i. unit_share r.weight (m.shapes r i))) unit_under (λ ws o. Ofs.more Of.unit o)
    (rec ts (below (leaf unit_leaf) rs) (let k = below_sizes (leaf unit_leaf) rs in omega arith) (below_matrix (leaf unit_leaf) m ts (leaf_opens unit_leaf tunit ts)))
open_column whole (tprod a b) ts rs n rec l h m =
    one_outcome (node pair_node) m (one_weights (node pair_node) rs (λ r i. product_share r.weight (m.shapes r i))) product_under product_over
    (rec (a ∷ (b ∷ ts)) (below (node pair_node) rs) (let k = below_sizes (node pair_node) rs in omega arith)
    (below_matrix (node pair_node) m (a ∷ (b ∷ ts)) (pair_opens a b ts)))
open_column whole (tsum a b) ts rs n rec l h m =
    two_outcome (tag left) (tag right) m (two_weights (tag left) (tag right) rs (λ r i. sum_share r.weight (m.shapes r i)))
    sum_under (sum_over left) (sum_over right)
    (rec (a ∷ ts) (below (tag left) rs) (let k = below_sizes (tag left) rs in omega arith) (below_matrix (tag left) m (a ∷ ts) (tag_opens left a b ts)))
    (rec (b ∷ ts) (below (tag right) rs) (let k = below_sizes (tag right) rs in omega arith) (below_matrix (tag right) m (b ∷ ts) (tag_opens right a b ts)))
open_column whole (tlist a) ts rs n rec l h m =
    two_outcome (leaf empty_leaf) (node element_node) m (two_weights (leaf empty_leaf) (node element_node) rs (λ r i. list_share r.weight (m.shapes r i)))
    list_under (λ ws o. Ofs.more Of.nil o) list_over
    (rec ts (below (leaf empty_leaf) rs) (let k = below_sizes (leaf empty_leaf) rs in omega arith)
    (below_matrix (leaf empty_leaf) m ts (leaf_opens empty_leaf (tlist a) ts)))
    (rec (a ∷ (tlist a ∷ ts)) (below (node element_node) rs) (let k = below_sizes (node element_node) rs in omega arith)
    (below_matrix (node element_node) m (a ∷ (tlist a ∷ ts)) (element_opens a ts)))

solve_columns : (whole : ℕ) → 0 < whole → (n : ℕ) → Below whole n → (ts : List Ty) (rs : List Row) → sizes rs ≤ n → Matrix whole ts rs → Outcome whole ts rs
solve_columns whole pos n rec [] rs l m = no_column whole pos rs m
solve_columns whole pos n rec (c ∷ ts) rs l m = go (heads rs) refl (solve_columns whole pos n rec ts)
  where
    go : (k : ℕ) → heads rs ≡ k → ((qs : List Row) → sizes qs ≤ n → Matrix whole ts qs → Outcome whole ts qs) → Outcome whole (c ∷ ts) rs
    go zero e columns = drop_outcome m e (columns (map dropped rs) (let d = drop_sizes rs in omega arith) (drop_matrix m e))
    go (suc k) e columns = open_column whole c ts rs n rec l (omega arith) m

solve_below : (whole : ℕ) → 0 < whole → (n : ℕ) → Below whole n
solve_below whole pos zero ts rs l m = absurd (not-suc-le-zero l)
solve_below whole pos (suc n) ts rs l m = solve_columns whole pos n (solve_below whole pos n) ts rs (le_of_suc-le-suc l) m

-- the weights of pairwise orthogonal rows are whole and all is matched, or they fall short and here is what is not
pub dichotomy : (whole : ℕ) → 0 < whole → (ts : List Ty) (rs : List Row) → Matrix whole ts rs → Outcome whole ts rs
dichotomy whole pos ts rs m = solve_below whole pos (suc (sizes rs)) ts rs (le_refl (suc (sizes rs))) m
