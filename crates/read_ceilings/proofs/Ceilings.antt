-- The ceilings of a row whose names stand: the nodes of the tree of a T or P line that stands next, over what the lines that it names weigh.
use Prim.Native.Nat.{ℕ, suc, ◌+◌, ◌%◌, ◌<◌, ◌≤◌}
use native.Mathlib.Nat.{mod-eq_of_lt}
use native.Mathlib.Omega.{arith}
use native.Mathlib.Decide.{dec_lt}
use mathlib.Core.Path.{◌≡◌, refl, sym, ap, ap₂, ◌∙◌, subst}
use mathlib.Core.Bool.{Bool, true, false, ◌&&◌}
use mathlib.Core.List.{List, [], ◌∷◌, ◌++◌}
use lib.Dec.{leb, ltb}
use lib.ListN.{length, get_or, set, length-set, length-append, get_or-append}
use lib.Seq.{get_or_at, get_or-set_same, get_or-set_other}
use borrow.Author.Tests.{lt-ltb, le-ltb, le-leb, lt-leb, ltb-true}
use Rattle.limits.specs.Limits.{max_types, max_patterns, max_isos, max_clauses, max_lets, max_nodes, max_tags}
use Rattle.calculus.specs.Trees.{tunit, type_nodes, Pat, pleaf, unit_leaf, nodes, tags}
use Rattle.calculus.specs.Refusals.{type_line, pattern_line}
use Rattle.format.specs.Judge.{Seen, type_names, pattern_names, named, within_ceilings, after_kind, pattern_tree}
use Rattle.format.specs.Table.{size_of}
use Rattle.format.specs.declared.Kind.TheVariants as kinds
use Rattle.format.specs.declared.Row as R
use Rattle.format.specs.Code.{kind_view, row_view}
use Rattle.calculus.proofs.Basic.{and_true, leb_le}
use Rattle.table_trees.specs.Unfolding.{cell_of}
use Rattle.table_trees.proofs.Cases.{Parted, sums, products, Whole, Injects, lefts, rights, Joins, pairs, elements, joins_pair, joins_element, Leaf, Plain}
use Rattle.table_sizes.proofs.Counts.{whole_count, type_count, list_count, leaf_count, inj_count, pair_count, leaf_tags, empty_tags, inj_tags, pair_tags, element_tags}
use Rattle.read_seen.specs.declared.Seen as C
use Rattle.read_ceilings.specs.Reckoned.{TypeReckoned, PatternReckoned, TagsReckoned, CeilingsTold, SizeTold, TagsKept}
use Rattle.read_seen.specs.Told.{PatternSizes, TagsAt, next_type, next_pattern, Weighed}

-- ---- what names that stand tell

two_named : (n a b : ℕ) → (ltb a n && ltb b n) ≡ true → (a < n) × (b < n)
two_named n a b e = let d = and_true (ltb a n) (ltb b n) e in (ltb-true a n d.0, ltb-true b n d.1)

type_named : {k : ℕ} (n a b : ℕ) → Parted k → type_names n k a b ≡ true → (a < n) × (b < n)
type_named n a b sums e = two_named n a b e
type_named n a b products e = two_named n a b e

inj_named : {k : ℕ} (n a b : ℕ) → Injects k → pattern_names n k a b ≡ true → a < n
inj_named n a b lefts e = ltb-true a n e
inj_named n a b rights e = ltb-true a n e

pair_named : {k : ℕ} (n a b : ℕ) → Joins k → pattern_names n k a b ≡ true → (a < n) × (b < n)
pair_named n a b pairs e = two_named n a b e
pair_named n a b elements e = two_named n a b e

list_named : {k : ℕ} (n a b : ℕ) → k ≡ 3 → type_names n k a b ≡ true → a < n
list_named n a b h e = ltb-true a n (sym (ap (λ k. type_names n k a b) h) ∙ e)

-- ---- the nodes of a line that stands next

module _ (t : List ℕ) (k a b : ℕ) where
  pub next_type_whole : Whole k → TypeReckoned t k a b 1
  next_type_whole h ts at names = sym (whole_count (get_or ts a tunit) (get_or ts b tunit) h)

  pub next_type_node : {m n : ℕ} → Parted k → m ≡ cell_of t a 4 → n ≡ cell_of t b 4 → TypeReckoned t k a b (1 + m + n)
  next_type_node h p q ts at names =
      let d = type_named (length ts) a b h names in
      ap₂ (λ x y. 1 + x + y) (p ∙ at a d.0) (q ∙ at b d.1) ∙ sym (type_count (get_or ts a tunit) (get_or ts b tunit) h)

  pub next_type_list : {m : ℕ} → k ≡ 3 → m ≡ cell_of t a 4 → TypeReckoned t k a b (1 + m)
  next_type_list h p ts at names =
      ap (λ x. 1 + x) (p ∙ at a (list_named (length ts) a b h names)) ∙ sym (list_count (get_or ts a tunit) (get_or ts b tunit) h)

module _ (t : List ℕ) (base k a b : ℕ) where
  pub next_leaf : Leaf k → PatternReckoned t base k a b 1
  next_leaf h ps at names = sym (leaf_count a (get_or ps a (pleaf unit_leaf)) (get_or ps b (pleaf unit_leaf)) h)

  pub next_inj : {m : ℕ} → Injects k → m ≡ cell_of t (base + a) 4 → PatternReckoned t base k a b (1 + m)
  next_inj h p ps at names =
      ap (λ x. 1 + x) (p ∙ at a (inj_named (length ps) a b h names)) ∙ sym (inj_count a (get_or ps a (pleaf unit_leaf)) (get_or ps b (pleaf unit_leaf)) h)

  pub next_pair : {m n : ℕ} → Joins k → m ≡ cell_of t (base + a) 4 → n ≡ cell_of t (base + b) 4 → PatternReckoned t base k a b (1 + m + n)
  next_pair h p q ps at names =
      let d = pair_named (length ps) a b h names in
      ap₂ (λ x y. 1 + x + y) (p ∙ at a d.0) (q ∙ at b d.1) ∙ sym (pair_count a (get_or ps a (pleaf unit_leaf)) (get_or ps b (pleaf unit_leaf)) h)

module _ (g : List ℕ) (k a b : ℕ) where
  pub next_leaf_tags : Plain k → TagsReckoned g k a b 0
  next_leaf_tags h ps at names = sym (leaf_tags a (get_or ps a (pleaf unit_leaf)) (get_or ps b (pleaf unit_leaf)) h)

  pub next_empty_tags : k ≡ 5 → TagsReckoned g k a b 1
  next_empty_tags h ps at names = sym (empty_tags a (get_or ps a (pleaf unit_leaf)) (get_or ps b (pleaf unit_leaf)) h)

  pub next_inj_tags : {m : ℕ} → Injects k → m ≡ get_or g a 0 → TagsReckoned g k a b (1 + m)
  next_inj_tags h p ps at names =
      ap (λ x. 1 + x) (p ∙ at a (inj_named (length ps) a b h names)) ∙ sym (inj_tags a (get_or ps a (pleaf unit_leaf)) (get_or ps b (pleaf unit_leaf)) h)

  pub next_pair_tags : {m n : ℕ} → k ≡ 4 → m ≡ get_or g a 0 → n ≡ get_or g b 0 → TagsReckoned g k a b (m + n)
  next_pair_tags h p q ps at names =
      let d = pair_named (length ps) a b (joins_pair h) names in
      ap₂ (λ x y. x + y) (p ∙ at a d.0) (q ∙ at b d.1) ∙ sym (pair_tags a (get_or ps a (pleaf unit_leaf)) (get_or ps b (pleaf unit_leaf)) h)

  pub next_element_tags : {m n : ℕ} → k ≡ 6 → m ≡ get_or g a 0 → n ≡ get_or g b 0 → TagsReckoned g k a b (1 + m + n)
  next_element_tags {m} {n} h p q ps at names =
      let d = pair_named (length ps) a b (joins_element h) names in
      let grouped : 1 + m + n ≡ 1 + (m + n) = omega arith in
      grouped ∙ ap₂ (λ x y. 1 + (x + y)) (p ∙ at a d.0) (q ∙ at b d.1) ∙ sym (element_tags a (get_or ps a (pleaf unit_leaf)) (get_or ps b (pleaf unit_leaf)) h)

-- ---- T lines

module _ (t g : List ℕ) (c : C.Seen) (r : R.Row) where
  pub type_kept : {m : ℕ} → c.types < max_types → TypeReckoned t r.x r.y r.z m → CeilingsTold type_line t g c r (leb m max_nodes)
  type_kept l e s told names =
      let few : ltb (length s.types) max_types ≡ true = ap (λ n. ltb n max_types) (sym told.counts.types) ∙ lt-ltb c.types max_types l in
      let x : ℕ = type_nodes (next_type s.types r.x r.y r.z) in
      ap (λ n. leb n max_nodes) (e s.types told.types names) ∙ sym (ap (λ b. b && leb x max_nodes) few)

  pub type_many : max_types ≤ c.types → CeilingsTold type_line t g c r false
  type_many l s told names =
      let many : ltb (length s.types) max_types ≡ false = ap (λ n. ltb n max_types) (sym told.counts.types) ∙ le-ltb c.types max_types l in
      sym (ap (λ b. b && leb (type_nodes (next_type s.types r.x r.y r.z)) max_nodes) many)

-- ---- P lines

-- its three tests
three : {a b c : Bool} (x y z : Bool) → x ≡ a → y ≡ b → z ≡ c → (x && y && z) ≡ (a && b && c)
three x y z p q e = ap₂ (λ d w. d && w) (ap₂ ◌&&◌ p q) e

module _ (t g : List ℕ) (c : C.Seen) (r : R.Row) where
  -- the P lines begin behind the T lines
  behind_types : (s : Seen) → Weighed t g c s → PatternSizes t c.types s.patterns
  behind_types s told = subst (λ n. PatternSizes t n s.patterns) (sym told.counts.types) told.patterns

  few_patterns : c.patterns < max_patterns → (s : Seen) → Weighed t g c s → ltb (length s.patterns) max_patterns ≡ true
  few_patterns l s told = ap (λ n. ltb n max_patterns) (sym told.counts.patterns) ∙ lt-ltb c.patterns max_patterns l

  pub pattern_kept :
      {m n : ℕ} →
      c.patterns < max_patterns →
      PatternReckoned t c.types r.x r.y r.z m →
      m ≤ max_nodes →
      TagsReckoned g r.x r.y r.z n →
      CeilingsTold pattern_line t g c r (leb n max_tags)
  pattern_kept {m} {n} l e h f s told names =
      three true true (leb n max_tags) (sym (few_patterns l s told))
      (sym (le-leb m max_nodes h) ∙ ap (λ x. leb x max_nodes) (e s.patterns (behind_types s told) names))
      (ap (λ x. leb x max_tags) (f s.patterns told.tags names))

  pub pattern_heavy :
      {m : ℕ} →
      c.patterns < max_patterns →
      PatternReckoned t c.types r.x r.y r.z m →
      max_nodes < m →
      CeilingsTold pattern_line t g c r false
  pattern_heavy {m} l e h s told names =
      let p : Pat = next_pattern s.patterns r.x r.y r.z in
      three true false (leb (tags p) max_tags) (sym (few_patterns l s told))
      (sym (lt-leb m max_nodes h) ∙ ap (λ x. leb x max_nodes) (e s.patterns (behind_types s told) names))
      refl

  pub pattern_many : max_patterns ≤ c.patterns → CeilingsTold pattern_line t g c r false
  pattern_many l s told names =
      let p : Pat = next_pattern s.patterns r.x r.y r.z in
      let many : ltb (length s.patterns) max_patterns ≡ false = ap (λ n. ltb n max_patterns) (sym told.counts.patterns) ∙ le-ltb c.patterns max_patterns l in
      three false (leb (nodes p) max_nodes) (leb (tags p) max_tags) (sym many) refl refl

  -- ---- each kind

  pub within_type : {b : Bool} → r.kind ≡ kinds.Type → CeilingsTold type_line t g c r b → CeilingsTold (kind_view r.kind) t g c r b
  within_type q e s told names =
      e s told (ap (λ k. named s (kind_view k) (row_view r)) (sym q) ∙ names) ∙ ap (λ k. within_ceilings s (kind_view k) (row_view r)) (sym q)

  pub within_pattern : {b : Bool} → r.kind ≡ kinds.Pattern → CeilingsTold pattern_line t g c r b → CeilingsTold (kind_view r.kind) t g c r b
  within_pattern q e s told names =
      e s told (ap (λ k. named s (kind_view k) (row_view r)) (sym q) ∙ names) ∙ ap (λ k. within_ceilings s (kind_view k) (row_view r)) (sym q)

  pub within_iso : r.kind ≡ kinds.Iso → CeilingsTold (kind_view r.kind) t g c r (ltb c.isos max_isos)
  within_iso q s told names = ap (λ n. ltb n max_isos) told.counts.isos ∙ ap (λ k. within_ceilings s (kind_view k) (row_view r)) (sym q)

  pub within_clause : r.kind ≡ kinds.Clause → CeilingsTold (kind_view r.kind) t g c r (ltb c.clauses max_clauses)
  within_clause q s told names = ap (λ n. ltb n max_clauses) told.counts.clauses ∙ ap (λ k. within_ceilings s (kind_view k) (row_view r)) (sym q)

  pub within_let : r.kind ≡ kinds.Let → CeilingsTold (kind_view r.kind) t g c r (ltb c.lets max_lets)
  within_let q s told names = ap (λ n. ltb n max_lets) told.counts.lets ∙ ap (λ k. within_ceilings s (kind_view k) (row_view r)) (sym q)

-- ---- sizes, kind by kind

module _ (t : List ℕ) (c : C.Seen) (r : R.Row) where
  pub size_type : {n : ℕ} → r.kind ≡ kinds.Type → TypeReckoned t r.x r.y r.z n → SizeTold (kind_view r.kind) t c r n
  size_type q e g s told names =
      e s.types told.types (ap (λ k. named s (kind_view k) (row_view r)) (sym q) ∙ names)
      ∙ ap (λ k. size_of (kind_view k) s (row_view r)) (sym q)

  pub size_pattern : {n : ℕ} → r.kind ≡ kinds.Pattern → PatternReckoned t c.types r.x r.y r.z n → SizeTold (kind_view r.kind) t c r n
  size_pattern q e g s told names =
      e s.patterns (behind_types t g c r s told) (ap (λ k. named s (kind_view k) (row_view r)) (sym q) ∙ names)
      ∙ ap (λ k. size_of (kind_view k) s (row_view r)) (sym q)

  pub size_iso : r.kind ≡ kinds.Iso → SizeTold (kind_view r.kind) t c r 0
  size_iso q g s told names = ap (λ k. size_of (kind_view k) s (row_view r)) (sym q)

  pub size_clause : r.kind ≡ kinds.Clause → SizeTold (kind_view r.kind) t c r 0
  size_clause q g s told names = ap (λ k. size_of (kind_view k) s (row_view r)) (sym q)

  pub size_let : r.kind ≡ kinds.Let → SizeTold (kind_view r.kind) t c r 0
  size_let q g s told names = ap (λ k. size_of (kind_view k) s (row_view r)) (sym q)

-- ---- tags kept

-- one P line more, with its own behind the others
tags_more : (g g' : List ℕ) (ps : List Pat) (p : Pat) (n : ℕ) → TagsAt g ps → length ps < length g → g' ≡ set g (length ps) n → n ≡ tags p → TagsAt g' (ps ++ (p ∷ []))
tags_more g g' ps p n at l e f j b = go (dec_lt j (length ps))
  where
    go : Dec (j < length ps) → get_or g' j 0 ≡ tags (get_or (ps ++ (p ∷ [])) j (pleaf unit_leaf))
    go (yes h) =
        ap (λ u. get_or u j 0) e
        ∙ get_or-set_other g (length ps) j n 0 (λ q. omega arith)
        ∙ at j h
        ∙ ap tags (sym (get_or-append ps (p ∷ []) (pleaf unit_leaf) j h))
    go (no h) =
        let last : j ≡ length ps = omega (arith, length-append ps (p ∷ [])) in
        ap₂ (λ u i. get_or u i 0) e last
        ∙ get_or-set_same g (length ps) n 0 l
        ∙ f
        ∙ ap tags (sym (get_or_at ps p [] (pleaf unit_leaf) j (sym last)))

module _ (g : List ℕ) (c : C.Seen) (r : R.Row) where
  pub tags_pattern : {g' : List ℕ} {n m : ℕ} → r.kind ≡ kinds.Pattern → TagsReckoned g r.x r.y r.z n → m ≡ n % 256 → g' ≡ set g c.patterns m
      → TagsKept (kind_view r.kind) g g' c r
  tags_pattern {g'} {n} {m} q e f s =
      subst (λ k. TagsKept (kind_view k) g g' c r) (sym q) (record { kept = kept; long = ap length s ∙ length-set g c.patterns m })
    where
      kept : (t : List ℕ) (o : Seen) → Weighed t g c o → named o pattern_line (row_view r) ≡ true → within_ceilings o pattern_line (row_view r) ≡ true → max_patterns ≤ length g
          → TagsAt g' (after_kind pattern_line o (row_view r)).patterns
      kept t o told names within wide =
          let ps : List Pat = o.patterns in
          let p : Pat = pattern_tree ps (row_view r) in
          let a = and_true (ltb (length ps) max_patterns && leb (nodes p) max_nodes) (leb (tags p) max_tags) within in
          let b = and_true (ltb (length ps) max_patterns) (leb (nodes p) max_nodes) a.0 in
          let few = ltb-true (length ps) max_patterns b.0 in
          let light = leb_le (tags p) max_tags a.1 in
          let n_is : n ≡ tags p = e ps told.tags names in
          let m_is : m ≡ tags p = f ∙ mod-eq_of_lt (omega arith) ∙ n_is in
          tags_more g g' ps p m told.tags (omega arith) (s ∙ ap (λ i. set g i m) told.counts.patterns) m_is

  pub tags_type : r.kind ≡ kinds.Type → TagsKept (kind_view r.kind) g g c r
  tags_type q = subst (λ k. TagsKept (kind_view k) g g c r) (sym q) (record { kept = λ t s told names within wide. told.tags; long = refl })

  pub tags_iso : r.kind ≡ kinds.Iso → TagsKept (kind_view r.kind) g g c r
  tags_iso q = subst (λ k. TagsKept (kind_view k) g g c r) (sym q) (record { kept = λ t s told names within wide. told.tags; long = refl })

  pub tags_clause : r.kind ≡ kinds.Clause → TagsKept (kind_view r.kind) g g c r
  tags_clause q = subst (λ k. TagsKept (kind_view k) g g c r) (sym q) (record { kept = λ t s told names within wide. told.tags; long = refl })

  pub tags_let : r.kind ≡ kinds.Let → TagsKept (kind_view r.kind) g g c r
  tags_let q = subst (λ k. TagsKept (kind_view k) g g c r) (sym q) (record { kept = λ t s told names within wide. told.tags; long = refl })
