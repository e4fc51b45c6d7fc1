-- The walk over two P lines: how two nodes meet, and the count from node to node.
use Rattle.std.proofs.Common.{◌≡◌, ℕ, zero, suc, ◌+◌, ◌*◌, ◌/◌, ◌%◌, ◌^◌, ◌<◌, ◌≤◌, Bool, true, false, cond, eqb, ◌⊎◌, List, length, get_or, sym, refl, ap, ◌∙◌}
use Rattle.std.proofs.Common.{subst, ap₂, inl, inr, true≢false, add-zero, add_assoc, mod-lt, mod-eq_of_lt, zero-add, arith}
use native.Mathlib.Nat.{mod-add-mod, mod-mod_of_dvd, div-add-mod, add-mul-mod_self_left, mul-add-div, div-eq_of_lt, dvd-mul_right}
use Rattle.limits.specs.Limits.{max_lines, row_width, table_length}
use Rattle.calculus.specs.Trees.{Pat, pvar, pleaf, pinj, pnode, unit_leaf}
use Rattle.format.specs.Judge.{pattern_node}
use Rattle.calculus.proofs.Basic.{eq_eqb, not_eqb}
use Rattle.table_trees.specs.Unfolding.{cell_of, smaller_of, pattern_of}
use Rattle.table_trees.proofs.Unfolding.{cell_within, smaller_less, smaller_not, pattern_node_lem, pattern_past}
use Rattle.table_trees.proofs.Cases.{Injects, lefts, rights, Leaf, unit, var, empty, other, Plain}
use Rattle.check_overlap.specs.Comparison.{Compared, met, and_then, compare}
use Rattle.check_overlap.specs.Walking.{code, counted, opening, onward, Meets, part_of, Within}
use Rattle.check_overlap.proofs.Comparing.{compare_sym}

-- ---- how two nodes meet, by their kinds

then_assoc : (x : Bool) (n : ℕ) (b : Compared)
    → and_then met (and_then (record { clash = x; pairs = n }) b) ≡ and_then (and_then met (record { clash = x; pairs = n })) b
then_assoc true n b = refl
then_assoc false n b = ap (λ k. record { clash = b.clash; pairs = k }) (sym (add_assoc 1 n b.pairs))

abbrev Like : ℕ → ℕ → ℕ → Type 0
Like k j m = (a b : ℕ) (p q u v : Pat) → compare (pattern_node k a p q) (pattern_node j b u v) ≡ onward m p q u v

-- nothing clashes with a unit
unit_meet : (q : Pat) → compare (pleaf unit_leaf) q ≡ met
unit_meet (pvar m) = refl
unit_meet (pleaf k) = refl
unit_meet (pinj t q) = refl
unit_meet (pnode k q q') = refl

leaf_meet : {k : ℕ} (j : ℕ) → Plain k → Like k j 0
leaf_meet j Plain.unit a b p q u v = unit_meet (pattern_node j b u v)
leaf_meet j Plain.var a b p q u v = refl
leaf_meet j (Plain.other k) a b p q u v = unit_meet (pattern_node j b u v)

pair_meet : Like 4 4 3
pair_meet a b p q u v = then_assoc (compare p u).clash (compare p u).pairs (compare q v)

element_meet : Like 6 6 3
element_meet a b p q u v = then_assoc (compare p u).clash (compare p u).pairs (compare q v)

-- a pair beside any other kind, or no kind
pair_other_meet : (j : ℕ) → (j ≡ 4 → ⊥) → Like 4 j 0
pair_other_meet zero h a b p q u v = refl
pair_other_meet (suc zero) h a b p q u v = refl
pair_other_meet (suc (suc zero)) h a b p q u v = refl
pair_other_meet (suc (suc (suc zero))) h a b p q u v = refl
pair_other_meet (suc (suc (suc (suc zero)))) h a b p q u v = absurd (h refl)
pair_other_meet (suc (suc (suc (suc (suc zero))))) h a b p q u v = refl
pair_other_meet (suc (suc (suc (suc (suc (suc zero)))))) h a b p q u v = refl
pair_other_meet (suc (suc (suc (suc (suc (suc (suc j))))))) h a b p q u v = refl

-- empty beside any kind but an element
empty_other_meet : (j : ℕ) → (j ≡ 6 → ⊥) → Like 5 j 0
empty_other_meet zero h a b p q u v = refl
empty_other_meet (suc zero) h a b p q u v = refl
empty_other_meet (suc (suc zero)) h a b p q u v = refl
empty_other_meet (suc (suc (suc zero))) h a b p q u v = refl
empty_other_meet (suc (suc (suc (suc zero)))) h a b p q u v = refl
empty_other_meet (suc (suc (suc (suc (suc zero))))) h a b p q u v = refl
empty_other_meet (suc (suc (suc (suc (suc (suc zero)))))) h a b p q u v = absurd (h refl)
empty_other_meet (suc (suc (suc (suc (suc (suc (suc j))))))) h a b p q u v = refl

-- an element beside any kind but an element and empty
element_other_meet : (j : ℕ) → (j ≡ 6 → ⊥) → (j ≡ 5 → ⊥) → Like 6 j 0
element_other_meet zero h g a b p q u v = refl
element_other_meet (suc zero) h g a b p q u v = refl
element_other_meet (suc (suc zero)) h g a b p q u v = refl
element_other_meet (suc (suc (suc zero))) h g a b p q u v = refl
element_other_meet (suc (suc (suc (suc zero)))) h g a b p q u v = refl
element_other_meet (suc (suc (suc (suc (suc zero))))) h g a b p q u v = absurd (g refl)
element_other_meet (suc (suc (suc (suc (suc (suc zero)))))) h g a b p q u v = absurd (h refl)
element_other_meet (suc (suc (suc (suc (suc (suc (suc j))))))) h g a b p q u v = refl

empty_element_meet : Like 5 6 1
empty_element_meet a b p q u v = refl

element_empty_meet : Like 6 5 1
element_empty_meet a b p q u v = refl

tag_leaf_meet : {k j : ℕ} → Injects k → Leaf j → Like k j 0
tag_leaf_meet lefts unit a b p q u v = refl
tag_leaf_meet lefts var a b p q u v = refl
tag_leaf_meet lefts empty a b p q u v = refl
tag_leaf_meet lefts (other j) a b p q u v = refl
tag_leaf_meet rights unit a b p q u v = refl
tag_leaf_meet rights var a b p q u v = refl
tag_leaf_meet rights empty a b p q u v = refl
tag_leaf_meet rights (other j) a b p q u v = refl

tag_pair_meet : {k : ℕ} → Injects k → Like k 4 0
tag_pair_meet lefts a b p q u v = refl
tag_pair_meet rights a b p q u v = refl

tag_element_meet : {k : ℕ} → Injects k → Like k 6 0
tag_element_meet lefts a b p q u v = refl
tag_element_meet rights a b p q u v = refl

same_meet : {k : ℕ} → Injects k → Like k k 2
same_meet lefts a b p q u v = refl
same_meet rights a b p q u v = refl

other_meet : {k j : ℕ} → Injects k → Injects j → (k ≡ j → ⊥) → Like k j 1
other_meet lefts lefts h a b p q u v = absurd (h refl)
other_meet lefts rights h a b p q u v = refl
other_meet rights lefts h a b p q u v = refl
other_meet rights rights h a b p q u v = absurd (h refl)

module _ {k j : ℕ} where
  pub meets_leaf : Plain k → Meets k j 0
  meets_leaf h = record { few = omega arith; says = leaf_meet j h }

  pub meets_pairs : k ≡ 4 → j ≡ 4 → Meets k j 3
  meets_pairs e f = subst (λ x. Meets x j 3) (sym e) (subst (λ x. Meets 4 x 3) (sym f) (record { few = omega arith; says = pair_meet }))

  pub meets_pair_other : k ≡ 4 → (j ≡ 4 → ⊥) → Meets k j 0
  meets_pair_other e h = subst (λ x. Meets x j 0) (sym e) (record { few = omega arith; says = pair_other_meet j h })

  pub meets_empty : k ≡ 5 → j ≡ 6 → Meets k j 1
  meets_empty e f = subst (λ x. Meets x j 1) (sym e) (subst (λ x. Meets 5 x 1) (sym f) (record { few = omega arith; says = empty_element_meet }))

  pub meets_empty_other : k ≡ 5 → (j ≡ 6 → ⊥) → Meets k j 0
  meets_empty_other e h = subst (λ x. Meets x j 0) (sym e) (record { few = omega arith; says = empty_other_meet j h })

  pub meets_elements : k ≡ 6 → j ≡ 6 → Meets k j 3
  meets_elements e f = subst (λ x. Meets x j 3) (sym e) (subst (λ x. Meets 6 x 3) (sym f) (record { few = omega arith; says = element_meet }))

  pub meets_element_empty : k ≡ 6 → j ≡ 5 → Meets k j 1
  meets_element_empty e f = subst (λ x. Meets x j 1) (sym e) (subst (λ x. Meets 6 x 1) (sym f) (record { few = omega arith; says = element_empty_meet }))

  pub meets_element_other : k ≡ 6 → (j ≡ 6 → ⊥) → (j ≡ 5 → ⊥) → Meets k j 0
  meets_element_other e h g = subst (λ x. Meets x j 0) (sym e) (record { few = omega arith; says = element_other_meet j h g })

  pub meets_same : Injects k → k ≡ j → Meets k j 2
  meets_same h e = subst (λ x. Meets k x 2) e (record { few = omega arith; says = same_meet h })

  pub meets_opposed : Injects k → Injects j → (k ≡ j → ⊥) → Meets k j 1
  meets_opposed h l e = record { few = omega arith; says = other_meet h l e }

  pub meets_tag_leaf : Injects k → Leaf j → Meets k j 0
  meets_tag_leaf h l = record { few = omega arith; says = tag_leaf_meet h l }

  -- a pair, a list, or no kind
  pub meets_tag_beyond : Injects k → 4 ≤ j → Meets k j 0
  meets_tag_beyond h l = record { few = omega arith; says = go j l }
    where
      go : (j : ℕ) → 4 ≤ j → Like k j 0
      go zero l = absurd (omega arith)
      go (suc zero) l = absurd (omega arith)
      go (suc (suc zero)) l = absurd (omega arith)
      go (suc (suc (suc zero))) l = absurd (omega arith)
      go (suc (suc (suc (suc zero)))) l = tag_pair_meet h
      go (suc (suc (suc (suc (suc zero))))) l = tag_leaf_meet h empty
      go (suc (suc (suc (suc (suc (suc zero)))))) l = tag_element_meet h
      go (suc (suc (suc (suc (suc (suc (suc j))))))) l = tag_leaf_meet h (other j)

-- by the kinds that were read
pub meets_lines : {k j x y m : ℕ} → k ≡ x → j ≡ y → Meets k j m → Meets x y m
meets_lines {j = j} {x = x} {m = m} e f h = subst (λ z. Meets x z m) f (subst (λ z. Meets z j m) e h)

-- ---- numbers of the table, and parts

module _ (t : List ℕ) (row k : ℕ) (whole : table_length ≤ length t) (h : row < max_lines) (l : k < row_width) where
  pub number_is : get_or t (row * row_width + k) 0 ≡ cell_of t row k
  number_is = sym (cell_within t row k h l)

module _ (t : List ℕ) (base p k : ℕ) {a : ℕ} (e : a ≡ cell_of t (base + p) k) where
  part_named : a < p → part_of t base p k ≡ pattern_of t base a
  part_named h = ap (λ x. pattern_of t base (smaller_of x p)) (sym e) ∙ ap (pattern_of t base) (smaller_less a p h)

  part_unit : p ≤ a → part_of t base p k ≡ pleaf unit_leaf
  part_unit h =
      ap (λ x. pattern_of t base (smaller_of x p)) (sym e) ∙ ap (pattern_of t base) (smaller_not a p h) ∙ pattern_past t base max_lines (omega arith)

-- two parts, of which one is not there
parts_unit : (t : List ℕ) (base p q k : ℕ) {a b : ℕ} → a ≡ cell_of t (base + p) k → b ≡ cell_of t (base + q) k → (p ≤ a) ⊎ (q ≤ b)
    → compare (part_of t base p k) (part_of t base q k) ≡ met
parts_unit t base p q k e f (inl h) = ap (λ x. compare x (part_of t base q k)) (part_unit t base p k e h) ∙ unit_meet (part_of t base q k)
parts_unit t base p q k e f (inr h) =
    ap (λ x. compare (part_of t base p k) x) (part_unit t base q k f h) ∙ compare_sym (part_of t base p k) (pleaf unit_leaf) ∙ unit_meet (part_of t base p k)

parts_named : (t : List ℕ) (base p q k : ℕ) {a b : ℕ} → a ≡ cell_of t (base + p) k → b ≡ cell_of t (base + q) k → a < p → b < q
    → compare (part_of t base p k) (part_of t base q k) ≡ compare (pattern_of t base a) (pattern_of t base b)
parts_named t base p q k e f h l = ap₂ compare (part_named t base p k e h) (part_named t base q k f l)

pub within_parts : {t : List ℕ} {base p q a b : ℕ} → Within t base p q → a < p → b < q → Within t base a b
within_parts w h l = record { whole = w.whole; left = omega (arith, w.left); right = omega (arith, w.right) }

-- ---- the count

-- it goes on from what it has come to
counted_on : (n m : ℕ) (c : Compared) → ((n + m) % 2 ^ 64 + code c) % 2 ^ 64 ≡ (n + (m + code c)) % 2 ^ 64
counted_on n m c = mod-add-mod (n + m) (2 ^ 64) (code c) ∙ ap (λ x. x % 2 ^ 64) (add_assoc n m (code c))

-- it is even as long as there is no clash
wrapped_even : (n : ℕ) → n % 2 ^ 64 % 2 ≡ n % 2
wrapped_even n = mod-mod_of_dvd 2 n (dvd-mul_right 2 (2 ^ 63))

even_more : (n m f : ℕ) → n % 2 ≡ 0 → (n + (2 * m + f)) % 2 ≡ f % 2
even_more n m f e =
    let w : n + (2 * m + f) ≡ f + 2 * (n / 2 + m) = omega (arith, div-add-mod n 2) in
    ap (λ x. x % 2) w ∙ add-mul-mod_self_left f 2 (n / 2 + m)

counted_parity : (n : ℕ) (x : Bool) (m : ℕ) → n % 2 ≡ 0 → counted n (record { clash = x; pairs = m }) % 2 ≡ cond x 1 0
counted_parity n x m e = wrapped_even _ ∙ even_more _ m (cond x 1 0) e ∙ go x
  where
    go : (y : Bool) → ◌≡◌ {A = ℕ} (cond y 1 0 % 2) (cond y 1 0)
    go true = refl
    go false = refl

code_then : (x : Bool) (m : ℕ) (b : Compared) → x ≡ false → code (and_then (record { clash = x; pairs = m }) b) ≡ code (record { clash = x; pairs = m }) + code b
code_then true m b e = absurd (true≢false e)
code_then false m b e = omega arith

code_stopped : (x : Bool) (m : ℕ) (b : Compared) → x ≡ true → code (and_then (record { clash = x; pairs = m }) b) ≡ code (record { clash = x; pairs = m })
code_stopped true m b e = refl
code_stopped false m b e = absurd (true≢false (sym e))

-- an odd count tells a clash
odd_clash : (x : Bool) → ◌≡◌ {A = ℕ} (cond x 1 0) 1 → x ≡ true
odd_clash true e = refl
odd_clash false e = absurd (omega arith)

even_clear : (x : Bool) → (◌≡◌ {A = ℕ} (cond x 1 0) 1 → ⊥) → x ≡ false
even_clear true h = absurd (h refl)
even_clear false h = refl

-- what is read off the count in the end: a clash, and the pairs
told_clash : (x : Bool) (m : ℕ) → eqb (counted 0 (record { clash = x; pairs = m }) % 2) 1 ≡ x
told_clash x m = ap (λ k. eqb k 1) (counted_parity 0 x m refl) ∙ go x
  where
    go : (y : Bool) → eqb (cond y 1 0) 1 ≡ y
    go true = refl
    go false = refl

told_pairs : (x : Bool) (m : ℕ) → counted 0 (record { clash = x; pairs = m }) / 2 ≡ m % 2 ^ 63
told_pairs x m =
    let f : ℕ = cond x 1 0 in
    let y : ℕ = m % 2 ^ 63 in
    let small : f < 2 = bit x in
    let low : y < 2 ^ 63 = mod-lt m (omega arith) in
    let split : 0 + (2 * m + f) ≡ (2 * y + f) + 2 ^ 64 * (m / 2 ^ 63) = omega (arith, div-add-mod m (2 ^ 63)) in
    let fits : 2 * y + f < 2 ^ 64 = omega arith in
    ap (λ k. k % 2 ^ 64 / 2) split
    ∙ ap (λ k. k / 2) (add-mul-mod_self_left (2 * y + f) (2 ^ 64) (m / 2 ^ 63) ∙ mod-eq_of_lt fits)
    ∙ mul-add-div (omega arith) y f
    ∙ ap (λ k. y + k) (div-eq_of_lt small)
    ∙ add-zero y
  where
    bit : (b : Bool) → cond b 1 0 < 2
    bit true = omega arith
    bit false = omega arith

pub told : {n : ℕ} (c : Compared) → n ≡ counted 0 c → (eqb (n % 2) 1 ≡ c.clash) × (n / 2 ≡ c.pairs % 2 ^ 63)
told c e = (ap (λ k. eqb (k % 2) 1) e ∙ told_clash c.clash c.pairs, ap (λ k. k / 2) e ∙ told_pairs c.clash c.pairs)

-- ---- two P lines

module _ (t : List ℕ) (base p q : ℕ) {m : ℕ} (meets : Meets (cell_of t (base + p) 1) (cell_of t (base + q) 1) m) where
  lines : compare (pattern_of t base p) (pattern_of t base q) ≡ onward m (part_of t base p 2) (part_of t base p 3) (part_of t base q 2) (part_of t base q 3)
  lines =
      ap₂ compare (pattern_node_lem t base p) (pattern_node_lem t base q)
      ∙ meets.says (cell_of t (base + p) 2) (cell_of t (base + q) 2) (part_of t base p 2) (part_of t base p 3) (part_of t base q 2) (part_of t base q 3)

  -- nothing below them is compared, or they clash
  pub lines_end : (n : ℕ) {r : ℕ} → m < 2 → r ≡ (n + (2 + m)) % 2 ^ 64 → r ≡ counted n (compare (pattern_of t base p) (pattern_of t base q))
  lines_end n h e = e ∙ ap (λ x. (n + x) % 2 ^ 64) (sym (ap code lines ∙ ended m h))
    where
      ended : (k : ℕ) → k < 2 → code (onward k (part_of t base p 2) (part_of t base p 3) (part_of t base q 2) (part_of t base q 3)) ≡ 2 + k
      ended zero l = refl
      ended (suc zero) l = refl
      ended (suc (suc k)) l = absurd (omega arith)

  -- the same where the count begins
  pub lines_end_first : m < 2 → 2 + m ≡ counted 0 (compare (pattern_of t base p) (pattern_of t base q))
  lines_end_first h =
      let few : 0 + (2 + m) < 2 ^ 64 = omega arith in
      lines_end 0 h (sym (mod-eq_of_lt few ∙ zero-add (2 + m)))

  -- else first what opens them, and then their last parts
  lines_parts : 2 ≤ m
      → compare (pattern_of t base p) (pattern_of t base q) ≡ and_then (opening m (part_of t base p 2) (part_of t base q 2)) (compare (part_of t base p m) (part_of t base q m))
  lines_parts h = lines ∙ go m h meets.few
    where
      go : (k : ℕ) → 2 ≤ k → k < 4
          → onward k (part_of t base p 2) (part_of t base p 3) (part_of t base q 2) (part_of t base q 3)
          ≡ and_then (opening k (part_of t base p 2) (part_of t base q 2)) (compare (part_of t base p k) (part_of t base q k))
      go zero u v = absurd (omega arith)
      go (suc zero) u v = absurd (omega arith)
      go (suc (suc zero)) u v = refl
      go (suc (suc (suc zero))) u v = refl
      go (suc (suc (suc (suc k)))) u v = absurd (omega arith)

-- a line that is no row of the table
pub line_past : (t : List ℕ) (base p q : ℕ) → max_lines ≤ base + p → 2 ≡ counted 0 (compare (pattern_of t base p) (pattern_of t base q))
line_past t base p q h =
    sym (ap (λ x. counted 0 (compare x (pattern_of t base q))) (pattern_past t base p h) ∙ ap (counted 0) (unit_meet (pattern_of t base q)))

pub other_line_past : (t : List ℕ) (base p q : ℕ) → max_lines ≤ base + q → 2 ≡ counted 0 (compare (pattern_of t base p) (pattern_of t base q))
other_line_past t base p q h = line_past t base q p h ∙ ap (counted 0) (compare_sym (pattern_of t base q) (pattern_of t base p))

-- ---- what opens two lines: their own nodes, and of pairs the first parts

module _ (t : List ℕ) (base p q m n : ℕ) {next : ℕ} (e : next ≡ (n + 2) % 2 ^ 64) where
  pub next_even : n % 2 ≡ 0 → next % 2 ≡ 0
  next_even h = ap (λ x. x % 2) e ∙ counted_parity n false 1 h

  pub opened_alone : (m ≡ 3 → ⊥) → next ≡ counted n (opening m (part_of t base p 2) (part_of t base q 2))
  opened_alone h = e ∙ sym (ap (λ b. counted n (cond b (and_then met (compare (part_of t base p 2) (part_of t base q 2))) met)) (not_eqb h))

  module _ (three : m ≡ 3) {a b : ℕ} (f : a ≡ cell_of t (base + p) 2) (g : b ≡ cell_of t (base + q) 2) where
    opened_with : {c : Compared} → compare (part_of t base p 2) (part_of t base q 2) ≡ c
        → (next + code c) % 2 ^ 64 ≡ counted n (opening m (part_of t base p 2) (part_of t base q 2))
    opened_with {c} h =
        ap (λ x. (x + code c) % 2 ^ 64) e
        ∙ counted_on n 2 c
        ∙ ap (λ x. (n + x) % 2 ^ 64) (sym (code_then false 1 c refl))
        ∙ sym (ap (λ x. counted n (and_then met x)) h)
        ∙ sym (ap (λ b. counted n (cond b (and_then met (compare (part_of t base p 2) (part_of t base q 2))) met)) (eq_eqb three))

    pub opened_named : {r : ℕ} → a < p → b < q → r ≡ counted next (compare (pattern_of t base a) (pattern_of t base b))
        → r ≡ counted n (opening m (part_of t base p 2) (part_of t base q 2))
    opened_named h l i = i ∙ opened_with (parts_named t base p q 2 f g h l)

    pub opened_unit : {r : ℕ} → (p ≤ a) ⊎ (q ≤ b) → r ≡ (next + 2) % 2 ^ 64 → r ≡ counted n (opening m (part_of t base p 2) (part_of t base q 2))
    opened_unit h i = i ∙ opened_with (parts_unit t base p q 2 f g h)

-- ---- the loop: what is left of lines i and j are lines p and q

pub record Walks (t : List ℕ) (base i j count p q m n : ℕ) : Type 0 where
  pub within : Within t base p q
  pub falls : p ≤ i
  pub even : n % 2 ≡ 0
  pub meets : Meets (cell_of t (base + p) 1) (cell_of t (base + q) 1) m
  pub rest : counted count (compare (pattern_of t base i) (pattern_of t base j)) ≡ counted n (compare (pattern_of t base p) (pattern_of t base q))

module _ (t : List ℕ) (base i j count : ℕ) where
  pub walks_start : {k : ℕ} → Within t base i j → count % 2 ≡ 0 → Meets (cell_of t (base + i) 1) (cell_of t (base + j) 1) k
      → Walks t base i j count i j k count
  walks_start w e h = record { within = w; falls = omega arith; even = e; meets = h; rest = refl }

  module _ {p q m n : ℕ} (w : Walks t base i j count p q m n) where
    pub walks_end : {r : ℕ} → m < 2 → r ≡ (n + (2 + m)) % 2 ^ 64 → r ≡ counted count (compare (pattern_of t base i) (pattern_of t base j))
    walks_end h e = lines_end t base p q w.meets n h e ∙ sym w.rest

    module _ (h : 2 ≤ m) {o : ℕ} (e : o ≡ counted n (opening m (part_of t base p 2) (part_of t base q 2))) where
      abbrev first : Compared
      first = opening m (part_of t base p 2) (part_of t base q 2)

      all : counted count (compare (pattern_of t base i) (pattern_of t base j)) ≡ counted n (and_then first (compare (part_of t base p m) (part_of t base q m)))
      all = w.rest ∙ ap (counted n) (lines_parts t base p q w.meets h)

      parity : o % 2 ≡ cond first.clash 1 0
      parity = ap (λ x. x % 2) e ∙ counted_parity n first.clash first.pairs w.even

      -- a clash
      pub walks_clash : o % 2 ≡ 1 → o ≡ counted count (compare (pattern_of t base i) (pattern_of t base j))
      walks_clash d =
          e ∙ ap (λ x. (n + x) % 2 ^ 64) (sym (code_stopped first.clash first.pairs (compare (part_of t base p m) (part_of t base q m)) (odd_clash first.clash (sym parity ∙ d)))) ∙ sym all

      -- none: the last parts are left
      rest_counted : (o % 2 ≡ 1 → ⊥) → counted count (compare (pattern_of t base i) (pattern_of t base j)) ≡ counted o (compare (part_of t base p m) (part_of t base q m))
      rest_counted d =
          let c : Compared = compare (part_of t base p m) (part_of t base q m) in
          all
          ∙ ap (λ x. (n + x) % 2 ^ 64) (code_then first.clash first.pairs c (even_clear first.clash (λ x. d (parity ∙ x))))
          ∙ sym (counted_on n (code first) c)
          ∙ ap (λ x. (x + code c) % 2 ^ 64) (sym e)

      module _ (d : o % 2 ≡ 1 → ⊥) {a b : ℕ} (f : a ≡ cell_of t (base + p) m) (g : b ≡ cell_of t (base + q) m) where
        pub walks_unit : {r : ℕ} → (p ≤ a) ⊎ (q ≤ b) → r ≡ (o + 2) % 2 ^ 64 → r ≡ counted count (compare (pattern_of t base i) (pattern_of t base j))
        walks_unit l s = s ∙ sym (rest_counted d ∙ ap (counted o) (parts_unit t base p q m f g l))

        pub walks_step : {k : ℕ} → a < p → b < q → Meets (cell_of t (base + a) 1) (cell_of t (base + b) 1) k → Walks t base i j count a b k o
        walks_step l s z =
            record {
              within = within_parts w.within l s;
              falls = omega (arith, w.falls);
              even = parity ∙ ap (λ b. cond b 1 0) (even_clear first.clash (λ x. d (parity ∙ x)));
              meets = z;
              rest = rest_counted d ∙ ap (counted o) (parts_named t base p q m f g l s);
            }
