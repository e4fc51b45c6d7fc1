-- A pattern against the letters of a value that begin at a place: what matching answers and which ranges it leaves, by the pattern's
-- node and the first letter.
use Prim.Native.Nat.{ℕ, suc, ◌+◌, ◌<◌}
use native.Mathlib.Numerals.{add-one}
use native.Mathlib.Omega.{arith}
use mathlib.Core.Path.{◌≡◌, refl, sym, ap, ap₂, ◌∙◌, subst}
use mathlib.Core.Bool.{Bool, true, false, cond, ◌&&◌}
use mathlib.Core.List.{List}
use lib.Dec.{eqb, ltb}
use lib.ListN.{length, get_or, length-append}
use borrow.Author.Tests.{lt-ltb, eq-eqb, ne_eqb}
use mathlib.Core.Logic.{◌⊎◌, inl, inr}
use Rattle.calculus.specs.Trees.{Leaf, unit_leaf, empty_leaf, Tag, left, right, Node, pair_node, element_node, Pat, pleaf, pvar, pinj, pnode, Val, vleaf, vinj, vnode}
use Rattle.calculus.specs.Trees.{same_leaf, same_tag, same_node}
use Rattle.calculus.specs.Letters.{letters, leaf_letter, letter_of, node_letter}
use Rattle.calculus.proofs.Basic.{and_true, eqb_eq, same_leaf_refl, same_tag_refl, same_node_refl}
use Rattle.table_trees.specs.Unfolding.{cell_of, smaller_of, pattern_of}
use Rattle.table_trees.proofs.Unfolding.{pattern_var}
use Rattle.table_trees.proofs.Cases as cases
use Rattle.table_trees.proofs.Cases.{Injects, Joins}
use Rattle.std.specs.Prelude.{Option as Maybe, Some, None}
use Rattle.run_values.specs.Texts.{At, Ends, letter_for, alike, matched, ranges}
use Rattle.run_patterns.proofs.Spelling.{first_of, with_leaf, with_tag, with_node, at_within, at_first, at_inj, at_left, at_right}
use Rattle.run_patterns.proofs.Lines.{kinds_of, leaf_line, inj_line, node_line}

-- ---- where a value ends, if that is told

-- it is not told
pub ends_none : (at : ℕ) (v : Val) → Ends None at v
ends_none at v = tt

-- the end of a left or a right is that of the value below it
ends_inj : (end : Maybe ℕ) (at : ℕ) (t : Tag) (v : Val) → Ends end at (vinj t v) → Ends end (at + 1) v
ends_inj None at t v d = tt
ends_inj (Some e) at t v d = omega arith

-- the end of a pair is that of its second value, the end of a list that of the list behind the element
ends_second : (end : Maybe ℕ) {m : ℕ} (at : ℕ) (k : Node) (v w : Val) → Ends end at (vnode k v w) → m ≡ at + 1 + length (letters v) → Ends end m w
ends_second None at k v w d q = tt
ends_second (Some e) at k v w d q = omega (arith, length-append (letters v) (letters w))

-- ---- by the pattern's node

-- what matching p with the value at a place answers, and the ranges that it leaves
record Matches (s : List ℕ) (at : ℕ) (end : Maybe ℕ) (p : Pat) (vars vars' : List ℕ) (r : Maybe ℕ) : Type 0 where
  answers : (v : Val) → At s at v → Ends end at v → r ≡ matched (alike p v) (at + length (letters v))
  leaves : (v : Val) → At s at v → Ends end at v → vars' ≡ ranges p v at vars

-- the same as the contract has it
abbrev pub Told : List ℕ → ℕ → Maybe ℕ → Pat → List ℕ → List ℕ → Maybe ℕ → Type 0
Told s at end p vars vars' r =
    ((v : Val) → At s at v → Ends end at v → r ≡ matched (alike p v) (at + length (letters v))) × ((v : Val) → At s at v → Ends end at v → vars' ≡ ranges p v at vars)

-- both for each value that stands there
matches_of : {s : List ℕ} {at : ℕ} {end : Maybe ℕ} {p : Pat} {vars vars' : List ℕ} {r : Maybe ℕ}
    → ((v : Val) → At s at v → Ends end at v → (r ≡ matched (alike p v) (at + length (letters v))) × (vars' ≡ ranges p v at vars)) → Matches s at end p vars vars' r
matches_of h = record { answers = λ v a d. (h v a d).0; leaves = λ v a d. (h v a d).1 }

-- a place is answered: the shapes are alike
pub place_alike : (b : Bool) (m n : ℕ) → Some m ≡ matched b n → (b ≡ true) × (m ≡ n)
place_alike true m n e = (refl, cc)
place_alike false m n e = let z : ◌≡◌ {A = ℕ} 0 1 = cc in absurd (omega arith)

-- no place: the shapes differ
pub nothing_alike : (b : Bool) (n : ℕ) → None ≡ matched b n → b ≡ false
nothing_alike true n e = let z : ◌≡◌ {A = ℕ} 0 1 = cc in absurd (omega arith)
nothing_alike false n e = refl

-- what is answered and left for a value
abbrev Says : List ℕ → ℕ → Maybe ℕ → Pat → List ℕ → List ℕ → Maybe ℕ → Val → Type 0
Says s at end p vars vars' r v = At s at v → Ends end at v → (r ≡ matched (alike p v) (at + length (letters v))) × (vars' ≡ ranges p v at vars)

-- a node that has a letter, which no variable is
abbrev pub Noded : Pat → Type 0
Noded (pvar n) = ⊥
Noded (pleaf l) = Unit
Noded (pinj t p) = Unit
Noded (pnode k p q) = Unit

abbrev pub letter_in : Pat → ℕ
letter_in (pvar n) = 0
letter_in (pleaf l) = leaf_letter l
letter_in (pinj t p) = letter_of t
letter_in (pnode k p q) = node_letter k

other_leaf : (l k : Leaf) → (leaf_letter k ≡ leaf_letter l → ⊥) → same_leaf l k ≡ false
other_leaf unit_leaf unit_leaf n = absurd (n refl)
other_leaf unit_leaf empty_leaf n = refl
other_leaf empty_leaf unit_leaf n = refl
other_leaf empty_leaf empty_leaf n = absurd (n refl)

other_tag : (s t : Tag) → (letter_of t ≡ letter_of s → ⊥) → same_tag s t ≡ false
other_tag left left n = absurd (n refl)
other_tag left right n = refl
other_tag right left n = refl
other_tag right right n = absurd (n refl)

other_node : (m k : Node) → (node_letter k ≡ node_letter m → ⊥) → same_node m k ≡ false
other_node pair_node pair_node n = absurd (n refl)
other_node pair_node element_node n = refl
other_node element_node pair_node n = refl
other_node element_node element_node n = absurd (n refl)

-- a value that begins with another letter is of another shape, and leaves the ranges
pub unlike : (p : Pat) → Noded p → (v : Val) → (first_of v ≡ letter_in p → ⊥) → (at : ℕ) (vars : List ℕ) → (alike p v ≡ false) × (ranges p v at vars ≡ vars)
unlike (pvar n) z v d at vars = absurd z
unlike (pleaf l) z (vleaf k) d at vars = (other_leaf l k d, refl)
unlike (pleaf l) z (vinj t v) d at vars = (refl, refl)
unlike (pleaf l) z (vnode k v w) d at vars = (refl, refl)
unlike (pinj s p) z (vleaf k) d at vars = (refl, refl)
unlike (pinj s p) z (vinj t v) d at vars =
    let e = other_tag s t d in (ap (λ b. b && alike p v) e, ap (λ b. cond b (ranges p v (suc at) vars) vars) e)
unlike (pinj s p) z (vnode k v w) d at vars = (refl, refl)
unlike (pnode m p q) z (vleaf k) d at vars = (refl, refl)
unlike (pnode m p q) z (vinj t v) d at vars = (refl, refl)
unlike (pnode m p q) z (vnode k v w) d at vars =
    let e = other_node m k d in
    let first = ranges p v (suc at) vars in (
      ap (λ b. b && (alike p v && alike q w)) e,
      ap (λ b. cond b (cond (alike p v) (ranges q w (suc at + length (letters v)) first) first) vars) e,
    )

module _ {s : List ℕ} {at : ℕ} {end : Maybe ℕ} {vars : List ℕ} where
  -- another letter
  misses : {p : Pat} → Noded p → (at < length s → get_or s at 0 ≡ letter_in p → ⊥) → Matches s at end p vars vars None
  misses {p} z n =
      matches_of
      (λ v a d. let u = unlike p z v (λ e. n (at_within a) (at_first a ∙ e)) at vars in (sym (ap (λ b. matched b (at + length (letters v))) u.0), sym u.1))

  -- unit and empty
  matches_leaf : (l : Leaf) → get_or s at 0 ≡ leaf_letter l → Matches s at end (pleaf l) vars vars (Some (at + 1))
  matches_leaf l e =
      record {
        answers = λ v a d.
            with_leaf (λ u. Some (at + 1) ≡ matched (alike (pleaf l) u) (at + length (letters u))) l
            (sym (ap (λ b. matched b (at + 1)) (same_leaf_refl l))) v (sym (at_first a) ∙ e);
        leaves = λ v a d. refl;
      }

  -- left and right
  matches_inj : (t : Tag) {p : Pat} {vars' : List ℕ} {r : Maybe ℕ} → get_or s at 0 ≡ letter_of t → Matches s (at + 1) end p vars vars' r → Matches s at end (pinj t p) vars vars' r
  matches_inj t {p} {vars'} {r} e m =
      matches_of (λ v a d. with_tag (Says s at end (pinj t p) vars vars' r) t
      below v (sym (at_first a) ∙ e) a d)
    where
      below : (v : Val) → At s at (vinj t v) → Ends end at (vinj t v) → (r ≡ matched (same_tag t t && alike p v) (at + length (letters (vinj t v))))
          × (vars' ≡ cond (same_tag t t) (ranges p v (suc at) vars) vars)
      below v a d = (
        m.answers v (at_inj a) (ends_inj end at t v d) ∙ ap₂ matched (sym (ap (λ b. b && alike p v) (same_tag_refl t))) (omega arith),
        m.leaves v (at_inj a) (ends_inj end at t v d)
            ∙ ap (λ k. ranges p v k vars) (add-one at)
            ∙ sym (ap (λ b. cond b (ranges p v (suc at) vars) vars) (same_tag_refl t)),
      )

module _ {s : List ℕ} {at : ℕ} {end : Maybe ℕ} {vars : List ℕ} (k : Node) {p q : Pat} where
  -- a pair or an element whose first part matches
  matches_node : {m : ℕ} {vars₁ vars₂ : List ℕ} {r : Maybe ℕ} → get_or s at 0 ≡ node_letter k → Matches s (at + 1) None p vars vars₁ (Some m)
      → Matches s m end q vars₁ vars₂ r → Matches s at end (pnode k p q) vars vars₂ r
  matches_node {m} {vars₁} {vars₂} {r} e f g = matches_of (λ v a d. with_node (Says s at end (pnode k p q) vars vars₂ r) k below v (sym (at_first a) ∙ e) a d)
    where
      -- the first part is alike, and the second stands behind it
      seam : (v w : Val) → At s at (vnode k v w) → (alike p v ≡ true) × (m ≡ at + 1 + length (letters v))
      seam v w a = place_alike (alike p v) m (at + 1 + length (letters v)) (f.answers v (at_left {w = w} a) (ends_none (at + 1) v))

      second : (v w : Val) → At s at (vnode k v w) → At s m w
      second v w a = subst (λ k. At s k w) (sym (seam v w a).1) (at_right {v = v} a)

      below : (v w : Val) → Says s at end (pnode k p q) vars vars₂ r (vnode k v w)
      below v w a d =
          let u = seam v w a in
          let first = ranges p v (suc at) vars in (
            g.answers w (second v w a) (ends_second end at k v w d u.1)
                ∙ ap₂ matched (sym (ap₂ (λ x b. x && (b && alike q w)) (same_node_refl k) u.0)) (omega (arith, u.1, length-append (letters v) (letters w))),
            g.leaves w (second v w a) (ends_second end at k v w d u.1)
                ∙ ap₂ (ranges q w) (u.1 ∙ ap (λ k. k + length (letters v)) (add-one at))
                (f.leaves v (at_left {w = w} a) (ends_none (at + 1) v) ∙ ap (λ k. ranges p v k vars) (add-one at))
                ∙ sym (ap₂ (λ x b. cond x (cond b (ranges q w (suc at + length (letters v)) first) first) vars) (same_node_refl k) u.0),
          )

  -- a pair or an element whose first part does not
  misses_first : {vars₁ : List ℕ} → get_or s at 0 ≡ node_letter k → Matches s (at + 1) None p vars vars₁ None → Matches s at end (pnode k p q) vars vars₁ None
  misses_first {vars₁} e f = matches_of (λ v a d. with_node (Says s at end (pnode k p q) vars vars₁ None) k below v (sym (at_first a) ∙ e) a d)
    where
      below : (v w : Val) → Says s at end (pnode k p q) vars vars₁ None (vnode k v w)
      below v w a d =
          let u = nothing_alike (alike p v) (at + 1 + length (letters v)) (f.answers v (at_left {w = w} a) (ends_none (at + 1) v)) in
          let first = ranges p v (suc at) vars in (
            sym (ap₂ (λ x b. matched (x && (b && alike q w)) (at + length (letters (vnode k v w)))) (same_node_refl k) u),
            f.leaves v (at_left {w = w} a) (ends_none (at + 1) v)
                ∙ ap (λ k. ranges p v k vars) (add-one at)
                ∙ sym (ap₂ (λ x b. cond x (cond b (ranges q w (suc at + length (letters v)) first) first) vars) (same_node_refl k) u),
          )

-- ---- the letter of a node

-- the letter at a place, as it is looked for
abbrev Found : List ℕ → ℕ → ℕ → Maybe ℕ
Found s at b = matched (ltb at (length s) && eqb (get_or s at 0) b) (at + 1)

-- it is there
pub letter_here : (s : List ℕ) (at b : ℕ) → at < length s → get_or s at 0 ≡ b → Some (at + 1) ≡ Found s at b
letter_here s at b h e = sym (ap₂ (λ x y. matched (x && y) (at + 1)) (lt-ltb at (length s) h) (eq-eqb (get_or s at 0) b e))

-- another is there
pub letter_differs : (s : List ℕ) (at b : ℕ) → at < length s → (get_or s at 0 ≡ b → ⊥) → None ≡ Found s at b
letter_differs s at b h n = sym (ap₂ (λ x y. matched (x && y) (at + 1)) (lt-ltb at (length s) h) (ne_eqb (get_or s at 0) b n))

-- what the search for it tells
found : (s : List ℕ) (at b : ℕ) {next : ℕ} → Some next ≡ Found s at b → (get_or s at 0 ≡ b) × (next ≡ at + 1)
found s at b {next} e =
    let p = place_alike (ltb at (length s) && eqb (get_or s at 0) b) next (at + 1) e in (eqb_eq (get_or s at 0) b (and_true (ltb at (length s)) (eqb (get_or s at 0) b) p.0).1, p.1)

missed : (s : List ℕ) (at b : ℕ) → None ≡ Found s at b → at < length s → get_or s at 0 ≡ b → ⊥
missed s at b e h q =
    let z : ◌≡◌ {A = ℕ} 0 1 = let p = letter_here s at b h q in cc in omega arith

-- ---- P lines: k is the kind, b its letter, o what the search for it tells, a and c the lines that line j names

module _ (t : List ℕ) (base j : ℕ) (s : List ℕ) (at : ℕ) (end : Maybe ℕ) (vars : List ℕ) where
  -- what holds of the tree that line j unfolds to
  as_line : (p : Pat) {vars' : List ℕ} {r : Maybe ℕ} → pattern_of t base j ≡ p → Matches s at end p vars vars' r → Told s at end (pattern_of t base j) vars vars' r
  as_line p {vars'} {r} e m = subst (λ x. Told s at end x vars vars' r) (sym e) (m.answers, m.leaves)

  -- the contract as a record, at the place behind a letter
  record_of : {n m : ℕ} {e : Maybe ℕ} {p : Pat} {us vars' : List ℕ} {r : Maybe ℕ} → n ≡ m → Told s n e p us vars' r → Matches s m e p us vars' r
  record_of {n} {m} {e} {p} {us} {vars'} {r} q h = subst (λ x. Matches s x e p us vars' r) q record { answers = h.0; leaves = h.1 }

  module _ {k : ℕ} (e : k ≡ cell_of t (base + j) 1) where
    -- a variable
    pub match_variable : {x : ℕ} {vars' : List ℕ} {r : Maybe ℕ} → k ≡ 1 → x ≡ cell_of t (base + j) 2 → Told s at end (pvar x) vars vars' r
        → Told s at end (pattern_of t base j) vars vars' r
    match_variable {x} {vars'} {r} z f h = subst (λ p. Told s at end p vars vars' r) (sym (pattern_var t base j (sym e ∙ z) ∙ sym (ap pvar f))) h

    module _ {b : ℕ} {o : Maybe ℕ} (l : b ≡ letter_for k) (u : o ≡ Found s at b) where
      -- another letter
      pub match_miss : (k ≡ 1 → ⊥) → o ≡ None → Told s at end (pattern_of t base j) vars vars None
      match_miss n q = go (kinds_of k)
        where
          missing : (p : Pat) → Noded p → letter_for k ≡ letter_in p → pattern_of t base j ≡ p → Told s at end (pattern_of t base j) vars vars None
          missing p z m h = as_line p h (misses z (subst (λ x. at < length s → get_or s at 0 ≡ x → ⊥) (l ∙ m) (missed s at b (sym q ∙ u))))

          go : cases.Leaf k ⊎ (Injects k ⊎ Joins k) → Told s at end (pattern_of t base j) vars vars None
          go (inl f) = let (x, m, h) = leaf_line t base j e n f in missing (pleaf x) tt m h
          go (inr (inl f)) = let (x, m, h) = inj_line t base j e refl f in missing (pinj x (pattern_of t base (smaller_of (cell_of t (base + j) 2) j))) tt m h
          go (inr (inr f)) =
              let (x, m, h) = node_line t base j e refl refl f in
              missing (pnode x (pattern_of t base (smaller_of (cell_of t (base + j) 2) j)) (pattern_of t base (smaller_of (cell_of t (base + j) 3) j))) tt m h

      module _ {next : ℕ} (q : o ≡ Some next) where
        -- the letter is there
        here : {y : ℕ} → letter_for k ≡ y → get_or s at 0 ≡ y
        here m = (found s at b (sym q ∙ u)).0 ∙ l ∙ m

        -- what follows is behind it
        then : next ≡ at + 1
        then = (found s at b (sym q ∙ u)).1

        -- a unit, an empty list, or a number that is no kind
        pub match_leaf : (k ≡ 1 → ⊥) → cases.Leaf k → Told s at end (pattern_of t base j) vars vars (Some next)
        match_leaf n f =
            let (x, m, h) = leaf_line t base j e n f in
            as_line _ h (subst (λ n. Matches s at end (pleaf x) vars vars (Some n)) (sym then) (matches_leaf x (here m)))

        module _ {a : ℕ} (n : a ≡ smaller_of (cell_of t (base + j) 2) j) where
          -- left and right
          pub match_tag : {vars' : List ℕ} {r : Maybe ℕ} → Injects k → Told s next end (pattern_of t base a) vars vars' r → Told s at end (pattern_of t base j) vars vars' r
          match_tag f g = let (x, m, h) = inj_line t base j e n f in as_line _ h (matches_inj x (here m) (record_of then g))

          module _ (i : Joins k) where
            -- a pair or an element whose first part matches
            pub match_node : {c m : ℕ} {vars₁ vars₂ : List ℕ} {w r : Maybe ℕ} → w ≡ Some m → Told s next None (pattern_of t base a) vars vars₁ w
                → c ≡ smaller_of (cell_of t (base + j) 3) j → Told s m end (pattern_of t base c) vars₁ vars₂ r → Told s at end (pattern_of t base j) vars vars₂ r
            match_node {vars₁ = vars₁} p f o v =
                let (x, y, h) = node_line t base j e n o i in
                as_line _ h
                (matches_node x (here y) (subst (Matches s (at + 1) None (pattern_of t base a) vars vars₁) p (record_of then f)) (record_of refl v))

            -- a pair or an element whose first part does not
            pub miss_first : {vars₁ : List ℕ} {w : Maybe ℕ} → w ≡ None → Told s next None (pattern_of t base a) vars vars₁ w
                → Told s at end (pattern_of t base j) vars vars₁ None
            miss_first {vars₁} p f =
                let (x, y, h) = node_line t base j e n refl i in
                as_line _ h (misses_first x (here y) (subst (Matches s (at + 1) None (pattern_of t base a) vars vars₁) p (record_of then f)))
