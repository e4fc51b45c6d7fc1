-- How many letters a pattern has with its variables' letters put in, up to the first that is too large: of a flat pattern number by number, of a P
-- line by the lines that it names.
use Prim.Native.Nat.{ℕ, zero, suc, ◌+◌, ◌-◌, ◌≤◌, ◌<◌, min}
use native.Mathlib.Nat.{zero-add}
use native.Mathlib.Omega.{arith}
use mathlib.Core.Path.{◌≡◌, refl, sym, ap, ◌∙◌, subst}
use mathlib.Core.Bool.{Bool, true, false}
use mathlib.Core.List.{List, [], ◌∷◌, ◌++◌, append_assoc, append-nil}
use lib.Dec.{eqb}
use lib.ListN.{length, get_or, drop, length-append}
use lib.Seq.{length-slice}
use Rattle.limits.specs.Limits.{variables, max_letters}
use Rattle.calculus.specs.Trees.{Leaf, unit_leaf, empty_leaf, Tag, left, right, Node, pair_node, element_node, Pat, pleaf, pvar, pinj, pnode}
use Rattle.calculus.specs.Letters.{leaf_letter, letter_of, node_letter}
use Rattle.table_trees.specs.Unfolding.{cell_of, smaller_of, pattern_of}
use Rattle.calculus.proofs.Basic.{eqb_eq, eqb_false}
use Rattle.table_trees.proofs.Cases.{Joins, pairs, elements}
use Rattle.table_trees.proofs.Lines.{is_var, is_left, is_right, is_pair, is_empty, is_element, is_unit}
use Rattle.run_values.specs.Texts.{Below, range_of, built}
use Rattle.run_flat.specs.Flat.{flat, stop, Stands}
use Rattle.run_flat.proofs.Following.{number_here, behind_number, number_within}
use Rattle.run_flat.proofs.Writing.{flats, Fews, builts}

-- so many letters a pattern has, by whatever area the ranges lie in
abbrev pub Long : ℕ → List ℕ → Pat → Type 0
Long r vars p = (s : List ℕ) → Below vars (length s) → r ≡ min (length (built p s vars)) (suc max_letters)

-- a variable's letters
range_letters : (vars : List ℕ) (n : ℕ) (s : List ℕ) → Below vars (length s) → length (range_of s vars n) ≡ get_or vars (variables + n) 0 - get_or vars n 0
range_letters vars n s b = length-slice (get_or vars n 0) (get_or vars (variables + n) 0) s (b.ends n)

pub long_var : (vars : List ℕ) (n : ℕ) {p : Pat} {r : ℕ} → p ≡ pvar n → r ≡ min (get_or vars (variables + n) 0 - get_or vars n 0) (suc max_letters) → Long r vars p
long_var vars n {p} {r} is e s b =
    e ∙ ap (λ k. min k (suc max_letters)) (sym (range_letters vars n s b)) ∙ ap (λ q. min (length (built q s vars)) (suc max_letters)) (sym is)

-- ---- a flat pattern

-- letters lie between the variables and the stop
leaf_between : (l : Leaf) → (variables ≤ leaf_letter l) × (leaf_letter l < stop)
leaf_between unit_leaf = (omega arith, omega arith)
leaf_between empty_leaf = (omega arith, omega arith)

tag_between : (t : Tag) → (variables ≤ letter_of t) × (letter_of t < stop)
tag_between left = (omega arith, omega arith)
tag_between right = (omega arith, omega arith)

node_between : (k : Node) → (variables ≤ node_letter k) × (node_letter k < stop)
node_between pair_node = (omega arith, omega arith)
node_between element_node = (omega arith, omega arith)

-- the patterns that are still to be measured behind number k of the code
pub record Due (code : List ℕ) (k : ℕ) : Type 0 where
  pub due : List Pat
  pub rest : List ℕ
  pub codes : drop k code ≡ flats due ++ (stop ∷ rest)
  pub few : Fews due

-- number k: the stop, a variable, or a letter, and the patterns behind it; n letters are still to be counted
data Ahead (code s vars : List ℕ) (k n : ℕ) : Type 0 where
  ends : get_or code k 0 ≡ stop → n ≡ 0 → Ahead code s vars k n
  range : (m : ℕ) → m < variables → get_or code k 0 ≡ m → (d : Due code (k + 1)) → n ≡ length (range_of s vars m) + length (builts d.due s vars) → Ahead code s vars k n
  letter : variables ≤ get_or code k 0 → get_or code k 0 < stop → (d : Due code (k + 1)) → n ≡ suc (length (builts d.due s vars)) → Ahead code s vars k n

ahead : (code s vars : List ℕ) (k : ℕ) (d : Due code k) → Ahead code s vars k (length (builts d.due s vars)) × (k < length code)
ahead code s vars k d = go d.due d.codes d.few
  where
    behind : (ps : List Pat) (x : ℕ) → drop k code ≡ x ∷ (flats ps ++ (stop ∷ d.rest)) → Fews ps → Due code (k + 1)
    behind ps x c f = record { due = ps; rest = d.rest; codes = behind_number code k x _ c; few = f }

    lettered : (x n : ℕ) (ps : List Pat) → (variables ≤ x) × (x < stop) → drop k code ≡ x ∷ (flats ps ++ (stop ∷ d.rest)) → Fews ps
        → n ≡ suc (length (builts ps s vars)) → Ahead code s vars k n × (k < length code)
    lettered x n ps y c f e =
        let is = number_here code k x _ c in
        let low = y.0 in
        let high = y.1 in
        (Ahead.letter (omega (arith, is, low)) (omega (arith, is, high)) (behind ps x c f) e, number_within code k x _ c)

    go : (ps : List Pat) → drop k code ≡ flats ps ++ (stop ∷ d.rest) → Fews ps → Ahead code s vars k (length (builts ps s vars)) × (k < length code)
    go [] c f = (Ahead.ends (number_here code k _ _ c) refl, number_within code k _ _ c)
    go (pvar m ∷ ps) c f =
        (Ahead.range m f.0 (number_here code k _ _ c) (behind ps m c f.1) (length-append (range_of s vars m) (builts ps s vars)), number_within code k _ _ c)
    go (pleaf l ∷ ps) c f = lettered (leaf_letter l) _ ps (leaf_between l) c f.1 refl
    go (pinj t p ∷ ps) c f = lettered (letter_of t) _ (p ∷ ps) (tag_between t) c f refl
    go (pnode m p q ∷ ps) c f =
        lettered (node_letter m) _ (p ∷ (q ∷ ps)) (node_between m) (c ∙ ap (λ ys. node_letter m ∷ (ys ++ (stop ∷ d.rest))) (append_assoc (flat p) (flat q) (flats ps)))
        (f.0.0, (f.0.1, f.1)) (ap (λ ys. suc (length ys)) (append_assoc (built p s vars) (built q s vars) (builts ps s vars)))

-- what is known before number k: of all letters the first n are counted
pub record Measured (code s vars : List ℕ) (all k n : ℕ) : Type 0 where
  pub ahead : Due code k
  pub done : ℕ
  pub whole : all ≡ done + length (builts ahead.due s vars)
  pub told : n ≡ min done (suc max_letters)

pub measured_start : {code : List ℕ} {k : ℕ} {q : Pat} (s vars : List ℕ) → Stands code k q → Measured code s vars (length (built q s vars)) k 0
measured_start {q = q} s vars c =
    record {
      ahead = record { due = q ∷ []; rest = c.rest; codes = c.spells ∙ sym (append_assoc (flat q) [] (stop ∷ c.rest)); few = (c.few, tt) };
      done = 0;
      whole = ap length (sym (append-nil (built q s vars))) ∙ sym (zero-add (length (builts (q ∷ []) s vars)));
      told = refl;
    }

module _ {code s vars : List ℕ} {all k n : ℕ} (m : Measured code s vars all k n) where
  pub measured_within : k < length code
  measured_within = (ahead code s vars k m.ahead).1

  pub measured_stop : {o : ℕ} → o ≡ get_or code k 0 → o ≡ stop → n ≡ min all (suc max_letters)
  measured_stop {o} eo is = go (ahead code s vars k m.ahead).0
    where
      go : Ahead code s vars k (length (builts m.ahead.due s vars)) → n ≡ min all (suc max_letters)
      go (Ahead.ends e z) = let w = m.whole in let t = m.told in omega (arith, w, z, t)
      go (Ahead.range x less e d z) = absurd (omega (arith, eo, is, less, e))
      go (Ahead.letter low high d z) = absurd (omega (arith, eo, is, high))

  pub measured_var : {o x y n' : ℕ} → Below vars (length s) → o ≡ get_or code k 0 → o < variables → x ≡ o
      → y ≡ min (get_or vars (variables + x) 0 - get_or vars x 0) (suc max_letters) → n' ≡ min (n + y) (suc max_letters) → Measured code s vars all (k + 1) n'
  measured_var {o} {x} {y} {n'} b eo small ex ey en = go (ahead code s vars k m.ahead).0
    where
      go : Ahead code s vars k (length (builts m.ahead.due s vars)) → Measured code s vars all (k + 1) n'
      go (Ahead.ends e z) = absurd (omega (arith, eo, small, e))
      go (Ahead.letter low high d z) = absurd (omega (arith, eo, small, low))
      go (Ahead.range v less e d z) =
          let same : x ≡ v = ex ∙ eo ∙ e in
          let long : y ≡ min (length (range_of s vars v)) (suc max_letters) =
          ey ∙ ap (λ k. min (get_or vars (variables + k) 0 - get_or vars k 0) (suc max_letters)) same ∙ ap (λ k. min k (suc max_letters)) (sym (range_letters vars v s b)) in
          let w = m.whole in
          let t = m.told in
          record { ahead = d; done = m.done + length (range_of s vars v); whole = omega (arith, w, z); told = omega (arith, en, t, long) }

  pub measured_letter : {o n' : ℕ} → o ≡ get_or code k 0 → variables ≤ o → (o ≡ stop → ⊥) → n' ≡ min (n + 1) (suc max_letters) → Measured code s vars all (k + 1) n'
  measured_letter {o} {n'} eo large other en = go (ahead code s vars k m.ahead).0
    where
      go : Ahead code s vars k (length (builts m.ahead.due s vars)) → Measured code s vars all (k + 1) n'
      go (Ahead.ends e z) = absurd (other (eo ∙ e))
      go (Ahead.range v less e d z) = absurd (omega (arith, eo, large, less, e))
      go (Ahead.letter low high d z) =
          let w = m.whole in let t = m.told in record { ahead = d; done = m.done + 1; whole = omega (arith, w, z); told = omega (arith, en, t) }

-- ---- P lines: k is the kind of line j, q and r are the lines that it names

module _ (t : List ℕ) (base j : ℕ) {vars : List ℕ} {k : ℕ} (e : k ≡ cell_of t (base + j) 1) where
  long_as : {p : Pat} {n : ℕ} → pattern_of t base j ≡ p → Long n vars p → Long n vars (pattern_of t base j)
  long_as {p} {n} is l = subst (Long n vars) (sym is) l

  pub line_var : {x n : ℕ} → k ≡ 1 → x ≡ cell_of t (base + j) 2 → n ≡ min (get_or vars (variables + x) 0 - get_or vars x 0) (suc max_letters) → Long n vars (pattern_of t base j)
  line_var {x} z f h = long_as (is_var t base j e z ∙ ap pvar (sym f)) (long_var vars x refl h)

  pub line_pair : {q r a b n : ℕ} → Joins k → q ≡ smaller_of (cell_of t (base + j) 2) j → r ≡ smaller_of (cell_of t (base + j) 3) j → Long a vars (pattern_of t base q)
      → Long b vars (pattern_of t base r) → n ≡ min (1 + a + b) (suc max_letters) → Long n vars (pattern_of t base j)
  line_pair {q} {r} {a} {b} {n} z f g la lb h = go k refl z
    where
      above : (node : Node) → Long n vars (pnode node (pattern_of t base q) (pattern_of t base r))
      above node s w =
          let x = la s w in
          let y = lb s w in
          let l = length-append (built (pattern_of t base q) s vars) (built (pattern_of t base r) s vars) in
          omega (arith, h, x, y, l)

      go : (i : ℕ) → k ≡ i → Joins i → Long n vars (pattern_of t base j)
      go _ z pairs = long_as (is_pair t base j e z f g) (above pair_node)
      go _ z elements = long_as (is_element t base j e z f g) (above element_node)

  pub line_inj : {q a n : ℕ} → 2 ≤ k → k < 4 → q ≡ smaller_of (cell_of t (base + j) 2) j → Long a vars (pattern_of t base q) → n ≡ min (1 + a) (suc max_letters)
      → Long n vars (pattern_of t base j)
  line_inj {q} {a} {n} low high f la h = go k refl
    where
      under : (tag : Tag) → Long n vars (pinj tag (pattern_of t base q))
      under tag s w = let x = la s w in omega (arith, h, x)

      go : (i : ℕ) → k ≡ i → Long n vars (pattern_of t base j)
      go zero z = absurd (omega (arith, z))
      go (suc zero) z = absurd (omega (arith, z))
      go (suc (suc zero)) z = long_as (is_left t base j e z f) (under left)
      go (suc (suc (suc zero))) z = long_as (is_right t base j e z f) (under right)
      go (suc (suc (suc (suc i)))) z = absurd (omega (arith, z))

  -- a unit, an empty list, or a number that is no kind
  pub line_leaf : (k ≡ 1 → ⊥) → (k ≡ 2 → ⊥) → (k ≡ 3 → ⊥) → (k ≡ 4 → ⊥) → (k ≡ 6 → ⊥) → Long 1 vars (pattern_of t base j)
  line_leaf v l r b m = go (eqb k 5) refl
    where
      go : (x : Bool) → eqb k 5 ≡ x → Long 1 vars (pattern_of t base j)
      go true h = long_as (is_empty t base j e (eqb_eq k 5 h)) (λ s w. refl)
      go false h = long_as (is_unit t base j e v l r b (eqb_false h) m) (λ s w. refl)
