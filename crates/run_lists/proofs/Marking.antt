-- What the walks of the crate have told so far: types, L rows, clauses, the isos in order.
use Prim.Native.Nat.{ℕ, zero, suc, ◌+◌, ◌-◌, ◌≤◌, ◌<◌}
use native.Mathlib.Omega.{arith}
use mathlib.Core.Path.{◌≡◌, refl, sym, ap, ap₂, ◌∙◌, subst}
use mathlib.Core.Bool.{Bool, true, false, not, ◌&&◌}
use mathlib.Core.List.{List, [], ◌∷◌, ◌++◌}
use lib.Dec.{eqb}
use lib.ListN.{length, length-append, get_or, set, replicate}
use mir.Val.{bool_byte as from_bool}
use Rattle.calculus.specs.Tools.{all}
use Rattle.calculus.specs.Trees.{Ty, Let, Clause}
use Rattle.calculus.specs.Lists.{list_free, free_iso, free_from, free_isos, is_free}
use Rattle.calculus.proofs.Basic.{eq_eqb, not_eqb}
use Rattle.format.specs.Lines.{Row}
use Rattle.format.specs.Unfold.{isos_of}
use Rattle.format.proofs.Passing.{Passes}
use Rattle.model.proofs.Sizes.{few_isos}
use Rattle.format.specs.Judge.{start, type_node}
use Rattle.table_trees.specs.Unfolding.{cell_of, smaller_of, type_of}
use Rattle.table_trees.proofs.Cases.{Parted, sums, products, Whole, whole_below, whole_past, node_whole}
use Rattle.table_trees.proofs.Lines.{line_node, line_list}
use Rattle.table_walks.specs.InTable.{let_at, lets_in}
use Rattle.run_index.specs.Index.{place_at, clause_at, clauses_at, iso_between, iso_at, isos_at}
use Rattle.run_lists.specs.Marks.{Holds, LetsTold, ClausesTold, IsoTold, AllMarked, FreeTold}

-- ---- a type

-- a unit, or a number that is no kind
pub whole_other : (k : ℕ) → (k ≡ 1 → ⊥) → (k ≡ 2 → ⊥) → (k ≡ 3 → ⊥) → Whole k
whole_other zero a b c = whole_below 0 (omega arith)
whole_other (suc zero) a b c = absurd (a refl)
whole_other (suc (suc zero)) a b c = absurd (b refl)
whole_other (suc (suc (suc zero))) a b c = absurd (c refl)
whole_other (suc (suc (suc (suc k)))) a b c = whole_past (suc (suc (suc (suc k)))) (omega arith)

module _ (t : List ℕ) (i : ℕ) {k : ℕ} (e : k ≡ cell_of t i 1) where
  pub free_not : k ≡ 3 → false ≡ list_free (type_of t i)
  free_not z = sym (ap list_free (line_list t i e refl z))

  pub free_whole : Whole k → true ≡ list_free (type_of t i)
  free_whole w = sym (ap list_free (line_node t i e refl refl ∙ node_whole (type_of t (smaller_of (cell_of t i 2) i)) (type_of t (smaller_of (cell_of t i 3) i)) w))

  node_free : {m : ℕ} → Parted m → (a b : Ty) → list_free (type_node m a b) ≡ (list_free a && list_free b)
  node_free sums a b = refl
  node_free products a b = refl

  -- a sum or a product
  module _ (p : Parted k) {l : ℕ} (nl : l ≡ smaller_of (cell_of t i 2) i) where
    by_parts : (r : ℕ) → r ≡ smaller_of (cell_of t i 3) i → list_free (type_of t i) ≡ (list_free (type_of t l) && list_free (type_of t r))
    by_parts r nr = ap list_free (line_node t i e nl nr) ∙ node_free p (type_of t l) (type_of t r)

    pub free_first : {b : Bool} → b ≡ list_free (type_of t l) → b ≡ false → false ≡ list_free (type_of t i)
    free_first f z = sym (by_parts (smaller_of (cell_of t i 3) i) refl ∙ ap (λ x. x && list_free (type_of t (smaller_of (cell_of t i 3) i))) (sym f ∙ z))

    pub free_both : {r : ℕ} {b c : Bool} → b ≡ list_free (type_of t l) → b ≡ true → r ≡ smaller_of (cell_of t i 3) i → c ≡ list_free (type_of t r) → c ≡ list_free (type_of t i)
    free_both {r} f z nr g = g ∙ sym (by_parts r nr ∙ ap (λ x. x && list_free (type_of t r)) (sym f ∙ z))

-- ---- L rows and clauses

-- a list of things, from place n on up to `end`, has all that the one from the first place on has
module _ {A : Type 0} (f : A → Bool) (from : ℕ → ℕ → List A) (one : ℕ → A) (more : (n count : ℕ) → from n (suc count) ≡ one n ∷ from (suc n) count)
    (none_left : (n : ℕ) → from n 0 ≡ []) (start end : ℕ) where
  abbrev AllFrom : ℕ → Type 0
  AllFrom n = all f (from start (end - start)) ≡ all f (from n (end - n))

  all_step : {n : ℕ} → AllFrom n → n < end → all f (from start (end - start)) ≡ (f (one n) && all f (from (n + 1) (end - (n + 1))))
  all_step {n} a h =
      let count : end - n ≡ suc (end - (n + 1)) = omega arith in
      let next : suc n ≡ n + 1 = omega arith in
      a ∙ ap (λ c. all f (from n c)) count ∙ ap (all f) (more n (end - (n + 1))) ∙ ap (λ m. f (one n) && all f (from m (end - (n + 1)))) next

  all_false : {n : ℕ} → AllFrom n → n < end → f (one n) ≡ false → false ≡ all f (from start (end - start))
  all_false {n} a h z = sym (all_step a h ∙ ap (λ b. b && all f (from (n + 1) (end - (n + 1)))) z)

  all_next : {n : ℕ} → AllFrom n → n < end → f (one n) ≡ true → AllFrom (n + 1)
  all_next {n} a h z = all_step a h ∙ ap (λ b. b && all f (from (n + 1) (end - (n + 1)))) z

  all_end : {n : ℕ} → AllFrom n → end ≤ n → true ≡ all f (from start (end - start))
  all_end {n} a h =
      let count : end - n ≡ 0 = omega arith in
      sym (a ∙ ap (λ c. all f (from n c)) count ∙ ap (all f) (none_left n))

abbrev let_free : List Bool → Let → Bool
let_free known l = get_or known l.iso true

-- the L rows from n on tell what all of them tell
pub record LetsFrom (t marks : List ℕ) (row end n : ℕ) : Type 0 where
  pub is : (base : ℕ) (known : List Bool) → Holds marks known
      → all (λ l. get_or known l.iso true) (lets_in t base row (end - row)) ≡ all (λ l. get_or known l.iso true) (lets_in t base n (end - n))

pub lets_start : (t marks : List ℕ) (row end : ℕ) → LetsFrom t marks row end row
lets_start t marks row end = record { is = λ base known h. refl }

module _ {t marks : List ℕ} {row end n : ℕ} (a : LetsFrom t marks row end n) where
  module _ (h : n < end) {x b : ℕ} (ex : x ≡ cell_of t n 2) (eb : b ≡ get_or marks x 0) where
    marked : (known : List Bool) → Holds marks known → get_or known (cell_of t n 2) true ≡ eqb b 0
    marked known k = sym (k (cell_of t n 2)) ∙ ap (λ z. eqb z 0) (sym (eb ∙ ap (λ z. get_or marks z 0) ex))

    pub lets_marked : (b ≡ 0 → ⊥) → LetsTold t marks row end false
    lets_marked z base known k =
        all_false (let_free known) (lets_in t base) (let_at t base) (λ m count. refl) (λ m. refl) row end (a.is base known k) h
        (marked known k ∙ not_eqb z)

    pub lets_next : b ≡ 0 → LetsFrom t marks row end (n + 1)
    lets_next z =
        record {
          is = λ base known k.
              all_next (let_free known) (lets_in t base) (let_at t base) (λ m count. refl) (λ m. refl) row end (a.is base known k) h
              (marked known k ∙ eq_eqb z);
        }

  pub lets_end : end ≤ n → LetsTold t marks row end true
  lets_end h base known k =
      all_end (let_free known) (lets_in t base) (let_at t base) (λ m count. refl) (λ m. refl) row end (a.is base known k) h

abbrev clause_free : List Bool → Clause → Bool
clause_free known c = all (λ l. get_or known l.iso true) c.lets

-- the clauses from place n on tell what all of them tell
pub record ClausesFrom (t marks index : List ℕ) (m end n : ℕ) : Type 0 where
  pub is : (base : ℕ) (known : List Bool) → Holds marks known
      → all (λ c. all (λ l. get_or known l.iso true) c.lets) (clauses_at t base index m (end - m))
      ≡ all (λ c. all (λ l. get_or known l.iso true) c.lets) (clauses_at t base index n (end - n))

pub clauses_start : (t marks index : List ℕ) (m end : ℕ) → ClausesFrom t marks index m end m
clauses_start t marks index m end = record { is = λ base known h. refl }

module _ {t marks index : List ℕ} {m end n : ℕ} (a : ClausesFrom t marks index m end n) where
  module _ (h : n < end) {row next : ℕ} (er : row ≡ place_at index n) (en : next ≡ place_at index (n + 1)) {b : Bool} (told : LetsTold t marks (row + 1) next b) where
    of_clause : (base : ℕ) (known : List Bool) → Holds marks known → clause_free known (clause_at t base index n) ≡ b
    of_clause base known k =
        let x : suc (place_at index n) ≡ row + 1 = omega arith in
        let one : suc n ≡ n + 1 = omega arith in
        let y : place_at index (suc n) ≡ next = ap (place_at index) one ∙ sym en in
        ap₂ (λ u v. all (let_free known) (lets_in t base u (v - u))) x y ∙ sym (told base known k)

    pub clauses_marked : b ≡ false → ClausesTold t marks index m end false
    clauses_marked z base known k =
        all_false (clause_free known) (clauses_at t base index) (clause_at t base index) (λ u count. refl) (λ u. refl) m end (a.is base known k) h
        (of_clause base known k ∙ z)

    pub clauses_next : b ≡ true → ClausesFrom t marks index m end (n + 1)
    clauses_next z =
        record {
          is = λ base known k.
              all_next (clause_free known) (clauses_at t base index) (clause_at t base index) (λ u count. refl) (λ u. refl) m end (a.is base known k) h
              (of_clause base known k ∙ z);
        }

  pub clauses_end : end ≤ n → ClausesTold t marks index m end true
  clauses_end h base known k =
      all_end (clause_free known) (clauses_at t base index) (clause_at t base index) (λ u count. refl) (λ u. refl) m end (a.is base known k) h

-- ---- isos in order

holds_snoc : (marks : List ℕ) (known : List Bool) (n : ℕ) (x : Bool) → length known < length marks → eqb n 0 ≡ x → Holds marks known
    → Holds (set marks (length known) n) (known ++ (x ∷ []))
holds_snoc [] known n x h e k j = absurd (omega arith)
holds_snoc (a ∷ marks) [] n x h e k zero = e
holds_snoc (a ∷ marks) [] n x h e k (suc j) = k (suc j)
holds_snoc (a ∷ marks) (b ∷ known) n x h e k zero = k zero
holds_snoc (a ∷ marks) (b ∷ known) n x h e k (suc j) = holds_snoc marks known n x (omega arith) e (λ i. k (suc i)) j

-- what is known of the first i isos, with which the others give what all give
pub record Front (t index : List ℕ) (base isos i : ℕ) (marks : List ℕ) : Type 0 where
  pub known : List Bool
  pub count : length known ≡ i
  pub held : Holds marks known
  pub others : free_from known (isos_at t base index i (isos - i)) ≡ free_from [] (isos_at t base index 0 isos)

pub record Marking (t index : List ℕ) (isos : ℕ) (marks₀ marks : List ℕ) (i : ℕ) : Type 0 where
  pub kept : length marks ≡ length marks₀
  pub below : i ≤ isos
  pub front : (base : ℕ) → isos ≤ length marks₀ → Holds marks₀ [] → Front t index base isos i marks

pub marking_start : (t index : List ℕ) (isos : ℕ) (marks : List ℕ) → Marking t index isos marks marks 0
marking_start t index isos marks =
    record {
      kept = refl;
      below = omega arith;
      front = λ base h k. record { known = []; count = refl; held = k; others = ap (λ p. free_from [] (isos_at t base index 0 p)) none_yet };
    }
  where
    none_yet : isos - 0 ≡ isos
    none_yet = omega arith

-- an iso's mark is 0 where it has nothing to do with lists
zero_free : (b : Bool) → eqb (from_bool (not b)) 0 ≡ b
zero_free true = refl
zero_free false = refl

pub marking_step : {t index : List ℕ} {isos : ℕ} {marks₀ marks : List ℕ} {i : ℕ} → Marking t index isos marks₀ marks i → i < isos
    → (m end : ℕ) (free : Bool) (n : ℕ) (marks' : List ℕ) → m ≡ place_at index i → end ≡ place_at index (i + 1) → IsoTold t marks index m end free
    → n ≡ from_bool (not free) → length marks' ≡ length marks → marks' ≡ set marks i n → Marking t index isos marks₀ marks' (i + 1)
marking_step {t} {index} {isos} {marks₀} {marks} {i} r h m end free n marks' em ee told is el ek =
    record {
      kept = el ∙ r.kept;
      below = omega arith;
      front = λ base b k.
          let f = r.front base b k in
          let x : Bool = free_iso f.known (iso_at t base index i) in
          let one : i + 1 ≡ suc i = omega arith in
          let v : eqb n 0 ≡ x =
          ap (λ z. eqb z 0) is ∙ zero_free free ∙ told base f.known f.held ∙ ap₂ (λ u q. free_iso f.known (iso_between t base index u q)) em (ee ∙ ap (place_at index) one) in
          let c = f.count in
          let l = r.kept in
          let more : isos - i ≡ suc (isos - suc i) = omega arith in
          let s = holds_snoc marks f.known n x (omega arith) v f.held in
          record {
            known = f.known ++ (x ∷ []);
            count = length-append f.known (x ∷ []) ∙ ap (λ p. p + 1) c;
            held = subst (λ z. Holds z (f.known ++ (x ∷ []))) (ap (λ p. set marks p n) c ∙ sym ek) s;
            others =
                ap (λ u. free_from (f.known ++ (x ∷ [])) (isos_at t base index u (isos - u))) one
                ∙ sym (ap (λ u. free_from f.known (isos_at t base index i u)) more)
                ∙ f.others;
          };
    }

pub marking_end : {t index : List ℕ} {isos : ℕ} {marks₀ marks : List ℕ} {i : ℕ} → Marking t index isos marks₀ marks i → isos ≤ i
    → (base : ℕ) → isos ≤ length marks₀ → Holds marks₀ [] → Holds marks (free_from [] (isos_at t base index 0 isos))
marking_end {t} {index} {isos} {marks₀} {marks} {i} r h base b k =
    let f = r.front base b k in
    let z : isos - i ≡ 0 = omega arith in
    subst (Holds marks) (sym (ap (λ p. free_from f.known (isos_at t base index i p)) z) ∙ f.others) f.held

-- an area of zeros, in which nothing is known
pub zeros : (n : ℕ) → Holds (replicate n 0) []
zeros zero j = refl
zeros (suc n) zero = refl
zeros (suc n) (suc j) = zeros n j

-- ---- a file's isos, in an indexed table

module _ (t index : List ℕ) (base isos : ℕ) (rs : List Row) (passes : Passes start rs) (indexed : isos_of rs ≡ isos_at t base index 0 isos) (count : isos ≡ length (isos_of rs)) where
  few : isos ≤ 32
  few = let n = few_isos passes in omega arith

  -- the marks
  pub marks_of : (marks : List ℕ) → AllMarked t index isos (replicate 32 0) marks → (i : ℕ) → eqb (get_or marks i 0) 0 ≡ is_free (isos_of rs) i
  unfolding free_isos
  marks_of marks m i = m base few (zeros 32) i ∙ ap (λ xs. get_or (free_from [] xs) i true) (sym indexed)

  -- whether one has none
  pub free_of : (i : ℕ) {b : Bool} → FreeTold t index isos i b → b ≡ is_free (isos_of rs) i
  unfolding free_isos
  free_of i f = f base few ∙ ap (λ xs. get_or (free_from [] xs) i true) (sym indexed)
