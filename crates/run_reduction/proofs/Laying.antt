-- The isos of a direction by table and index: each clause's sides and let steps, as the code finds them.
use Prim.Native.Nat.{ℕ, zero, suc, ◌+◌, ◌-◌, ◌≤◌, ◌<◌}
use native.Mathlib.Nat.{zero-add, add-zero, add-suc, suc-add, le_of_suc-le-suc, not-suc-le-zero}
use native.Mathlib.Omega.{arith}
use mathlib.Core.Path.{◌≡◌, refl, sym, ap, ap₂, ◌∙◌, subst}
use mathlib.Core.Bool.{Bool, true, false, cond}
use mathlib.Core.Option.{some}
use mathlib.Core.Logic.{◌⊎◌, inl, inr}
use mathlib.Core.List.{List, [], ◌∷◌, ◌++◌, map, reverse, reverse-cons}
use lib.Dec.{ltb}
use lib.ListN.{length, get_or, get_elem?, drop, length-map, length-reverse, get_or-map, get_or-append, get_or-eq_default}
use lib.Seq.{drop-cons, get_or-append_seam}
use Rattle.calculus.specs.Trees.{Let, Clause, Iso, invert_let, invert_clause, invert}
use Rattle.format.specs.Lines.{Row}
use Rattle.format.specs.Judge.{start}
use Rattle.format.specs.Unfold.{isos_of}
use Rattle.model.specs.Services.{toward}
use Rattle.calculus.proofs.Basic.{none≢some, some_inj, index_of_map, bool_cases, ltb_lt, ltb_false}
use Rattle.format.proofs.Passing.{Passes}
use Rattle.format.proofs.Turning.{isos_turn}
use Rattle.table_trees.specs.Unfolding.{cell_of, type_of, pattern_of}
use Rattle.table_walks.specs.InTable.{let_at, lets_in, clause_in}
use Rattle.run_index.specs.Index.{place_at, clauses_at, iso_at, isos_at}
use Rattle.run_reduction.specs.Frames.{sided, sided_clause, sided_let, sided_lets, Laid}

-- an element within a list
pub inside : {A : Type 0} (xs : List A) (i : ℕ) → i < length xs → (x : A) × (get_elem? xs i ≡ some x)
inside [] i h = absurd (not-suc-le-zero h)
inside (x ∷ xs) zero h = (x, refl)
inside (x ∷ xs) (suc i) h = inside xs i (le_of_suc-le-suc h)

-- ---- isos

iso_of : (t : List ℕ) (base : ℕ) (index : List ℕ) (a n i : ℕ) {o : Iso} → get_elem? (isos_at t base index a n) i ≡ some o → o ≡ iso_at t base index (a + i)
iso_of t base index a zero i e = absurd (none≢some e)
iso_of t base index a (suc n) zero e = sym (some_inj e) ∙ ap (iso_at t base index) (sym (add-zero a))
iso_of t base index a (suc n) (suc i) e =
    iso_of t base index (suc a) n i e ∙ ap (iso_at t base index) (suc-add a i ∙ sym (add-suc a i))

-- the isos of a file in a direction
pub laid : (t : List ℕ) (base : ℕ) (index : List ℕ) (isos : ℕ) (rs : List Row) → Passes start rs → isos_of rs ≡ isos_at t base index 0 isos → (back : Bool)
    → Laid t base index back (isos_of (toward back rs))
laid t base index isos rs ps e false =
    record { isos = λ i o h. iso_of t base index 0 isos i (subst (λ os. get_elem? os i ≡ some o) e h) ∙ ap (iso_at t base index) (zero-add i) }
laid t base index isos rs ps e true =
    record {
      isos = λ i o h.
          let k = index_of_map invert (isos_of rs) i (subst (λ os. get_elem? os i ≡ some o) (isos_turn rs ps) h) in
          let f = iso_of t base index 0 isos i (subst (λ os. get_elem? os i ≡ some k.0) e k.1) in
          sym k.2 ∙ ap invert (f ∙ ap (iso_at t base index) (zero-add i));
    }

-- ---- clauses

-- clause k of a list by index, and its bound
clause_of : (t : List ℕ) (base : ℕ) (index : List ℕ) (m n k : ℕ) {c : Clause} → get_elem? (clauses_at t base index m n) k ≡ some c
    → (k < n) × (c ≡ clause_in t base (place_at index (m + k)) (place_at index (suc (m + k))))
clause_of t base index m zero k e = absurd (none≢some e)
clause_of t base index m (suc n) zero e =
    (omega arith, sym (some_inj e) ∙ ap (λ i. clause_in t base (place_at index i) (place_at index (suc i))) (sym (add-zero m)))
clause_of t base index m (suc n) (suc k) e =
    let r = clause_of t base index (suc m) n k e in
    let h = r.0 in
    (omega (arith, h), r.1 ∙ ap (λ i. clause_in t base (place_at index i) (place_at index (suc i))) (suc-add m k ∙ sym (add-suc m k)))

-- clause k of iso i in a direction stands at place `suc m + k`, m being the iso's
pub clause_at : (t : List ℕ) (base : ℕ) (index : List ℕ) (back : Bool) (i k : ℕ) {c : Clause} → get_elem? (sided back (iso_at t base index i)).clauses k ≡ some c
    → (place_at index i + 1 + k < place_at index (suc i))
    × (c ≡ sided_clause back (clause_in t base (place_at index (place_at index i + 1 + k)) (place_at index (place_at index i + 1 + k + 1))))
clause_at t base index false i k {c} e =
    let r = clause_of t base index (suc (place_at index i)) (place_at index (suc i) - suc (place_at index i)) k e in
    let h = r.0 in
    let p : suc (place_at index i) + k ≡ place_at index i + 1 + k = omega arith in
    let q : suc (suc (place_at index i) + k) ≡ place_at index i + 1 + k + 1 = omega arith in
    (omega (arith, h), r.1 ∙ ap₂ (λ a b. clause_in t base (place_at index a) (place_at index b)) p q)
clause_at t base index true i k {c} e =
    let g = index_of_map invert_clause (clauses_at t base index (suc (place_at index i)) (place_at index (suc i) - suc (place_at index i))) k e in
    let r = clause_of t base index (suc (place_at index i)) (place_at index (suc i) - suc (place_at index i)) k g.1 in
    let h = r.0 in
    let p : suc (place_at index i) + k ≡ place_at index i + 1 + k = omega arith in
    let q : suc (suc (place_at index i) + k) ≡ place_at index i + 1 + k + 1 = omega arith in
    (omega (arith, h), sym g.2 ∙ ap invert_clause (r.1 ∙ ap₂ (λ a b. clause_in t base (place_at index a) (place_at index b)) p q))

-- its sides
pub lhs_at : (t : List ℕ) (base : ℕ) (back : Bool) (row end : ℕ) → (sided_clause back (clause_in t base row end)).lhs ≡ pattern_of t base (cell_of t row (cond back 2 1))
lhs_at t base false row end = refl
lhs_at t base true row end = refl

pub rhs_at : (t : List ℕ) (base : ℕ) (back : Bool) (row end : ℕ) → (sided_clause back (clause_in t base row end)).rhs ≡ pattern_of t base (cell_of t row (cond back 1 2))
rhs_at t base false row end = refl
rhs_at t base true row end = refl

-- and its let steps
pub lets_at : (t : List ℕ) (base : ℕ) (back : Bool) (row end : ℕ)
    → (sided_clause back (clause_in t base row end)).lets ≡ sided_lets back t base (row + 1) (end - (row + 1))
lets_at t base false row end = ap (λ n. lets_in t base n (end - n)) (omega arith)
lets_at t base true row end = ap (λ n. reverse (map invert_let (lets_in t base n (end - n)))) (omega arith)

-- ---- let steps

length_lets : (t : List ℕ) (base from n : ℕ) → length (lets_in t base from n) ≡ n
length_lets t base from zero = refl
length_lets t base from (suc n) = ap suc (length_lets t base (suc from) n)

let_of : (t : List ℕ) (base from n k : ℕ) (d : Let) → k < n → get_or (lets_in t base from n) k d ≡ let_at t base (from + k)
let_of t base from zero k d h = absurd (not-suc-le-zero h)
let_of t base from (suc n) zero d h = ap (let_at t base) (sym (add-zero from))
let_of t base from (suc n) (suc k) d h = let_of t base (suc from) n k d (le_of_suc-le-suc h) ∙ ap (let_at t base) (suc-add from k ∙ sym (add-suc from k))

-- an element of a reversed list
reversed_last : {A : Type 0} (x : A) (xs : List A) (k : ℕ) (d : A) → k < suc (length xs) → (k < length xs → get_or (reverse xs) k d ≡ get_or xs (length xs - suc k) d)
    → get_or (reverse xs ++ (x ∷ [])) k d ≡ get_or (x ∷ xs) (suc (length xs) - suc k) d
reversed_last x xs k d h earlier = go (bool_cases (ltb k (length xs)))
  where
    go : (ltb k (length xs) ≡ true) ⊎ (ltb k (length xs) ≡ false) → get_or (reverse xs ++ (x ∷ [])) k d ≡ get_or (x ∷ xs) (suc (length xs) - suc k) d
    go (inl t) =
        let b : k < length xs = ltb_lt k (length xs) t in
        let n = length-reverse xs in
        let s : suc (length xs) - suc k ≡ suc (length xs - suc k) = omega arith in
        get_or-append (reverse xs) (x ∷ []) d k (omega (arith, n)) ∙ earlier b ∙ ap (λ m. get_or (x ∷ xs) m d) (sym s)
    go (inr f) =
        let b : length xs ≤ k = ltb_false k (length xs) f in
        let n = length-reverse xs in
        let e : k ≡ length (reverse xs) = omega (arith, n) in
        let z : suc (length xs) - suc k ≡ 0 = omega arith in
        ap (λ m. get_or (reverse xs ++ (x ∷ [])) m d) e ∙ get_or-append_seam (reverse xs) x [] d ∙ ap (λ m. get_or (x ∷ xs) m d) (sym z)

get_d_reverse : {A : Type 0} (l : List A) (k : ℕ) (d : A) → k < length l → get_or (reverse l) k d ≡ get_or l (length l - suc k) d
get_d_reverse [] k d h = absurd (not-suc-le-zero h)
get_d_reverse (x ∷ xs) k d h = ap (λ l. get_or l k d) (reverse-cons x xs) ∙ reversed_last x xs k d h (λ b. get_d_reverse xs k d b)

pub length_sided : (back : Bool) (t : List ℕ) (base from n : ℕ) → length (sided_lets back t base from n) ≡ n
length_sided false t base from n = length_lets t base from n
length_sided true t base from n =
    length-reverse (map invert_let (lets_in t base from n)) ∙ length-map (lets_in t base from n) invert_let ∙ length_lets t base from n

let_sided : (back : Bool) (t : List ℕ) (base from n k : ℕ) (d : Let) → k < n
    → get_or (sided_lets back t base from n) k (sided_let back d) ≡ sided_let back (let_at t base (from + cond back (n - suc k) k))
let_sided false t base from n k d h = let_of t base from n k d h
let_sided true t base from n k d h =
    let l : List Let = lets_in t base from n in
    let m : length (map invert_let l) ≡ n = length-map l invert_let ∙ length_lets t base from n in
    get_d_reverse (map invert_let l) k (invert_let d) (subst (λ j. k < j) (sym m) h)
    ∙ ap (λ j. get_or (map invert_let l) (j - suc k) (invert_let d)) m
    ∙ get_or-map invert_let l (n - suc k) d
    ∙ ap invert_let (let_of t base from n (n - suc k) d (omega arith))

-- the let steps from step k on
pub let_at_lem : (back : Bool) (t : List ℕ) (base from n k : ℕ) → k < n
    → drop k (sided_lets back t base from n) ≡ sided_let back (let_at t base (from + cond back (n - suc k) k)) ∷ drop (suc k) (sided_lets back t base from n)
let_at_lem back t base from n k h =
    let d : Let = let_at t base from in
    let m = length_sided back t base from n in
    drop-cons (sided_lets back t base from n) k (sided_let back d) (subst (λ j. k < j) (sym m) h)
    ∙ ap (λ l. l ∷ drop (suc k) (sided_lets back t base from n)) (let_sided back t base from n k d h)

-- what a let step is made of
pub let_q : (t : List ℕ) (base : ℕ) (back : Bool) (row : ℕ) → (sided_let back (let_at t base row)).q ≡ pattern_of t base (cell_of t row (cond back 1 3))
let_q t base false row = refl
let_q t base true row = refl

pub let_p : (t : List ℕ) (base : ℕ) (back : Bool) (row : ℕ) → (sided_let back (let_at t base row)).p ≡ pattern_of t base (cell_of t row (cond back 3 1))
let_p t base false row = refl
let_p t base true row = refl

pub let_iso : (t : List ℕ) (base : ℕ) (back : Bool) (row : ℕ) → (sided_let back (let_at t base row)).iso ≡ cell_of t row 2
let_iso t base false row = refl
let_iso t base true row = refl

-- the type that a run's value is of
pub from_at : (t : List ℕ) (base : ℕ) (index : List ℕ) (back : Bool) (i : ℕ)
    → (sided back (iso_at t base index i)).from ≡ type_of t (cell_of t (place_at index (place_at index i)) (cond back 2 1))
from_at t base index false i = refl
from_at t base index true i = refl

-- the row of let step k in each direction
pub row_back : {back : Bool} (from n k : ℕ) → back ≡ true → from + (n - (k + 1)) ≡ from + cond back (n - suc k) k
row_back {back} from n k e =
    let up : k + 1 ≡ suc k = omega arith in ap (λ j. from + (n - j)) up ∙ ap (λ b. from + cond b (n - suc k) k) (sym e)

pub row_forth : {back : Bool} (from n k : ℕ) → back ≡ false → from + k ≡ from + cond back (n - suc k) k
row_forth {back} from n k e = ap (λ b. from + cond b (n - suc k) k) (sym e)

-- past the end of an index there is nothing
pub past_index : (index : List ℕ) {m : ℕ} → length index ≤ m → 0 ≡ place_at index (m + 1)
past_index index {m} h = let far : length index ≤ m + 1 = omega arith in sym (get_or-eq_default index 0 far)
