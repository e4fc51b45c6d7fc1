-- The letters of the first gap, one by one.
use Prim.Native.Nat.{ℕ, zero, suc, ◌+◌, ◌-◌, ◌<◌, ◌≤◌}
use native.Mathlib.Numerals.{add-one}
use native.Mathlib.Omega.{arith}
use mathlib.Core.Path.{◌≡◌, refl, sym, ap, ap₂, ◌∙◌, subst}
use mathlib.Core.Bool.{true, false, cond}
use mathlib.Core.List.{List, [], ◌∷◌, ◌++◌, map, append_assoc, append-nil}
use lib.ListN.{length, get_or, set, take, drop, length-set, take-append-drop, drop_of_length-le}
use lib.Seq.{drop-cons, drop-set-lt, take-suc-set, set-set}
use Rattle.calculus.specs.Trees.{Ty, Pat}
use Rattle.law_witnesses.specs.Showing.{letter_on, count_up}
use Rattle.law_witnesses.specs.Seeking.{after, keep, lacks, alone, pick, gap_word, gap_length}
use Rattle.law_witnesses.proofs.Descent.{pick_lacks}
use Rattle.table_trees.specs.Unfolding.{type_of}
use Rattle.fault_stacks.specs.Stacks.{types_from, move_of, types_after, TypesStepped}
use Rattle.fault_stacks.proofs.Walking.{top_near}
use Rattle.fault_stacks.proofs.Counting.{types_end}
use Rattle.fault_gaps.specs.Gaps.{types_at, rows_at, Good, first_letter, Picks, Asked, Writes, FirstLack}
use Rattle.limits.specs.Limits.{result_length}
use Rattle.calculus.specs.Tools.{first_of, or_else}
use native.Mathlib.Nat.{le_refl, eq-or-lt_of_le}
use mathlib.Core.Logic.{◌⊎◌, inl, inr}
use mathlib.Core.Option.{none, some}
use Rattle.fault_gaps.proofs.Descending.{picked_mem, types_next, rows_next, good_next, types_snoc, nothing_lacks, keep_all}
use Rattle.calculus.proofs.Basic.{drop_set_same}

-- the first m letters are written
pub record Way (a : Ty) (ps : List Pat) (out₀ out : List ℕ) (n m : ℕ) : Type 0 where
  pub behind : drop m out ≡ drop m out₀
  pub good : Good a ps (take m out)
  pub lack : lacks (n - m) (types_at a (take m out)) (rows_at ps (take m out)) ≡ true
  pub word : take m out ++ gap_word (n - m) (types_at a (take m out)) (rows_at ps (take m out)) ≡ gap_word n (a ∷ []) (rows_at ps [])

pub way_start : {a : Ty} {ps : List Pat} {n : ℕ} (out : List ℕ) → Asked a ps n → Way a ps out out n 0
way_start {a} {ps} {n} out h =
    let e : n ≡ n - 0 = omega arith in
    record {
      behind = refl;
      good = h.good;
      lack = subst (λ k. lacks k (a ∷ []) (rows_at ps []) ≡ true) e h.lack;
      word = ap (λ k. gap_word k (a ∷ []) (rows_at ps [])) (sym e);
    }

-- a letter stored
take_stored : (l : List ℕ) (m c : ℕ) → m < length l → take (m + 1) (set l m c) ≡ take m l ++ (c ∷ [])
take_stored l m c h = ap (λ k. take k (set l m c)) (add-one m) ∙ take-suc-set l m c h

module _ {a : Ty} {ps : List Pat} {out₀ out : List ℕ} {n m : ℕ} (w : Way a ps out₀ out n m) (h : m < n) (l : m < length out) where
  -- with a letter in its place
  pub with_letter : (x : ℕ) → take (m + 1) (set out m x) ≡ take m out ++ (x ∷ [])
  with_letter x = take_stored out m x l

  pub way_next : (b : Ty) (ts : List Ty) (x c : ℕ) → types_at a (take m out) ≡ b ∷ ts → c ≡ letter_on (pick (n - m - 1) b ts (rows_at ps (take m out))).0
      → Way a ps out₀ (set (set out m x) m c) n (m + 1)
  way_next b ts x c e f =
      let s : n - m ≡ suc (n - m - 1) = omega arith in
      let s' : n - (m + 1) ≡ n - m - 1 = omega arith in
      let k = n - m - 1 in
      let q = pick k b ts (rows_at ps (take m out)) in
      let i = picked_mem k b ts (rows_at ps (take m out)) in
      let v : take (m + 1) (set (set out m x) m c) ≡ take m out ++ (letter_on q.0 ∷ []) = ap (take (m + 1)) (set-set out m x c) ∙ take_stored out m c l ∙ ap (λ z. take m out ++ (z ∷ [])) f in
      let lk : lacks (suc k) (b ∷ ts) (rows_at ps (take m out)) ≡ true = subst (λ z. lacks (suc k) z (rows_at ps (take m out)) ≡ true) e
      (subst (λ z. lacks z (types_at a (take m out)) (rows_at ps (take m out)) ≡ true) s w.lack) in
      let T = types_next w.good b ts e q i in
      let R = rows_next w.good b ts e q i in
      record {
        behind =
            ap (drop (m + 1)) (set-set out m x c) ∙ ap (λ z. drop z (set out m c)) (add-one m) ∙ drop-set-lt (suc m) out m c (omega arith) ∙ tails (drop-cons out m 0 l) w.behind;
        good = subst (Good a ps) (sym v) (good_next w.good b ts e q i);
        lack = subst (λ z. lacks (n - (m + 1)) (types_at a z) (rows_at ps z) ≡ true) (sym v)
            (subst (λ z. lacks z (types_at a (take m out ++ (letter_on q.0 ∷ []))) (rows_at ps (take m out ++ (letter_on q.0 ∷ []))) ≡ true) (sym s')
            (ap₂ (lacks k) T R ∙ pick_lacks k b ts (rows_at ps (take m out)) lk));
        word = ap (λ z. z ++ gap_word (n - (m + 1)) (types_at a z) (rows_at ps z)) v
            ∙ ap (λ z. (take m out ++ (letter_on q.0 ∷ [])) ++ gap_word z (types_at a (take m out ++ (letter_on q.0 ∷ []))) (rows_at ps (take m out ++ (letter_on q.0 ∷ [])))) s'
            ∙ ap₂ (λ x y. (take m out ++ (letter_on q.0 ∷ [])) ++ gap_word k x y) T R
            ∙ append_assoc (take m out) (letter_on q.0 ∷ []) (gap_word k (q.1 ++ ts) (keep (after q.0) (rows_at ps (take m out))))
            ∙ ap (λ z. take m out ++ gap_word (suc k) z (rows_at ps (take m out))) (sym e)
            ∙ ap (λ z. take m out ++ gap_word z (types_at a (take m out)) (rows_at ps (take m out))) (sym s)
            ∙ w.word;
      }
    where
      tails : {x : ℕ} → drop m out ≡ x ∷ drop (suc m) out → drop m out ≡ drop m out₀ → drop (suc m) out ≡ drop (m + 1) out₀
      tails {x} p r = next out m ∙ ap (drop 1) r ∙ sym (next out₀ m) ∙ ap (λ z. drop z out₀) (sym (add-one m))
        where
          next : (s : List ℕ) (j : ℕ) → drop (suc j) s ≡ drop 1 (drop j s)
          next [] zero = refl
          next [] (suc j) = refl
          next (y ∷ s) zero = refl
          next (y ∷ s) (suc j) = next s j

-- ---- the loop

pub record Writing (t : List ℕ) (i : ℕ) (ps : List Pat) (out₀ out ts : List ℕ) (n m top : ℕ) : Type 0 where
  pub within : m ≤ n
  pub long : length out ≡ length out₀
  pub lines : length ts ≡ 128
  pub lower : 127 ≤ top + m
  pub upper : top ≤ 128
  pub way : Asked (type_of t i) ps n → Way (type_of t i) ps out₀ out n m × (types_from t ts top ≡ types_at (type_of t i) (take m out))

pub writing_start : (t : List ℕ) (i : ℕ) (ps : List Pat) (out ts : List ℕ) (n : ℕ) → length ts ≡ 128 → Writing t i ps out out (set ts 127 i) n 0 127
writing_start t i ps out ts n e =
    record {
      within = omega arith;
      long = refl;
      lines = length-set ts 127 i ∙ e;
      lower = omega arith;
      upper = omega arith;
      way = λ h. (way_start out h, ap (map (type_of t)) (drop_set_same ts 127 i (omega arith) ∙ ap (λ l. i ∷ l) (drop_of_length-le ts {i = 128} (omega arith))));
    }

module _ {t : List ℕ} {i : ℕ} {ps : List Pat} {out₀ out ts : List ℕ} {n m top : ℕ} (w : Writing t i ps out₀ out ts n m top) (h : m < n) (l : n ≤ length out₀) where
  next_types : top < 128 → types_from t ts top ≡ type_of t (get_or ts top 0) ∷ types_from t ts (suc top)
  next_types b = ap (map (type_of t)) (drop-cons ts top 0 (omega (arith, w.lines)))

  pub writing_next : {ts' : List ℕ} {x c r : ℕ} → x ≡ first_letter (type_of t (get_or ts top 0)) → top ≤ 127 → n ≤ 127 → length ts' ≡ length ts → TypesStepped t c ts ts' top r
      → Picks (type_of t i) ps (take (m + 1) (set out m x)) (type_of t (get_or ts top 0)) (n - m - 1) c → Writing t i ps out₀ (set (set out m x) m c) ts' n (m + 1) r
  writing_next {ts'} {x} {c} {r} fl b u e st pk =
      let near = top_near (move_of c) top (omega (arith, w.lower)) in
      let inside : m < length out = omega (arith, w.long) in
      record {
        within = omega arith;
        long = length-set (set out m x) m c ∙ length-set out m x ∙ w.long;
        lines = e ∙ w.lines;
        lower = omega (arith, w.lower, near.0, st.0);
        upper = omega (arith, near.1, st.0);
        way = λ q.
            let y = w.way q in
            let d = sym y.1 ∙ next_types (omega arith) in
            let f = pk.at (take m out) (types_from t ts (suc top)) y.0.good (with_letter y.0 h inside x ∙ ap (λ z. take m out ++ (z ∷ [])) fl) d in
            let v = ap (take (m + 1)) (set-set out m x c) ∙ take_stored out m c inside in (
              way_next y.0 h inside (type_of t (get_or ts top 0)) (types_from t ts (suc top)) x c d f,
              st.1 ∙ ap (types_after (move_of c)) y.1 ∙ sym (types_snoc (take m out) c (type_of t i ∷ [])) ∙ ap (types_at (type_of t i)) (sym v),
            );
      }

  -- something is to come
  pub never_out : 127 < top → Asked (type_of t i) ps n → ⊥
  never_out b q =
      let x = w.way q in
      let s : n - m ≡ suc (n - m - 1) = omega arith in
      let e : types_at (type_of t i) (take m out) ≡ [] = sym x.1 ∙ types_end t ts top (omega (arith, w.lines)) in
      nothing_lacks (n - m - 1) (rows_at ps (take m out))
      (subst (λ z. lacks (suc (n - m - 1)) z (rows_at ps (take m out)) ≡ true) e
      (subst (λ z. lacks z (types_at (type_of t i) (take m out)) (rows_at ps (take m out)) ≡ true) s x.0.lack))

pub written : {t : List ℕ} {i : ℕ} {ps : List Pat} {out₀ out ts : List ℕ} {n m top : ℕ} → Writing t i ps out₀ out ts n m top → n ≤ m → Writes (type_of t i) ps out₀ out n
written {t} {i} {ps} {out₀} {out} {ts} {n} {m} {top} w h =
    let e : m ≡ n = omega (arith, w.within) in
    record {
      at = λ q. let x = (w.way q).0 in
          sym (take-append-drop m out) ∙ ap₂ ◌++◌ (end x e) (x.behind ∙ ap (λ z. drop z out₀) e);
    }
  where
    no_word : (ts : List Ty) (rows : List (List Pat)) (k : ℕ) → k ≡ 0 → gap_word k ts rows ≡ []
    no_word ts rows k z = ap (λ j. gap_word j ts rows) z

    end : Way (type_of t i) ps out₀ out n m → m ≡ n → take m out ≡ gap_word n (type_of t i ∷ []) (rows_at ps [])
    end x e = sym (append-nil (take m out)) ∙ ap (λ z. take m out ++ z) (sym (no_word (types_at (type_of t i) (take m out)) (rows_at ps (take m out)) (n - m) (omega arith))) ∙ x.word

pub never_written : {a : Ty} {ps : List Pat} (out₀ out : List ℕ) {n : ℕ} → (Asked a ps n → ⊥) → Writes a ps out₀ out n
never_written out₀ out f = record { at = λ q. absurd (f q) }

-- ---- the number of letters

-- all lengths before the first that lacks something
length_none : (a : Ty) (rows : List (List Pat)) (k n : ℕ) → ((j : ℕ) → k ≤ j → j < k + n → lacks j (a ∷ []) rows ≡ false)
    → first_of (λ m. cond (lacks m (a ∷ []) rows) (some m) none) (count_up n k) ≡ none
length_none a rows k zero h = refl
length_none a rows k (suc n) h =
    ap₂ or_else (ap (λ b. cond b (some k) none) (h k (le_refl k) (omega arith))) (length_none a rows (suc k) n (λ j p q. h j (omega arith) (omega arith)))

length_some : (a : Ty) (rows : List (List Pat)) (k n r : ℕ) → k ≤ r → r < k + n → ((j : ℕ) → k ≤ j → j < r → lacks j (a ∷ []) rows ≡ false) → lacks r (a ∷ []) rows ≡ true
    → first_of (λ m. cond (lacks m (a ∷ []) rows) (some m) none) (count_up n k) ≡ some r
length_some a rows k zero r p q h e = absurd (omega arith)
length_some a rows k (suc n) r p q h e = go (eq-or-lt_of_le p) (length_some a rows (suc k) n r)
  where
    go : (k ≡ r) ⊎ (k < r)
        → (suc k ≤ r → r < suc k + n → ((j : ℕ) → suc k ≤ j → j < r → lacks j (a ∷ []) rows ≡ false) → lacks r (a ∷ []) rows ≡ true
        → first_of (λ m. cond (lacks m (a ∷ []) rows) (some m) none) (count_up n (suc k)) ≡ some r)
        → or_else (cond (lacks k (a ∷ []) rows) (some k) none) (first_of (λ m. cond (lacks m (a ∷ []) rows) (some m) none) (count_up n (suc k))) ≡ some r
    go (inl d) below = ap (λ b. or_else (cond b (some k) none) (first_of (λ m. cond (lacks m (a ∷ []) rows) (some m) none) (count_up n (suc k)))) (ap (λ j. lacks j (a ∷ []) rows) d ∙ e) ∙ ap some d
    go (inr d) below = ap (λ b. or_else (cond b (some k) none) (first_of (λ m. cond (lacks m (a ∷ []) rows) (some m) none) (count_up n (suc k)))) (h k (le_refl k) d) ∙ below d (omega arith)
        (λ j x y. h j (omega arith) y) e

-- the number of letters of the first gap, and its letters; 128 where no value of at most 127 letters is left
pub record Searched (a : Ty) (ps : List Pat) (out₀ out : List ℕ) (r : ℕ) : Type 0 where
  pub some_gap : Good a ps [] → r < 128 → (gap_length a ps ≡ some r) × (out ≡ gap_word r (a ∷ []) (alone ps) ++ drop r out₀)
  pub no_gap : Good a ps [] → 128 ≤ r → (gap_length a ps ≡ none) × (out ≡ out₀)

module _ (a : Ty) (ps : List Pat) {w : List ℕ} {r : ℕ} (f : FirstLack a ps w r) (z : w ≡ []) where
  start : FirstLack a ps [] r
  start = subst (λ v. FirstLack a ps v r) z f

  rows_are : rows_at ps [] ≡ alone ps
  rows_are = keep_all (alone ps)

  earlier : Good a ps [] → (j : ℕ) → j < r → lacks j (a ∷ []) (alone ps) ≡ false
  earlier g j h = ap (lacks j (a ∷ [])) (sym rows_are) ∙ start.before g j h

  pub value_some : {out₀ out : List ℕ} → Writes a ps out₀ out r → r < 128 → Searched a ps out₀ out r
  value_some {out₀} {out} wr h =
      record {
        some_gap = λ g q.
            let e = start.here g h in (
              length_some a (alone ps) 0 (suc result_length) r (omega arith) (omega arith) (λ j x y. earlier g j y) (ap (lacks r (a ∷ [])) (sym rows_are) ∙ e),
              wr.at (record { good = g; lack = e }) ∙ ap (λ rows. gap_word r (a ∷ []) rows ++ drop r out₀) rows_are,
            );
        no_gap = λ g q. absurd (omega arith);
      }

  pub value_none : (out : List ℕ) → 128 ≤ r → Searched a ps out out 128
  value_none out h =
      record {
        some_gap = λ g q. absurd (omega arith);
        no_gap = λ g q. (length_none a (alone ps) 0 (suc result_length) (λ j x y. earlier g j (omega arith)), refl);
      }

-- ---- the loop for it

pub record Scanned (k : List ℕ) (n : ℕ) : Type 0 where
  pub within : n ≤ 128
  pub zeros : (j : ℕ) → j < n → get_or k j 0 ≡ 0

pub scanned : {k : List ℕ} {n : ℕ} → Scanned k n → n < 128 → get_or k n 0 ≡ 0 → Scanned k (n + 1)
scanned {k} {n} s l e = record { within = omega arith; zeros = λ j h. at j (eq-or-lt_of_le h) }
  where
    at : (j : ℕ) → (suc j ≡ n + 1) ⊎ (suc j < n + 1) → get_or k j 0 ≡ 0
    at j (inl q) = let r : j ≡ n = omega arith in ap (λ x. get_or k x 0) r ∙ e
    at j (inr q) = s.zeros j (omega arith)
