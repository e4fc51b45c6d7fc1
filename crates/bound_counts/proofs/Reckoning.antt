-- What the loops of the crate have reckoned so far: sums over L rows, the least and the greatest over clauses, the numbers of the isos in order.
use Prim.Native.Nat.{ℕ, zero, suc, ◌+◌, ◌-◌, ◌≤◌, ◌<◌, min}
use native.Mathlib.Omega.{arith}
use mathlib.Core.Path.{◌≡◌, refl, sym, ap, ap₂, ◌∙◌, subst}
use mathlib.Core.Bool.{Bool, true, false}
use mathlib.Core.List.{List, [], ◌∷◌, ◌++◌, map}
use lib.ListN.{length, length-append, get_or, set}
use Rattle.calculus.specs.Tools.{total}
use Rattle.calculus.specs.Trees.{Clause}
use Rattle.law_costs.specs.Costs.{let_cost, clause_cost, iso_cost, costs_from}
use Rattle.table_trees.specs.Unfolding.{cell_of}
use Rattle.table_walks.specs.InTable.{lets_in, clause_in}
use Rattle.run_index.specs.Index.{place_at, clauses_at, iso_at, isos_at}
use Rattle.bound_counts.specs.Held.{cap, pick_of, pick_two, Holds}

-- ---- L rows

abbrev sum_of : List ℕ → ℕ → List ℕ → ℕ → ℕ → ℕ
sum_of t base ks n count = total (map (let_cost ks) (lets_in t base n count))

-- the sum over the L rows from n on
pub record Summed (t known : List ℕ) (row end n sum : ℕ) : Type 0 where
  pub low : min row end ≤ n
  pub high : n ≤ end
  pub is : (base : ℕ) (ks : List ℕ) → Holds known ks → sum ≡ min (total (map (let_cost ks) (lets_in t base n (end - n)))) cap

pub summed_start : (t known : List ℕ) (row end : ℕ) → Summed t known row end end 0
summed_start t known row end = record { low = omega arith; high = omega arith; is = no_sum }
  where
    no_sum : (base : ℕ) (ks : List ℕ) → Holds known ks → 0 ≡ min (sum_of t base ks end (end - end)) cap
    no_sum base ks k =
        let z : 0 ≡ end - end = omega arith in ap (λ c. min (sum_of t base ks end c) cap) z

pub summed_step : {t known : List ℕ} {row end n sum : ℕ} → Summed t known row end n sum → row < n → (x y sum' : ℕ)
    → x ≡ cell_of t (n - 1) 2 → y ≡ get_or known x 0 → sum' ≡ min (min y cap + min sum cap) cap → Summed t known row end (n - 1) sum'
summed_step {t} {known} {row} {end} {n} {sum} s h x y sum' ex ey es =
    record {
      low = omega arith;
      high = let b = s.high in omega arith;
      is = λ base ks k.
          let b = s.high in
          let count : end - (n - 1) ≡ suc (end - n) = omega arith in
          let next : suc (n - 1) ≡ n = omega arith in
          let a = s.is base ks k in
          let v = ey ∙ ap (λ i. get_or known i 0) ex ∙ k (cell_of t (n - 1) 2) in
          let all : sum_of t base ks (n - 1) (end - (n - 1)) ≡ get_or ks (cell_of t (n - 1) 2) 0 + sum_of t base ks n (end - n) =
          ap (sum_of t base ks (n - 1)) count ∙ ap (λ i. get_or ks (cell_of t (n - 1) 2) 0 + sum_of t base ks i (end - n)) next in
          es ∙ plus_capped y sum (get_or ks (cell_of t (n - 1) 2) 0) (sum_of t base ks n (end - n)) v a ∙ ap (λ m. min m cap) (sym all);
    }
  where
    plus_capped : (p q a b : ℕ) → p ≡ min a cap → q ≡ min b cap → min (min p cap + min q cap) cap ≡ min (a + b) cap
    plus_capped p q a b hp hq = omega arith

pub summed_end : {t known : List ℕ} {row end n sum : ℕ} → Summed t known row end n sum → n ≤ row → (base : ℕ) (ks : List ℕ) → Holds known ks
    → sum ≡ min (total (map (let_cost ks) (lets_in t base row (end - row)))) cap
summed_end {t} {known} {row} {end} {n} s h base ks k =
    s.is base ks k ∙ ap (λ m. min m cap) (all_rows t base ks row end n s.low s.high h (end - row) refl)
  where
    all_rows : (t : List ℕ) (base : ℕ) (ks : List ℕ) (row end n : ℕ) → min row end ≤ n → n ≤ end → n ≤ row → (count : ℕ) → count ≡ end - row
        → sum_of t base ks n (end - n) ≡ sum_of t base ks row (end - row)
    all_rows t base ks row end n low high h zero e =
        let none : end - n ≡ 0 = omega arith in ap (sum_of t base ks n) none ∙ ap (sum_of t base ks row) e
    all_rows t base ks row end n low high h (suc c) e =
        let z : n ≡ row = omega arith in ap (λ i. sum_of t base ks i (end - i)) z

-- ---- clauses

abbrev clause_at : List ℕ → ℕ → List ℕ → ℕ → Clause
clause_at t base index m = clause_in t base (place_at index m) (place_at index (suc m))

-- what a call of `clause_cost` tells
abbrev pub Needs : List ℕ → List ℕ → List ℕ → ℕ → ℕ → Type 0
Needs t known index m r =
    (base : ℕ) (ks : List ℕ) → Holds known ks → r ≡ min (clause_cost ks (clause_in t base (place_at index m) (place_at index (suc m)))) cap

pub clause_needs : (t known index : List ℕ) (m row end s r : ℕ) → row ≡ place_at index m → end ≡ place_at index (m + 1)
    → ((base : ℕ) (ks : List ℕ) → Holds known ks → s ≡ min (total (map (let_cost ks) (lets_in t base (row + 1) (end - (row + 1))))) cap)
    → r ≡ min (min 1 cap + min s cap) cap → Needs t known index m r
clause_needs t known index m row end s r er ee h e base ks k =
    let a = h base ks k in
    let x : row + 1 ≡ suc (place_at index m) = omega arith in
    let z : m + 1 ≡ suc m = omega arith in
    let y : end ≡ place_at index (suc m) = ee ∙ ap (place_at index) z in
    let all : sum_of t base ks (row + 1) (end - (row + 1)) ≡ sum_of t base ks (suc (place_at index m)) (place_at index (suc m) - suc (place_at index m)) =
    ap₂ (λ i j. sum_of t base ks i (j - i)) x y in
    e ∙ one_more s (sum_of t base ks (row + 1) (end - (row + 1))) a ∙ ap (λ n. min (suc n) cap) all
  where
    one_more : (p a : ℕ) → p ≡ min a cap → min (min 1 cap + min p cap) cap ≡ min (suc a) cap
    one_more p a h = omega arith

abbrev costs_at : List ℕ → ℕ → List ℕ → List ℕ → ℕ → ℕ → List ℕ
costs_at t base index ks n count = map (clause_cost ks) (clauses_at t base index n count)

-- the least and the greatest of a list, from its last number to its first, of numbers as they are held
pub record Extreme (pick : List ℕ → ℕ) (of : ℕ → ℕ → ℕ) : Type 0 where
  pub nothing : pick [] ≡ 0
  pub one : (x : ℕ) → pick (x ∷ []) ≡ x
  pub more : (x y : ℕ) (ys : List ℕ) → pick (x ∷ (y ∷ ys)) ≡ of x (pick (y ∷ ys))
  pub held : (a b : ℕ) → of (min a cap) (min b cap) ≡ min (of a b) cap

pub extreme : (most : Bool) → Extreme (pick_of most) (pick_two most)
extreme false = record { nothing = refl; one = λ x. refl; more = λ x y ys. refl; held = λ a b. omega arith }
extreme true = record { nothing = refl; one = λ x. omega arith; more = λ x y ys. refl; held = λ a b. omega arith }

-- the least or the greatest over the clauses from place n on
pub record Best (pick : List ℕ → ℕ) (t known index : List ℕ) (m end n best : ℕ) : Type 0 where
  pub low : m ≤ n
  pub high : n < end
  pub is : (base : ℕ) (ks : List ℕ) → Holds known ks → best ≡ min (pick (map (clause_cost ks) (clauses_at t base index n (end - n)))) cap

pub no_clause : {pick : List ℕ → ℕ} {of : ℕ → ℕ → ℕ} → Extreme pick of → (t known index : List ℕ) (m end : ℕ) → end ≤ m
    → (base : ℕ) (ks : List ℕ) → Holds known ks → 0 ≡ min (pick (map (clause_cost ks) (clauses_at t base index m (end - m)))) cap
no_clause {pick} x t known index m end h base ks k =
    let z : 0 ≡ end - m = omega arith in
    ap (λ n. min n cap) (sym x.nothing) ∙ ap (λ c. min (pick (costs_at t base index ks m c)) cap) z

pub best_start : {pick : List ℕ → ℕ} {of : ℕ → ℕ → ℕ} → Extreme pick of → (t known index : List ℕ) (m end r : ℕ) → m < end
    → Needs t known index (end - 1) r → Best pick t known index m end (end - 1) r
best_start {pick} x t known index m end r h e =
    record {
      low = omega arith;
      high = omega arith;
      is = λ base ks k.
          let z : 1 ≡ end - (end - 1) = omega arith in
          e base ks k
          ∙ ap (λ n. min n cap) (sym (x.one (clause_cost ks (clause_at t base index (end - 1)))))
          ∙ ap (λ c. min (pick (costs_at t base index ks (end - 1) c)) cap) z;
    }

pub best_step : {pick : List ℕ → ℕ} {of : ℕ → ℕ → ℕ} → Extreme pick of → {t known index : List ℕ} {m end n best : ℕ} → Best pick t known index m end n best
    → m < n → (r best' : ℕ) → Needs t known index (n - 1) r → best' ≡ of r best → Best pick t known index m end (n - 1) best'
best_step {pick} {of} x {t} {known} {index} {m} {end} {n} {best} s h r best' e eb =
    record {
      low = omega arith;
      high = let b = s.high in omega arith;
      is = λ base ks k.
          let b = s.high in
          let count : end - (n - 1) ≡ suc (suc (end - suc n)) = omega arith in
          let rest : end - n ≡ suc (end - suc n) = omega arith in
          let next : suc (n - 1) ≡ n = omega arith in
          let a : ℕ = clause_cost ks (clause_at t base index (n - 1)) in
          let others : ℕ = pick (costs_at t base index ks n (end - n)) in
          let all : pick (costs_at t base index ks (n - 1) (end - (n - 1))) ≡ of a others =
          ap (λ c. pick (costs_at t base index ks (n - 1) c)) count
          ∙ ap (λ i. pick (a ∷ costs_at t base index ks i (suc (end - suc n)))) next
          ∙ x.more a (clause_cost ks (clause_at t base index n)) (costs_at t base index ks (suc n) (end - suc n))
          ∙ ap (λ c. of a (pick (costs_at t base index ks n c))) (sym rest) in
          eb ∙ ap₂ of (e base ks k) (s.is base ks k) ∙ x.held a others ∙ ap (λ z. min z cap) (sym all);
    }

pub best_end : {pick : List ℕ → ℕ} {t known index : List ℕ} {m end n best : ℕ} → Best pick t known index m end n best → n ≤ m
    → (base : ℕ) (ks : List ℕ) → Holds known ks → best ≡ min (pick (map (clause_cost ks) (clauses_at t base index m (end - m)))) cap
best_end {pick} {t} {known} {index} {m} {end} {n} s h base ks k =
    let b = s.low in
    let z : n ≡ m = omega arith in
    s.is base ks k ∙ ap (λ i. min (pick (costs_at t base index ks i (end - i))) cap) z

-- ---- isos in order

holds_snoc : (known ks : List ℕ) (n x : ℕ) → length ks < length known → n ≡ min x cap → Holds known ks → Holds (set known (length ks) n) (ks ++ (x ∷ []))
holds_snoc [] ks n x h e k j = absurd (omega arith)
holds_snoc (a ∷ known) [] n x h e k zero = e
holds_snoc (a ∷ known) [] n x h e k (suc j) = k (suc j)
holds_snoc (a ∷ known) (b ∷ ks) n x h e k zero = k zero
holds_snoc (a ∷ known) (b ∷ ks) n x h e k (suc j) = holds_snoc known ks n x (omega arith) e (λ i. k (suc i)) j

-- the numbers of the first i isos, with which the others give what all give
pub record Front (pick : List ℕ → ℕ) (t index : List ℕ) (base isos i : ℕ) (known : List ℕ) : Type 0 where
  pub numbers : List ℕ
  pub count : length numbers ≡ i
  pub held : Holds known numbers
  pub others : costs_from pick numbers (isos_at t base index i (isos - i)) ≡ costs_from pick [] (isos_at t base index 0 isos)

pub record Reckoned (pick : List ℕ → ℕ) (t index : List ℕ) (isos : ℕ) (known₀ known : List ℕ) (i : ℕ) : Type 0 where
  pub kept : length known ≡ length known₀
  pub below : i ≤ isos
  pub front : (base : ℕ) → isos ≤ length known₀ → Holds known₀ [] → Front pick t index base isos i known

pub reckoned_start : (pick : List ℕ → ℕ) (t index : List ℕ) (isos : ℕ) (known : List ℕ) → Reckoned pick t index isos known known 0
reckoned_start pick t index isos known =
    record { kept = refl; below = omega arith; front = λ base h k. record { numbers = []; count = refl; held = k; others = ap (λ p. costs_from pick [] (isos_at t base index 0 p)) none_yet } }
  where
    none_yet : isos - 0 ≡ isos
    none_yet = omega arith

pub reckoned_step : {pick : List ℕ → ℕ} {t index : List ℕ} {isos : ℕ} {known₀ known : List ℕ} {i : ℕ} → Reckoned pick t index isos known₀ known i → i < isos
    → (m end n : ℕ) (known' : List ℕ) → m ≡ place_at index i → end ≡ place_at index (i + 1)
    → ((base : ℕ) (ks : List ℕ) → Holds known ks → n ≡ min (pick (map (clause_cost ks) (clauses_at t base index (m + 1) (end - (m + 1))))) cap)
    → length known' ≡ length known → known' ≡ set known i n → Reckoned pick t index isos known₀ known' (i + 1)
reckoned_step {pick} {t} {index} {isos} {known₀} {known} {i} r h m end n known' em ee en el ek =
    record {
      kept = el ∙ r.kept;
      below = omega arith;
      front = λ base b k.
          let f = r.front base b k in
          let x : ℕ = iso_cost pick f.numbers (iso_at t base index i) in
          let p : m + 1 ≡ suc (place_at index i) = omega arith in
          let one : i + 1 ≡ suc i = omega arith in
          let v : n ≡ min x cap =
          en base f.numbers f.held
          ∙ ap₂ (λ u q. min (pick (costs_at t base index f.numbers u (q - u))) cap) p (ee ∙ ap (place_at index) one) in
          let c = f.count in
          let l = r.kept in
          let more : isos - i ≡ suc (isos - suc i) = omega arith in
          let s = holds_snoc known f.numbers n x (omega arith) v f.held in
          record {
            numbers = f.numbers ++ (x ∷ []);
            count = length-append f.numbers (x ∷ []) ∙ ap (λ p. p + 1) c;
            held = subst (λ z. Holds z (f.numbers ++ (x ∷ []))) (ap (λ p. set known p n) c ∙ sym ek) s;
            others =
                ap (λ u. costs_from pick (f.numbers ++ (x ∷ [])) (isos_at t base index u (isos - u))) one
                ∙ sym (ap (λ u. costs_from pick f.numbers (isos_at t base index i u)) more)
                ∙ f.others;
          };
    }

pub reckoned_end : {pick : List ℕ → ℕ} {t index : List ℕ} {isos : ℕ} {known₀ known : List ℕ} {i : ℕ} → Reckoned pick t index isos known₀ known i → isos ≤ i
    → (base : ℕ) → isos ≤ length known₀ → Holds known₀ [] → Holds known (costs_from pick [] (isos_at t base index 0 isos))
reckoned_end {pick} {t} {index} {isos} {known₀} {known} {i} r h base b k =
    let f = r.front base b k in
    let z : isos - i ≡ 0 = omega arith in
    subst (Holds known) (sym (ap (λ p. costs_from pick f.numbers (isos_at t base index i p)) z) ∙ f.others) f.held
