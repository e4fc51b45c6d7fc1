-- Every count of a reduction lies between the two numbers of its iso, where no type of it and of those that it reaches holds a list.
use Prim.Native.Nat.{ℕ, zero, suc, ◌+◌, ◌<◌, ◌≤◌, min, max}
use native.Mathlib.Nat.{not-suc-le-zero}
use native.Mathlib.Omega.{arith}
use mathlib.Core.Path.{◌≡◌, refl, sym, ap, ap₂, ◌∙◌, subst}
use mathlib.Core.Bool.{Bool}
use mathlib.Core.Option.{some}
use mathlib.Core.List.{List, [], ◌∷◌, ◌++◌, map, Memᴰ}
use lib.ListN.{get_or, get_elem?, length, length-append}
use Rattle.limits.specs.Limits.{max_depth}
use Rattle.calculus.specs.Tools.{total, select}
use Rattle.calculus.specs.Trees.{Val, Let, Clause, Iso}
use Rattle.calculus.specs.Slots.{Slots}
use Rattle.calculus.specs.Reduction.{Call, run_lets, run_clause, hits, only, apply, reduce_to, small, reduce}
use Rattle.calculus.specs.Paper.{FileOk}
use Rattle.calculus.specs.Lists.{ListFree}
use Rattle.calculus.proofs.Basic.{none≢some, some_inj}
use Rattle.calculus.proofs.Running.{given_some, let_run, clause_run, hit_only, application}
use Rattle.calculus.proofs.Lists.{EarlierOrOwn, free_called, free_earlier}
use Rattle.calculus.proofs.Inverse.{reduce_unfold}
use Rattle.law_costs.specs.Costs.{least_of, greatest_of, let_cost, clause_cost, iso_cost, costs_from, least_costs, greatest_costs}

-- ---- the least and the greatest of several numbers

module _ {A : Type 0} (f : A → ℕ) where
  pub least_below : {x : A} (xs : List A) → Memᴰ x xs → least_of (map f xs) ≤ f x
  least_below {x} (y ∷ []) (Memᴰ.head e) = subst (λ z. f y ≤ f z) (sym e) (omega arith)
  least_below {x} (y ∷ (z ∷ zs)) (Memᴰ.head e) =
      subst (λ u. min (f y) (least_of (f z ∷ map f zs)) ≤ f u) (sym e) (omega arith)
  least_below {x} (y ∷ (z ∷ zs)) (Memᴰ.tail m) =
      let h = least_below (z ∷ zs) m in omega arith
  least_below {x = x} [] x'' = elim x'' [ ]
  least_below {x = x} (y ∷ []) (mathlib.Core.List.Memᴰ.tail m) = elim m [ ]

  pub greatest_above : {x : A} (xs : List A) → Memᴰ x xs → f x ≤ greatest_of (map f xs)
  greatest_above (y ∷ ys) (Memᴰ.head e) =
      subst (λ u. f u ≤ max (f y) (greatest_of (map f ys))) (sym e) (omega arith)
  greatest_above (y ∷ ys) (Memᴰ.tail m) =
      let h = greatest_above ys m in omega arith
  greatest_above [] x'' = elim x'' [ ]

pub map_each : {A B : Type 0} (f g : A → B) (xs : List A) → ((x : A) → Memᴰ x xs → f x ≡ g x) → map f xs ≡ map g xs
map_each f g [] h = refl
map_each f g (x ∷ xs) h = ap₂ ◌∷◌ (h x (Memᴰ.head refl)) (map_each f g xs (λ y m. h y (Memᴰ.tail m)))

-- ---- a count lies between, where those of its calls do

module _ (lo hi : List ℕ) (P : ℕ → Type 0) where
  -- what a call counts lies between the numbers of its iso
  abbrev pub Between : Call → Type 0
  Between call = (i : ℕ) → P i → (v w : Val) (k : ℕ) → call i v ≡ (some w, k) → (get_or lo i 0 ≤ k) × (k ≤ get_or hi i 0)

  lets_between : {call : Call} → Between call → (ls : List Let) → ((l : Let) → Memᴰ l ls → P l.iso) → (e : Slots Val) {d : Slots Val} {k : ℕ}
      → run_lets call ls e ≡ (some d, k) → (total (map (let_cost lo) ls) ≤ k) × (k ≤ total (map (let_cost hi) ls))
  lets_between b [] p e {k = k} h = let z : 0 ≡ k = ap (λ x. x.1) h in (omega arith, omega arith)
  lets_between {call} b (l ∷ ls) p e h =
      let s = let_run call l ls e h in
      let a = b l.iso (p l (Memᴰ.head refl)) s.given s.gives s.count s.called in
      let t = lets_between b ls (λ m i. p m (Memᴰ.tail i)) s.next s.follows in
      let a₀ = a.0 in
      let a₁ = a.1 in
      let t₀ = t.0 in
      let t₁ = t.1 in
      let c = s.counts in
      (omega arith, omega arith)

  clause_between : {call : Call} → Between call → (c : Clause) → ((l : Let) → Memᴰ l c.lets → P l.iso) → (v w : Val) (k : ℕ)
      → run_clause call c v ≡ (some w, k) → (clause_cost lo c ≤ suc k) × (suc k ≤ clause_cost hi c)
  clause_between {call} b c p v w k h =
      let s = clause_run call c v h in
      let t = lets_between b c.lets p s.first s.lets in
      let t₀ = t.0 in
      let t₁ = t.1 in
      (omega arith, omega arith)

  apply_between : {call : Call} → Between call → (o : Iso) → ((c : Clause) → Memᴰ c o.clauses → (l : Let) → Memᴰ l c.lets → P l.iso)
      → (v w : Val) (k : ℕ) → apply call o v ≡ (some w, k) → (iso_cost least_of lo o ≤ suc k) × (suc k ≤ iso_cost greatest_of hi o)
  apply_between {call} b o p v w k h =
      let (c, chosen, ran) = given_some (only (select (hits v) o.clauses)) (λ c. run_clause call c v) h in
      let m = (hit_only (hits v) o.clauses chosen).0 in
      let r = clause_between b c (p c m) v w k ran in
      let r₀ = r.0 in
      let r₁ = r.1 in
      let x = least_below (clause_cost lo) o.clauses m in
      let y = greatest_above (clause_cost hi) o.clauses m in
      (omega arith, omega arith)

-- ---- the numbers of the isos

get_d_front : (xs ys : List ℕ) (j : ℕ) → j < length xs → get_or (xs ++ ys) j 0 ≡ get_or xs j 0
get_d_front [] ys j h = absurd (not-suc-le-zero h)
get_d_front (x ∷ xs) ys zero h = refl
get_d_front (x ∷ xs) ys (suc j) h = get_d_front xs ys j (omega arith)

get_d_last : (xs : List ℕ) (x : ℕ) → get_or (xs ++ (x ∷ [])) (length xs) 0 ≡ x
get_d_last [] x = refl
get_d_last (y ∷ xs) x = get_d_last xs x

-- the let steps of an iso name earlier isos
abbrev pub Earlier : ℕ → Iso → Type 0
Earlier i o = (c : Clause) → Memᴰ c o.clauses → (l : Let) → Memᴰ l c.lets → l.iso < i

module _ (pick : List ℕ → ℕ) where
  -- what is known stays
  kept : (known : List ℕ) (os : List Iso) (j : ℕ) → j < length known → get_or (costs_from pick known os) j 0 ≡ get_or known j 0
  kept known [] j h = refl
  kept known (o ∷ os) j h =
      let s : ℕ = iso_cost pick known o in
      let n = length-append known (s ∷ []) in
      kept (known ++ (s ∷ [])) os j (omega arith) ∙ get_d_front known (s ∷ []) j h

  -- the number of an iso, and the numbers that it was reckoned from
  record Reckoned (all : List ℕ) (n : ℕ) (o : Iso) : Type 0 where
    known : List ℕ
    is : get_or all n 0 ≡ iso_cost pick known o
    earlier : (j : ℕ) → j < n → get_or known j 0 ≡ get_or all j 0

  reckoned : (known : List ℕ) (os : List Iso) (i : ℕ) {o : Iso} → get_elem? os i ≡ some o → Reckoned (costs_from pick known os) (length known + i) o
  reckoned known [] i e = absurd (none≢some e)
  reckoned known (n ∷ os) zero {o} e =
      let s : ℕ = iso_cost pick known n in
      let l = length-append known (s ∷ []) in
      record {
        known = known;
        is =
            ap (λ k. get_or (costs_from pick (known ++ (s ∷ [])) os) k 0) (omega arith)
            ∙ kept (known ++ (s ∷ [])) os (length known) (omega arith)
            ∙ get_d_last known s
            ∙ ap (iso_cost pick known) (some_inj e);
        earlier = λ j h. sym (kept known (n ∷ os) j (omega arith));
      }
  reckoned known (n ∷ os) (suc i) {o} e =
      let s : ℕ = iso_cost pick known n in
      let l = length-append known (s ∷ []) in
      subst (λ k. Reckoned (costs_from pick (known ++ (s ∷ [])) os) k o) (omega arith) (reckoned (known ++ (s ∷ [])) os i e)

  -- the number of an iso is reckoned from the numbers of all
  pub cost_at : (os : List Iso) (i : ℕ) {o : Iso} → get_elem? os i ≡ some o → Earlier i o
      → get_or (costs_from pick [] os) i 0 ≡ iso_cost pick (costs_from pick [] os) o
  cost_at os i {o} e h =
      let r : Reckoned (costs_from pick [] os) (0 + i) o = reckoned [] os i e in
      let z : 0 + i ≡ i = omega arith in
      let all : List ℕ = costs_from pick [] os in
      ap (λ k. get_or all k 0) (sym z)
      ∙ r.is
      ∙ ap pick (map_each (clause_cost r.known) (clause_cost all) o.clauses
      (λ c m. ap (λ ns. suc (total ns)) (map_each (let_cost r.known) (let_cost all) c.lets
      (λ l k. r.earlier l.iso (subst (λ j. l.iso < j) (sym z) (h c m l k))))))

-- ---- every count of a reduction

module _ (os : List Iso) (near : EarlierOrOwn os) (ok : FileOk os) where
  pub reduce_to_between : (fits : Val → Bool) (d : ℕ) → Between (costs_from least_of [] os) (costs_from greatest_of [] os) (ListFree os) (reduce_to fits d os)
  reduce_to_between fits zero i free v w k e = absurd (none≢some (ap (λ x. x.0) e))
  reduce_to_between fits (suc d) i free v w k e =
      let t = application fits d os i v e in
      let o : Iso = t.iso in
      let known = t.known in
      let below = free_earlier os near ok i free o known in
      let r = apply_between (costs_from least_of [] os) (costs_from greatest_of [] os) (ListFree os) (reduce_to_between fits d) o
      (λ c m l n. free_called os i free o known c m l n) v w t.count t.applies in (
        subst (λ n. n ≤ k) (sym (cost_at least_of os i known below)) (subst (λ n. iso_cost least_of (costs_from least_of [] os) o ≤ n) t.counts r.0),
        subst (λ n. k ≤ n) (sym (cost_at greatest_of os i known below)) (subst (λ n. n ≤ iso_cost greatest_of (costs_from greatest_of [] os) o) t.counts r.1),
      )

  -- Every count of a reduction lies between the two numbers of its iso.
  pub counts_between : (i : ℕ) → ListFree os i → (v w : Val) (k : ℕ) → reduce os i v ≡ (some w, k) → (get_or (least_costs os) i 0 ≤ k) × (k ≤ get_or (greatest_costs os) i 0)
  unfolding least_costs greatest_costs
  counts_between i free v w k e = reduce_to_between small max_depth i free v w k (sym (ap (λ f. f i v) (reduce_unfold os)) ∙ e)
