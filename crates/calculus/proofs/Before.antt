-- A reduction that stops at a ceiling has made no more applications than the reduction without ceilings makes to its end.
use Prim.Native.Nat.{ℕ, zero, suc, ◌+◌, ◌≤◌}
use native.Mathlib.Omega.{arith}
use mathlib.Core.Path.{◌≡◌, refl, ap, ◌∙◌}
use mathlib.Core.Logic.{◌⊎◌, inl, inr}
use mathlib.Core.Bool.{Bool, true, false}
use mathlib.Core.Option.{Option, none, some}
use mathlib.Core.List.{List, [], ◌∷◌}
use lib.ListN.{get_elem?}
use Rattle.calculus.specs.Tools.{◌>>=◌, guard, select}
use Rattle.calculus.specs.Trees.{Val, Let, Clause, Iso}
use Rattle.calculus.specs.Slots.{Slots}
use Rattle.calculus.specs.Reduction.{Counted, given, ◌>>>◌, bind, build, wholly, Call, run_lets, run_clause, hits, only, apply, applied, measured, reduce_to}
use Rattle.calculus.proofs.Basic.{none≢some, counted, some_then, some_bind, true_guard, bool_cases}
use Rattle.calculus.proofs.Running.{given_some, some_given, LetRun, let_run, run_let, ClauseRun, clause_run, run_clause_lem, Application, application}

-- the same, with the same number, or nothing, with no greater one
pub data Before {A : Type 0} (r : Counted A) (a : A) (k : ℕ) : Type 0 where
  same : r ≡ (some a, k) → Before r a k
  less : (n : ℕ) → r ≡ (none, n) → n ≤ k → Before r a k

abbrev pub Precedes : Call → Call → Type 0
Precedes call full = (i : ℕ) (v w : Val) (k : ℕ) → full i v ≡ (some w, k) → Before (call i v) w k

none_then : {A B : Type 0} {x : Counted A} {m : ℕ} (f : A → Counted B) → x ≡ (none, m) → (x >>> f) ≡ (none, m)
none_then f e = ap (λ x. x >>> f) e

module _ (call full : Call) (h : Precedes call full) where
  let_before : (l : Let) (ls : List Let) (e : Slots Val) {d : Slots Val} {k : ℕ} (s : LetRun full l ls e d k)
      → Before (call l.iso s.given) s.gives s.count → Before (run_lets call ls s.next) d s.after → Before (run_lets call (l ∷ ls) e) d k
  let_before l ls e s (less n r m) rest =
      less n
      (some_given (λ r. call l.iso r.0 >>> λ w. given (bind l.p w r.1) >>> λ d. run_lets call ls d) s.built
      (none_then (λ w. given (bind l.p w s.rest) >>> λ d. run_lets call ls d) r))
      (let c = s.counts in omega (arith, m, c))
  let_before l ls e s (same r) (less n q m) =
      less (s.count + n)
      (some_given (λ r. call l.iso r.0 >>> λ w. given (bind l.p w r.1) >>> λ d. run_lets call ls d) s.built
      (some_then (λ w. given (bind l.p w s.rest) >>> λ d. run_lets call ls d) r (some_given (λ d. run_lets call ls d) s.bound q)))
      (let c = s.counts in omega (arith, m, c))
  let_before l ls e s (same r) (same q) = same (run_let call l ls e s.built r s.bound q ∙ counted refl s.counts)

  lets_before : (ls : List Let) (e : Slots Val) {d : Slots Val} {k : ℕ} → run_lets full ls e ≡ (some d, k) → Before (run_lets call ls e) d k
  lets_before [] e r = same r
  lets_before (l ∷ ls) e r =
      let s = let_run full l ls e r in
      let_before l ls e s (h l.iso s.given s.gives s.count s.called) (lets_before ls s.next s.follows)

  clause_before : (c : Clause) (v w : Val) (k : ℕ) → run_clause full c v ≡ (some w, k) → Before (run_clause call c v) w k
  clause_before c v w k r = let s = clause_run full c v r in go s (lets_before c.lets s.first s.lets)
    where
      go : (s : ClauseRun full c v w k) → Before (run_lets call c.lets s.first) s.last k → Before (run_clause call c v) w k
      go s (same q) = same (run_clause_lem call c v s.bound q s.built s.nothing)
      go s (less n q m) =
          less n
          (some_given (λ e. run_lets call c.lets e >>> λ d. given (build c.rhs d >>= wholly)) s.bound (none_then (λ d. given (build c.rhs d >>= wholly)) q))
          m

  apply_before : (o : Iso) (v w : Val) (k : ℕ) → apply full o v ≡ (some w, k) → Before (apply call o v) w k
  apply_before o v w k r =
      let s = given_some (only (select (hits v) o.clauses)) (λ c. run_clause full c v) r in
      go s.0 s.1 (clause_before s.0 v w k s.2)
    where
      go : (c : Clause) → only (select (hits v) o.clauses) ≡ some c → Before (run_clause call c v) w k → Before (apply call o v) w k
      go c e (same q) = same (some_given (λ c. run_clause call c v) e q)
      go c e (less n q m) = less n (some_given (λ c. run_clause call c v) e q) m

module _ (os : List Iso) (fits : Val → Bool) where
  -- what an application gives where its argument, or its result, does not pass
  fails_first : (d i : ℕ) (v : Val) → fits v ≡ false → reduce_to fits (suc d) os i v ≡ (none, 1)
  fails_first d i v e = ap (λ b. ((some v, 1) >>> (λ v. given (guard b >>= λ _. some v))) >>> applied (reduce_to fits d os) os i >>> measured fits) e

  applied_as : (d i : ℕ) (v : Val) {o : Iso} {x : Option Val} {n : ℕ} → fits v ≡ true → get_elem? os i ≡ some o → apply (reduce_to fits d os) o v ≡ (x, n)
      → ((some v, 1) >>> measured fits >>> applied (reduce_to fits d os) os i) ≡ (x, 1 + n)
  applied_as d i v a e r =
      some_then {m = 1} (applied (reduce_to fits d os) os i) (some_then {m = 1} (measured fits) refl (counted (some_bind (λ _. some v) (true_guard a)) refl))
      (some_given (λ o. apply (reduce_to fits d os) o v) e r)

  -- one application, where the calls in it are before those of the other
  step : (d d' : ℕ) → Precedes (reduce_to fits d os) (reduce_to (λ v. true) d' os) → (i : ℕ) (v w : Val) (k : ℕ)
      → reduce_to (λ v. true) (suc d') os i v ≡ (some w, k) → Before (reduce_to fits (suc d) os i v) w k
  step d d' h i v w k r = go (application (λ v. true) d' os i v r) (bool_cases (fits v))
    where
      end : (n : ℕ) → reduce_to fits (suc d) os i v ≡ ((measured fits w).0, n) → n ≡ k → Before (reduce_to fits (suc d) os i v) w k
      end n e m = pick (bool_cases (fits w))
        where
          pick : (fits w ≡ true) ⊎ (fits w ≡ false) → Before (reduce_to fits (suc d) os i v) w k
          pick (inl y) = same (e ∙ counted (some_bind (λ _. some w) (true_guard y)) m)
          pick (inr y) = less n (e ∙ counted (ap (λ b. guard b >>= λ _. some w) y) refl) (omega (arith, m))

      on : (a : Application (λ v. true) d' os i v w k) → fits v ≡ true → Before (apply (reduce_to fits d os) a.iso v) w a.count → Before (reduce_to fits (suc d) os i v) w k
      on a f (same q) =
          let c = a.counts in
          end (1 + a.count + 0) (some_then {m = 1 + a.count} (measured fits) (applied_as d i v f a.known q) refl) (omega (arith, c))
      on a f (less n q m) =
          let c = a.counts in
          less (1 + n) (none_then (measured fits) (applied_as d i v f a.known q)) (omega (arith, c, m))

      go : (a : Application (λ v. true) d' os i v w k) → (fits v ≡ true) ⊎ (fits v ≡ false) → Before (reduce_to fits (suc d) os i v) w k
      go a (inl f) = on a f (apply_before (reduce_to fits d os) (reduce_to (λ v. true) d' os) h a.iso v w a.count a.applies)
      go a (inr f) = let c = a.counts in less 1 (fails_first d i v f) (omega (arith, c))

  pub before_to : (d d' i : ℕ) (v w : Val) (k : ℕ) → reduce_to (λ v. true) d' os i v ≡ (some w, k) → Before (reduce_to fits d os i v) w k
  before_to d zero i v w k r = absurd (none≢some (ap (λ x. x.0) r))
  before_to zero (suc d') i v w k r = let c = (application (λ v. true) d' os i v r).counts in less 1 refl (omega (arith, c))
  before_to (suc d) (suc d') i v w k r = step d d' (before_to d d') i v w k r
