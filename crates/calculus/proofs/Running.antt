-- What a run consists of: the parts of a let step and of a clause that give something, and the clause that is taken.
use Prim.Native.Nat.{ℕ, suc, ◌+◌}
use native.Mathlib.Nat.{zero-add, add_assoc, add-zero}
use mathlib.Core.Path.{◌≡◌, refl, sym, ap, ap₂, ◌∙◌}
use mathlib.Core.Bool.{Bool, true, false}
use mathlib.Core.Option.{some, Option}
use mathlib.Core.List.Memᴰ
use mathlib.Core.List.{List, [], ◌∷◌, ◌++◌, map, Memᴰ}
use lib.ListN.{length, get_elem?}
use Rattle.calculus.specs.Tools.{◌>>=◌, guard, select}
use Rattle.calculus.specs.Trees.{Val, Let, Clause, Iso}
use Rattle.calculus.specs.Slots.{Slots, empty, all_empty}
use Rattle.calculus.specs.Reduction.{bind, build, Call, run_lets, run_clause, hits, only, Counted, given, ◌>>>◌, wholly, apply, measured, applied, reduce_to}
use Rattle.calculus.specs.Paper.{Orth, Apart}
use Rattle.calculus.proofs.Basic.{bind_some, some_bind, none≢some, some_inj, some_pair, guard_true, true_guard, is_false, select_true, select_false}
use Rattle.calculus.proofs.Basic.{select_none, select_mem, counted, then_some, some_then}
use Rattle.calculus.proofs.Slots.{is_empty}
use Rattle.calculus.proofs.Orthogonal.{orth_apart, apart_head, apart_tail}
use Rattle.calculus.proofs.Binding.{bind_length, build_length}
use Rattle.calculus.proofs.Matching.{hit_matched}
use native.Mathlib.Omega.{arith}

-- ---- let steps

-- a let step that gives something, and what follows it
pub record LetRun (call : Call) (l : Let) (ls : List Let) (e d : Slots Val) (k : ℕ) : Type 0 where
  pub given : Val
  pub rest : Slots Val
  pub built : build l.q e ≡ some (given, rest)
  pub gives : Val
  pub count : ℕ
  pub called : call l.iso given ≡ (some gives, count)
  pub next : Slots Val
  pub bound : bind l.p gives rest ≡ some next
  pub after : ℕ
  pub follows : run_lets call ls next ≡ (some d, after)
  pub counts : count + after ≡ k

-- what gives something without an application
pub given_some : {A B : Type 0} (x : Option A) (f : A → Counted B) {b : B} {k : ℕ} → (given x >>> f) ≡ (some b, k)
    → (a : A) × (x ≡ some a) × (f a ≡ (some b, k))
given_some x f {k} e =
    let r = then_some (given x) f e in
    let z : 0 ≡ r.1 = ap (λ t. t.1) r.3 in
    (r.0, ap (λ t. t.0) r.3, r.4 ∙ counted refl (omega (arith, r.5)))

pub some_given : {A B : Type 0} {x : Option A} {a : A} (f : A → Counted B) {y : Option B} {j : ℕ} → x ≡ some a → f a ≡ (y, j) → (given x >>> f) ≡ (y, j)
some_given f {j} e h = some_then f (counted e refl) h ∙ counted refl (zero-add j)

pub let_run : (call : Call) (l : Let) (ls : List Let) (e : Slots Val) {d : Slots Val} {k : ℕ}
    → run_lets call (l ∷ ls) e ≡ (some d, k) → LetRun call l ls e d k
let_run call l ls e h =
    let r = given_some (build l.q e) _ h in
    let c = then_some (call l.iso r.0.0) _ r.2 in
    let b = given_some (bind l.p c.0 r.0.1) _ c.4 in
    record {
      given = r.0.0;
      rest = r.0.1;
      built = r.1;
      gives = c.0;
      count = c.1;
      called = c.3;
      next = b.0;
      bound = b.1;
      after = c.2;
      follows = b.2;
      counts = c.5;
    }

-- and a let step gives something where its parts do
pub run_let : (call : Call) (l : Let) (ls : List Let) (e : Slots Val) {u w : Val} {f g d : Slots Val} {j k : ℕ}
    → build l.q e ≡ some (u, f) → call l.iso u ≡ (some w, j) → bind l.p w f ≡ some g → run_lets call ls g ≡ (some d, k)
    → run_lets call (l ∷ ls) e ≡ (some d, j + k)
run_let call l ls e {f} {j} b c p r =
    some_given (λ r. call l.iso r.0 >>> λ w. given (bind l.p w r.1) >>> λ d. run_lets call ls d) b
    (some_then (λ w. given (bind l.p w f) >>> λ d. run_lets call ls d) c (some_given (λ d. run_lets call ls d) p r))

pub run_lets_length : (call : Call) (ls : List Let) (e : Slots Val) {d : Slots Val} {k : ℕ} → run_lets call ls e ≡ (some d, k) → length d ≡ length e
run_lets_length call [] e h = ap length (sym (some_inj (ap (λ r. r.0) h)))
run_lets_length call (l ∷ ls) e h =
    let s = let_run call l ls e h in
    run_lets_length call ls s.next s.follows ∙ bind_length l.p s.gives s.rest s.bound ∙ build_length l.q e s.built

pub run_lets_append : (call : Call) (ls ms : List Let) (e : Slots Val) {d f : Slots Val} {j k : ℕ}
    → run_lets call ls e ≡ (some d, j) → run_lets call ms d ≡ (some f, k) → run_lets call (ls ++ ms) e ≡ (some f, j + k)
run_lets_append call [] ms e {k} h g =
    ap (run_lets call ms) (some_inj (ap (λ r. r.0) h)) ∙ g ∙ counted refl (sym (zero-add k) ∙ ap (λ x. x.1 + k) h)
run_lets_append call (l ∷ ls) ms e {k} h g =
    let s = let_run call l ls e h in
    run_let call l (ls ++ ms) e s.built s.called s.bound (run_lets_append call ls ms s.next s.follows g)
    ∙ counted refl (sym (add_assoc s.count s.after k) ∙ ap (λ n. n + k) s.counts)

-- ---- clauses

-- a clause that gives something
pub record ClauseRun (call : Call) (c : Clause) (v w : Val) (k : ℕ) : Type 0 where
  pub first : Slots Val
  pub bound : bind c.lhs v (empty Val) ≡ some first
  pub last : Slots Val
  pub lets : run_lets call c.lets first ≡ (some last, k)
  pub rest : Slots Val
  pub built : build c.rhs last ≡ some (w, rest)
  pub nothing : all_empty rest ≡ true

pub clause_run : (call : Call) (c : Clause) (v : Val) {w : Val} {k : ℕ} → run_clause call c v ≡ (some w, k) → ClauseRun call c v w k
clause_run call c v {k} h =
    let b = given_some (bind c.lhs v (empty Val)) _ h in
    let t = then_some (run_lets call c.lets b.0) _ b.2 in
    let r = bind_some (build c.rhs t.0) wholly (ap (λ x. x.0) t.4) in
    let g = bind_some (guard (all_empty r.0.1)) (λ _. some r.0.0) r.2 in
    let z : 0 ≡ t.2 = ap (λ x. x.1) t.4 in
    record {
      first = b.0;
      bound = b.1;
      last = t.0;
      lets = t.3 ∙ counted refl (omega (arith, t.5));
      rest = r.0.1;
      built = r.1 ∙ some_pair (some_inj g.2) refl;
      nothing = guard_true (all_empty r.0.1) g.1;
    }

-- the right pattern uses up all values
pub all_used : {call : Call} {c : Clause} {v w : Val} {k : ℕ} (s : ClauseRun call c v w k) → build c.rhs s.last ≡ some (w, empty Val)
all_used {call} {c} {v} s =
    s.built
    ∙ some_pair refl
    (is_empty s.rest (build_length c.rhs s.last s.built ∙ run_lets_length call c.lets s.first s.lets ∙ bind_length c.lhs v (empty Val) s.bound)
    s.nothing)

pub run_clause_lem : (call : Call) (c : Clause) (v : Val) {w : Val} {e d f : Slots Val} {k : ℕ} → bind c.lhs v (empty Val) ≡ some e
    → run_lets call c.lets e ≡ (some d, k) → build c.rhs d ≡ some (w, f) → all_empty f ≡ true → run_clause call c v ≡ (some w, k)
run_clause_lem call c v {w} {k} b t r g =
    some_given (λ e. run_lets call c.lets e >>> λ d. given (build c.rhs d >>= wholly)) b
    (some_then (λ d. given (build c.rhs d >>= wholly)) t (counted (some_bind wholly r ∙ some_bind (λ _. some w) (true_guard g)) refl)
    ∙ counted refl (add-zero k))

-- ---- an application

-- an application that gives something: its argument and its result pass the test
pub record Application (fits : Val → Bool) (d : ℕ) (os : List Iso) (i : ℕ) (v w : Val) (k : ℕ) : Type 0 where
  pub argument : fits v ≡ true
  pub iso : Iso
  pub known : get_elem? os i ≡ some iso
  pub count : ℕ
  pub applies : apply (reduce_to fits d os) iso v ≡ (some w, count)
  pub result : fits w ≡ true
  pub counts : suc count ≡ k

measured_some : (fits : Val → Bool) (v : Val) {w : Val} {k : ℕ} → measured fits v ≡ (some w, k) → (fits v ≡ true) × (v ≡ w) × (0 ≡ k)
measured_some fits v h =
    let g = bind_some (guard (fits v)) (λ _. some v) (ap (λ r. r.0) h) in
    (guard_true (fits v) g.1, some_inj g.2, ap (λ r. r.1) h)

pub application : (fits : Val → Bool) (d : ℕ) (os : List Iso) (i : ℕ) (v : Val) {w : Val} {k : ℕ}
    → reduce_to fits (suc d) os i v ≡ (some w, k) → Application fits d os i v w k
application fits d os i v {w} {k} h =
    let c = then_some (((some v, 1) >>> measured fits) >>> applied (reduce_to fits d os) os i) (measured fits) h in
    let m = measured_some fits c.0 c.4 in
    let b = then_some ((some v, 1) >>> measured fits) (applied (reduce_to fits d os) os i) c.3 in
    let a = then_some (some v, 1) (measured fits) b.3 in
    let n = measured_some fits a.0 a.4 in
    let same : v ≡ a.0 = some_inj (ap (λ r. r.0) a.3) in
    let u : v ≡ b.0 = same ∙ n.1 in
    let o = given_some (get_elem? os i) (λ o. apply (reduce_to fits d os) o b.0) b.4 in
    let one : 1 ≡ a.1 = ap (λ r. r.1) a.3 in
    record {
      argument = ap fits same ∙ n.0;
      iso = o.0;
      known = o.1;
      count = b.2;
      applies = ap (apply (reduce_to fits d os) o.0) u ∙ o.2 ∙ counted (ap some m.1) refl;
      result = ap fits (sym m.1) ∙ m.0;
      counts = omega (arith, n.2, m.2, a.5, b.5, c.5);
    }

pub run_application : (fits : Val → Bool) (d : ℕ) (os : List Iso) (i : ℕ) (v : Val) {w : Val} {o : Iso} {k : ℕ}
    → fits v ≡ true → get_elem? os i ≡ some o → apply (reduce_to fits d os) o v ≡ (some w, k) → fits w ≡ true
    → reduce_to fits (suc d) os i v ≡ (some w, suc k)
run_application fits d os i v {w} {o} {k} a e h r =
    some_then {m = 1 + k} (measured fits)
    (some_then {m = 1} (applied (reduce_to fits d os) os i) (some_then {m = 1} (measured fits) refl (passes v a))
    (some_given (λ o. apply (reduce_to fits d os) o v) e h))
    (passes w r)
    ∙ counted refl sums
  where
    passes : (u : Val) → fits u ≡ true → measured fits u ≡ (some u, 0)
    passes u e = counted (some_bind (λ _. some u) (true_guard e)) refl

    sums : 1 + k + 0 ≡ suc k
    sums = omega arith

-- ---- the clause that is taken

-- what one of two orthogonal patterns hits the other misses
orth_hits : (v : Val) (c d : Clause) → Orth c.lhs d.lhs → hits v c ≡ true → hits v d ≡ true → ⊥
orth_hits v c d o h k = orth_apart o (hit_matched v c h) (hit_matched v d k)

-- the other clauses miss what an orthogonal clause hits
apart_select : (v : Val) (c : Clause) (cs : List Clause) → Apart (map (λ c. c.lhs) (c ∷ cs)) → hits v c ≡ true → select (hits v) cs ≡ []
apart_select v c cs a h =
    select_none (hits v) cs (λ d m. is_false (hits v d) (orth_hits v c d (apart_head a d.lhs (Memᴰ.map (λ c. c.lhs) m)) h))

apart_miss : (v : Val) (c d : Clause) (cs : List Clause) → Apart (map (λ c. c.lhs) (d ∷ cs)) → Memᴰ c cs → hits v c ≡ true → hits v d ≡ false
apart_miss v c d cs a m h =
    is_false (hits v d) (λ k. orth_hits v d c (apart_head a c.lhs (Memᴰ.map (λ c. c.lhs) m)) k h)

select_only : (v : Val) {c : Clause} (cs : List Clause)
    → Apart (map (λ c. c.lhs) cs) → Memᴰ c cs → hits v c ≡ true → select (hits v) cs ≡ c ∷ []
select_only v {c} (d ∷ cs) a (Memᴰ.head e) h =
    select_true (hits v) d cs (ap (hits v) (sym e) ∙ h) ∙ ap₂ ◌∷◌ (sym e) (apart_select v d cs a (ap (hits v) (sym e) ∙ h))
select_only v {c} (d ∷ cs) a (Memᴰ.tail m) h =
    select_false (hits v) d cs (apart_miss v c d cs a m h) ∙ select_only v cs (apart_tail a) m h
select_only v {c = c} [] a x3 h = elim x3 [ ]

-- of orthogonal clauses the one that hits is taken
pub only_hit : (v : Val) {c : Clause} (cs : List Clause)
    → Apart (map (λ c. c.lhs) cs) → Memᴰ c cs → hits v c ≡ true → only (select (hits v) cs) ≡ some c
only_hit v cs a m h = ap only (select_only v cs a m h)

only_mem : (cs : List Clause) {c : Clause} → only cs ≡ some c → Memᴰ c cs
only_mem [] h = absurd (none≢some h)
only_mem (c ∷ []) h = Memᴰ.head (sym (some_inj h))
only_mem (c ∷ (d ∷ cs)) h = absurd (none≢some h)

-- and what is taken stands in the list and hits
pub hit_only : (f : Clause → Bool) (cs : List Clause) {c : Clause} → only (select f cs) ≡ some c → Memᴰ c cs × (f c ≡ true)
hit_only f cs h = select_mem f cs (only_mem (select f cs) h)
