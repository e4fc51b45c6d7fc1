-- In a file that satisfies the judgements nothing but a ceiling stops a reduction: where it gives nothing, it has met what is too large, and
-- its number is the applications made until then.
use Prim.Native.Nat.{ℕ, zero, suc, ◌+◌}
use native.Mathlib.Nat.{zero-add}
use native.Mathlib.Omega.{arith}
use mathlib.Core.Path.{◌≡◌, refl, sym, ap, ◌∙◌, subst}
use mathlib.Core.Bool.{Bool, true, false}
use mathlib.Core.Option.{Option, none, some}
use mathlib.Core.List.{List, [], ◌∷◌, ◌++◌, Memᴰ}
use lib.ListN.{get_elem?}
use Rattle.calculus.specs.Tools.{◌>>=◌, guard, is_some}
use Rattle.calculus.specs.Trees.{Ty, Pat, Val, Let, Clause, Iso}
use Rattle.calculus.specs.Slots.{Slots, empty}
use Rattle.calculus.specs.Reduction.{bind, build, Counted, given, going, ◌>>>◌, Call, run_lets, run_clause, wholly, apply, measured, applied, reduce_to}
use Rattle.calculus.specs.Clauses.{Sigs, sigs_of, lefts}
use Rattle.calculus.specs.Paper.{Of, Chain, Linear, Product, ExactlyOne, Apart, Stops}
use Rattle.calculus.proofs.Basic.{none≢some, some_inj, counted, some_bind, some_then, true_guard, index_mem, index_of_map}
use Rattle.calculus.proofs.Joins.{EnvOf, BoundTo, build_total, build_all, bind_total, lhs_total}
use Rattle.calculus.proofs.Running.{some_given, let_run, run_let, run_clause_lem, only_hit}
use Rattle.calculus.proofs.Totality.{Sound, sig, Keeps, chain_first, chain_last, exactly_one, one_mem, takes_one, reduction_keeps}

-- what gives nothing was given nothing, or its continuation gives nothing
none_given : {A B : Type 0} {x : Option A} {a : A} (f : A → Counted B) {y : Option B} {k : ℕ} → x ≡ some a → (given x >>> f) ≡ (y, k) → f a ≡ (y, k)
none_given f e h = counted refl (sym (zero-add (f _).1)) ∙ sym (ap (λ z. given z >>> f) e) ∙ h

-- ---- let steps

-- the step whose application gave nothing
record LetsStop (sigs : Sigs) (call : Call) (ls : List Let) (ε : Slots Val) (k : ℕ) : Type 0 where
  above : List Let
  step : Let
  rest : List Let
  splits : ls ≡ above ++ (step ∷ rest)
  slots : Slots Val
  count : ℕ
  runs : run_lets call above ε ≡ (some slots, count)
  value : Val
  left : Slots Val
  builds : build step.q slots ≡ some (value, left)
  type : Ty × Ty
  known : get_elem? sigs step.iso ≡ some type
  typed : Of value type.0
  more : ℕ
  stops : call step.iso value ≡ (none, more)
  counts : k ≡ count + more

-- or the environment at the end
record LetsDone (sigs : Sigs) (call : Call) (ls : List Let) (ε : Slots Val) (p : Pat) (b : Ty) : Type 0 where
  slots : Slots Val
  count : ℕ
  runs : run_lets call ls ε ≡ (some slots, count)
  context : Slots Ty
  env : EnvOf slots context
  chain : Chain sigs context [] p b

data LetsEither (sigs : Sigs) (call : Call) (ls : List Let) (ε : Slots Val) (p : Pat) (b : Ty) : Type 0 where
  done : LetsDone sigs call ls ε p b → LetsEither sigs call ls ε p b
  stop : (k : ℕ) → run_lets call ls ε ≡ (none, k) → LetsStop sigs call ls ε k → LetsEither sigs call ls ε p b

-- a step that gave something, and what follows it
go_on : {sigs : Sigs} (call : Call) (l : Let) (ls : List Let) {p : Pat} {b : Ty} {ε : Slots Val} {u w : Val} {φ η : Slots Val} {j : ℕ}
    → build l.q ε ≡ some (u, φ) → call l.iso u ≡ (some w, j) → bind l.p w φ ≡ some η
    → LetsEither sigs call ls η p b → LetsEither sigs call (l ∷ ls) ε p b
go_on call l ls {ε = ε} {j = j} built called bound (done d) =
    done (record {
      slots = d.slots;
      count = j + d.count;
      runs = run_let call l ls ε built called bound d.runs;
      context = d.context;
      env = d.env;
      chain = d.chain;
    })
go_on call l ls {ε = ε} {u = u} {w = w} {φ = φ} {j = j} built called bound (stop k e s) =
    stop (j + k)
    (some_given (λ r. call l.iso r.0 >>> λ w. given (bind l.p w r.1) >>> λ d. run_lets call ls d) built
    (some_then (λ w. given (bind l.p w φ) >>> λ d. run_lets call ls d) called (some_given (λ d. run_lets call ls d) bound e)))
    (record {
      above = l ∷ s.above;
      step = s.step;
      rest = s.rest;
      splits = ap (λ r. l ∷ r) s.splits;
      slots = s.slots;
      count = j + s.count;
      runs = run_let call l s.above ε built called bound s.runs;
      value = s.value;
      left = s.left;
      builds = s.builds;
      type = s.type;
      known = s.known;
      typed = s.typed;
      more = s.more;
      stops = s.stops;
      counts = omega (arith, s.counts);
    })

lets_either : {sigs : Sigs} (call : Call) → Keeps sigs call → (ls : List Let) {d : Slots Ty} {p : Pat} {b : Ty} {ε : Slots Val}
    → Chain sigs d ls p b → EnvOf ε d → ((l : Let) → Memᴰ l ls → Product l.p) → LetsEither sigs call ls ε p b
lets_either call keeps [] {d} {ε = ε} c r h = done (record { slots = ε; count = 0; runs = refl; context = d; env = r; chain = c })
lets_either {sigs} call keeps (l ∷ ls) {p = p} {b = b} {ε = ε} c r h =
    let s = chain_first c in
    let q = build_total s.uses s.parts r in
    go q.value q.rest q.builds s.s s.known q.typed (call l.iso q.value).0 refl
    (λ w e. let t = bind_total s.binds (h l (Memᴰ.head refl))
    (keeps l.iso s.s s.known q.value w (call l.iso q.value).1 q.typed (counted e refl)) s.joins q.env in
    (t.slots, t.binds, lets_either call keeps ls s.next t.env (λ m i. h m (Memᴰ.tail i))))
  where
    go : (u : Val) (φ : Slots Val) → build l.q ε ≡ some (u, φ) → (t : Ty × Ty) → get_elem? sigs l.iso ≡ some t → Of u t.0
        → (x : Option Val) → (call l.iso u).0 ≡ x
        → ((w : Val) → (call l.iso u).0 ≡ some w → (η : Slots Val) × (bind l.p w φ ≡ some η) × LetsEither sigs call ls η p b)
        → LetsEither sigs call (l ∷ ls) ε p b
    go u φ built t known typed none e next =
        stop (call l.iso u).1
        (some_given (λ r. call l.iso r.0 >>> λ w. given (bind l.p w r.1) >>> λ d. run_lets call ls d) built
        (ap (λ z. going z (call l.iso u).1 (λ w. given (bind l.p w φ) >>> λ d. run_lets call ls d)) e))
        (record {
          above = [];
          step = l;
          rest = ls;
          splits = refl;
          slots = ε;
          count = 0;
          runs = refl;
          value = u;
          left = φ;
          builds = built;
          type = t;
          known = known;
          typed = typed;
          more = (call l.iso u).1;
          stops = counted e refl;
          counts = sym (zero-add (call l.iso u).1);
        })
    go u φ built t known typed (some w) e next = let n = next w e in go_on call l ls built (counted e refl) n.1 n.2

-- ---- an application

-- how an application measures
pub measured_true : (fits : Val → Bool) (v : Val) → fits v ≡ true → measured fits v ≡ (some v, 0)
measured_true fits v e = counted (some_bind (λ _. some v) (true_guard e)) refl

pub measured_false : (fits : Val → Bool) (v : Val) → fits v ≡ false → measured fits v ≡ (none, 0)
measured_false fits v e = counted (ap (λ b. guard b >>= λ _. some v) e) refl

pub none_then : {A B : Type 0} {x : Counted A} {m : ℕ} (f : A → Counted B) → x ≡ (none, m) → (x >>> f) ≡ (none, m)
none_then f e = ap (λ x. x >>> f) e

module _ (fits : Val → Bool) (d : ℕ) (os : List Iso) (i : ℕ) (v : Val) where
  abbrev call : Call
  call = reduce_to fits d os

  pub reduce_argument : fits v ≡ false → reduce_to fits (suc d) os i v ≡ (none, 1)
  reduce_argument e =
      none_then (measured fits) (none_then (applied call os i) (some_then {m = 1} (measured fits) refl (measured_false fits v e)))

  reduce_applied : (o : Iso) {x : Option Val} {k : ℕ} → fits v ≡ true → get_elem? os i ≡ some o → apply call o v ≡ (x, k)
      → ((some v, 1) >>> measured fits >>> applied call os i) ≡ (x, 1 + k)
  reduce_applied o a e h =
      some_then {m = 1} (applied call os i) (some_then {m = 1} (measured fits) refl (measured_true fits v a)) (some_given (λ o. apply call o v) e h)

  pub reduce_stop : (o : Iso) {k : ℕ} → fits v ≡ true → get_elem? os i ≡ some o → apply call o v ≡ (none, k) → reduce_to fits (suc d) os i v ≡ (none, suc k)
  reduce_stop o {k} a e h = none_then (measured fits) (reduce_applied o a e h) ∙ counted refl sums
    where
      sums : 1 + k ≡ suc k
      sums = omega arith

  pub reduce_result : (o : Iso) {w : Val} {k : ℕ} → fits v ≡ true → get_elem? os i ≡ some o → apply call o v ≡ (some w, k) → (x : Option Val) → measured fits w ≡ (x, 0)
      → reduce_to fits (suc d) os i v ≡ (x, suc k)
  reduce_result o {k = k} a e h x m = some_then {m = 1 + k} (measured fits) (reduce_applied o a e h) m ∙ counted refl sums
    where
      sums : 1 + k + 0 ≡ suc k
      sums = omega arith

-- the clause that matches, and how its let steps end
record Applied (os : List Iso) (call : Call) (o : Iso) (v : Val) : Type 0 where
  clause : Clause
  member : Memᴰ clause o.clauses
  first : Slots Val
  bound : bind clause.lhs v (empty Val) ≡ some first

data Either (os : List Iso) (call : Call) (o : Iso) (v : Val) : Type 0 where
  gave : (w : Val) (k : ℕ) → apply call o v ≡ (some w, k) → Either os call o v
  stopped : (a : Applied os call o v) (k : ℕ) → apply call o v ≡ (none, k) → LetsStop (sigs_of os) call a.clause.lets a.first k → Either os call o v

module _ {os : List Iso} (S : Sound os) where
  apply_either : (call : Call) → Keeps (sigs_of os) call → (o : Iso) → Memᴰ o os → (v : Val) → Of v o.from → Either os call o v
  apply_either call keeps o i v t = go (lets_either call keeps c.lets l.rest b.env (λ m j. (S.shapes o i c (one_mem x) m j).0))
    where
      x : ExactlyOne o.clauses v
      x = exactly_one S o i t

      c : Clause
      c = x.clause

      l : Linear (sigs_of os) o.from o.to c
      l = S.linear o i c (one_mem x)

      b : BoundTo c.lhs v (empty Val) l.context
      b = lhs_total l.wide l.lhs t x.matches

      go : LetsEither (sigs_of os) call c.lets b.slots c.rhs o.to → Either os call o v
      go (done n) =
          let r = build_all (chain_last n.chain) n.env in
          gave r.0 n.count (some_given (λ c. run_clause call c v) (takes_one S o i t) (run_clause_lem call c v b.binds n.runs r.2 r.4))
      go (stop k e s) =
          stopped (record { clause = c; member = one_mem x; first = b.slots; bound = b.binds }) k
          (some_given (λ c. run_clause call c v) (takes_one S o i t)
          (some_given (λ e. run_lets call c.lets e >>> λ d. given (build c.rhs d >>= wholly)) b.binds
          (none_then (λ d. given (build c.rhs d >>= wholly)) e)))
          s

  -- nothing but a ceiling stops the reduction
  pub progress : (fits : Val → Bool) (d i : ℕ) (o : Iso) → get_elem? os i ≡ some o → (v : Val) → Of v o.from → (k : ℕ)
      → reduce_to fits d os i v ≡ (none, k) → Stops os fits d i v k
  progress fits zero i o e v t k h = subst (Stops os fits 0 i v) (ap (λ r. r.1) h) Stops.deep
  progress fits (suc d) i o e v t k h =
      go (fits v) refl (apply_either (reduce_to fits d os) (reduction_keeps S fits d) o (index_mem os i e) v t)
      (λ j u s known typed m x. let n = index_of_map sig os j known in
      progress fits d j n.0 n.1 u (subst (λ y. Of u y.0) (sym n.2) typed) m x)
    where
      last : (w : Val) (j : ℕ) → fits v ≡ true → apply (reduce_to fits d os) o v ≡ (some w, j) → (b : Bool) → fits w ≡ b → Stops os fits (suc d) i v k
      last w j a x true g =
          absurd (none≢some (sym (ap (λ r. r.0) h) ∙ ap (λ r. r.0) (reduce_result fits d os i v o a e x (some w) (measured_true fits w g))))
      last w j a x false g =
          Stops.result o w j a e x g (sym (ap (λ r. r.1) h) ∙ ap (λ r. r.1) (reduce_result fits d os i v o a e x none (measured_false fits w g)))

      go : (b : Bool) → fits v ≡ b → Either os (reduce_to fits d os) o v
          → ((j : ℕ) (u : Val) (s : Ty × Ty) → get_elem? (sigs_of os) j ≡ some s → Of u s.0 → (m : ℕ) → reduce_to fits d os j u ≡ (none, m) → Stops os fits d j u m)
          → Stops os fits (suc d) i v k
      go false a x rec = subst (Stops os fits (suc d) i v) (sym (ap (λ r. r.1) (reduce_argument fits d os i v a)) ∙ ap (λ r. r.1) h) (Stops.argument a)
      go true a (gave w j x) rec = last w j a x (fits w) refl
      go true a (stopped c j x s) rec =
          Stops.inside o c.clause s.above s.step s.rest c.first s.slots s.left s.count s.more s.value
          a e c.member c.bound s.splits s.runs s.builds (rec s.step.iso s.value s.type s.known s.typed s.more s.stops)
          (sym (ap (λ r. r.1) h) ∙ ap (λ r. r.1) (reduce_stop fits d os i v o a e x) ∙ ap suc s.counts)

-- ---- and where it meets one it stops

lets_none : (call : Call) (ls : List Let) (l : Let) (ls' : List Let) (e : Slots Val) {δ φ : Slots Val} {u : Val} {k j : ℕ} → run_lets call ls e ≡ (some δ, k)
    → build l.q δ ≡ some (u, φ) → call l.iso u ≡ (none, j) → run_lets call (ls ++ (l ∷ ls')) e ≡ (none, k + j)
lets_none call [] l ls' e {δ} {j = j} r b c =
    some_given (λ r. call l.iso r.0 >>> λ w. given (bind l.p w r.1) >>> λ d. run_lets call ls' d)
    (ap (build l.q) (some_inj (ap (λ x. x.0) r)) ∙ b)
    (none_then (λ w. given (bind l.p w _) >>> λ d. run_lets call ls' d) c)
    ∙ counted refl (sym (zero-add j) ∙ ap (λ x. x.1 + j) r)
lets_none call (m ∷ ls) l ls' e {j = j} r b c =
    let s = let_run call m ls e r in
    some_given (λ r. call m.iso r.0 >>> λ w. given (bind m.p w r.1) >>> λ d. run_lets call (ls ++ (l ∷ ls')) d) s.built
    (some_then {m = s.count} (λ w. given (bind m.p w s.rest) >>> λ d. run_lets call (ls ++ (l ∷ ls')) d) s.called
    (some_given (λ d. run_lets call (ls ++ (l ∷ ls')) d) s.bound (lets_none call ls l ls' s.next s.follows b c)))
    ∙ counted refl (sums s.count s.after j _ s.counts)
  where
    sums : (x y z w : ℕ) → x + y ≡ w → x + (y + z) ≡ w + z
    sums x y z w h = omega arith

pub stops_none : {os : List Iso} → ((o : Iso) → Memᴰ o os → Apart (lefts o)) → (fits : Val → Bool) {d i k : ℕ} {v : Val} → Stops os fits d i v k
    → reduce_to fits d os i v ≡ (none, k)
stops_none a fits Stops.deep = refl
stops_none {os} a fits (Stops.argument {d = d} {i = i} {v = v} e) = reduce_argument fits d os i v e
stops_none {os} a fits (Stops.inside {d = d} {i = i} {v = v} o c ls l ls' e δ φ k j u x known member bound splits runs builds inner m) =
    reduce_stop fits d os i v o x known
    (some_given (λ c. run_clause (reduce_to fits d os) c v) (only_hit v o.clauses (a o (index_mem os i known)) member (ap is_some bound))
    (some_given (λ e. run_lets (reduce_to fits d os) c.lets e >>> λ d. given (build c.rhs d >>= wholly)) bound
    (none_then (λ d. given (build c.rhs d >>= wholly))
    (ap (λ ms. run_lets (reduce_to fits d os) ms e) splits ∙ lets_none (reduce_to fits d os) ls l ls' e runs builds (stops_none a fits inner)))))
    ∙ counted refl (sym m)
stops_none {os} a fits (Stops.result {d = d} {i = i} {v = v} o w k x known applies g m) =
    reduce_result fits d os i v o x known applies none (measured_false fits w g) ∙ counted refl (sym m)
