-- In a file that satisfies the judgements: what an application gives is a closed value of the other type, exactly one clause matches at each
-- application on the way, and an iso that meets the rule of recursion, with all it reaches, gives something to every closed value.
use Prim.Native.Nat.{ℕ, zero, suc, ◌≤◌}
use native.Mathlib.Nat.{not-suc-le-zero, le_of_suc-le-suc}
use mathlib.Core.Path.{◌≡◌, refl, sym, ap, ◌∙◌, subst}
use mathlib.Core.Bool.{true, Bool}
use mathlib.Core.Option.{some}
use mathlib.Core.List.Memᴰ
use mathlib.Core.List.{List, [], ◌∷◌, ◌++◌, map, append-nil, Memᴰ}
use lib.ListN.{get_elem?}
use Rattle.calculus.specs.Tools.{is_some, select}
use Rattle.calculus.specs.Trees.{Ty, Pat, Val, Let, Clause, Iso}
use Rattle.calculus.specs.Slots.{Slots, empty}
use Rattle.calculus.specs.Reduction.{bind, build, Call, run_lets, run_clause, hits, only, apply, reduce_to}
use Rattle.calculus.specs.Clauses.{Sigs, sigs_of, lefts}
use Rattle.calculus.specs.Paper.{Of, Join, Fits, Chain, Linear, Product, LetProducts, Apart, Matched, Covers, ExactlyOne, OnWay}
use Rattle.calculus.proofs.Basic.{none≢some, some_inj, index_mem, index_of_map, counted}
use Rattle.calculus.proofs.Orthogonal.{orth_apart}
use Rattle.calculus.proofs.Matching.{bind_matched}
use Rattle.calculus.proofs.Running.{let_run, run_let, clause_run, run_clause_lem, only_hit, hit_only, given_some, some_given, application, run_application}
use Rattle.calculus.proofs.Joins.{EnvOf, build_total, build_all, bind_total, lhs_total}
use Rattle.calculus.proofs.Inverse.{free_unfold}

-- what an accepted file guarantees
pub record Sound (os : List Iso) : Type 0 where
  pub linear : (o : Iso) → Memᴰ o os → (c : Clause) → Memᴰ c o.clauses → Linear (sigs_of os) o.from o.to c
  pub shapes : (o : Iso) → Memᴰ o os → (c : Clause) → Memᴰ c o.clauses → LetProducts c
  pub lefts_apart : (o : Iso) → Memᴰ o os → Apart (lefts o)
  pub lefts_cover : (o : Iso) → Memᴰ o os → Covers o.from (lefts o)
  pub earlier : (i : ℕ) (o : Iso) → get_elem? os i ≡ some o → (c : Clause) → Memᴰ c o.clauses → (l : Let) → Memᴰ l c.lets → l.iso ≤ i

-- the types of an iso
abbrev pub sig : Iso → Ty × Ty
sig n = (n.from, n.to)

from_sig : (os : List Iso) (i : ℕ) {s : Ty × Ty} {u : Val} → get_elem? (sigs_of os) i ≡ some s → Of u s.0
    → (n : Iso) × (get_elem? os i ≡ some n) × Of u n.from
from_sig os i {s} {u} e t =
    let n = index_of_map sig os i e in (n.0, n.1, subst (λ x. Of u x.0) (sym n.2) t)

-- ---- what is given is of the right type

-- what iso i gives to a value of its from-type is of its to-type
abbrev pub Keeps : Sigs → Call → Type 0
Keeps sigs call = (i : ℕ) (s : Ty × Ty) → get_elem? sigs i ≡ some s → (v w : Val) (k : ℕ) → Of v s.0 → call i v ≡ (some w, k) → Of w s.1

-- the first step of a chain
pub record First (sigs : Sigs) (d : Slots Ty) (l : Let) (ls : List Let) (p : Pat) (b : Ty) : Type 0 where
  pub s : Ty × Ty
  pub known : get_elem? sigs l.iso ≡ some s
  pub e : Slots Ty
  pub f : Slots Ty
  pub g : Slots Ty
  pub h : Slots Ty
  pub parts : Join d e f
  pub uses : Fits e l.q s.0
  pub binds : Fits g l.p s.1
  pub joins : Join h f g
  pub next : Chain sigs h ls p b

pub chain_first : {sigs : Sigs} {d : Slots Ty} {l : Let} {ls : List Let} {p : Pat} {b : Ty} → Chain sigs d (l ∷ ls) p b → First sigs d l ls p b
chain_first (Chain.step {e = e} {f = f} {g = g} {h = h} s k j q p i c) =
    record { s = s; known = k; e = e; f = f; g = g; h = h; parts = j; uses = q; binds = p; joins = i; next = c }

pub chain_last : {sigs : Sigs} {d : Slots Ty} {p : Pat} {b : Ty} → Chain sigs d [] p b → Fits d p b
chain_last (Chain.value x) = x

-- steps that ran before others leave an environment of the context of these
pub record LetsKept (sigs : Sigs) (δ : Slots Val) (ls' : List Let) (p : Pat) (b : Ty) : Type 0 where
  pub context : Slots Ty
  pub env : EnvOf δ context
  pub chain : Chain sigs context ls' p b

pub lets_keep : {sigs : Sigs} (call : Call) → Keeps sigs call → (ls ls' : List Let) {d : Slots Ty} {p : Pat} {b : Ty} {ε δ : Slots Val} {k : ℕ}
    → Chain sigs d (ls ++ ls') p b → EnvOf ε d → ((l : Let) → Memᴰ l ls → Product l.p) → run_lets call ls ε ≡ (some δ, k)
    → LetsKept sigs δ ls' p b
lets_keep call keeps [] ls' {d} c r h e = record { context = d; env = subst (λ z. EnvOf z d) (some_inj (ap (λ x. x.0) e)) r; chain = c }
lets_keep call keeps (l ∷ ls) ls' {d} {ε} c r h e =
    let t = let_run call l ls ε e in
    let s = chain_first c in
    let b = build_total s.uses s.parts r in
    let same = some_inj (sym b.builds ∙ t.built) in
    let given = subst (λ z. Of z s.s.0) (ap (λ x. x.0) same) b.typed in
    let given_env = subst (λ z. EnvOf z s.f) (ap (λ x. x.1) same) b.env in
    let a = keeps l.iso s.s s.known t.given t.gives t.count given t.called in
    let u = bind_total s.binds (h l (Memᴰ.head refl)) a s.joins given_env in
    lets_keep call keeps ls ls' s.next (subst (λ z. EnvOf z s.h) (some_inj (sym u.binds ∙ t.bound)) u.env) (λ m i. h m (Memᴰ.tail i)) t.follows

module _ {os : List Iso} (S : Sound os) where
  clause_keeps : (call : Call) → Keeps (sigs_of os) call → (o : Iso) → Memᴰ o os → (c : Clause) → Memᴰ c o.clauses → (v w : Val) (k : ℕ)
      → Of v o.from → run_clause call c v ≡ (some w, k) → Of w o.to
  clause_keeps call keeps o i c j v w k t e =
      let r = clause_run call c v e in
      let z = S.linear o i c j in
      let x = lhs_total z.wide z.lhs t (bind_matched c.lhs v (empty Val) r.first r.bound) in
      let n = lets_keep call keeps c.lets []
      (subst (λ y. Chain (sigs_of os) z.context y c.rhs o.to) (sym (append-nil c.lets)) z.rest)
      (subst (λ y. EnvOf y z.context) (some_inj (sym x.binds ∙ r.bound)) x.env) (λ l m. (S.shapes o i c j l m).0) r.lets in
      let b = build_all (chain_last n.chain) n.env in
      subst (λ y. Of y o.to) (ap (λ x. x.0) (some_inj (sym b.2 ∙ r.built))) b.3

  call_keeps : (call : Call) → Keeps (sigs_of os) call → (i : ℕ) (o : Iso) → get_elem? os i ≡ some o → (v w : Val) (k : ℕ) → Of v o.from
      → apply call o v ≡ (some w, k) → Of w o.to
  call_keeps call keeps i o e v w k t h =
      let c = given_some (only (select (hits v) o.clauses)) (λ c. run_clause call c v) h in
      let m = hit_only (hits v) o.clauses c.1 in
      clause_keeps call keeps o (index_mem os i e) c.0 m.0 v w k t c.2

  -- the reduction, under any ceilings, keeps types
  pub reduction_keeps : (fits : Val → Bool) (d : ℕ) → Keeps (sigs_of os) (reduce_to fits d os)
  reduction_keeps fits zero i s e v w k t h = absurd (none≢some (ap (λ r. r.0) h))
  reduction_keeps fits (suc d) i s e v w k t h =
      let a = application fits d os i v h in
      let n = index_of_map sig os i e in
      let same = some_inj (sym a.known ∙ n.1) in
      let t' = subst (λ q. Of v q.from) (sym same) (subst (λ x. Of v x.0) (sym n.2) t) in
      let r = call_keeps (reduce_to fits d os) (reduction_keeps fits d) i a.iso a.known v w a.count t' a.applies in
      subst (λ x. Of w x.1) n.2 (subst (λ q. Of w q.to) same r)

  pub apply_keeps : (fits : Val → Bool) (d i : ℕ) (o : Iso) → get_elem? os i ≡ some o → (v w : Val) (k : ℕ) → Of v o.from
      → apply (reduce_to fits d os) o v ≡ (some w, k) → Of w o.to
  apply_keeps fits d = call_keeps (reduce_to fits d os) (reduction_keeps fits d)

-- ---- exactly one clause

pub one_mem : {cs : List Clause} {v : Val} (x : ExactlyOne cs v) → Memᴰ x.clause cs
one_mem x = subst (Memᴰ x.clause) (sym x.splits) (Memᴰ.append_right x.above (Memᴰ.head refl))

one_more : (c : Clause) {cs : List Clause} {v : Val} → ((q : Pat) → Memᴰ q (map (λ c. c.lhs) cs) → Matched c.lhs v → Matched q v → ⊥)
    → ExactlyOne cs v → ExactlyOne (c ∷ cs) v
one_more c {cs} {v} f x =
    record {
      above = c ∷ x.above;
      clause = x.clause;
      below = x.below;
      splits = ap {B = List Clause} (λ r. c ∷ r) x.splits;
      matches = x.matches;
      others = out;
    }
  where
    out : (d : Clause) → Memᴰ d (c ∷ (x.above ++ x.below)) → Matched d.lhs v → ⊥
    out d (Memᴰ.head e) m =
        f x.clause.lhs (Memᴰ.map (λ c. c.lhs) (one_mem x)) (subst (λ z. Matched z.lhs v) e m) x.matches
    out d (Memᴰ.tail i) m = x.others d i m

one_of : (cs : List Clause) {v : Val} {p : Pat} → Apart (map (λ c. c.lhs) cs) → Memᴰ p (map (λ c. c.lhs) cs) → Matched p v → ExactlyOne cs v
one_of (c ∷ cs) {v} (Apart.beside h a) (Memᴰ.head e) m =
    record {
      above = [];
      clause = c;
      below = cs;
      splits = refl;
      matches = subst (λ q. Matched q v) e m;
      others = λ d i n. orth_apart (h d.lhs (Memᴰ.map (λ c. c.lhs) i)) (subst (λ q. Matched q v) e m) n;
    }
one_of (c ∷ cs) {v} (Apart.beside h a) (Memᴰ.tail i) m = one_more c (λ q j x y. orth_apart (h q j) x y) (one_of cs a i m)
one_of [] {v = v} {p = p} _ x4 m = elim x4 [ ]

pub exactly_one : {os : List Iso} (S : Sound os) (o : Iso) → Memᴰ o os → {v : Val} → Of v o.from → ExactlyOne o.clauses v
exactly_one S o i {v} t = let x = S.lefts_cover o i v t in one_of o.clauses (S.lefts_apart o i) x.1 x.2

-- ---- the clause that matches

module _ {os : List Iso} (S : Sound os) where
  pub clause_hits : (o : Iso) → Memᴰ o os → (c : Clause) → Memᴰ c o.clauses → {v : Val}
      → Of v o.from → Matched c.lhs v → hits v c ≡ true
  clause_hits o i c j t m = let l = S.linear o i c j in ap is_some (lhs_total l.wide l.lhs t m).binds

  -- the clause that matches is taken, and no other
  pub takes_one : (o : Iso) (i : Memᴰ o os) {v : Val} (t : Of v o.from)
      → only (select (hits v) o.clauses) ≡ some (exactly_one S o i t).clause
  takes_one o i t = let x = exactly_one S o i t in only_hit _ o.clauses (S.lefts_apart o i) (one_mem x) (clause_hits o i x.clause (one_mem x) t x.matches)

  -- ---- on the way

  -- what a let step is given is a closed value of its iso's type
  pub let_given : (fits : Val → Bool) (i : ℕ) (o : Iso) → get_elem? os i ≡ some o → (c : Clause) → Memᴰ c o.clauses → {v : Val} → Of v o.from
      → (ls : List Let) (l : Let) (ls' : List Let) → c.lets ≡ ls ++ (l ∷ ls')
      → (n : ℕ) {e d d' : Slots Val} {k : ℕ} {u : Val} → bind c.lhs v (empty Val) ≡ some e → run_lets (reduce_to fits n os) ls e ≡ (some d, k)
      → build l.q d ≡ some (u, d') → (m : Iso) × (get_elem? os l.iso ≡ some m) × Of u m.from
  let_given fits i o e c j {v} t ls l ls' s n {e = ε} {d} b r q =
      let z = S.linear o (index_mem os i e) c j in
      let x = lhs_total z.wide z.lhs t (bind_matched c.lhs v (empty Val) ε b) in
      let y = lets_keep (reduce_to fits n os) (reduction_keeps S fits n) ls (l ∷ ls')
      (subst (λ y. Chain (sigs_of os) z.context y c.rhs o.to) s z.rest)
      (subst (λ y. EnvOf y z.context) (some_inj (sym x.binds ∙ b)) x.env)
      (λ m k. (S.shapes o (index_mem os i e) c j m (subst (Memᴰ m) (sym s) (Memᴰ.append_left (l ∷ ls') k))).0) r in
      let f = chain_first y.chain in
      let w = build_total f.uses f.parts y.env in
      from_sig os l.iso f.known (subst (λ z. Of z f.s.0) (ap {B = Val} (λ x. x.0) (some_inj (sym w.builds ∙ q))) w.typed)

  pub on_way : {i j : ℕ} {v w : Val} → OnWay os i v j w → (o : Iso) → get_elem? os i ≡ some o → Of v o.from
      → (n : Iso) × (get_elem? os j ≡ some n) × Of w n.from × ExactlyOne n.clauses w
  on_way (OnWay.itself p q) o e t =
      let g = subst (λ z. get_elem? os z ≡ some o) p e in
      let u = subst (λ z. Of z o.from) q t in
      (o, g, u, exactly_one S o (index_mem os _ g) u)
  on_way {i} {v} (OnWay.below m c ls l ls' e d d' n k u g i' b s r q y) o h t =
      let x = let_given (λ v. true) i m g c i' (subst (λ z. Of v z.from) (some_inj (sym h ∙ g)) t) ls l ls' s n b
      (ap (λ f. run_lets f ls e) (sym (free_unfold n os)) ∙ r) q in
      on_way y x.0 x.1 x.2

-- ---- more depth changes nothing

-- what one call gives, the other gives too
abbrev pub Within : Call → Call → Type 0
Within call call' = (i : ℕ) (v w : Val) (k : ℕ) → call i v ≡ (some w, k) → call' i v ≡ (some w, k)

pub lets_within : {call call' : Call} → Within call call' → (ls : List Let) (e : Slots Val) {d : Slots Val} {k : ℕ}
    → run_lets call ls e ≡ (some d, k) → run_lets call' ls e ≡ (some d, k)
lets_within h [] e x = x
lets_within {call} {call'} h (l ∷ ls) e x =
    let s = let_run call l ls e x in
    run_let call' l ls e s.built (h l.iso s.given s.gives s.count s.called) s.bound (lets_within h ls s.next s.follows)
    ∙ counted refl s.counts

clause_within : {call call' : Call} → Within call call' → (c : Clause) (v : Val) {w : Val} {k : ℕ}
    → run_clause call c v ≡ (some w, k) → run_clause call' c v ≡ (some w, k)
clause_within {call} {call'} h c v x =
    let s = clause_run call c v x in
    run_clause_lem call' c v s.bound (lets_within h c.lets s.first s.lets) s.built s.nothing

apply_within : {call call' : Call} → Within call call' → (o : Iso) (v : Val) {w : Val} {k : ℕ}
    → apply call o v ≡ (some w, k) → apply call' o v ≡ (some w, k)
apply_within {call} {call'} h o v x =
    let c = given_some (only (select (hits v) o.clauses)) (λ c. run_clause call c v) x in
    some_given (λ c. run_clause call' c v) c.1 (clause_within h c.0 v c.2)

-- wider ceilings change nothing either
pub depth : (os : List Iso) (fits fits' : Val → Bool) → ((v : Val) → fits v ≡ true → fits' v ≡ true) → (d d' : ℕ) → d ≤ d' → (i : ℕ) (v w : Val) (k : ℕ)
    → reduce_to fits d os i v ≡ (some w, k) → reduce_to fits' d' os i v ≡ (some w, k)
depth os fits fits' g zero d' h i v w k x = absurd (none≢some (ap (λ r. r.0) x))
depth os fits fits' g (suc d) zero h i v w k x = absurd (not-suc-le-zero h)
depth os fits fits' g (suc d) (suc d') h i v w k x =
    let a = application fits d os i v x in
    run_application fits' d' os i v (g v a.argument) a.known
    (apply_within (depth os fits fits' g d d' (le_of_suc-le-suc h)) a.iso v a.applies) (g w a.result)
    ∙ counted refl a.counts
