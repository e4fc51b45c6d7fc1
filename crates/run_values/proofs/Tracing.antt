-- A reduction of an accepted file is a trace as the code makes it: the first clause of the value's shape, its let steps, and where something is
-- too large.
use Prim.Native.Nat.{ℕ, zero, suc, ◌+◌, ◌≤◌, ◌<◌}
use native.Mathlib.Nat.{not-suc-le-zero, le_of_suc-le-suc}
use native.Mathlib.Omega.{arith}
use mathlib.Core.Path.{◌≡◌, refl, sym, ap, ◌∙◌, subst, subst₂}
use mathlib.Core.Bool.{Bool, true, false, ◌&&◌, false≢true}
use mathlib.Core.Option.{Option, none, some}
use mathlib.Core.List.Memᴰ
use mathlib.Core.List.{List, [], ◌∷◌, map, Memᴰ}
use lib.ListN.{length, get_elem?}
use Rattle.limits.specs.Limits.{max_lets, max_depth, max_letters}
use Rattle.calculus.specs.Tools.{◌>>=◌}
use Rattle.calculus.specs.Trees.{Ty, Pat, pleaf, pvar, pinj, pnode, Val, vleaf, vinj, vnode, Let, Clause, Iso, same_tag, same_node}
use Rattle.calculus.specs.Slots.{Slots, empty}
use Rattle.calculus.specs.Letters.{letters}
use Rattle.calculus.specs.Refusals.{Kind, type_line, pattern_line, iso_line, clause_line, let_line}
use Rattle.format.specs.Lines.{Row}
use Rattle.format.specs.Judge.{Seen, start, after_kind, after_all}
use Rattle.format.specs.Unfold.{Tail, place, tail_from, isos_of}
use Rattle.calculus.specs.Reduction.{bind, build, given, ◌>>>◌, Call, run_lets, wholly, run_clause, apply, measured, small, reduce_to, reduce}
use Rattle.calculus.specs.Clauses.{sigs_of}
use Rattle.calculus.specs.Lists.{Finite}
use Rattle.calculus.specs.Paper.{Of, Fits, Chain, Product, Orth, Apart, ExactlyOne}
use Rattle.calculus.proofs.Basic.{none≢some, some_inj, is_false, and_true, same_leaf_eq, same_tag_eq, same_node_eq, each_nil, each_cons, mem_index, index_mem, index_of_map}
use Rattle.calculus.proofs.Basic.{leb_le, leb_false, counted, some_then}
use Rattle.format.proofs.Passing.{Passes, done, next, Fit, judge_fit, let_fit}
use Rattle.calculus.proofs.Orthogonal.{Alike, matched_alike, orth_alike, apart_head, apart_tail}
use Rattle.calculus.proofs.Matching.{bind_matched}
use Rattle.calculus.proofs.Running.{some_given, run_clause_lem}
use Rattle.calculus.proofs.Inverse.{reduce_unfold}
use Rattle.calculus.proofs.Joins.{EnvOf, BoundTo, build_total, build_all, bind_total, lhs_total}
use Rattle.calculus.proofs.Totality.{Sound, Keeps, chain_first, chain_last, exactly_one, one_mem, takes_one, reduction_keeps}
use Rattle.calculus.proofs.Stopping.{none_then, measured_true, measured_false, reduce_argument, reduce_stop, reduce_result}
use Rattle.model.proofs.Runs.{GoodRows, good, sound}
use Rattle.model.proofs.Sizes.{of_small, small_types}
use Rattle.run_values.specs.Texts.{alike}
use Rattle.run_values.specs.Traces.{Fitting, Over, Calls, LetTrace, LetsTrace, EndTrace, ClauseTrace, Applies, Runs}

-- ---- a clause that matches

-- the test, as a judgement
pub alike_of : (p : Pat) (v : Val) → alike p v ≡ true → Alike p v
alike_of (pvar n) v e = Alike.var
alike_of (pleaf l) (vleaf k) e = Alike.leaf (same_leaf_eq l k e)
alike_of (pleaf l) (vinj t v) e = absurd (false≢true e)
alike_of (pleaf l) (vnode k v w) e = absurd (false≢true e)
alike_of (pinj s p) (vleaf k) e = absurd (false≢true e)
alike_of (pinj s p) (vinj t v) e =
    let r = and_true (same_tag s t) (alike p v) e in Alike.inj (same_tag_eq s t r.0) (alike_of p v r.1)
alike_of (pinj s p) (vnode k v w) e = absurd (false≢true e)
alike_of (pnode m p q) (vleaf k) e = absurd (false≢true e)
alike_of (pnode m p q) (vinj t v) e = absurd (false≢true e)
alike_of (pnode m p q) (vnode k v w) e =
    let n = and_true (same_node m k) (alike p v && alike q w) e in
    let r = and_true (alike p v) (alike q w) n.1 in
    Alike.node (same_node_eq m k n.0) (alike_of p v r.0) (alike_of q w r.1)

-- the left pattern of a clause is orthogonal to those of the clauses below
apart_at : (cs : List Clause) → Apart (map (λ c. c.lhs) cs) → (k n : ℕ) {c d : Clause} → k < n → get_elem? cs k ≡ some c → get_elem? cs n ≡ some d
    → Orth c.lhs d.lhs
apart_at [] a k n l e f = absurd (none≢some e)
apart_at (b ∷ cs) a k zero l e f = absurd (not-suc-le-zero l)
apart_at (b ∷ cs) a zero (suc n) {c} {d} l e f =
    subst (λ (x : Clause). Orth x.lhs d.lhs) (some_inj e) (apart_head a d.lhs (Memᴰ.map (λ c. c.lhs) (index_mem cs n f)))
apart_at (b ∷ cs) a (suc k) (suc n) l e f = apart_at cs (apart_tail a) k n (le_of_suc-le-suc l) e f

-- no clause above one of a value's shape is of that shape
pub not_alike_above : (cs : List Clause) → Apart (map (λ c. c.lhs) cs) → (v : Val) (n : ℕ) {d : Clause} → get_elem? cs n ≡ some d → Alike d.lhs v
    → (k : ℕ) (c : Clause) → k < n → get_elem? cs k ≡ some c → alike c.lhs v ≡ false
not_alike_above cs a v n f m k c l e =
    is_false (alike c.lhs v) (λ h. orth_alike (apart_at cs a k n l e f) (alike_of c.lhs v h) m)

-- ---- ceilings

-- a clause has few let steps, and so has every clause of an iso
abbrev pub FewLets : Clause → Type 0
FewLets c = length c.lets ≤ max_lets

abbrev pub AllFewLets : List Iso → Type 0
AllFewLets os = (o : Iso) → Memᴰ o os → (c : Clause) → Memᴰ c o.clauses → FewLets c

-- a value that passes the test fits, one that does not is too large
fitting : (v : Val) → small v ≡ true → Fitting v
fitting v e = leb_le (length (letters v)) max_letters e

over : (v : Val) → small v ≡ false → Over v
over v e = leb_false (length (letters v)) max_letters e

-- ---- let steps

-- what a call comes to for a value of the iso's from-type is a trace
abbrev pub CallTraces : List Iso → Call → Calls → Type 0
CallTraces os call rel = (j : ℕ) (n : Iso) → get_elem? os j ≡ some n → (u : Val) → Of u n.from → rel j u (call j u).0 (call j u).1

-- let steps as they run: their trace, and values of the context's types where they come to their end
record LetsTold (call : Call) (rel : Calls) (ls : List Let) (e : Slots Val) (p : Pat) (b : Ty) : Type 0 where
  result : Option (Slots Val)
  count : ℕ
  runs : run_lets call ls e ≡ (result, count)
  trace : LetsTrace rel ls e result count
  typed : (d : Slots Val) → result ≡ some d → (c : Slots Ty) × EnvOf d c × Fits c p b

module _ (os : List Iso) (call : Call) (rel : Calls) (keeps : Keeps (sigs_of os) call) (h : CallTraces os call rel) where
  -- an iso by its types
  by_sig : (j : ℕ) {s : Ty × Ty} {u : Val} → get_elem? (sigs_of os) j ≡ some s → Of u s.0 → rel j u (call j u).0 (call j u).1
  by_sig j {s} {u} e t =
      let n = index_of_map (λ o. (o.from, o.to)) os j e in h j n.0 n.1 u (subst (λ x. Of u x.0) (sym n.2) t)

  -- a let step that stops
  told_stop : (l : Let) (ls : List Let) {p : Pat} {b : Ty} {ε φ : Slots Val} {u : Val} → build l.q ε ≡ some (u, φ)
      → rel l.iso u none (call l.iso u).1 → (call l.iso u).0 ≡ none → LetsTold call rel (l ∷ ls) ε p b
  told_stop l ls {ε = ε} {φ = φ} {u = u} built r e =
      record {
        result = none;
        count = (call l.iso u).1;
        runs = some_given (λ r. call l.iso r.0 >>> λ w. given (bind l.p w r.1) >>> λ d. run_lets call ls d) built
            (none_then (λ w. given (bind l.p w φ) >>> λ d. run_lets call ls d) (counted e refl));
        trace = LetsTrace.stop (LetTrace.stops built r);
        typed = λ d e. absurd (none≢some e);
      }

  -- one that gives something, and what follows it
  told_step : (l : Let) (ls : List Let) {p : Pat} {b : Ty} {ε φ η : Slots Val} {u w : Val} {j : ℕ} → build l.q ε ≡ some (u, φ)
      → rel l.iso u (some w) j → call l.iso u ≡ (some w, j) → bind l.p w φ ≡ some η → LetsTold call rel ls η p b → LetsTold call rel (l ∷ ls) ε p b
  told_step l ls {φ = φ} {j = j} built r called bound n =
      record {
        result = n.result;
        count = j + n.count;
        runs = some_given (λ r. call l.iso r.0 >>> λ w. given (bind l.p w r.1) >>> λ d. run_lets call ls d) built
            (some_then (λ w. given (bind l.p w φ) >>> λ d. run_lets call ls d) called (some_given (λ d. run_lets call ls d) bound n.runs));
        trace = LetsTrace.step (LetTrace.gives built r bound) n.trace;
        typed = n.typed;
      }

  -- let steps from values of the context's types
  lets_told : (ls : List Let) {d : Slots Ty} {p : Pat} {b : Ty} {ε : Slots Val} → Chain (sigs_of os) d ls p b → EnvOf ε d
      → ((l : Let) → Memᴰ l ls → Product l.p) → LetsTold call rel ls ε p b
  lets_told [] {d} {p} {b} {ε} c r g =
      record {
        result = some ε;
        count = 0;
        runs = refl;
        trace = LetsTrace.done;
        typed = λ z e. (d, subst (λ y. EnvOf y d) (some_inj e) r, chain_last c);
      }
  lets_told (l ∷ ls) {p = p} {b = b} {ε = ε} c r g =
      let s = chain_first c in
      let q = build_total s.uses s.parts r in
      go q.value q.rest q.builds (call l.iso q.value).0 refl (by_sig l.iso s.known q.typed)
      (λ w e. let z = bind_total s.binds (g l (Memᴰ.head refl))
      (keeps l.iso s.s s.known q.value w (call l.iso q.value).1 q.typed (counted e refl)) s.joins q.env in
      (z.slots, z.binds, lets_told ls s.next z.env (λ m i. g m (Memᴰ.tail i))))
    where
      go : (u : Val) (φ : Slots Val) → build l.q ε ≡ some (u, φ) → (x : Option Val) → (call l.iso u).0 ≡ x
          → rel l.iso u (call l.iso u).0 (call l.iso u).1
          → ((w : Val) → (call l.iso u).0 ≡ some w → (η : Slots Val) × (bind l.p w φ ≡ some η) × LetsTold call rel ls η p b)
          → LetsTold call rel (l ∷ ls) ε p b
      go u φ built none e r onward = told_stop l ls built (subst (λ x. rel l.iso u x (call l.iso u).1) e r) e
      go u φ built (some w) e r onward =
          let n = onward w e in
          told_step l ls built (subst (λ x. rel l.iso u x (call l.iso u).1) e r) (counted e refl) n.1 n.2

-- ---- an application

-- what an application comes to before its result is measured, and the trace behind that
record ApplyTold (call : Call) (rel : Calls) (o : Iso) (v : Val) : Type 0 where
  result : Option Val
  count : ℕ
  applies : apply call o v ≡ (result, count)
  trace : (x : Option Val) → ((w : Val) → result ≡ some w → measured small w ≡ (x, 0)) → (result ≡ none → x ≡ none) → ClauseTrace rel o v x (suc count)

module _ {os : List Iso} (S : Sound os) (few : AllFewLets os) (call : Call) (rel : Calls) (keeps : Keeps (sigs_of os) call)
    (h : CallTraces os call rel) (i : ℕ) (o : Iso) (e : get_elem? os i ≡ some o) (v : Val) (t : Of v o.from) where
  abbrev mem : Memᴰ o os
  mem = index_mem os i e

  -- the clause that matches
  abbrev one : ExactlyOne o.clauses v
  one = exactly_one S o mem t

  -- its let steps
  clause_lets : (b : BoundTo one.clause.lhs v (empty Val) (S.linear o mem one.clause (one_mem one)).context)
      → LetsTold call rel one.clause.lets b.slots one.clause.rhs o.to
  clause_lets b =
      lets_told os call rel keeps h one.clause.lets (S.linear o mem one.clause (one_mem one)).rest b.env
      (λ m j. (S.shapes o mem one.clause (one_mem one) m j).0)

  -- the trace of a clause that has run so far
  clause_traced : (n : ℕ) → get_elem? o.clauses n ≡ some one.clause → {first : Slots Val} → bind one.clause.lhs v (empty Val) ≡ some first
      → {last : Option (Slots Val)} {k : ℕ} → LetsTrace rel one.clause.lets first last k → {x : Option Val} → EndTrace one.clause.rhs last x
      → ClauseTrace rel o v x (suc k)
  clause_traced n f {first} bound {last} {k} lets ends =
      record {
        place = n;
        clause = one.clause;
        chosen = f;
        before = not_alike_above o.clauses (S.lefts_apart o mem) v n f (matched_alike (bind_matched one.clause.lhs v (empty Val) first bound));
        few = few o mem one.clause (one_mem one);
        first = first;
        bound = bound;
        last = last;
        count = k;
        lets = lets;
        ends = ends;
        counts = refl;
      }

  apply_told : ApplyTold call rel o v
  apply_told =
      let l = S.linear o mem one.clause (one_mem one) in
      let b = lhs_total l.wide l.lhs t one.matches in
      let n = mem_index (one_mem one) in
      go b n.0 n.1 (clause_lets b).result (clause_lets b).count (clause_lets b).runs (clause_lets b).trace (clause_lets b).typed
    where
      c : Clause
      c = one.clause

      go : (b : BoundTo c.lhs v (empty Val) (S.linear o mem c (one_mem one)).context) (n : ℕ) → get_elem? o.clauses n ≡ some c
          → (y : Option (Slots Val)) (k : ℕ) → run_lets call c.lets b.slots ≡ (y, k) → LetsTrace rel c.lets b.slots y k
          → ((d : Slots Val) → y ≡ some d → (z : Slots Ty) × EnvOf d z × Fits z c.rhs o.to) → ApplyTold call rel o v
      go b n f none k runs lets typed =
          record {
            result = none;
            count = k;
            applies = some_given (λ c. run_clause call c v) (takes_one S o mem t)
                (some_given (λ e. run_lets call c.lets e >>> λ d. given (build c.rhs d >>= wholly)) b.binds
                (none_then (λ d. given (build c.rhs d >>= wholly)) runs));
            trace = λ x m z. clause_traced n f b.binds lets (subst (EndTrace c.rhs none) (sym (z refl)) EndTrace.stopped);
          }
      go b n f (some d) k runs lets typed =
          let y = typed d refl in
          let r = build_all y.2 y.1 in
          record {
            result = some r.0;
            count = k;
            applies = some_given (λ c. run_clause call c v) (takes_one S o mem t) (run_clause_lem call c v b.binds runs r.2 r.4);
            trace = λ x m z. clause_traced n f b.binds lets (ended r.2 (small r.0) refl x (m r.0 refl));
          }
        where
          ended : {p : Pat} {d φ : Slots Val} {w : Val} → build p d ≡ some (w, φ) → (b : Bool) → small w ≡ b → (x : Option Val)
              → measured small w ≡ (x, 0) → EndTrace p (some d) x
          ended {p} {d} {w = w} built true fits x m =
              subst (EndTrace p (some d)) (ap (λ r. r.0) (sym (measured_true small w fits) ∙ m)) (EndTrace.gives built (fitting w fits))
          ended {p} {d} {w = w} built false fits x m =
              subst (EndTrace p (some d)) (ap (λ r. r.0) (sym (measured_false small w fits) ∙ m)) (EndTrace.large built (over w fits))

-- ---- the reduction

-- the reduction with calls nested at most d deep is a trace as deep
pub runs_traced : {os : List Iso} → Sound os → AllFewLets os → (d : ℕ) → CallTraces os (reduce_to small d os) (Runs d os)
runs_traced S few zero i o e v t = (refl, refl)
runs_traced {os} S few (suc d) i o e v t =
    go (small v) refl (apply_told S few (reduce_to small d os) (Runs d os) (reduction_keeps S small d) (runs_traced S few d) i o e v t)
  where
    counts : (x : Option Val) (k : ℕ) → reduce_to small (suc d) os i v ≡ (x, k) → Applies (Runs d os) os i v x k
        → Applies (Runs d os) os i v (reduce_to small (suc d) os i v).0 (reduce_to small (suc d) os i v).1
    counts x k h a = subst₂ (λ (y : Option Val) (n : ℕ). Applies (Runs d os) os i v y n) (ap (λ r. r.0) (sym h)) (ap (λ r. r.1) (sym h)) a

    ended : (k : ℕ) (y : Option Val) → small v ≡ true → apply (reduce_to small d os) o v ≡ (y, k)
        → ((x : Option Val) → ((w : Val) → y ≡ some w → measured small w ≡ (x, 0)) → (y ≡ none → x ≡ none) → ClauseTrace (Runs d os) o v x (suc k))
        → Applies (Runs d os) os i v (reduce_to small (suc d) os i v).0 (reduce_to small (suc d) os i v).1
    ended k none fits h r =
        counts none (suc k) (reduce_stop small d os i v o fits e h) (Applies.runs (fitting v fits) o e (r none (λ w z. absurd (none≢some z)) (λ z. refl)))
    ended k (some w) fits h r =
        let x : Option Val = (measured small w).0 in
        counts x (suc k) (reduce_result small d os i v o fits e h x refl)
        (Applies.runs (fitting v fits) o e (r x (λ u z. ap (measured small) (sym (some_inj z))) (λ z. absurd (none≢some (sym z)))))

    go : (b : Bool) → small v ≡ b → ApplyTold (reduce_to small d os) (Runs d os) o v
        → Applies (Runs d os) os i v (reduce_to small (suc d) os i v).0 (reduce_to small (suc d) os i v).1
    go false a r = counts none 1 (reduce_argument small d os i v a) (Applies.large (over v a))
    go true a r = ended r.count r.result a r.applies r.trace

-- ---- the isos of an accepted file

-- What rows below some let steps of a clause hold: its other let steps, clauses and isos, all with few let steps.
record FewTail (n : ℕ) (o : Tail) : Type 0 where
  lets : n + length o.lets ≤ max_lets
  clauses : (c : Clause) → Memᴰ c o.clauses → FewLets c
  isos : AllFewLets o.isos

-- a row in front
place_few : (ts : List Ty) (ps : List Pat) (s : Seen) (k : Kind) (n : ℕ) (r : Row) (o : Tail) → Fit s k r → s.lets ≤ max_lets
    → ((after_kind k s r).lets ≤ max_lets → FewTail (after_kind k s r).lets o) → FewTail s.lets (place ts ps k n r o)
place_few ts ps s type_line n r o f h g = g h
place_few ts ps s pattern_line n r o f h g = g h
place_few ts ps s iso_line n r o f h g =
    let t = g (omega arith) in
    record { lets = omega arith; clauses = each_nil FewLets; isos = each_cons (λ o. (c : Clause) → Memᴰ c o.clauses → FewLets c) t.clauses t.isos }
place_few ts ps s clause_line n r o f h g =
    let t = g (omega arith) in
    let l = t.lets in
    record { lets = omega arith; clauses = each_cons FewLets (omega arith) t.clauses; isos = t.isos }
place_few ts ps s let_line n r o f h g =
    let t = g (let_fit s r f).3 in
    let l = t.lets in
    record { lets = omega arith; clauses = t.clauses; isos = t.isos }

-- the rows from some place on
tail_few : (ts : List Ty) (ps : List Pat) {s : Seen} {rs : List Row} (n : ℕ) → Passes s rs → s.lets ≤ max_lets → FewTail s.lets (tail_from ts ps n rs)
tail_few ts ps n done h = record { lets = omega arith; clauses = each_nil FewLets; isos = each_nil (λ o. (c : Clause) → Memᴰ c o.clauses → FewLets c) }
tail_few ts ps n (next {s = s} {r = r} {rs = rs} j d) h =
    place_few ts ps s r.kind n r (tail_from ts ps (suc n) rs) (judge_fit s r j) h (tail_few ts ps (suc n) d)

-- the clauses of a file's isos have few let steps
pub few_lets : {rs : List Row} → Passes start rs → AllFewLets (isos_of rs)
unfolding start isos_of
few_lets {rs} d = (tail_few (after_all start rs).types (after_all start rs).patterns 1 d (omega arith)).isos

-- a value of a type without lists has no more letters than its type has nodes
pub finite_fits : (rs : List Row) → GoodRows rs → (i : ℕ) (o : Iso) → get_elem? (isos_of rs) i ≡ some o → (v : Val) → Finite o.from → Of v o.from → Fitting v
finite_fits rs g i o e v f h =
    let k = of_small f h in let n = (small_types g.passes o (index_mem (isos_of rs) i e)).0 in omega (arith, k, n)

-- what the reduction of a run comes to, from a closed value of the from-type
pub record Traced (rs : List Row) (i : ℕ) (v : Val) : Type 0 where
  pub result : Option Val
  pub count : ℕ
  pub reduces : reduce (isos_of rs) i v ≡ (result, count)
  pub runs : Runs max_depth (isos_of rs) i v result count

pub traced : (rs : List Row) → GoodRows rs → (i : ℕ) (o : Iso) → get_elem? (isos_of rs) i ≡ some o → (v : Val) → Of v o.from → Traced rs i v
traced rs g i o e v t =
    let r = reduce_to small max_depth (isos_of rs) i v in
    record {
      result = r.0;
      count = r.1;
      reduces = ap (λ f. f i v) (reduce_unfold (isos_of rs));
      runs = runs_traced (sound (isos_of rs) (good rs g)) (few_lets g.passes) max_depth i o e v t;
    }

-- an application counts itself
pub runs_least : (d : ℕ) (os : List Iso) (i : ℕ) (v : Val) (x : Option Val) (m : ℕ) → Runs d os i v x m → 1 ≤ m
runs_least zero os i v x m r = let h = r.1 in omega (arith, h)
runs_least (suc d) os i v x m r = go r
  where
    go : {x : Option Val} {m : ℕ} → Applies (Runs d os) os i v x m → 1 ≤ m
    go (Applies.large h) = omega arith
    go (Applies.runs f o e c) = let h = c.counts in omega (arith, h)
