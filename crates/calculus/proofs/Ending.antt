-- Where an iso and all it reaches meet the rule of recursion in the direction in which they are written, the reduction ends: by induction on
-- the iso's number, and for an iso that calls itself on the length of its list.
use Prim.Native.Nat.{ℕ, zero, suc, ◌+◌, ◌<◌, ◌≤◌}
use native.Mathlib.Nat.{not-suc-le-zero, le_of_suc-le-suc, lt_of_lt_of_le, le_refl, eq-or-lt_of_le}
use native.Mathlib.Omega.{arith}
use mathlib.Core.Path.{◌≡◌, refl, sym, ap, ◌∙◌, subst}
use mathlib.Core.Logic.{◌⊎◌, inl, inr}
use mathlib.Core.Bool.{true, true≢false}
use mathlib.Core.Option.{Option, some}
use mathlib.Core.List.{List, [], ◌∷◌, Memᴰ}
use lib.ListN.{get_elem?}
use Rattle.calculus.specs.Tools.{◌>>=◌, guard}
use Rattle.calculus.specs.Trees.{Ty, tlist, tprod, pair_node, element_node, Pat, pvar, pnode, Val, vleaf, vinj, vnode, Let, Clause, Iso, same_node, vars}
use Rattle.calculus.specs.Slots.{Slots, put, empty}
use Rattle.calculus.specs.Reduction.{bind, build, run_lets, run_clause, reduce_to}
use Rattle.calculus.specs.Clauses.{Sigs, sigs_of}
use Rattle.calculus.specs.Paper.{Of, Chain, Product, Quiet, NeverCalls, Zoned, OnTail, TailCall, Shows, ShowsThere, Structural, MeetsRule, Reaches}
use Rattle.calculus.proofs.Basic.{bind_some, none≢some, some_inj, guard_true, same_node_eq, index_mem, index_of_map}
use Rattle.calculus.proofs.Slots.{slot, put_filled, put_of_get}
use Rattle.calculus.proofs.Binding.{bind_found, build_found, gives_var}
use Rattle.calculus.proofs.Running.{run_let, run_clause_lem, some_given, run_application}
use Rattle.calculus.proofs.Joins.{EnvOf, build_total, build_all, bind_total, lhs_total}
use Rattle.calculus.proofs.Totality.{Sound, sig, chain_first, chain_last, exactly_one, one_mem, takes_one, lets_within, depth}

-- ---- what is given at some depth

module _ (os : List Iso) where
  abbrev free : ℕ → ℕ → Val → Option Val × ℕ
  free d = reduce_to (λ v. true) d os

  pub record Gives (i : ℕ) (v w : Val) : Type 0 where
    pub deep : ℕ
    pub count : ℕ
    pub gives : free deep i v ≡ (some w, count)

  record GivesLets (ls : List Let) (e e' : Slots Val) : Type 0 where
    deep : ℕ
    count : ℕ
    gives : run_lets (free deep) ls e ≡ (some e', count)

  deeper : (d d' : ℕ) → d ≤ d' → (i : ℕ) (v w : Val) (k : ℕ) → free d i v ≡ (some w, k) → free d' i v ≡ (some w, k)
  deeper d d' l = depth os (λ v. true) (λ v. true) (λ v e. e) d d' l

  give_let : (l : Let) (ls : List Let) (e : Slots Val) {u w : Val} {f g h : Slots Val} → build l.q e ≡ some (u, f) → Gives l.iso u w
      → bind l.p w f ≡ some g → GivesLets ls g h → GivesLets (l ∷ ls) e h
  give_let l ls e {u} {w} {g = g} b a p r =
      let d : ℕ = a.deep + r.deep in
      record {
        deep = d;
        count = a.count + r.count;
        gives =
            run_let (free d) l ls e b (deeper a.deep d (omega arith) l.iso u w a.count a.gives) p
            (lets_within (deeper r.deep d (omega arith)) ls g r.gives);
      }

  -- iso i gives a value of the type s.1 for each of the type s.0
  abbrev pub Answers : ℕ → Ty × Ty → Type 0
  Answers i s = (v : Val) → Of v s.0 → (w : Val) × Gives i v w × Of w s.1

  -- ---- let steps

  -- what let steps give: an environment in which the right pattern fits
  record LetsEnd (sigs : Sigs) (ls : List Let) (ε : Slots Val) (p : Pat) (b : Ty) : Type 0 where
    slots : Slots Val
    gives : GivesLets ls ε slots
    context : Slots Ty
    env : EnvOf slots context
    chain : Chain sigs context [] p b

  -- the other isos that let steps call answer
  abbrev Others : Sigs → ℕ → List Let → Type 0
  Others sigs i ls = (l : Let) → Memᴰ l ls → (l.iso ≡ i → ⊥) → (s : Ty × Ty) → get_elem? sigs l.iso ≡ some s → Answers l.iso s

  -- one step, of an iso that answers what it is given
  lets_step : {sigs : Sigs} (l : Let) (ls : List Let) {d : Slots Ty} {p : Pat} {b : Ty} {ε : Slots Val} → Chain sigs d (l ∷ ls) p b → EnvOf ε d → Product l.p
      → ((s : Ty × Ty) → get_elem? sigs l.iso ≡ some s → (u : Val) (φ : Slots Val) → build l.q ε ≡ some (u, φ) → Of u s.0
      → (w : Val) × Gives l.iso u w × Of w s.1)
      → ((h : Slots Ty) (η : Slots Val) (u w : Val) (φ : Slots Val) → build l.q ε ≡ some (u, φ) → bind l.p w φ ≡ some η → Chain sigs h ls p b → EnvOf η h
      → LetsEnd sigs ls η p b)
      → LetsEnd sigs (l ∷ ls) ε p b
  lets_step l ls {ε = ε} c r prod answer follow =
      let s = chain_first c in
      let b = build_total s.uses s.parts r in
      let a = answer s.s s.known b.value b.rest b.builds b.typed in
      let t = bind_total s.binds prod a.2 s.joins b.env in
      let n = follow s.h t.slots b.value a.0 b.rest b.builds t.binds s.next t.env in
      record {
        slots = n.slots;
        gives = give_let l ls ε b.builds a.1 t.binds n.gives;
        context = n.context;
        env = n.env;
        chain = n.chain;
      }

  quiet_end : {sigs : Sigs} (i : ℕ) (ls : List Let) → Others sigs i ls → {d : Slots Ty} {p : Pat} {b : Ty} {ε : Slots Val} → Chain sigs d ls p b → EnvOf ε d
      → ((l : Let) → Memᴰ l ls → Product l.p) → Quiet i ls → LetsEnd sigs ls ε p b
  quiet_end i [] others {d} {ε = ε} c r h q = record { slots = ε; gives = record { deep = 0; count = 0; gives = refl }; context = d; env = r; chain = c }
  quiet_end i (l ∷ ls) others c r h q =
      lets_step l ls c r (h l (Memᴰ.head refl)) (λ s e u φ _ t. others l (Memᴰ.head refl) (q l (Memᴰ.head refl)) s e u t)
      (λ g η u w φ _ _ c' r'. quiet_end i ls (λ m k. others m (Memᴰ.tail k)) c' r' (λ m k. h m (Memᴰ.tail k)) (λ m k. q m (Memᴰ.tail k)))

  -- a step that does not use a variable leaves what it holds
  build_leaves : (q : Pat) (ε : Slots Val) {u : Val} {φ : Slots Val} → build q ε ≡ some (u, φ) → (n : ℕ) (t : Val) → (Memᴰ n (vars q) → ⊥)
      → slot ε n ≡ some t → slot φ n ≡ some t
  build_leaves q ε {φ = φ} b n t other e =
      let f = build_found q ε b in go (f.bound.whence n t e)
    where
      go : Memᴰ {A = ℕ × Val} (n, t) (build_found q ε b).σ ⊎ (slot φ n ≡ some t) → slot φ n ≡ some t
      go (inl i) = absurd (other (gives_var (build_found q ε b).matches n t i))
      go (inr i) = i

  -- a call on the tail, while the variable holds it
  tail_end : {sigs : Sigs} (i n : ℕ) (t : Val)
      → ((q : Pat) → OnTail n q → (s : Ty × Ty) → get_elem? sigs i ≡ some s → (ε : Slots Val) → slot ε n ≡ some t → (u : Val) (φ : Slots Val) → build q ε ≡ some (u, φ)
      → Of u s.0 → (w : Val) × Gives i u w × Of w s.1)
      → (ls : List Let) → Others sigs i ls → {d : Slots Ty} {p : Pat} {b : Ty} {ε : Slots Val} → TailCall i n ls → Chain sigs d ls p b → EnvOf ε d
      → ((l : Let) → Memᴰ l ls → Product l.p) → slot ε n ≡ some t → LetsEnd sigs ls ε p b
  tail_end i n t self ls others (TailCall.never q) c r h e = quiet_end i ls others c r h q
  tail_end {sigs} i n t self (l ∷ ls) others {ε = ε} (TailCall.here same on q) c r h e =
      lets_step l ls c r (h l (Memᴰ.head refl))
      (λ s k u φ b o. again same s k u φ b o)
      (λ g η u w φ _ _ c' r'. quiet_end i ls (λ m k. others m (Memᴰ.tail k)) c' r' (λ m k. h m (Memᴰ.tail k)) q)
    where
      again : l.iso ≡ i → (s : Ty × Ty) → get_elem? sigs l.iso ≡ some s → (u : Val) (φ : Slots Val) → build l.q ε ≡ some (u, φ) → Of u s.0
          → (w : Val) × Gives l.iso u w × Of w s.1
      again x s k u φ b o =
          let r = self l.q on s (ap (get_elem? sigs) (sym x) ∙ k) ε e u φ b o in
          (r.0, subst (λ j. Gives j u r.0) (sym x) r.1, r.2)
  tail_end i n t self (l ∷ ls) others {ε = ε} (TailCall.later other unused q) c r h e =
      lets_step l ls c r (h l (Memᴰ.head refl))
      (λ s k u φ b o. others l (Memᴰ.head refl) other s k u o)
      (λ g η u w φ b p c' r'. tail_end i n t self ls (λ m k. others m (Memᴰ.tail k)) q c' r' (λ m k. h m (Memᴰ.tail k))
      ((bind_found l.p w φ p).bound.kept n t (build_leaves l.q ε b n t unused e)))

-- ---- the list that an iso shows

abbrev list_length : Val → ℕ
list_length (vleaf l) = 0
list_length (vinj t v) = 0
list_length (vnode k v w) = suc (list_length w)

-- t is the list that a value of a zoned type shows
data InZone : Ty → Val → Val → Type 0 where
  list : {b : Ty} {t v : Val} → v ≡ t → InZone (tlist b) t v
  product : {b c : Ty} {t v r : Val} → v ≡ vnode pair_node t r → InZone (tprod (tlist b) c) t v

-- t is the tail of that list
data TailTyped : Ty → Val → Type 0 where
  list : {b : Ty} {t : Val} → Of t (tlist b) → TailTyped (tlist b) t
  product : {b c : Ty} {t : Val} → Of t (tlist b) → TailTyped (tprod (tlist b) c) t

zone : {a : Ty} {v : Val} → Zoned a → Of v a → (t : Val) × InZone a t v
zone {v = v} Zoned.list o = (v, InZone.list refl)
zone Zoned.product (Of.pair {v = v} o p) = (v, InZone.product refl)

pair_not_element : {x y z w : Val} → vnode pair_node x y ≡ vnode element_node z w → ⊥
pair_not_element e = true≢false cc

element_tail : {x t : Val} {b : Ty} → Of (vnode element_node x t) (tlist b) → Of t (tlist b)
element_tail (Of.cons o p) = p

pair_first : {x y : Val} {a b : Ty} → Of (vnode pair_node x y) (tprod a b) → Of x a
pair_first (Of.pair o p) = o

pair_no_list : {x y : Val} {b : Ty} → Of (vnode pair_node x y) (tlist b) → ⊥
pair_no_list o = elim o [ ]

not_both_types : {t : Val} {a b c : Ty} → Of t (tprod a b) → Of t (tlist c) → ⊥
not_both_types (Of.pair o p) q = pair_no_list q

zone_alone : {a : Ty} {t v x t' : Val} → InZone a t v → Of v a → v ≡ vnode element_node x t' → (list_length t ≡ suc (list_length t')) × TailTyped a t'
zone_alone (InZone.list {b = b} e) o h =
    (ap list_length (sym e ∙ h), TailTyped.list (element_tail (subst (λ z. Of z (tlist b)) h o)))
zone_alone (InZone.product e) o h = absurd (pair_not_element (sym e ∙ h))

zone_first : {a : Ty} {t v x t' r : Val} → InZone a t v → Of v a → v ≡ vnode pair_node (vnode element_node x t') r
    → (list_length t ≡ suc (list_length t')) × TailTyped a t'
zone_first (InZone.list {b = b} e) o h = absurd (pair_no_list (subst (λ z. Of z (tlist b)) h o))
zone_first (InZone.product {b = b} {c = c} {t = t} {r = r} e) o h =
    let same : t ≡ vnode element_node _ _ = cc_first (sym e ∙ h) in
    (ap list_length same, TailTyped.product (element_tail (pair_first (subst (λ z. Of z (tprod (tlist b) c)) h o))))
  where
    cc_first : {x y z w : Val} → vnode pair_node x y ≡ vnode pair_node z w → x ≡ z
    cc_first q = cc

-- what the variable n holds where a self-call's q is made
held : (m : ℕ) (ε : Slots Val) {u : Val} {φ : Slots Val} → build (pvar m) ε ≡ some (u, φ) → slot ε m ≡ some u
held m ε {u} {φ} b = (put_filled m u φ (put_of_get m u ε b)).held

zone_self : {a : Ty} {t : Val} → TailTyped a t → (n : ℕ) (q : Pat) → OnTail n q → (ε : Slots Val) → slot ε n ≡ some t → (u : Val) (φ : Slots Val)
    → build q ε ≡ some (u, φ) → Of u a → InZone a t u
zone_self {t = t} typed n q on ε e u φ b o = go typed on b o
  where
    alone : (m : ℕ) → n ≡ m → build (pvar m) ε ≡ some (u, φ) → u ≡ t
    alone m s b = some_inj (sym (held m ε b) ∙ ap (slot ε) (sym s) ∙ e)

    first : (m : ℕ) (r : Pat) → n ≡ m → build (pnode pair_node (pvar m) r) ε ≡ some (u, φ) → (y : Val) × (u ≡ vnode pair_node t y)
    first m r s b =
        let x = bind_some (build r ε) (λ x. build (pvar m) x.1 >>= λ z. some (vnode pair_node z.0 x.0, z.1)) b in
        let z = bind_some (build (pvar m) x.0.1) (λ z. some (vnode pair_node z.0 x.0.0, z.1)) x.2 in
        let h = (build_found r ε x.1).bound.kept m z.0.0 (held m x.0.1 z.1) in
        let same : z.0.0 ≡ t = some_inj (sym h ∙ ap (slot ε) (sym s) ∙ e) in
        (x.0.0, sym (ap (λ p. p.0) (some_inj z.2)) ∙ ap (λ y. vnode pair_node y x.0.0) same)

    go : {a : Ty} {q : Pat} → TailTyped a t → OnTail n q → build q ε ≡ some (u, φ) → Of u a → InZone a t u
    go (TailTyped.list p) (OnTail.alone {m = m} s) b o = InZone.list (alone m s b)
    go (TailTyped.list {b = c} p) (OnTail.first {m = m} {q = r} s) b o =
        absurd (pair_no_list (subst (λ z. Of z (tlist c)) (first m r s b).1 o))
    go (TailTyped.product {b = c} {c = d} p) (OnTail.alone {m = m} s) b o = absurd (not_both_types (subst (λ z. Of z (tprod (tlist c) d)) (alone m s b) o) p)
    go (TailTyped.product p) (OnTail.first {m = m} {q = r} s) b o = InZone.product (first m r s b).1

-- a left pattern that shows an element binds its tail
bind_element : (p : Pat) (n : ℕ) (v : Val) (ε : Slots Val) {e : Slots Val} → bind (pnode element_node p (pvar n)) v ε ≡ some e
    → (x t : Val) × (v ≡ vnode element_node x t) × (slot e n ≡ some t)
bind_element p n (vleaf l) ε h = absurd (none≢some h)
bind_element p n (vinj s v) ε h = absurd (none≢some h)
bind_element p n (vnode k v w) ε h =
    let g = bind_some (guard (same_node element_node k)) (λ _. bind p v ε >>= λ d. put n w d) h in
    let d = bind_some (bind p v ε) (λ d. put n w d) g.2 in
    (v, w, ap (λ k. vnode k v w) (sym (same_node_eq element_node k (guard_true (same_node element_node k) g.1))), (put_filled n w d.0 d.2).held)

bind_pair_element : (p q : Pat) (n : ℕ) (v : Val) (ε : Slots Val) {e : Slots Val} → bind (pnode pair_node (pnode element_node p (pvar n)) q) v ε ≡ some e
    → (x t r : Val) × (v ≡ vnode pair_node (vnode element_node x t) r) × (slot e n ≡ some t)
bind_pair_element p q n (vleaf l) ε h = absurd (none≢some h)
bind_pair_element p q n (vinj s v) ε h = absurd (none≢some h)
bind_pair_element p q n (vnode k v w) ε h =
    let g = bind_some (guard (same_node pair_node k)) (λ _. bind (pnode element_node p (pvar n)) v ε >>= λ d. bind q w d) h in
    let d = bind_some (bind (pnode element_node p (pvar n)) v ε) (λ d. bind q w d) g.2 in
    let x = bind_element p n v ε d.1 in
    let same = same_node_eq pair_node k (guard_true (same_node pair_node k) g.1) in
    (x.0, x.1, w, ap (λ k. vnode k v w) (sym same) ∙ ap (λ y. vnode pair_node y w) x.2, (bind_found q w d.0 d.2).bound.kept n x.1 x.3)

-- ---- an application ends

pub strictly : (a b : ℕ) → a ≤ b → (a ≡ b → ⊥) → a < b
strictly a b l h = go (eq-or-lt_of_le l)
  where
    go : (a ≡ b) ⊎ (a < b) → a < b
    go (inl e) = absurd (h e)
    go (inr k) = k

module _ {os : List Iso} (S : Sound os) where
  clause_end : (i : ℕ) (o : Iso) → get_elem? os i ≡ some o → (v : Val) (t : Of v o.from)
      → ((c : Clause) → Memᴰ c o.clauses → (d : Slots Ty) (e : Slots Val) → bind c.lhs v (empty Val) ≡ some e → EnvOf e d
      → Chain (sigs_of os) d c.lets c.rhs o.to → LetsEnd os (sigs_of os) c.lets e c.rhs o.to)
      → (w : Val) × Gives os i v w × Of w o.to
  clause_end i o e v t f =
      let m = index_mem os i e in
      let x = exactly_one S o m t in
      let c : Clause = x.clause in
      let l = S.linear o m c (one_mem x) in
      let b = lhs_total l.wide l.lhs t x.matches in
      let n = f c (one_mem x) l.context b.slots b.binds b.env l.rest in
      let r = build_all (chain_last n.chain) n.env in
      let g = n.gives in (
        r.0,
        record {
          deep = suc g.deep;
          count = suc g.count;
          gives =
              run_application (λ v. true) g.deep os i v refl e
              (some_given (λ c. run_clause (reduce_to (λ v. true) g.deep os) c v) (takes_one S o m t)
              (run_clause_lem (reduce_to (λ v. true) g.deep os) c v b.binds g.gives r.2 r.4)) refl;
        },
        r.3,
      )

  abbrev OthersOf : ℕ → Iso → Type 0
  OthersOf i o = (c : Clause) → Memᴰ c o.clauses → Others os (sigs_of os) i c.lets

  never_end : (i : ℕ) (o : Iso) → get_elem? os i ≡ some o → NeverCalls i o → OthersOf i o → Answers os i (sig o)
  never_end i o e q others v t =
      clause_end i o e v t (λ c m d ε b r k. quiet_end os i c.lets (others c m) k r (λ l j. (S.shapes o (index_mem os i e) c m l j).0) (q c m))

  -- what an application gives
  abbrev Ends : ℕ → Iso → Val → Type 0
  Ends i o v = (w : Val) × Gives os i v w × Of w o.to

  -- an application ends where those on shorter lists do
  structural_step : (i : ℕ) (o : Iso) → get_elem? os i ≡ some o → Structural i o → OthersOf i o
      → (v t : Val) → InZone o.from t v → Of v o.from
      → ((x t' : Val) → InZone o.from t' x → list_length t' < list_length t → Of x o.from → Ends i o x) → Ends i o v
  structural_step i o e s others v t z u rec = clause_end i o e v u (λ c j d ε b r k. go c j d ε b r k c.lhs refl (s.clauses c j))
    where
      known : (s : Ty × Ty) → get_elem? (sigs_of os) i ≡ some s → sig o ≡ s
      known s h = let n = index_of_map sig os i h in ap sig (some_inj (sym e ∙ n.1)) ∙ n.2

      tail : (n : ℕ) (t' : Val) → (list_length t ≡ suc (list_length t')) → TailTyped o.from t' → (q : Pat) → OnTail n q → (s : Ty × Ty)
          → get_elem? (sigs_of os) i ≡ some s → (ε : Slots Val) → slot ε n ≡ some t' → (x : Val) (φ : Slots Val) → build q ε ≡ some (x, φ) → Of x s.0
          → (w : Val) × Gives os i x w × Of w s.1
      tail n t' shorter typed q on sg h ε held x φ b p =
          let mine = subst (λ s. Of x s.0) (sym (known sg h)) p in
          let r = rec x t' (zone_self typed n q on ε held x φ b mine) (omega arith) mine in
          (r.0, r.1, subst (λ s. Of r.0 s.1) (known sg h) r.2)

      products : (c : Clause) → Memᴰ c o.clauses → (l : Let) → Memᴰ l c.lets → Product l.p
      products c j l k = (S.shapes o (index_mem os i e) c j l k).0

      quiet : (c : Clause) → Memᴰ c o.clauses → (d : Slots Ty) (ε : Slots Val) → EnvOf ε d → Chain (sigs_of os) d c.lets c.rhs o.to
          → Quiet i c.lets → LetsEnd os (sigs_of os) c.lets ε c.rhs o.to
      quiet c j d ε r k q = quiet_end os i c.lets (others c j) k r (products c j) q

      go : (c : Clause) → Memᴰ c o.clauses → (d : Slots Ty) (ε : Slots Val) → bind c.lhs v (empty Val) ≡ some ε → EnvOf ε d
          → Chain (sigs_of os) d c.lets c.rhs o.to → (p : Pat) → c.lhs ≡ p → ShowsThere i c.lets p
          → LetsEnd os (sigs_of os) c.lets ε c.rhs o.to
      go c j d ε b r k p x (ShowsThere.alone (Shows.nil q)) = quiet c j d ε r k q
      go c j d ε b r k p x (ShowsThere.alone (Shows.quiet q)) = quiet c j d ε r k q
      go c j d ε b r k p x (ShowsThere.alone (Shows.tail {p = y} {n = n} q)) =
          let a = bind_element y n v (empty Val) (subst (λ p. bind p v (empty Val) ≡ some ε) x b) in
          let w = zone_alone z u a.2 in
          tail_end os i n a.1 (tail n a.1 w.0 w.1) c.lets (others c j) q k r (products c j) a.3
      go c j d ε b r k p x (ShowsThere.first (Shows.nil q)) = quiet c j d ε r k q
      go c j d ε b r k p x (ShowsThere.first (Shows.quiet q)) = quiet c j d ε r k q
      go c j d ε b r k p x (ShowsThere.first {q = f} (Shows.tail {p = y} {n = n} q)) =
          let a = bind_pair_element y f n v (empty Val) (subst (λ p. bind p v (empty Val) ≡ some ε) x b) in
          let w = zone_first z u a.3 in
          tail_end os i n a.1 (tail n a.1 w.0 w.1) c.lets (others c j) q k r (products c j) a.4

  structural_end : (i : ℕ) (o : Iso) → get_elem? os i ≡ some o → Structural i o → OthersOf i o
      → (m : ℕ) (v t : Val) → InZone o.from t v → list_length t < m → Of v o.from → Ends i o v
  structural_end i o e s others zero v t z l u = absurd (not-suc-le-zero l)
  structural_end i o e s others (suc m) v t z l u =
      structural_step i o e s others v t z u (λ x t' y k p. structural_end i o e s others m x t' y (lt_of_lt_of_le k (le_of_suc-le-suc l)) p)

  rule_end : (i : ℕ) (o : Iso) → get_elem? os i ≡ some o → MeetsRule i o → OthersOf i o → Answers os i (sig o)
  rule_end i o e (MeetsRule.never q) others v t = never_end i o e q others v t
  rule_end i o e (MeetsRule.structural s) others v t =
      let z = zone s.zone t in
      structural_end i o e s others (suc (list_length z.0)) v z.0 z.1 (le_refl (suc (list_length z.0))) t

  -- isos below n
  ends_below : (n i : ℕ) → i < n → (o : Iso) → get_elem? os i ≡ some o → ((j : ℕ) (p : Iso) → Reaches os i j → get_elem? os j ≡ some p → MeetsRule j p)
      → Answers os i (sig o)
  ends_below zero i l o e rules = absurd (not-suc-le-zero l)
  ends_below (suc n) i l o e rules =
      rule_end i o e (rules i o (Reaches.itself refl) e)
      (λ c m k h other s known.
      let q = index_of_map sig os k.iso known in
      let lower = lt_of_lt_of_le (strictly k.iso i (S.earlier i o e c m k h) other) (le_of_suc-le-suc l) in
      subst (Answers os k.iso) q.2 (ends_below n k.iso lower q.0 q.1 (λ j p r. rules j p (Reaches.through o c k e m h r))))

  -- "Where an iso and all it reaches meet the rule in one direction …, the reduction that way ends"
  pub ends : (i : ℕ) (o : Iso) → get_elem? os i ≡ some o → ((j : ℕ) (p : Iso) → Reaches os i j → get_elem? os j ≡ some p → MeetsRule j p)
      → (v : Val) → Of v o.from → Ends i o v
  ends i o e rules = ends_below (suc i) i (le_refl (suc i)) o e rules
