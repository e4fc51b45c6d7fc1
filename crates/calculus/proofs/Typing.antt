-- Refusal 10 as a test agrees with the linear typing of Table 1: binding and using a pattern, with a slot for the type of each live
-- variable, add and take the context in which it fits. Both undo each other, so that the inverted clause is typed too.
use Prim.Native.Nat.{ℕ, zero, suc}
use mathlib.Core.Path.{◌≡◌, refl, sym, ap, ap₂, ◌∙◌, subst}
use mathlib.Core.Logic.{◌↔◌}
use mathlib.Core.Bool.{true, false≢true}
use mathlib.Core.Option.{Option, none, some}
use mathlib.Core.List.{List, [], ◌∷◌, ◌++◌, map, reverse, reverse-cons}
use lib.ListN.{get_elem?, length, replicate}
use Rattle.limits.specs.Limits.{variables}
use Rattle.calculus.specs.Tools.{◌>>=◌, guard}
use Rattle.calculus.specs.Trees.{Ty, tunit, tsum, tprod, Pat, pvar, pinj, Let, Clause, same_type, invert_let, invert_clause, tlist, Leaf, unit_leaf}
use Rattle.calculus.specs.Trees.{empty_leaf, Tag, Node, pair_node, element_node, pleaf, pnode, leaf_fits, beneath, parts}
use Rattle.calculus.specs.Slots.{Slots, put, get, empty, all_empty}
use Rattle.calculus.specs.Clauses.{learn, spend, Sigs, type_lets, type_clause, used, typed}
use Rattle.calculus.specs.Paper.{Join, Fits, Chain, Linear}
use Rattle.calculus.proofs.Basic.{bind_some, some_bind, none≢some, some_inj, guard_true, true_guard, same_type_eq, same_type_refl, index_map}
use Rattle.calculus.proofs.Slots.{get_of_put, put_of_get, put_length, is_empty, all_empty_replicate, all_empty_empty, length_empty}
use Rattle.calculus.proofs.Joins.{join_comm, join_assoc, join_empty, join_blank}

-- ---- binding and using undo each other

pub spend_of_learn : (p : Pat) (a : Ty) (e : Slots Ty) {d : Slots Ty} → learn p a e ≡ some d → spend p a d ≡ some e
spend_of_learn (pvar n) a e h =
    some_bind (λ r. guard (same_type r.0 a) >>= λ _. some r.1) (get_of_put n a e h) ∙ some_bind (λ _. some e) (true_guard (same_type_refl a))
spend_of_learn (pleaf l) a e h =
    let g = bind_some (guard (leaf_fits l a)) (λ _. some e) h in
    ap (λ x. guard (leaf_fits l a) >>= λ _. some x) (sym (some_inj g.2)) ∙ some_bind (λ _. some e) g.1
spend_of_learn (pinj t p) a e {d} h =
    let g = bind_some (beneath t a) (λ b. learn p b e) h in
    some_bind (λ b. spend p b d) g.1 ∙ spend_of_learn p g.0 e g.2
spend_of_learn (pnode k p q) a e {d} h =
    let g = bind_some (parts k a) (λ s. learn p s.0 e >>= λ x. learn q s.1 x) h in
    let m = bind_some (learn p g.0.0 e) (λ x. learn q g.0.1 x) g.2 in
    some_bind (λ s. spend q s.1 d >>= λ x. spend p s.0 x) g.1
    ∙ some_bind (λ x. spend p g.0.0 x) (spend_of_learn q g.0.1 m.0 m.2)
    ∙ spend_of_learn p g.0.0 e m.1

pub learn_of_spend : (p : Pat) (a : Ty) (d : Slots Ty) {e : Slots Ty} → spend p a d ≡ some e → learn p a e ≡ some d
learn_of_spend (pvar n) a d {e} h =
    let g = bind_some (get n d) (λ r. guard (same_type r.0 a) >>= λ _. some r.1) h in
    let m = bind_some (guard (same_type g.0.0 a)) (λ _. some g.0.1) g.2 in
    let same = same_type_eq g.0.0 a (guard_true (same_type g.0.0 a) m.1) in
    ap₂ (put n) (sym same) (sym (some_inj m.2)) ∙ put_of_get n g.0.0 d g.1
learn_of_spend (pleaf l) a d h =
    let g = bind_some (guard (leaf_fits l a)) (λ _. some d) h in
    ap (λ x. guard (leaf_fits l a) >>= λ _. some x) (sym (some_inj g.2)) ∙ some_bind (λ _. some d) g.1
learn_of_spend (pinj t p) a d {e} h =
    let g = bind_some (beneath t a) (λ b. spend p b d) h in
    some_bind (λ b. learn p b e) g.1 ∙ learn_of_spend p g.0 d g.2
learn_of_spend (pnode k p q) a d {e} h =
    let g = bind_some (parts k a) (λ s. spend q s.1 d >>= λ x. spend p s.0 x) h in
    let m = bind_some (spend q g.0.1 d) (λ x. spend p g.0.0 x) g.2 in
    some_bind (λ s. learn p s.0 e >>= λ x. learn q s.1 x) g.1
    ∙ some_bind (λ x. learn q g.0.1 x) (learn_of_spend p g.0.0 m.0 m.2)
    ∙ learn_of_spend q g.0.1 d m.1

pub learn_length : (p : Pat) (a : Ty) (e : Slots Ty) {d : Slots Ty} → learn p a e ≡ some d → length d ≡ length e
learn_length (pvar n) a e h = put_length n a e h
learn_length (pleaf l) a e h = ap length (sym (some_inj (bind_some (guard (leaf_fits l a)) (λ _. some e) h).2))
learn_length (pinj t p) a e h = let g = bind_some (beneath t a) (λ b. learn p b e) h in learn_length p g.0 e g.2
learn_length (pnode k p q) a e h =
    let g = bind_some (parts k a) (λ s. learn p s.0 e >>= λ x. learn q s.1 x) h in
    let m = bind_some (learn p g.0.0 e) (λ x. learn q g.0.1 x) g.2 in
    learn_length q g.0.1 m.0 m.2 ∙ learn_length p g.0.0 e m.1

pub spend_length : (p : Pat) (a : Ty) (d : Slots Ty) {e : Slots Ty} → spend p a d ≡ some e → length e ≡ length d
spend_length p a d {e} h = sym (learn_length p a e (learn_of_spend p a d h))

-- ---- binding adds the context in which a pattern fits

-- what a slot adds
put_adds : (n : ℕ) (a : Ty) (e : Slots Ty) {d : Slots Ty} → put n a e ≡ some d → (z g : Slots Ty) × (all_empty z ≡ true) × (put n a z ≡ some g) × Join d e g
put_adds n a [] h = absurd (none≢some h)
put_adds zero a (none ∷ e) h =
    let blank : Slots Ty = replicate (length e) none in (
      none ∷ blank,
      some a ∷ blank,
      all_empty_replicate Ty (length e),
      refl,
      subst (λ d. Join d (none ∷ e) (some a ∷ blank)) (some_inj h) (Join.second refl (join_comm (join_blank e (length e) refl))),
    )
put_adds zero a (some b ∷ e) h = absurd (none≢some h)
put_adds (suc n) a (none ∷ e) h =
    let m = bind_some (put n a e) (λ x. some (none ∷ x)) h in
    let r = put_adds n a e m.1 in
    (none ∷ r.0, none ∷ r.1, r.2, some_bind (λ x. some (none ∷ x)) r.3, subst (λ d. Join d (none ∷ e) (none ∷ r.1)) (some_inj m.2) (Join.neither r.4))
put_adds (suc n) a (some b ∷ e) h =
    let m = bind_some (put n a e) (λ x. some (some b ∷ x)) h in
    let r = put_adds n a e m.1 in
    (none ∷ r.0, none ∷ r.1, r.2, some_bind (λ x. some (none ∷ x)) r.3, subst (λ d. Join d (some b ∷ e) (none ∷ r.1)) (some_inj m.2) (Join.first refl r.4))

abbrev Adds : Pat → Ty → Slots Ty → Slots Ty → Type 0
Adds p a e d = (g : Slots Ty) × Fits g p a × Join d e g

leaf_fits_lem : (l : Leaf) (a : Ty) (g : Slots Ty) → leaf_fits l a ≡ true → all_empty g ≡ true → Fits g (pleaf l) a
leaf_fits_lem unit_leaf tunit g e h = Fits.unit h
leaf_fits_lem unit_leaf (tlist a) g e h = absurd (false≢true e)
leaf_fits_lem unit_leaf (tsum a b) g e h = absurd (false≢true e)
leaf_fits_lem unit_leaf (tprod a b) g e h = absurd (false≢true e)
leaf_fits_lem empty_leaf tunit g e h = absurd (false≢true e)
leaf_fits_lem empty_leaf (tlist a) g e h = Fits.nil h
leaf_fits_lem empty_leaf (tsum a b) g e h = absurd (false≢true e)
leaf_fits_lem empty_leaf (tprod a b) g e h = absurd (false≢true e)

tag_fits : (t : Tag) (a b : Ty) (p : Pat) (g : Slots Ty) → beneath t a ≡ some b → Fits g p b → Fits g (pinj t p) a
tag_fits t tunit b p g e f = absurd (none≢some e)
tag_fits t (tlist a) b p g e f = absurd (none≢some e)
tag_fits t (tsum a c) b p g e f = Fits.inj (subst (Fits g p) (sym (some_inj e)) f)
tag_fits t (tprod a c) b p g e f = absurd (none≢some e)

node_fits : (k : Node) (a : Ty) (s : Ty × Ty) (p q : Pat) (d e f : Slots Ty) → parts k a ≡ some s → Join d e f → Fits e p s.0 → Fits f q s.1
    → Fits d (pnode k p q) a
node_fits pair_node tunit s p q d e f h j x y = absurd (none≢some h)
node_fits pair_node (tlist a) s p q d e f h j x y = absurd (none≢some h)
node_fits pair_node (tsum a b) s p q d e f h j x y = absurd (none≢some h)
node_fits pair_node (tprod a b) s p q d e f h j x y =
    Fits.pair j (subst (λ r. Fits e p r.0) (sym (some_inj h)) x) (subst (λ r. Fits f q r.1) (sym (some_inj h)) y)
node_fits element_node tunit s p q d e f h j x y = absurd (none≢some h)
node_fits element_node (tlist a) s p q d e f h j x y =
    Fits.cons j (subst (λ r. Fits e p r.0) (sym (some_inj h)) x) (subst (λ r. Fits f q r.1) (sym (some_inj h)) y)
node_fits element_node (tsum a b) s p q d e f h j x y = absurd (none≢some h)
node_fits element_node (tprod a b) s p q d e f h j x y = absurd (none≢some h)

pub learn_adds : (p : Pat) (a : Ty) (e : Slots Ty) {d : Slots Ty} → learn p a e ≡ some d → Adds p a e d
learn_adds (pvar n) a e h = let r = put_adds n a e h in (r.1, Fits.var r.0 r.2 r.3, r.4)
learn_adds (pleaf l) a e h =
    let g = bind_some (guard (leaf_fits l a)) (λ _. some e) h in
    let blank : Slots Ty = replicate (length e) none in (
      blank,
      leaf_fits_lem l a blank (guard_true (leaf_fits l a) g.1) (all_empty_replicate Ty (length e)),
      subst (λ d. Join d e blank) (some_inj g.2) (join_comm (join_blank e (length e) refl)),
    )
learn_adds (pinj t p) a e h =
    let g = bind_some (beneath t a) (λ b. learn p b e) h in
    let r = learn_adds p g.0 e g.2 in
    (r.0, tag_fits t a g.0 p r.0 g.1 r.1, r.2)
learn_adds (pnode k p q) a e h =
    let g = bind_some (parts k a) (λ s. learn p s.0 e >>= λ x. learn q s.1 x) h in
    let m = bind_some (learn p g.0.0 e) (λ x. learn q g.0.1 x) g.2 in
    let x = learn_adds p g.0.0 e m.1 in
    let y = learn_adds q g.0.1 m.0 m.2 in
    let j = join_assoc y.2 x.2 in
    (j.0, node_fits k a g.0 p q j.0 x.0 y.0 g.1 j.2 x.1 y.1, j.1)

put_join : (n : ℕ) (a : Ty) (z : Slots Ty) {g d e : Slots Ty} → all_empty z ≡ true → put n a z ≡ some g → Join d e g → put n a e ≡ some d
put_join n a [] h k j = absurd (none≢some k)
put_join zero a (none ∷ z) {d = d} {e = e} h k j = go (subst (Join d e) (sym (some_inj k)) j)
  where
    go : {d e : Slots Ty} → Join d e (some a ∷ z) → put zero a e ≡ some d
    go (Join.second p i) = let q = sym (join_empty h (join_comm i)) in λ t. some (some (sym p t) ∷ q t)
put_join zero a (some b ∷ z) h k j = absurd (false≢true h)
put_join (suc n) a (none ∷ z) {d = d} {e = e} h k j =
    let m = bind_some (put n a z) (λ x. some (none ∷ x)) k in
    go m.0 (subst (Join d e) (sym (some_inj m.2)) j) (λ d e i. put_join n a z h m.1 i)
  where
    go : (x : Slots Ty) {d e : Slots Ty} → Join d e (none ∷ x)
        → ((d e : Slots Ty) → Join d e x → put n a e ≡ some d) → put (suc n) a e ≡ some d
    go x (Join.neither {d = d} {e = e} i) rec = some_bind (λ r. some (none ∷ r)) (rec d e i)
    go x (Join.first {b = b} {d = d} {e = e} p i) rec = some_bind (λ r. some (some b ∷ r)) (rec d e i) ∙ ap (λ c. some (some c ∷ d)) (sym p)
put_join (suc n) a (some b ∷ z) h k j = absurd (false≢true h)

pub adds_learn : {g : Slots Ty} {p : Pat} {a : Ty} {d e : Slots Ty} → Fits g p a → Join d e g → learn p a e ≡ some d
adds_learn (Fits.unit h) j = ap some (sym (join_empty h (join_comm j)))
adds_learn (Fits.nil h) j = ap some (sym (join_empty h (join_comm j)))
adds_learn (Fits.var {n = n} {a = a} z h k) j = put_join n a z h k j
adds_learn (Fits.inj f) j = adds_learn f j
adds_learn {e = e} (Fits.pair {q = q} {b = b} i x y) j =
    let s = join_assoc (join_comm j) (join_comm i) in
    some_bind (λ r. learn q b r) (adds_learn x (join_comm s.2)) ∙ adds_learn y (join_comm s.1)
adds_learn {e = e} (Fits.cons {q = q} {a = a} i x y) j =
    let s = join_assoc (join_comm j) (join_comm i) in
    some_bind (λ r. learn q (tlist a) r) (adds_learn x (join_comm s.2)) ∙ adds_learn y (join_comm s.1)

-- ---- let steps and clauses

-- a let step that is typed, and what follows it
record LetTyped (sigs : Sigs) (l : Let) (ls : List Let) (d h : Slots Ty) : Type 0 where
  sig : Ty × Ty
  known : get_elem? sigs l.iso ≡ some sig
  left : Slots Ty
  uses : spend l.q sig.0 d ≡ some left
  next : Slots Ty
  binds : learn l.p sig.1 left ≡ some next
  follows : type_lets sigs ls next ≡ some h

let_typed : (sigs : Sigs) (l : Let) (ls : List Let) (d : Slots Ty) {h : Slots Ty} → type_lets sigs (l ∷ ls) d ≡ some h → LetTyped sigs l ls d h
let_typed sigs l ls d e =
    let s = bind_some (get_elem? sigs l.iso) (λ s. spend l.q s.0 d >>= λ f. learn l.p s.1 f >>= λ h. type_lets sigs ls h) e in
    let f = bind_some (spend l.q s.0.0 d) (λ f. learn l.p s.0.1 f >>= λ h. type_lets sigs ls h) s.2 in
    let h = bind_some (learn l.p s.0.1 f.0) (λ h. type_lets sigs ls h) f.2 in
    record { sig = s.0; known = s.1; left = f.0; uses = f.1; next = h.0; binds = h.1; follows = h.2 }

pub typed_let : (sigs : Sigs) (l : Let) (ls : List Let) (d : Slots Ty) {s : Ty × Ty} {f g h : Slots Ty} → get_elem? sigs l.iso ≡ some s
    → spend l.q s.0 d ≡ some f → learn l.p s.1 f ≡ some g → type_lets sigs ls g ≡ some h → type_lets sigs (l ∷ ls) d ≡ some h
typed_let sigs l ls d {s} {f} k u b r =
    some_bind (λ s. spend l.q s.0 d >>= λ f. learn l.p s.1 f >>= λ h. type_lets sigs ls h) k
    ∙ some_bind (λ f. learn l.p s.1 f >>= λ h. type_lets sigs ls h) u
    ∙ some_bind (λ h. type_lets sigs ls h) b
    ∙ r

chain_of : (sigs : Sigs) (ls : List Let) (r : Pat) (b : Ty) (d : Slots Ty) {h e : Slots Ty} → type_lets sigs ls d ≡ some h → spend r b h ≡ some e
    → all_empty e ≡ true → Chain sigs d ls r b
chain_of sigs [] r b d {h} {e} t u z =
    let x = learn_adds r b e (learn_of_spend r b h u) in
    Chain.value (subst (λ y. Fits y r b) (sym (some_inj t ∙ join_empty z x.2)) x.1)
chain_of sigs (l ∷ ls) r b d t u z =
    let s = let_typed sigs l ls d t in
    let x = learn_adds l.q s.sig.0 s.left (learn_of_spend l.q s.sig.0 d s.uses) in
    let y = learn_adds l.p s.sig.1 s.left s.binds in
    Chain.step s.sig s.known (join_comm x.2) x.1 y.1 y.2 (chain_of sigs ls r b s.next s.follows u z)

pub record ChainTyped (sigs : Sigs) (ls : List Let) (r : Pat) (b : Ty) (d : Slots Ty) : Type 0 where
  pub last : Slots Ty
  pub lets : type_lets sigs ls d ≡ some last
  pub rest : Slots Ty
  pub uses : spend r b last ≡ some rest
  pub nothing : all_empty rest ≡ true

of_chain : {sigs : Sigs} {ls : List Let} {r : Pat} {b : Ty} {d : Slots Ty} → Chain sigs d ls r b → ChainTyped sigs ls r b d
of_chain {b = b} (Chain.value {d = d} {p = r} f) =
    record {
      last = d;
      lets = refl;
      rest = replicate (length d) none;
      uses = spend_of_learn r b (replicate (length d) none) (adds_learn f (join_blank d (length d) refl));
      nothing = all_empty_replicate Ty (length d);
    }
of_chain {sigs} (Chain.step {d = d} {f = f} {l = l} {ls = ls} s k j x y i c) =
    let t = of_chain c in
    record {
      last = t.last;
      lets = typed_let sigs l ls d k (spend_of_learn l.q s.0 f (adds_learn x (join_comm j))) (adds_learn y i) t.lets;
      rest = t.rest;
      uses = t.uses;
      nothing = t.nothing;
    }

-- the parts of a typed clause
pub record ClauseTyped (sigs : Sigs) (a b : Ty) (c : Clause) : Type 0 where
  pub first : Slots Ty
  pub binds : learn c.lhs a (empty Ty) ≡ some first
  pub last : Slots Ty
  pub lets : type_lets sigs c.lets first ≡ some last
  pub rest : Slots Ty
  pub uses : spend c.rhs b last ≡ some rest
  pub nothing : all_empty rest ≡ true

used_some : (x : Option (Slots Ty)) → used x ≡ true → (e : Slots Ty) × (x ≡ some e) × (all_empty e ≡ true)
used_some none h = absurd (false≢true h)
used_some (some e) h = (e, refl, h)

clause_typed : (sigs : Sigs) (a b : Ty) (c : Clause) → typed sigs a b c ≡ true → ClauseTyped sigs a b c
unfolding typed
clause_typed sigs a b c h =
    let u = used_some (type_clause sigs a b c) h in
    let d = bind_some (learn c.lhs a (empty Ty)) (λ d. type_lets sigs c.lets d >>= λ h. spend c.rhs b h) u.1 in
    let t = bind_some (type_lets sigs c.lets d.0) (λ h. spend c.rhs b h) d.2 in
    record { first = d.0; binds = d.1; last = t.0; lets = t.1; rest = u.0; uses = t.2; nothing = u.2 }

pub typed_clause : (sigs : Sigs) (a b : Ty) (c : Clause) → ClauseTyped sigs a b c → typed sigs a b c ≡ true
unfolding typed
typed_clause sigs a b c t =
    ap used
    (some_bind (λ d. type_lets sigs c.lets d >>= λ h. spend c.rhs b h) t.binds
    ∙ some_bind (λ h. spend c.rhs b h) t.lets
    ∙ t.uses)
    ∙ t.nothing

blank_join : (d : Slots Ty) → length d ≡ variables → Join d (empty Ty) d
unfolding empty
blank_join d e = join_blank d variables e

-- refusal 10 is the linear typing of Table 1
pub typed_iff : (sigs : Sigs) (a b : Ty) (c : Clause) → (typed sigs a b c ≡ true) ↔ Linear sigs a b c
typed_iff sigs a b c = (λ h. there (clause_typed sigs a b c h), λ l. typed_clause sigs a b c (back l))
  where
    there : ClauseTyped sigs a b c → Linear sigs a b c
    there t =
        let x = learn_adds c.lhs a (empty Ty) t.binds in
        record {
          context = t.first;
          wide = learn_length c.lhs a (empty Ty) t.binds ∙ length_empty Ty;
          lhs = subst (λ y. Fits y c.lhs a) (sym (join_empty (all_empty_empty Ty) x.2)) x.1;
          rest = chain_of sigs c.lets c.rhs b t.first t.lets t.uses t.nothing;
        }

    back : Linear sigs a b c → ClauseTyped sigs a b c
    back l =
        let t = of_chain l.rest in
        record {
          first = l.context;
          binds = adds_learn l.lhs (blank_join l.context l.wide);
          last = t.last;
          lets = t.lets;
          rest = t.rest;
          uses = t.uses;
          nothing = t.nothing;
        }

-- ---- the inverted clause

abbrev pub swap_sigs : Sigs → Sigs
swap_sigs sigs = map (λ s. (s.1, s.0)) sigs

type_lets_append : (sigs : Sigs) (ls ms : List Let) (d : Slots Ty) {h k : Slots Ty} → type_lets sigs ls d ≡ some h → type_lets sigs ms h ≡ some k
    → type_lets sigs (ls ++ ms) d ≡ some k
type_lets_append sigs [] ms d h k = ap (type_lets sigs ms) (some_inj h) ∙ k
type_lets_append sigs (l ∷ ls) ms d h k =
    let s = let_typed sigs l ls d h in
    typed_let sigs l (ls ++ ms) d s.known s.uses s.binds (type_lets_append sigs ls ms s.next s.follows k)

type_lets_inverse : (sigs : Sigs) (ls : List Let) (d : Slots Ty) {h : Slots Ty} → type_lets sigs ls d ≡ some h
    → type_lets (swap_sigs sigs) (reverse (map invert_let ls)) h ≡ some d
type_lets_inverse sigs [] d e = sym e
type_lets_inverse sigs (l ∷ ls) d {h} e =
    let s = let_typed sigs l ls d e in
    let one = typed_let (swap_sigs sigs) (invert_let l) [] s.next (index_map (λ s. (s.1, s.0)) sigs l.iso s.known)
    (spend_of_learn l.p s.sig.1 s.left s.binds) (learn_of_spend l.q s.sig.0 d s.uses) refl in
    ap (λ ms. type_lets (swap_sigs sigs) ms h) (reverse-cons (invert_let l) (map invert_let ls))
    ∙ type_lets_append (swap_sigs sigs) (reverse (map invert_let ls)) (invert_let l ∷ []) h (type_lets_inverse sigs ls s.next s.follows) one

type_lets_length : (sigs : Sigs) (ls : List Let) (d : Slots Ty) {h : Slots Ty} → type_lets sigs ls d ≡ some h → length h ≡ length d
type_lets_length sigs [] d e = ap length (sym (some_inj e))
type_lets_length sigs (l ∷ ls) d e =
    let s = let_typed sigs l ls d e in
    type_lets_length sigs ls s.next s.follows ∙ learn_length l.p s.sig.1 s.left s.binds ∙ spend_length l.q s.sig.0 d s.uses

pub linear_invert : (sigs : Sigs) (a b : Ty) (c : Clause) → Linear sigs a b c → Linear (swap_sigs sigs) b a (invert_clause c)
linear_invert sigs a b c l =
    let t = clause_typed sigs a b c ((typed_iff sigs a b c).1 l) in
    let none_left : t.rest ≡ empty Ty = is_empty t.rest
    (spend_length c.rhs b t.last t.uses ∙ type_lets_length sigs c.lets t.first t.lets ∙ learn_length c.lhs a (empty Ty) t.binds)
    t.nothing in
    (typed_iff (swap_sigs sigs) b a (invert_clause c)).0
    (typed_clause (swap_sigs sigs) b a (invert_clause c) (record {
      first = t.last;
      binds = subst (λ e. learn c.rhs b e ≡ some t.last) none_left (learn_of_spend c.rhs b t.last t.uses);
      last = t.first;
      lets = type_lets_inverse sigs c.lets t.first t.lets;
      rest = empty Ty;
      uses = spend_of_learn c.lhs a (empty Ty) t.binds;
      nothing = all_empty_empty Ty;
    }))
