-- Refusal 23 as a test agrees with the rule of request 14, and the rule holds of an iso exactly when it holds of the inverted iso.
use Prim.Native.Nat.{ℕ}
use mathlib.Core.Path.{◌≡◌, refl, sym, ap, ◌∙◌, subst}
use mathlib.Core.Logic.{◌⊎◌, inl, inr, ◌↔◌}
use mathlib.Core.Bool.{Bool, true, false, cond, not, ◌&&◌, ◌||◌, false≢true}
use mathlib.Core.List.{List, [], ◌∷◌, Memᴰ}
use lib.Dec.{eqb}
use Rattle.calculus.specs.Tools.{all}
use Rattle.calculus.specs.Trees.{Ty, tunit, tlist, tsum, tprod, unit_leaf, empty_leaf, pair_node, element_node, Pat, pvar, pleaf, pinj, pnode, Let, Clause}
use Rattle.calculus.specs.Trees.{Iso, vars, invert_let, invert_clause, invert}
use Rattle.calculus.specs.Clauses.{calls, no_calls, calls_itself, is_list, zoned, shown, on_tail, elem, tail_calls, tail_rule, shown_rule, clause_rule, structural, recursion_rule}
use Rattle.calculus.specs.Paper.{Quiet, NeverCalls, Zoned, OnTail, TailCall, Shows, ShowsThere, Structural, Recursion}
use Rattle.calculus.proofs.Basic.{not_both, is_false, not_true, and_true, true_and, or_true, true_or_left, true_or_right, eqb_eq, eq_eqb}
use Rattle.calculus.proofs.Basic.{eqb_false, not_eqb, each_nil, each_cons, each_map, all_mem, mem_all}
use Rattle.calculus.proofs.Variables.{invert_lets}
use Rattle.calculus.proofs.Covering.{mem_elem, elem_mem}
use Rattle.calculus.proofs.Inverse.{invert_invert}

-- ---- calls

quiet_of : (i : ℕ) (ls : List Let) → no_calls i ls ≡ true → Quiet i ls
quiet_of i ls h l m e = eqb_false (not_true (eqb l.iso i) (all_mem (λ l. not (calls i l)) h m)) e

of_quiet : (i : ℕ) (ls : List Let) → Quiet i ls → no_calls i ls ≡ true
of_quiet i ls h = mem_all (λ l. not (calls i l)) ls (λ l m. ap not (not_eqb (h l m)))

never_of : (i : ℕ) (o : Iso) → all (λ c. no_calls i c.lets) o.clauses ≡ true → NeverCalls i o
never_of i o h c m = quiet_of i c.lets (all_mem (λ c. no_calls i c.lets) h m)

of_never : (i : ℕ) (o : Iso) → NeverCalls i o → all (λ c. no_calls i c.lets) o.clauses ≡ true
of_never i o h = mem_all (λ c. no_calls i c.lets) o.clauses (λ c m. of_quiet i c.lets (h c m))

-- ---- the tail

on_tail_of : (n : ℕ) (q : Pat) → on_tail n q ≡ true → OnTail n q
on_tail_of n (pvar m) e = OnTail.alone (eqb_eq n m e)
on_tail_of n (pleaf l) e = absurd (false≢true e)
on_tail_of n (pinj t p) e = absurd (false≢true e)
on_tail_of n (pnode pair_node (pvar m) q) e = OnTail.first (eqb_eq n m e)
on_tail_of n (pnode pair_node (pleaf l) q) e = absurd (false≢true e)
on_tail_of n (pnode pair_node (pinj t p) q) e = absurd (false≢true e)
on_tail_of n (pnode pair_node (pnode k p r) q) e = absurd (false≢true e)
on_tail_of n (pnode element_node p q) e = absurd (false≢true e)

of_on_tail : {n : ℕ} {q : Pat} → OnTail n q → on_tail n q ≡ true
of_on_tail (OnTail.alone e) = eq_eqb e
of_on_tail (OnTail.first e) = eq_eqb e

tail_of : (i n : ℕ) (ls : List Let) → tail_calls i n ls ≡ true → TailCall i n ls
tail_of i n [] h = TailCall.never (each_nil (λ l. l.iso ≡ i → ⊥))
tail_of i n (l ∷ ls) h = go (calls i l) (elem n (vars l.q)) refl refl h (tail_of i n ls)
  where
    go : (b c : Bool) → calls i l ≡ b → elem n (vars l.q) ≡ c → cond b (on_tail n l.q && no_calls i ls) (cond c (no_calls i ls) (tail_calls i n ls)) ≡ true
        → (tail_calls i n ls ≡ true → TailCall i n ls) → TailCall i n (l ∷ ls)
    go true c hb hc e rec =
        let t = and_true (on_tail n l.q) (no_calls i ls) e in TailCall.here (eqb_eq l.iso i hb) (on_tail_of n l.q t.0) (quiet_of i ls t.1)
    go false true hb hc e rec = TailCall.never (each_cons (λ l. l.iso ≡ i → ⊥) (λ s. eqb_false hb s) (quiet_of i ls e))
    go false false hb hc e rec = TailCall.later (λ s. eqb_false hb s) (λ m. not_both (mem_elem m) hc) (rec e)

of_tail : (i n : ℕ) {ls : List Let} → TailCall i n ls → tail_calls i n ls ≡ true
of_tail i n {ls} (TailCall.never h) = quietly ls h
  where
    quietly : (ls : List Let) → Quiet i ls → tail_calls i n ls ≡ true
    quietly [] h = refl
    quietly (l ∷ ls) h = go (elem n (vars l.q)) (quietly ls (λ k m. h k (Memᴰ.tail m)))
      where
        quiet : no_calls i ls ≡ true
        quiet = of_quiet i ls (λ k m. h k (Memᴰ.tail m))

        go : (c : Bool) → tail_calls i n ls ≡ true → cond (calls i l) (on_tail n l.q && no_calls i ls) (cond c (no_calls i ls) (tail_calls i n ls)) ≡ true
        go true r = ap (λ b. cond b (on_tail n l.q && no_calls i ls) (no_calls i ls)) (not_eqb (h l (Memᴰ.head refl))) ∙ quiet
        go false r = ap (λ b. cond b (on_tail n l.q && no_calls i ls) (tail_calls i n ls)) (not_eqb (h l (Memᴰ.head refl))) ∙ r
of_tail i n (TailCall.here {l = l} {ls = ls} e t h) =
    ap (λ b. cond b (on_tail n l.q && no_calls i ls) (cond (elem n (vars l.q)) (no_calls i ls) (tail_calls i n ls))) (eq_eqb e)
    ∙ true_and (of_on_tail t) (of_quiet i ls h)
of_tail i n (TailCall.later {l = l} {ls = ls} d u t) =
    ap (λ b. cond b (on_tail n l.q && no_calls i ls) (cond (elem n (vars l.q)) (no_calls i ls) (tail_calls i n ls))) (not_eqb d)
    ∙ ap (λ b. cond b (no_calls i ls) (tail_calls i n ls)) (is_false (elem n (vars l.q)) (λ e. u (elem_mem n (vars l.q) e)))
    ∙ of_tail i n t

-- ---- what a left pattern shows

element_of : (i : ℕ) (ls : List Let) (p q : Pat) → tail_rule i q ls ≡ true → Shows i ls (pnode element_node p q)
element_of i ls p (pvar n) e = Shows.tail (tail_of i n ls e)
element_of i ls p (pleaf l) e = Shows.quiet (quiet_of i ls e)
element_of i ls p (pinj t q) e = Shows.quiet (quiet_of i ls e)
element_of i ls p (pnode k q r) e = Shows.quiet (quiet_of i ls e)

quiet_tail : (i : ℕ) (ls : List Let) (q : Pat) → Quiet i ls → tail_rule i q ls ≡ true
quiet_tail i ls (pvar n) h = of_tail i n (TailCall.never h)
quiet_tail i ls (pleaf l) h = of_quiet i ls h
quiet_tail i ls (pinj t q) h = of_quiet i ls h
quiet_tail i ls (pnode k q r) h = of_quiet i ls h

shows_of : (i : ℕ) (ls : List Let) (p : Pat) → shown_rule i p ls ≡ true → Shows i ls p
shows_of i ls (pvar n) e = absurd (false≢true e)
shows_of i ls (pleaf unit_leaf) e = absurd (false≢true e)
shows_of i ls (pleaf empty_leaf) e = Shows.nil (quiet_of i ls e)
shows_of i ls (pinj t p) e = absurd (false≢true e)
shows_of i ls (pnode pair_node p q) e = absurd (false≢true e)
shows_of i ls (pnode element_node p q) e = element_of i ls p q e

of_shows : (i : ℕ) (ls : List Let) {p : Pat} → Shows i ls p → shown_rule i p ls ≡ true
of_shows i ls (Shows.nil h) = of_quiet i ls h
of_shows i ls (Shows.quiet {q = q} h) = quiet_tail i ls q h
of_shows i ls (Shows.tail {n = n} t) = of_tail i n t

shown_shows : {i : ℕ} {ls : List Let} {p : Pat} → Shows i ls p → shown p ≡ p
shown_shows (Shows.nil h) = refl
shown_shows (Shows.quiet h) = refl
shown_shows (Shows.tail t) = refl

there_of : (i : ℕ) (ls : List Let) (p : Pat) → shown_rule i (shown p) ls ≡ true → ShowsThere i ls p
there_of i ls (pvar n) e = absurd (false≢true e)
there_of i ls (pleaf l) e = ShowsThere.alone (shows_of i ls (pleaf l) e)
there_of i ls (pinj t p) e = absurd (false≢true e)
there_of i ls (pnode pair_node p q) e = ShowsThere.first (shows_of i ls p e)
there_of i ls (pnode element_node p q) e = ShowsThere.alone (shows_of i ls (pnode element_node p q) e)

pub rule_iff : (i : ℕ) (c : Clause) → (clause_rule i c ≡ true) ↔ ShowsThere i c.lets c.lhs
rule_iff i c = (there_of i c.lets c.lhs, back)
  where
    back : {p : Pat} → ShowsThere i c.lets p → shown_rule i (shown p) c.lets ≡ true
    back (ShowsThere.alone s) = ap (λ p. shown_rule i p c.lets) (shown_shows s) ∙ of_shows i c.lets s
    back (ShowsThere.first s) = of_shows i c.lets s

-- ---- an iso

list_of : (a b : Ty) → is_list a ≡ true → Zoned (tprod a b)
list_of tunit b e = absurd (false≢true e)
list_of (tlist a) b e = Zoned.product
list_of (tsum a c) b e = absurd (false≢true e)
list_of (tprod a c) b e = absurd (false≢true e)

pub zoned_iff : (a : Ty) → (zoned a ≡ true) ↔ Zoned a
zoned_iff a = (there a, back)
  where
    there : (a : Ty) → zoned a ≡ true → Zoned a
    there tunit e = absurd (false≢true e)
    there (tlist a) e = Zoned.list
    there (tsum a b) e = absurd (false≢true e)
    there (tprod a b) e = list_of a b e

    back : {a : Ty} → Zoned a → zoned a ≡ true
    back Zoned.list = refl
    back Zoned.product = refl

pub structural_iff : (i : ℕ) (o : Iso) → (structural i o ≡ true) ↔ Structural i o
unfolding structural
structural_iff i o = (
  λ h. let t = and_true (zoned o.from) (all (clause_rule i) o.clauses) h in
      record { zone = (zoned_iff o.from).0 t.0; clauses = λ c m. (rule_iff i c).0 (all_mem (clause_rule i) t.1 m) },
  λ s. true_and ((zoned_iff o.from).1 s.zone) (mem_all (clause_rule i) o.clauses (λ c m. (rule_iff i c).1 (s.clauses c m))),
)

pub recursion_iff : (i : ℕ) (o : Iso) → (recursion_rule i o ≡ true) ↔ Recursion i o
unfolding recursion_rule
recursion_iff i o = (λ h. there (or_true (not (calls_itself i o)) (structural i o || structural i (invert o)) h), back)
  where
    quiet : Bool
    quiet = all (λ c. no_calls i c.lets) o.clauses

    twice : (b : Bool) → not (not b) ≡ b
    twice true = refl
    twice false = refl

    either : (structural i o ≡ true) ⊎ (structural i (invert o) ≡ true) → Recursion i o
    either (inl e) = Recursion.written ((structural_iff i o).0 e)
    either (inr e) = Recursion.turned ((structural_iff i (invert o)).0 e)

    there : (not (not quiet) ≡ true) ⊎ ((structural i o || structural i (invert o)) ≡ true) → Recursion i o
    there (inl e) = Recursion.never (never_of i o (sym (twice quiet) ∙ e))
    there (inr e) = either (or_true (structural i o) (structural i (invert o)) e)

    back : Recursion i o → (not (calls_itself i o) || (structural i o || structural i (invert o))) ≡ true
    back (Recursion.never h) = true_or_left (structural i o || structural i (invert o)) (twice quiet ∙ of_never i o h)
    back (Recursion.written s) = true_or_right (not (calls_itself i o)) (true_or_left (structural i (invert o)) ((structural_iff i o).1 s))
    back (Recursion.turned s) = true_or_right (not (calls_itself i o)) (true_or_right (structural i o) ((structural_iff i (invert o)).1 s))

-- ---- the inverted iso

pub never_invert : (i : ℕ) (o : Iso) → NeverCalls i o → NeverCalls i (invert o)
never_invert i o h =
    each_map (λ c. Quiet i c.lets) invert_clause o.clauses (λ c m l k. h c m (invert_let l) (invert_lets l c.lets k))

pub recursion_invert : (i : ℕ) (o : Iso) → Recursion i o → Recursion i (invert o)
recursion_invert i o (Recursion.never h) = Recursion.never (never_invert i o h)
recursion_invert i o (Recursion.written s) = Recursion.turned (subst (Structural i) (sym (invert_invert o)) s)
recursion_invert i o (Recursion.turned s) = Recursion.written s
