-- Isos whose clauses are permuted, at whatever lines, are both without fault or both not, fault alike, and reduce alike.
use Prim.Native.Nat.{ℕ, zero, suc, ◌+◌, ◌^◌}
use native.Mathlib.Omega.{arith}
use mathlib.Core.Path.{◌≡◌, refl, sym, ap, ap₂, ◌∙◌, subst}
use mathlib.Core.Logic.{◌⊎◌, inl, inr, ⊎_elim}
use mathlib.Core.Bool.{Bool, true, false, not, cond, ◌&&◌, ◌||◌, true≢false, false≢true}
use mathlib.Core.Option.{Option, none, some}
use mathlib.Core.List.Memᴰ
use mathlib.Core.List.{List, [], ◌∷◌, map, Memᴰ}
use lib.Dec.{eqb}
use lib.ListN.{get_elem?, length}
use Rattle.limits.specs.Limits.{max_tags, max_depth}
use Rattle.calculus.specs.Tools.{all, select, total, first_of, or_else, first_failing}
use Rattle.calculus.specs.Trees.{Ty, left, right, Pat, Val, Clause, Iso, invert_clause, invert}
use Rattle.calculus.specs.Refusals.{Refusal, number, clause_line, iso_line, overlap, gap, recursion}
use Rattle.calculus.specs.Reduction.{Counted, given, ◌>>>◌, measured, Call, run_clause, hits, only, apply, applied, reduce_to, small, reduce}
use Rattle.calculus.specs.Clauses.{Sigs, variables_rule, let_shapes, typed, clause_fault, clash, apart, weight, full_weight, lefts, rights, side_fault, at, no_calls}
use Rattle.calculus.specs.Clauses.{zoned, clause_rule, structural, recursion_rule, recursion_fault, iso_fault, fault_from, fault, sigs_of}
use Rattle.calculus.specs.Paper.{Zoned, Recursion}
use Rattle.calculus.specs.Faulty.{Breach}
use Rattle.calculus.proofs.Orthogonal.{clash_sym}
use Rattle.law_reordering.specs.Reordered.{Permuted, empty, keep, swap, then, bare, AlikeIso, Alike, more}
use Rattle.law_reordering.specs.Answers.{FaultsAgree}
use Rattle.calculus.proofs.Basic.{none≢some, some_inj, or_else_cases, or_else_none, first_of_none, none_first_of}
use Rattle.calculus.proofs.Inverse.{reduce_unfold}
use Rattle.calculus.proofs.Checking.{at_none, recursion_ok, ok_recursion, recursion_fault_lem, fault_recursion}
use Rattle.calculus.proofs.Recursion.{recursion_iff}

-- ---- permuted lists

-- what swap reaches
pub swapped : {A : Type 0} {x y v w : A} {xs ys : List A} → x ≡ w → y ≡ v → xs ≡ ys → y ∷ (x ∷ xs) ≡ v ∷ (w ∷ ys)
swapped p q r = λ i. q i ∷ (p i ∷ r i)

pub perm_refl : {A : Type 0} (xs : List A) → Permuted xs xs
perm_refl [] = empty
perm_refl (x ∷ xs) = keep refl (perm_refl xs)

pub perm_same : {A : Type 0} {xs ys : List A} → xs ≡ ys → Permuted xs ys
perm_same {xs = xs} e = subst (Permuted xs) e (perm_refl xs)

pub perm_sym : {A : Type 0} {xs ys : List A} → Permuted xs ys → Permuted ys xs
perm_sym empty = empty
perm_sym (keep e p) = keep (sym e) (perm_sym p)
perm_sym (swap p q r) = swap (sym q) (sym p) (sym r)
perm_sym (then p q) = then (perm_sym q) (perm_sym p)

pub perm_length : {A : Type 0} {xs ys : List A} → Permuted xs ys → length xs ≡ length ys
perm_length empty = refl
perm_length (keep e p) = ap suc (perm_length p)
perm_length (swap p q r) = ap (λ zs. suc (suc (length zs))) r
perm_length (then p q) = perm_length p ∙ perm_length q

pub perm_map : {A B : Type 0} (f : A → B) {xs ys : List A} → Permuted xs ys → Permuted (map f xs) (map f ys)
perm_map f empty = empty
perm_map f (keep e p) = keep (ap f e) (perm_map f p)
perm_map f (swap p q r) = swap (ap f p) (ap f q) (ap (map f) r)
perm_map f (then p q) = then (perm_map f p) (perm_map f q)

pub perm_mem : {A : Type 0} {x : A} {xs ys : List A} → Permuted xs ys → Memᴰ x xs → Memᴰ x ys
perm_mem empty m = m
perm_mem (keep e p) (Memᴰ.head h) = Memᴰ.head (h ∙ e)
perm_mem (keep e p) (Memᴰ.tail m) = Memᴰ.tail (perm_mem p m)
perm_mem (swap p q r) (Memᴰ.head h) = Memᴰ.tail (Memᴰ.head (h ∙ p))
perm_mem (swap p q r) (Memᴰ.tail (Memᴰ.head h)) = Memᴰ.head (h ∙ q)
perm_mem {x = x} (swap p q r) (Memᴰ.tail (Memᴰ.tail m)) = Memᴰ.tail (Memᴰ.tail (subst (Memᴰ x) r m))
perm_mem (then p q) m = perm_mem q (perm_mem p m)

module _ {A : Type 0} (f : A → Bool) where
  swap_select : (x y : A) (xs : List A) → Permuted (select f (x ∷ (y ∷ xs))) (select f (y ∷ (x ∷ xs)))
  swap_select x y xs = go (f x) (f y)
    where
      go : (b c : Bool) → Permuted (cond b (x ∷ cond c (y ∷ select f xs) (select f xs)) (cond c (y ∷ select f xs) (select f xs)))
          (cond c (y ∷ cond b (x ∷ select f xs) (select f xs)) (cond b (x ∷ select f xs) (select f xs)))
      go true true = swap refl refl refl
      go true false = perm_refl (x ∷ select f xs)
      go false true = perm_refl (y ∷ select f xs)
      go false false = perm_refl (select f xs)

  pub perm_select : {xs ys : List A} → Permuted xs ys → Permuted (select f xs) (select f ys)
  perm_select empty = empty
  perm_select (keep {x} {y} {xs} {ys} e p) = go (f x) (f y) (ap f e) (perm_select p)
    where
      go : (b c : Bool) → b ≡ c → Permuted (select f xs) (select f ys) → Permuted (cond b (x ∷ select f xs) (select f xs)) (cond c (y ∷ select f ys) (select f ys))
      go true true h q = keep e q
      go true false h q = absurd (true≢false h)
      go false true h q = absurd (false≢true h)
      go false false h q = q
  perm_select (swap {x} {y} {xs = xs} p q r) = subst (λ zs. Permuted (select f (x ∷ (y ∷ xs))) (select f zs)) (swapped p q r) (swap_select x y xs)
  perm_select (then p q) = then (perm_select p) (perm_select q)

and_swap : (a b c : Bool) → (a && (b && c)) ≡ (b && (a && c))
and_swap true b c = refl
and_swap false true c = refl
and_swap false false c = refl

pub perm_all : {A : Type 0} (f : A → Bool) {xs ys : List A} → Permuted xs ys → all f xs ≡ all f ys
perm_all f empty = refl
perm_all f (keep e p) = ap₂ ◌&&◌ (ap f e) (perm_all f p)
perm_all f (swap {x} {y} {xs = xs} p q r) = and_swap (f x) (f y) (all f xs) ∙ ap (all f) (swapped p q r)
perm_all f (then p q) = perm_all f p ∙ perm_all f q

pub perm_total : {xs ys : List ℕ} → Permuted xs ys → total xs ≡ total ys
perm_total empty = refl
perm_total (keep e p) = ap₂ ◌+◌ e (perm_total p)
perm_total (swap {x} {y} {xs = xs} p q r) =
    let h : x + (y + total xs) ≡ y + (x + total xs) = omega arith in h ∙ ap total (swapped p q r)
perm_total (then p q) = perm_total p ∙ perm_total q

-- ---- the tests of the sides

four : (k a b c : Bool) → ((k && a) && (b && c)) ≡ ((k && b) && (a && c))
four true a b c = and_swap a b c
four false a b c = refl

pub perm_apart : {ps qs : List Pat} → Permuted ps qs → apart ps ≡ apart qs
perm_apart empty = refl
perm_apart (keep {y = y} {xs = ps} {ys = qs} e p) = ap₂ ◌&&◌ (ap (λ x. all (clash x) ps) e ∙ perm_all (clash y) p) (perm_apart p)
perm_apart (swap {x} {y} {xs = ps} p q r) =
    four (clash x y) (all (clash x) ps) (all (clash y) ps) (apart ps)
    ∙ ap (λ k. (k && all (clash y) ps) && (all (clash x) ps && apart ps)) (clash_sym x y)
    ∙ ap apart (swapped p q r)
perm_apart (then p q) = perm_apart p ∙ perm_apart q

pub perm_full : {ps qs : List Pat} → Permuted ps qs → full_weight ps ≡ full_weight qs
perm_full p = ap (λ n. eqb n (2 ^ max_tags)) (perm_total (perm_map weight p))

module _ {o n : Iso} (a : AlikeIso o n) where
  pub alike_map : {A : Type 0} (f : Clause → A) → ((c : Clause) → f (bare c) ≡ f c) → Permuted (map f o.clauses) (map f n.clauses)
  alike_map f h =
      then (perm_same (sym (whole o.clauses))) (then (perm_map f a.clauses) (perm_same (whole n.clauses)))
    where
      whole : (cs : List Clause) → map f (map bare cs) ≡ map f cs
      whole [] = refl
      whole (c ∷ cs) = ap₂ ◌∷◌ (h c) (whole cs)

  pub alike_lefts : Permuted (lefts o) (lefts n)
  alike_lefts = alike_map (λ c. c.lhs) (λ c. refl)

  pub alike_rights : Permuted (rights o) (rights n)
  alike_rights = alike_map (λ c. c.rhs) (λ c. refl)

  -- 11 to 14 are the same
  pub alike_sides : side_fault o ≡ side_fault n
  unfolding side_fault
  alike_sides =
      ap₂ (λ p q. first_failing ((p, overlap iso_line left) ∷ (q, overlap iso_line right) ∷ (full_weight (lefts o), gap iso_line left) ∷ (full_weight (rights o), gap iso_line right) ∷ []))
      (perm_apart alike_lefts) (perm_apart alike_rights)
      ∙ ap₂ (λ p q. first_failing ((apart (lefts n), overlap iso_line left) ∷ (apart (rights n), overlap iso_line right) ∷ (p, gap iso_line left) ∷ (q, gap iso_line right) ∷ []))
      (perm_full alike_lefts) (perm_full alike_rights)

  -- a clause of the one stands in the other, at whatever line
  pub alike_clause : (c : Clause) → Memᴰ c o.clauses → (d : Clause) × Memᴰ d n.clauses × (bare d ≡ bare c)
  alike_clause c m = Memᴰ.of_map bare n.clauses (perm_mem a.clauses (Memᴰ.map bare m))

pub iso_sym : {o n : Iso} → AlikeIso o n → AlikeIso n o
iso_sym a = record { line = sym a.line; from = sym a.from; to = sym a.to; clauses = perm_sym a.clauses }

pub alike_sym : {os ns : List Iso} → Alike os ns → Alike ns os
alike_sym Alike.none = Alike.none
alike_sym (more a h) = more (iso_sym a) (alike_sym h)

iso_then : {o n m : Iso} → AlikeIso o n → AlikeIso n m → AlikeIso o m
iso_then a b = record { line = a.line ∙ b.line; from = a.from ∙ b.from; to = a.to ∙ b.to; clauses = then a.clauses b.clauses }

pub alike_then : {os ns ms : List Iso} → Alike os ns → Alike ns ms → Alike os ms
alike_then Alike.none Alike.none = Alike.none
alike_then (more a h) (more b k) = more (iso_then a b) (alike_then h k)

pub alike_refl : (os : List Iso) → Alike os os
alike_refl [] = Alike.none
alike_refl (o ∷ os) = more (record { line = refl; from = refl; to = refl; clauses = perm_refl (map bare o.clauses) }) (alike_refl os)

-- ---- inverted

bare_invert : (cs : List Clause) → map bare (map invert_clause cs) ≡ map invert_clause (map bare cs)
bare_invert [] = refl
bare_invert (c ∷ cs) = ap (λ ds. bare (invert_clause c) ∷ ds) (bare_invert cs)

iso_invert : {o n : Iso} → AlikeIso o n → AlikeIso (invert o) (invert n)
iso_invert {o} {n} a =
    record {
      line = a.line;
      from = a.to;
      to = a.from;
      clauses = then (perm_same (bare_invert o.clauses)) (then (perm_map invert_clause a.clauses) (perm_same (sym (bare_invert n.clauses))));
    }

pub alike_invert : {os ns : List Iso} → Alike os ns → Alike (map invert os) (map invert ns)
alike_invert Alike.none = Alike.none
alike_invert (more a h) = more (iso_invert a) (alike_invert h)

-- ---- refusal 23

all_self : {A : Type 0} (f : A → Bool) (xs : List A) → all f xs ≡ all (λ b. b) (map f xs)
all_self f [] = refl
all_self f (x ∷ xs) = ap (λ b. f x && b) (all_self f xs)

-- a test of clauses that does not see their lines
pub alike_all : {o n : Iso} → AlikeIso o n → (f : Clause → Bool) → ((c : Clause) → f (bare c) ≡ f c) → all f o.clauses ≡ all f n.clauses
alike_all {o} {n} a f h = all_self f o.clauses ∙ perm_all (λ b. b) (alike_map a f h) ∙ sym (all_self f n.clauses)

structural_alike : (i : ℕ) {o n : Iso} → AlikeIso o n → structural i o ≡ structural i n
unfolding structural
structural_alike i a = ap₂ ◌&&◌ (ap zoned a.from) (alike_all a (clause_rule i) (λ c. refl))

rule_alike : (i : ℕ) {o n : Iso} → AlikeIso o n → recursion_rule i o ≡ recursion_rule i n
unfolding recursion_rule
rule_alike i a =
    ap₂ (λ x y. not x || y) (ap not (alike_all a (λ c. no_calls i c.lets) (λ c. refl)))
    (ap₂ ◌||◌ (structural_alike i a) (structural_alike i (iso_invert a)))

recursion_alike : (i : ℕ) {o n : Iso} → AlikeIso o n → Recursion i o → Recursion i n
recursion_alike i {o} {n} a r = (recursion_iff i n).0 (sym (rule_alike i a) ∙ (recursion_iff i o).1 r)

recursion_none : (i : ℕ) {o n : Iso} → AlikeIso o n → recursion_fault i o ≡ none → recursion_fault i n ≡ none
recursion_none i {o} {n} a e = ok_recursion i n (recursion_alike i a (recursion_ok i o e))

-- both at the same I line, or both at C lines
recursion_some : (i : ℕ) {o n : Iso} → AlikeIso o n → (r : Refusal × ℕ) → recursion_fault i o ≡ some r
    → (q : Refusal × ℕ) × (recursion_fault i n ≡ some q) × ((r ≡ q) ⊎ ((r.0 ≡ recursion clause_line) × (q.0 ≡ recursion clause_line)))
recursion_some i {o} {n} a r e = go (recursion_fault_lem i o r.0 r.1 e)
  where
    not_other : ¬ Recursion i o → ¬ Recursion i n
    not_other h k = h (recursion_alike i (iso_sym a) k)

    second : Zoned o.from → (x : Option (Refusal × ℕ)) → recursion_fault i n ≡ x → ¬ Recursion i n → (q : Refusal × ℕ) × (x ≡ some q) × (q.0 ≡ recursion clause_line)
    second z none h broken = absurd (broken (recursion_ok i n h))
    second z (some q) h broken = (q, refl, at_clause (recursion_fault_lem i n q.0 q.1 h).1)
      where
        at_clause : {f : Refusal} {m : ℕ} → Breach i n f m → f ≡ recursion clause_line
        at_clause (Breach.in_type y k) = absurd (y (subst Zoned a.from z))
        at_clause (Breach.in_clause y k) = refl

    by : {f : Refusal} {m : ℕ} → ¬ Recursion i o → Breach i o f m
        → (q : Refusal × ℕ) × (recursion_fault i n ≡ some q) × ((◌≡◌ {A = Refusal × ℕ} (f, m) q) ⊎ ((f ≡ recursion clause_line) × (q.0 ≡ recursion clause_line)))
    by {m = m} broken (Breach.in_type z k) =
        ((recursion iso_line, m), fault_recursion i n (not_other broken) (Breach.in_type (λ y. z (subst Zoned (sym a.from) y)) (k ∙ a.line)), inl refl)
    by broken (Breach.in_clause z k) = let (q, h, c) = second z (recursion_fault i n) refl (not_other broken) in (q, h, inr (refl, c))

    go : (¬ Recursion i o) × Breach i o r.0 r.1
        → (q : Refusal × ℕ) × (recursion_fault i n ≡ some q) × ((r ≡ q) ⊎ ((r.0 ≡ recursion clause_line) × (q.0 ≡ recursion clause_line)))
    go (broken, b) = by broken b

-- ---- refusals 8 to 10

pub bare_fault : (sigs : Sigs) (a b : Ty) (c : Clause) → clause_fault sigs a b (bare c) ≡ clause_fault sigs a b c
unfolding clause_fault variables_rule let_shapes typed
bare_fault sigs a b c = refl

pub alike_sigs : {os ns : List Iso} → Alike os ns → sigs_of os ≡ sigs_of ns
alike_sigs Alike.none = refl
alike_sigs (more a h) = λ i. (a.from i, a.to i) ∷ alike_sigs h i

module _ (sigs : Sigs) {o n : Iso} (a : AlikeIso o n) where
  -- the fault of a clause of the one is the fault of a clause of the other
  pub clause_same : (c : Clause) → Memᴰ c o.clauses
      → (d : Clause) × Memᴰ d n.clauses × (clause_fault sigs n.from n.to d ≡ clause_fault sigs o.from o.to c)
  clause_same c m =
      let r = alike_clause a c m in (
        r.0,
        r.1,
        sym (bare_fault sigs n.from n.to r.0)
            ∙ ap (clause_fault sigs n.from n.to) r.2
            ∙ bare_fault sigs n.from n.to c
            ∙ ap₂ (λ x y. clause_fault sigs x y c) (sym a.from) (sym a.to),
      )

abbrev clauses_fault : Sigs → Iso → Option (Refusal × ℕ)
clauses_fault sigs o = first_of (λ c. at c.line (clause_fault sigs o.from o.to c)) o.clauses

clauses_none : (sigs : Sigs) {o n : Iso} → AlikeIso o n → clauses_fault sigs o ≡ none → clauses_fault sigs n ≡ none
clauses_none sigs {o} {n} a e =
    none_first_of (λ c. at c.line (clause_fault sigs n.from n.to c)) n.clauses
    (λ d m. let r = clause_same sigs (iso_sym a) d m in
    ap (at d.line) (sym r.2 ∙ at_none r.0.line (clause_fault sigs o.from o.to r.0)
    (first_of_none (λ c. at c.line (clause_fault sigs o.from o.to c)) o.clauses e r.0 r.1)))

abbrev after_clauses : ℕ → Iso → Option (Refusal × ℕ)
after_clauses i o = or_else (recursion_fault i o) (at o.line (side_fault o))

pub iso_none : (sigs : Sigs) (i : ℕ) {o n : Iso} → AlikeIso o n → iso_fault sigs i o ≡ none → iso_fault sigs i n ≡ none
unfolding iso_fault
iso_none sigs i {o} {n} a e =
    let h = or_else_none (clauses_fault sigs o) (after_clauses i o) e in
    let k = or_else_none (recursion_fault i o) (at o.line (side_fault o)) h.1 in
    ap₂ or_else (clauses_none sigs a h.0)
    (ap₂ or_else (recursion_none i a k.0) (ap (at n.line) (sym (alike_sides a) ∙ at_none o.line (side_fault o) k.1)))

all_none : (sigs : Sigs) (i : ℕ) {os ns : List Iso} → Alike os ns → fault_from sigs i os ≡ none → fault_from sigs i ns ≡ none
all_none sigs i Alike.none e = refl
all_none sigs i (more {o} {n} {os} {ns} a h) e =
    let p = or_else_none (iso_fault sigs i o) (fault_from sigs (suc i) os) e in ap₂ or_else (iso_none sigs i a p.0) (all_none sigs (suc i) h p.1)

-- Isos alike have both no fault, or both one.
pub fault_alike : {os ns : List Iso} → Alike os ns → fault os ≡ none → fault ns ≡ none
unfolding fault
fault_alike {os} {ns} h e = ap (λ s. fault_from s 0 ns) (sym (alike_sigs h)) ∙ all_none (sigs_of os) 0 h e

-- ---- the reduction

pub perm_only : {cs ds : List Clause} → Permuted cs ds → only cs ≡ only ds
perm_only empty = refl
perm_only (keep {x} {y} {xs} {ys} e p) = go xs ys (perm_length p)
  where
    go : (cs ds : List Clause) → length cs ≡ length ds → only (x ∷ cs) ≡ only (y ∷ ds)
    go [] [] h = ap some e
    go [] (d ∷ ds) h = absurd (omega arith)
    go (c ∷ cs) [] h = absurd (omega arith)
    go (c ∷ cs) (d ∷ ds) h = refl
perm_only (swap p q r) = refl
perm_only (then p q) = perm_only p ∙ perm_only q

select_bare : (v : Val) (cs : List Clause) → select (hits v) (map bare cs) ≡ map bare (select (hits v) cs)
select_bare v [] = refl
select_bare v (c ∷ cs) = ap (λ zs. cond (hits v c) (bare c ∷ zs) zs) (select_bare v cs) ∙ go (hits v c)
  where
    go : (b : Bool) → cond b (bare c ∷ map bare (select (hits v) cs)) (map bare (select (hits v) cs)) ≡ map bare (cond b (c ∷ select (hits v) cs) (select (hits v) cs))
    go true = refl
    go false = refl

only_bare : (call : Call) (v : Val) (cs : List Clause) → (given (only (map bare cs)) >>> λ c. run_clause call c v) ≡ (given (only cs) >>> λ c. run_clause call c v)
only_bare call v [] = refl
only_bare call v (c ∷ []) = refl
only_bare call v (c ∷ (d ∷ cs)) = refl

apply_bare : (call : Call) (v : Val) (cs : List Clause)
    → (given (only (select (hits v) (map bare cs))) >>> λ c. run_clause call c v) ≡ (given (only (select (hits v) cs)) >>> λ c. run_clause call c v)
apply_bare call v cs = ap (λ zs. given (only zs) >>> λ c. run_clause call c v) (select_bare v cs) ∙ only_bare call v (select (hits v) cs)

pub apply_alike : (call : Call) {o n : Iso} → AlikeIso o n → (v : Val) → apply call o v ≡ apply call n v
apply_alike call {o} {n} a v =
    sym (apply_bare call v o.clauses)
    ∙ ap (λ x. given x >>> λ c. run_clause call c v) (perm_only (perm_select (hits v) a.clauses))
    ∙ apply_bare call v n.clauses

pub index_alike : {os ns : List Iso} → Alike os ns → (i : ℕ)
    → ((get_elem? os i ≡ none) × (get_elem? ns i ≡ none)) ⊎ ((o : Iso) × (n : Iso) × (get_elem? os i ≡ some o) × (get_elem? ns i ≡ some n) × AlikeIso o n)
index_alike Alike.none i = inl (refl, refl)
index_alike (more {o} {n} a h) zero = inr (o, n, refl, refl, a)
index_alike (more a h) (suc i) = index_alike h i

on_index : (call : Call) (v : Val) (os ns : List Iso) (i : ℕ)
    → ((get_elem? os i ≡ none) × (get_elem? ns i ≡ none)) ⊎ ((o : Iso) × (n : Iso) × (get_elem? os i ≡ some o) × (get_elem? ns i ≡ some n) × AlikeIso o n)
    → applied call os i v ≡ applied call ns i v
on_index call v os ns i (inl h) = ap (λ x. given x >>> λ o. apply call o v) (h.0 ∙ sym h.1)
on_index call v os ns i (inr (o, n, p, q, a)) =
    ap (λ x. given x >>> λ o. apply call o v) p
    ∙ ap (λ r. (r.0, 0 + r.1)) (apply_alike call a v)
    ∙ sym (ap (λ x. given x >>> λ o. apply call o v) q)

pub reduce_to_alike : {os ns : List Iso} → Alike os ns → (fits : Val → Bool) (d i : ℕ) (v : Val) → reduce_to fits d os i v ≡ reduce_to fits d ns i v
reduce_to_alike h fits zero i v = refl
reduce_to_alike {os} {ns} h fits (suc d) i v =
    let below : reduce_to fits d os ≡ reduce_to fits d ns = λ k j u. reduce_to_alike h fits d j u k in
    let step : applied (reduce_to fits d os) os i ≡ applied (reduce_to fits d ns) ns i =
    λ k u. (ap (λ call. applied call os i u) below ∙ on_index (reduce_to fits d ns) u os ns i (index_alike h i)) k in
    ap (λ (f : Val → Counted Val). ◌>>>◌ {A = Val} {B = Val} (some v, 1) (measured fits) >>> f >>> measured fits) step

-- Isos alike reduce alike: value and count, and they stop alike.
pub reduce_alike : {os ns : List Iso} → Alike os ns → (i : ℕ) (v : Val) → reduce os i v ≡ reduce ns i v
reduce_alike {os} {ns} h i v =
    ap (λ f. f i v) (reduce_unfold os) ∙ reduce_to_alike h small max_depth i v ∙ sym (ap (λ f. f i v) (reduce_unfold ns))

-- ---- the number of a refusal

first_of_some : {A B : Type 0} (f : A → Option B) (xs : List A) {b : B} → first_of f xs ≡ some b → (x : A) × Memᴰ x xs × (f x ≡ some b)
first_of_some f [] e = absurd (none≢some e)
first_of_some f (x ∷ xs) {b} e = go (or_else_cases (f x) (first_of f xs) b e) (first_of_some f xs)
  where
    go : (f x ≡ some b) ⊎ ((f x ≡ none) × (first_of f xs ≡ some b)) → (first_of f xs ≡ some b → (y : _) × Memᴰ y xs × (f y ≡ some b))
        → (y : _) × Memᴰ y (x ∷ xs) × (f y ≡ some b)
    go (inl h) k = (x, Memᴰ.head refl, h)
    go (inr h) k = let r = k h.1 in (r.0, Memᴰ.tail r.1, r.2)

at_some : (n : ℕ) (x : Option Refusal) {r : Refusal × ℕ} → at n x ≡ some r → (x ≡ some r.0) × (r.1 ≡ n)
at_some n none e = absurd (none≢some e)
at_some n (some g) e = (ap (λ p. some p.0) (some_inj e), ap (λ p. p.1) (sym (some_inj e)))

some_or_none : {A : Type 0} (x : Option A) → (x ≡ none) ⊎ ((a : A) × (x ≡ some a))
some_or_none none = inl refl
some_or_none (some a) = inr (a, refl)

-- How the refusals of two files stand to each other: the same number at the same I line, or 23 at C lines of one iso, or faults of clauses of one iso, each
-- 8 to 10.
pub data Near (sigs : Sigs) (os : List Iso) : Refusal × ℕ → Refusal × ℕ → Type 0 where
  sides : {r q : Refusal × ℕ} → r ≡ q → Near sigs os r q
  calls : {r q : Refusal × ℕ} → r.0 ≡ recursion clause_line → q.0 ≡ recursion clause_line → Near sigs os r q
  clauses : {r q : Refusal × ℕ} (o : Iso) → Memᴰ o os → (c d : Clause) → Memᴰ c o.clauses → Memᴰ d o.clauses
      → clause_fault sigs o.from o.to c ≡ some r.0 → clause_fault sigs o.from o.to d ≡ some q.0 → Near sigs os r q

near_more : {sigs : Sigs} {o : Iso} {os : List Iso} {r q : Refusal × ℕ} → Near sigs os r q → Near sigs (o ∷ os) r q
near_more (Near.sides e) = Near.sides e
near_more (Near.calls e f) = Near.calls e f
near_more (Near.clauses o m c d i j x y) = Near.clauses o (Memᴰ.tail m) c d i j x y

module _ (sigs : Sigs) (i : ℕ) {o n : Iso} (a : AlikeIso o n) where
  pub iso_near : (os : List Iso) (r : Refusal × ℕ) → iso_fault sigs i o ≡ some r → (q : Refusal × ℕ) × (iso_fault sigs i n ≡ some q) × Near sigs (o ∷ os) r q
  unfolding iso_fault
  iso_near os r e = go (or_else_cases (clauses_fault sigs o) (after_clauses i o) r e)
    where
      in_clause : (q : Refusal × ℕ) → clauses_fault sigs o ≡ some r → clauses_fault sigs n ≡ some q → Near sigs (o ∷ os) r q
      in_clause q h k =
          let (c, j, x) = first_of_some (λ c. at c.line (clause_fault sigs o.from o.to c)) o.clauses h in
          let (d, l, y) = first_of_some (λ c. at c.line (clause_fault sigs n.from n.to c)) n.clauses k in
          let (d', l', y') = clause_same sigs (iso_sym a) d l in
          Near.clauses o (Memᴰ.head refl) c d' j l' (at_some c.line (clause_fault sigs o.from o.to c) x).0
          (y' ∙ (at_some d.line (clause_fault sigs n.from n.to d) y).0)

      behind : (recursion_fault i o ≡ some r) ⊎ ((recursion_fault i o ≡ none) × (at o.line (side_fault o) ≡ some r))
          → (q : Refusal × ℕ) × (after_clauses i n ≡ some q) × Near sigs (o ∷ os) r q
      behind (inl h) =
          let (q, k, c) = recursion_some i a r h in
          (q, ap (λ x. or_else x (at n.line (side_fault n))) k, ⊎_elim (λ s. Near.sides s) (λ (s, t). Near.calls s t) c)
      behind (inr (z, h)) =
          (r, ap₂ or_else (recursion_none i a z) (ap₂ at (sym a.line) (sym (alike_sides a)) ∙ h), Near.sides refl)

      go : (clauses_fault sigs o ≡ some r) ⊎ ((clauses_fault sigs o ≡ none) × (after_clauses i o ≡ some r))
          → (q : Refusal × ℕ) × (or_else (clauses_fault sigs n) (after_clauses i n) ≡ some q) × Near sigs (o ∷ os) r q
      go (inl h) = on (some_or_none (clauses_fault sigs n))
        where
          on : (clauses_fault sigs n ≡ none) ⊎ ((q : Refusal × ℕ) × (clauses_fault sigs n ≡ some q))
              → (q : Refusal × ℕ) × (or_else (clauses_fault sigs n) (after_clauses i n) ≡ some q) × Near sigs (o ∷ os) r q
          on (inl z) = absurd (none≢some (sym (clauses_none sigs (iso_sym a) z) ∙ h))
          on (inr (q, k)) = (q, ap (λ x. or_else x (after_clauses i n)) k, in_clause q h k)
      go (inr (z, h)) =
          let (q, k, c) = behind (or_else_cases (recursion_fault i o) (at o.line (side_fault o)) r h) in (q, ap₂ or_else (clauses_none sigs a z) k, c)

all_near : (sigs : Sigs) (i : ℕ) {os ns : List Iso} → Alike os ns → (r : Refusal × ℕ) → fault_from sigs i os ≡ some r
    → (q : Refusal × ℕ) × (fault_from sigs i ns ≡ some q) × Near sigs os r q
all_near sigs i Alike.none r e = absurd (none≢some e)
all_near sigs i (more {o} {n} {os} {ns} a h) r e = go (or_else_cases (iso_fault sigs i o) (fault_from sigs (suc i) os) r e) (all_near sigs (suc i) h r)
  where
    go : (iso_fault sigs i o ≡ some r) ⊎ ((iso_fault sigs i o ≡ none) × (fault_from sigs (suc i) os ≡ some r))
        → (fault_from sigs (suc i) os ≡ some r → (q : Refusal × ℕ) × (fault_from sigs (suc i) ns ≡ some q) × Near sigs os r q)
        → (q : Refusal × ℕ) × (or_else (iso_fault sigs i n) (fault_from sigs (suc i) ns) ≡ some q) × Near sigs (o ∷ os) r q
    go (inl x) k = let (q, y, z) = iso_near sigs i a os r x in (q, ap (λ t. or_else t (fault_from sigs (suc i) ns)) y, z)
    go (inr (z, x)) k =
        let (q, y, w) = k x in (q, ap (λ t. or_else t (fault_from sigs (suc i) ns)) (iso_none sigs i a z) ∙ y, near_more w)

-- Of isos alike both have a fault; the two are the same, at the same I line, or 23 at C lines, or faults of clauses of the same iso.
pub fault_near : {os ns : List Iso} → Alike os ns → (r : Refusal × ℕ) → fault os ≡ some r
    → (q : Refusal × ℕ) × (fault ns ≡ some q) × Near (sigs_of os) os r q
unfolding fault
fault_near {os} {ns} h r e =
    let (q, x, z) = all_near (sigs_of os) 0 h r e in (q, ap (λ s. fault_from s 0 ns) (sym (alike_sigs h)) ∙ x, z)

-- where no two clauses of one iso have faults of two numbers, that is one number
pub near_number : {os : List Iso} {r q : Refusal × ℕ} → Near (sigs_of os) os r q → FaultsAgree os → number r.0 ≡ number q.0
near_number (Near.sides e) h = ap (λ p. number p.0) e
near_number (Near.calls e f) h = ap number (e ∙ sym f)
near_number {r = r} {q = q} (Near.clauses o m c d i j x y) h = h o m c d i j r.0 q.0 x y
