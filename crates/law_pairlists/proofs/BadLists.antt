-- 20 is answered exactly for the lists that `BadList` has: of a list's lines, and of a call of Import.
use Prim.Native.Nat.{ℕ, zero, suc, ◌+◌, ◌≤◌, ◌<◌}
use native.Mathlib.Nat.{lt_irrefl, not-suc-le-zero, add-zero, add-suc, suc-add, zero-add}
use native.Mathlib.Omega.{arith}
use mathlib.Core.Path.{◌≡◌, refl, sym, ap, ap₂, ◌∙◌, subst}
use mathlib.Core.Logic.{◌⊎◌, inl, inr, ◌↔◌}
use mathlib.Core.Bool.{Bool, true, false, cond, not, ◌&&◌, ◌||◌}
use mathlib.Core.Option.{Option, none, some}
use mathlib.Core.List.{List, [], ◌∷◌}
use lib.Dec.{ltb, eqb}
use lib.ListN.{length, get_elem?}
use Rattle.limits.specs.Limits.{budget_bound, comma, max_clauses, max_pairs}
use Rattle.calculus.specs.Tools.{◌>>=◌, guard, all}
use Rattle.calculus.specs.Trees.{Ty}
use Rattle.calculus.specs.Lists.{Finite}
use Rattle.law_ranking.proofs.Numbering.{few_finite}
use Rattle.calculus.specs.Paper.{Distinct, nobody, another}
use Rattle.calculus.specs.Refusals.{clause_line, pattern_line, ceiling, too_many, bad_list}
use Rattle.format.specs.Lines.{Row, lines, text, numeral, decimal, print_rows}
use Rattle.format.specs.Judge.{start}
use Rattle.law_ranking.specs.Numbering.{count, types_of}
use Rattle.model.specs.Services.{gives, fails, refusal_number}
use Rattle.calculus.proofs.Basic.{bind_some, some_bind, none≢some, some_inj, not_some, guard_true, true_guard, not_both, neither, eqb_eq, eqb_false, ltb_false, index_mem, index_below}
use Rattle.format.proofs.Numerals.{numeral_decimal}
use Rattle.law_pairlists.specs.PairLists.{to_in, to_of, tos_of, none_twice, pairs_up, list_of, settings, file_rows, within_all, on_list, on_lines, on_types, import_rows}
use Rattle.law_pairlists.specs.BadLists.{Pair, PairAt, BadList, form, froms, counts, repeated, high, BadImport}
use Rattle.law_pairlists.proofs.List.{to_in_lem, in_to, Taken, pairs_taken, tos_length}
use Rattle.law_pairlists.proofs.Runs.{import_bad}

-- ---- one line

to_pair : (k : ℕ) (l : List ℕ) (t : ℕ) → to_of k l ≡ some t → Pair l k t
to_pair k l t e =
    let f = bind_some (text l) (to_in k) e in
    let r = to_in_lem k f.0 t f.2 in
    record { printed = f.1 ∙ ap some r.0; from_fits = r.1; to_fits = r.2 }

pair_to : {k t : ℕ} {l : List ℕ} → Pair l k t → to_of k l ≡ some t
pair_to {k} {t} p = some_bind (to_in k) p.printed ∙ in_to k t p.from_fits p.to_fits

-- the first number of a line
abbrev number_or : Option (ℕ × List ℕ) → ℕ
number_or none = 0
number_or (some r) = r.0

abbrev first_of : List ℕ → ℕ
first_of l = number_or (text l >>= λ bs. numeral budget_bound bs)

first_is : {k t : ℕ} {l : List ℕ} → Pair l k t → first_of l ≡ k
first_is {k} {t} p = ap number_or (some_bind (numeral budget_bound) p.printed ∙ numeral_decimal budget_bound k (comma ∷ decimal t) (omega arith) p.from_fits refl)

one_pair : {f g t u : ℕ} {l : List ℕ} → Pair l f t → Pair l g u → (f ≡ g) × (t ≡ u)
one_pair {l = l} p q =
    let e = sym (first_is p) ∙ first_is q in (e, some_inj (sym (pair_to p) ∙ ap (λ k. to_of k l) e ∙ pair_to q))

pair_or_not : (l : List ℕ) → ((f : ℕ) × (t : ℕ) × Pair l f t) ⊎ ((f t : ℕ) → Pair l f t → ⊥)
pair_or_not l = go (to_of (first_of l) l) refl
  where
    go : (x : Option ℕ) → to_of (first_of l) l ≡ x → ((f : ℕ) × (t : ℕ) × Pair l f t) ⊎ ((f t : ℕ) → Pair l f t → ⊥)
    go (some t) e = inl (first_of l, t, to_pair (first_of l) l t e)
    go none e = inr (λ f t p. none≢some (sym e ∙ ap (λ k. to_of k l) (first_is p) ∙ pair_to p))

-- ---- all lines

there : {A : Type 0} (xs : List A) (k : ℕ) → k < length xs → (x : A) × (get_elem? xs k ≡ some x)
there [] k h = absurd (not-suc-le-zero h)
there (x ∷ xs) zero h = (x, refl)
there (x ∷ xs) (suc k) h = there xs k (omega arith)

-- the line of each to
tos_line : (k : ℕ) (ls : List (List ℕ)) (ts : List ℕ) → tos_of k ls ≡ some ts → (i : ℕ) (l : List ℕ) → get_elem? ls i ≡ some l
    → (t : ℕ) × (get_elem? ts i ≡ some t) × Pair l (k + i) t
tos_line k [] ts e i l p = absurd (none≢some p)
tos_line k (m ∷ ls) ts e zero l p =
    let f = bind_some (to_of k m) _ e in
    let g = bind_some (tos_of (suc k) ls) _ f.2 in
    (f.0, sym (ap (λ (us : List ℕ). get_elem? us 0) (some_inj g.2)), to_pair (k + 0) l f.0 (ap₂ to_of (add-zero k) (sym (some_inj p)) ∙ f.1))
tos_line k (m ∷ ls) ts e (suc i) l p =
    let f = bind_some (to_of k m) _ e in
    let g = bind_some (tos_of (suc k) ls) _ f.2 in
    let r = tos_line (suc k) ls g.0 g.1 i l p in
    (r.0, sym (ap (λ (us : List ℕ). get_elem? us (suc i)) (some_inj g.2)) ∙ r.1, subst (λ n. Pair l n r.0) (suc-add k i ∙ sym (add-suc k i)) r.2)

tos_at : (ls : List (List ℕ)) (ts : List ℕ) → tos_of 0 ls ≡ some ts → (i t : ℕ) → get_elem? ts i ≡ some t → PairAt ls i i t
tos_at ls ts e i t p =
    let n = tos_length 0 ls ts e in
    let b = index_below ts i p in
    let l = there ls i (omega arith) in
    let r = tos_line 0 ls ts e i l.0 l.1 in
    record { line = l.0; there = l.1; pair = subst (Pair l.0 i) (some_inj (sym r.1 ∙ p)) (subst (λ n. Pair l.0 n r.0) (zero-add i) r.2) }

at_tos : (ls : List (List ℕ)) (ts : List ℕ) → tos_of 0 ls ≡ some ts → {i f t : ℕ} → PairAt ls i f t → (f ≡ i) × (get_elem? ts i ≡ some t)
at_tos ls ts e {i} h =
    let r = tos_line 0 ls ts e i h.line h.there in
    let o = one_pair h.pair r.2 in
    (o.0 ∙ zero-add i, r.1 ∙ ap some (sym o.1))

-- the first line without a to
tos_none : (k : ℕ) (ls : List (List ℕ)) → tos_of k ls ≡ none → (i : ℕ) × (l : List ℕ) × (get_elem? ls i ≡ some l) × (to_of (k + i) l ≡ none)
tos_none k [] e = absurd (none≢some (sym e))
tos_none k (m ∷ ls) e = go (to_of k m) refl (tos_none (suc k) ls)
  where
    go : (x : Option ℕ) → to_of k m ≡ x → (tos_of (suc k) ls ≡ none → (i : ℕ) × (l : List ℕ) × (get_elem? ls i ≡ some l) × (to_of (suc k + i) l ≡ none))
        → (i : ℕ) × (l : List ℕ) × (get_elem? (m ∷ ls) i ≡ some l) × (to_of (k + i) l ≡ none)
    go none g h = (0, m, refl, ap (λ n. to_of n m) (add-zero k) ∙ g)
    go (some t) g h =
        let r = h (rest (tos_of (suc k) ls) (sym (ap (λ x. x >>= λ u. tos_of (suc k) ls >>= λ us. some (u ∷ us)) g) ∙ e)) in
        (suc r.0, r.1, r.2, ap (λ n. to_of n r.1) (add-suc k r.0 ∙ sym (suc-add k r.0)) ∙ r.3)
      where
        rest : (x : Option (List ℕ)) → (x >>= λ us. some (t ∷ us)) ≡ none → x ≡ none
        rest none y = refl
        rest (some us) y = absurd (none≢some (sym y))

-- ---- numbers that are too high, or there twice

all_false : (p : ℕ → Bool) (ts : List ℕ) → all p ts ≡ false → (i : ℕ) × (t : ℕ) × (get_elem? ts i ≡ some t) × (p t ≡ false)
all_false p [] e = absurd (not_both refl e)
all_false p (t ∷ ts) e = go (p t) refl (all_false p ts)
  where
    go : (b : Bool) → p t ≡ b → (all p ts ≡ false → (i : ℕ) × (u : ℕ) × (get_elem? ts i ≡ some u) × (p u ≡ false))
        → (i : ℕ) × (u : ℕ) × (get_elem? (t ∷ ts) i ≡ some u) × (p u ≡ false)
    go true q h = let r = h (sym (ap (λ b. b && all p ts) q) ∙ e) in (suc r.0, r.1, r.2, r.3)
    go false q h = (0, t, refl, q)

not_false : (b : Bool) → not b ≡ false → b ≡ true
not_false true e = refl
not_false false e = absurd (not_both refl e)

twice_at : (ts : List ℕ) → none_twice ts ≡ false → (j : ℕ) × (k : ℕ) × (t : ℕ) × (j < k) × (get_elem? ts j ≡ some t) × (get_elem? ts k ≡ some t)
twice_at [] e = absurd (not_both refl e)
twice_at (t ∷ ts) e = go (all (λ u. not (eqb t u)) ts) refl (twice_at ts)
  where
    go : (b : Bool) → all (λ u. not (eqb t u)) ts ≡ b
        → (none_twice ts ≡ false → (j : ℕ) × (k : ℕ) × (u : ℕ) × (j < k) × (get_elem? ts j ≡ some u) × (get_elem? ts k ≡ some u))
        → (j : ℕ) × (k : ℕ) × (u : ℕ) × (j < k) × (get_elem? (t ∷ ts) j ≡ some u) × (get_elem? (t ∷ ts) k ≡ some u)
    go true q h =
        let r = h (sym (ap (λ b. b && none_twice ts) q) ∙ e) in
        let l = r.3 in
        (suc r.0, suc r.1, r.2, omega arith, r.4, r.5)
    go false q h =
        let r = all_false (λ u. not (eqb t u)) ts q in
        (0, suc r.0, t, omega arith, refl, r.2 ∙ ap some (sym (eqb_eq t r.1 (not_false (eqb t r.1) r.3))))

once_at : {ts : List ℕ} → Distinct ts → (j k t : ℕ) → j < k → get_elem? ts j ≡ some t → get_elem? ts k ≡ some t → ⊥
once_at nobody j k t l p q = none≢some p
once_at (another f d) zero zero t l p q = not-suc-le-zero l
once_at (another {n} {ns} f d) zero (suc k) t l p q = f (index_mem ns k (q ∙ sym p))
once_at (another f d) (suc j) zero t l p q = not-suc-le-zero l
once_at (another f d) (suc j) (suc k) t l p q = once_at d j k t (omega arith) p q

-- ---- the list

module _ (a b : Ty) (ls : List (List ℕ)) where
  -- a line that gives no to
  line_bad : tos_of 0 ls ≡ none → BadList a b ls
  line_bad e = let r = tos_none 0 ls e in go r.0 r.1 r.2 (ap (λ n. to_of n r.1) (sym (zero-add r.0)) ∙ r.3) (pair_or_not r.1)
    where
      go : (i : ℕ) (l : List ℕ) → get_elem? ls i ≡ some l → to_of i l ≡ none → ((f : ℕ) × (t : ℕ) × Pair l f t) ⊎ ((f t : ℕ) → Pair l f t → ⊥) → BadList a b ls
      go i l h n (inl (f, t, p)) =
          froms i f t (record { line = l; there = h; pair = p }) (λ q. none≢some (sym n ∙ ap (λ k. to_of k l) (sym q) ∙ pair_to p))
      go i l h n (inr never) = form i (index_below ls i h) (λ f t p. never f t (subst (λ m. Pair m f t) (some_inj (sym p.there ∙ h)) p.pair))

  -- tos that are not all numbers of both types, each once
  tos_bad : (ts : List ℕ) → tos_of 0 ls ≡ some ts → pairs_up a b ts ≡ false → BadList a b ls
  tos_bad ts e p = first (eqb (length ts) (count a)) refl
    where
      n : length ls ≡ length ts
      n = tos_length 0 ls ts e

      fourth : none_twice ts ≡ false → BadList a b ls
      fourth q = let r = twice_at ts q in repeated r.0 r.1 r.0 r.1 r.2 r.3 (tos_at ls ts e r.0 r.2 r.4) (tos_at ls ts e r.1 r.2 r.5)

      third : (c : Bool) → all (λ t. ltb t (count b)) ts ≡ c → (all (λ t. ltb t (count b)) ts && none_twice ts) ≡ false → BadList a b ls
      third true q r = fourth (sym (ap (λ c. c && none_twice ts) q) ∙ r)
      third false q r =
          let s = all_false (λ t. ltb t (count b)) ts q in high s.0 s.0 s.1 (tos_at ls ts e s.0 s.1 s.2) (ltb_false s.1 (count b) s.3)

      second : (c : Bool) → eqb (length ts) (count b) ≡ c → (eqb (length ts) (count b) && (all (λ t. ltb t (count b)) ts && none_twice ts)) ≡ false → BadList a b ls
      second true q r = third (all (λ t. ltb t (count b)) ts) refl (sym (ap (λ c. c && (all (λ t. ltb t (count b)) ts && none_twice ts)) q) ∙ r)
      second false q r = counts (λ h. eqb_false q (sym n ∙ h.1))

      first : (c : Bool) → eqb (length ts) (count a) ≡ c → BadList a b ls
      first true q =
          second (eqb (length ts) (count b)) refl
          (sym (ap (λ c. c && (eqb (length ts) (count b) && (all (λ t. ltb t (count b)) ts && none_twice ts))) q) ∙ p)
      first false q = counts (λ h. eqb_false q (sym n ∙ h.0))

  none_bad : list_of a b ls ≡ none → BadList a b ls
  unfolding list_of
  none_bad e = go (tos_of 0 ls) refl
    where
      go : (x : Option (List ℕ)) → tos_of 0 ls ≡ x → BadList a b ls
      go none p = line_bad p
      go (some ts) p = on (pairs_up a b ts) refl
        where
          on : (c : Bool) → pairs_up a b ts ≡ c → BadList a b ls
          on true q = absurd (none≢some (sym e ∙ some_bind (λ us. guard (pairs_up a b us) >>= λ _. some us) p ∙ some_bind (λ _. some ts) (true_guard q)))
          on false q = tos_bad ts p q

  bad_none : Finite a → Finite b → BadList a b ls → list_of a b ls ≡ none
  unfolding list_of
  bad_none x y h = not_some (list_of a b ls) (λ ts e.
      let f = bind_some (tos_of 0 ls) (λ us. guard (pairs_up a b us) >>= λ _. some us) e in
      let g = bind_some (guard (pairs_up a b f.0)) (λ _. some f.0) f.2 in
      go f.0 f.1 (pairs_taken a b x y f.0 (guard_true (pairs_up a b f.0) g.1)) h)
    where
      go : (ts : List ℕ) → tos_of 0 ls ≡ some ts → Taken a b ts → BadList a b ls → ⊥
      go ts e t (form k l never) =
          let m = there ls k l in
          let r = tos_line 0 ls ts e k m.0 m.1 in
          never (0 + k) r.0 (record { line = m.0; there = m.1; pair = r.2 })
      go ts e t (froms k f u p never) = never (at_tos ls ts e p).0
      go ts e t (counts never) = let n = tos_length 0 ls ts e in never (n ∙ t.froms, n ∙ t.tos)
      go ts e t (repeated j k f g u l p q) = once_at t.once j k u l (at_tos ls ts e p).1 (at_tos ls ts e q).1
      go ts e t (high k f u p l) =
          let m = t.below u (index_mem ts k (at_tos ls ts e p).1) in absurd (not-suc-le-zero {n = 0} (omega arith))

  -- 20, as the request has it, of types without lists
  pub bad_list_iff : Finite a → Finite b → (list_of a b ls ≡ none) ↔ BadList a b ls
  bad_list_iff x y = (none_bad, bad_none x y)

-- ---- import

module _ (rs : List Row) (i j : ℕ) (list : List ℕ) where
  bad_rows : refusal_number (import_rows rs i j list) ≡ 20 → BadImport rs i j (lines list)
  unfolding import_rows
  bad_rows = go (get_elem? (types_of rs) i) refl (get_elem? (types_of rs) j) refl
    where
      written : (b : Bool) (bs : List ℕ) → refusal_number (cond b (gives bs) (fails (ceiling pattern_line))) ≡ 20 → ⊥
      written true bs n = lt_irrefl 0 (omega arith)
      written false bs n = lt_irrefl 0 (omega arith)

      taken : (a b : Ty) (x : Option (List ℕ)) → list_of a b (lines list) ≡ x → refusal_number (on_list a b x) ≡ 20 → BadList a b (lines list)
      taken a b none e n = none_bad a b (lines list) e
      taken a b (some ts) e n = absurd (written (within_all start (file_rows a b (settings a b 0 ts))) (print_rows (file_rows a b (settings a b 0 ts))) n)

      few : (a b : Ty) (c : Bool) → ltb max_clauses (length (lines list)) ≡ c → refusal_number (cond c (fails (ceiling clause_line)) (on_list a b (list_of a b (lines list)))) ≡ 20
          → (length (lines list) ≤ max_clauses) × BadList a b (lines list)
      few a b true e n = absurd (lt_irrefl 0 (omega arith))
      few a b false e n = (ltb_false max_clauses (length (lines list)) e, taken a b (list_of a b (lines list)) refl n)

      sized : (a b : Ty) (c : Bool) → (ltb max_pairs (count a) || ltb max_pairs (count b)) ≡ c → refusal_number (cond c (fails too_many) (on_lines a b (lines list))) ≡ 20
          → (count a ≤ max_pairs) × (count b ≤ max_pairs) × (length (lines list) ≤ max_clauses) × BadList a b (lines list)
      sized a b true e n = absurd (lt_irrefl 0 (omega arith))
      sized a b false e n =
          let h = neither (ltb max_pairs (count a)) (ltb max_pairs (count b)) e in
          let k = few a b (ltb max_clauses (length (lines list))) refl n in
          (ltb_false max_pairs (count a) h.0, ltb_false max_pairs (count b) h.1, k.0, k.1)

      go : (x : Option Ty) → get_elem? (types_of rs) i ≡ x → (y : Option Ty) → get_elem? (types_of rs) j ≡ y → refusal_number (on_types x y (lines list)) ≡ 20
          → BadImport rs i j (lines list)
      go none p y q n = absurd (lt_irrefl 0 (omega arith))
      go (some a) p none q n = absurd (lt_irrefl 0 (omega arith))
      go (some a) p (some b) q n =
          let h = sized a b (ltb max_pairs (count a) || ltb max_pairs (count b)) refl n in
          record { from = a; to = b; from_there = p; to_there = q; from_few = h.0; to_few = h.1; lines = h.2; bad = h.3 }

  rows_bad : BadImport rs i j (lines list) → import_rows rs i j list ≡ fails bad_list
  rows_bad h =
      import_bad rs i j list h.from h.to h.from_there h.to_there h.from_few h.to_few h.lines
      (bad_none h.from h.to (lines list) (few_finite h.from (omega (arith, h.from_few))) (few_finite h.to (omega (arith, h.to_few))) h.bad)

  -- 20, in its place in Import's order
  pub bad_import_iff : (refusal_number (import_rows rs i j list) ≡ 20) ↔ BadImport rs i j (lines list)
  bad_import_iff = (bad_rows, λ h. ap refusal_number (rows_bad h))
