-- Rows in which two neighbouring clauses change places pass as before, unfold to isos alike, and turn to such rows.
use Prim.Native.Nat.{ℕ, suc, ◌+◌, ◌<◌, ◌≤◌}
use native.Mathlib.Omega.{arith}
use mathlib.Core.Path.{◌≡◌, refl, sym, ap, ap₂, ◌∙◌, subst}
use mathlib.Core.Option.{Option, none, some}
use mathlib.Core.List.{List, [], ◌∷◌, ◌++◌, map, append-nil, append_assoc}
use lib.ListN.{length, get_or}
use Rattle.limits.specs.Limits.{max_clauses}
use Rattle.calculus.specs.Trees.{Ty, Pat, pleaf, unit_leaf, Let, Clause}
use Rattle.calculus.specs.Refusals.{Kind, type_line, pattern_line, iso_line, clause_line, let_line}
use Rattle.format.specs.Lines.{Row}
use Rattle.format.specs.Judge.{Seen, start, stage, judge, type_tree, pattern_tree, after_kind, after, after_all}
use Rattle.format.specs.Unfold.{Tail, place, tail_from, isos_of, exchange, turn_row, turn_from, turn_rows}
use Rattle.law_ranking.specs.Numbering.{types_of}
use mathlib.Core.Bool.{true}
use Rattle.calculus.specs.Tools.{all}
use Rattle.format.specs.Idle.{type_lines, is_root, reach_from, idle_fault}
use Rattle.format.proofs.Idling.{is_root_row, like_front, like_exchange}
use Rattle.law_reordering.specs.Reordered.{Permuted, keep, swap, bare, Alike, more}
use Rattle.calculus.proofs.Basic.{leb_le, le_leb, lt_ltb, true_and}
use Rattle.format.proofs.Passing.{Passes, done, next, Fit, judge_fit, fit_judge, clause_fit, after_append, passes_append}
use Rattle.format.proofs.Turning.{AllLets, held_lets, judge_let, let_judge, passes_next, after_let}
use Rattle.law_reordering.proofs.Alike.{perm_refl, alike_refl}

abbrev row : Kind → ℕ → ℕ → ℕ → Row
row k a b c = record { kind = k; x = a; y = b; z = c }

-- no further L line of the clause above
abbrev pub Whole : List Row → Type 0
Whole [] = Unit {0}
Whole (r ∷ rs) = r.kind ≡ let_line → ⊥

-- two neighbouring clauses change places
pub record Moved (rs qs : List Row) : Type 0 where
  pub before : List Row
  pub c : Row
  pub ls : List Row
  pub d : Row
  pub ms : List Row
  pub behind : List Row
  pub c_kind : c.kind ≡ clause_line
  pub ls_lets : AllLets ls
  pub d_kind : d.kind ≡ clause_line
  pub ms_lets : AllLets ms
  pub whole : Whole behind
  pub here : rs ≡ before ++ (c ∷ (ls ++ (d ∷ (ms ++ behind))))
  pub there : qs ≡ before ++ (d ∷ (ms ++ (c ∷ (ls ++ behind))))

-- ---- passing

pub passes_split : {s : Seen} (xs : List Row) {ys : List Row} → Passes s (xs ++ ys) → Passes s xs × Passes (after_all s xs) ys
passes_split [] p = (done, p)
passes_split (x ∷ xs) p = let n = passes_next p in let h = passes_split xs n.1 in (next n.0 h.0, h.1)

after_clause : (s : Seen) (c : Row) → c.kind ≡ clause_line → after s c ≡ after_kind clause_line s c
after_clause s c e = ap (λ k. after_kind k s c) e

judge_clause : (s : Seen) (c : Row) → c.kind ≡ clause_line → judge s c ≡ none → Fit s clause_line c
judge_clause s c e j = subst (λ k. Fit s k c) e (judge_fit s c j)

clause_judge : (s : Seen) (c : Row) → c.kind ≡ clause_line → Fit s clause_line c → judge s c ≡ none
clause_judge s c e f = fit_judge s c (subst (λ k. Fit s k c) (sym e) f)

module _ (ts : List Ty) (ps : List Pat) (n : ℕ) where
  abbrev pub seen : Option Kind → ℕ → ℕ → Seen
  seen a k m = record { above = a; types = ts; patterns = ps; isos = n; clauses = k; lets = m }

  -- what is told behind a clause
  pub record Behind (s : Seen) (k : ℕ) : Type 0 where
    pub above : Option Kind
    pub lets : ℕ
    pub is : s ≡ seen above k lets
    pub late : 3 ≤ stage above

  lets_after : (ls : List Row) → AllLets ls → (a : Option Kind) (k m : ℕ) → 3 ≤ stage a → Behind (after_all (seen a k m) ls) k
  lets_after [] u a k m h = record { above = a; lets = m; is = refl; late = h }
  lets_after (l ∷ ls) u a k m h =
      let r = lets_after ls u.1 (some let_line) k (suc m) (omega arith) in
      record { above = r.above; lets = r.lets; is = ap (λ t. after_all t ls) (after_let (seen a k m) l u.0) ∙ r.is; late = r.late }

  pub block_after : (c : Row) (ls : List Row) → c.kind ≡ clause_line → AllLets ls → (a : Option Kind) (k m : ℕ) → Behind (after_all (seen a k m) (c ∷ ls)) (suc k)
  block_after c ls e u a k m =
      let r = lets_after ls u (some clause_line) (suc k) 0 (omega arith) in
      record { above = r.above; lets = r.lets; is = ap (λ t. after_all t ls) (after_clause (seen a k m) c e) ∙ r.is; late = r.late }

  -- L lines do not look at the number of clauses
  lets_pass : (ls : List Row) → AllLets ls → (a : Option Kind) (k k' m : ℕ) → Passes (seen a k m) ls → Passes (seen a k' m) ls
  lets_pass [] u a k k' m p = done
  lets_pass (l ∷ ls) u a k k' m p =
      let j = passes_next p in
      let f = judge_let (seen a k m) l u.0 j.0 in
      let q = lets_pass ls u.1 (some let_line) k k' (suc m) (subst (λ t. Passes t ls) (after_let (seen a k m) l u.0) j.1) in
      next (let_judge (seen a k' m) l u.0 (record { order = f.order; fields = f.fields; names = f.names; ceilings = f.ceilings }))
      (subst (λ t. Passes t ls) (sym (after_let (seen a k' m) l u.0)) q)

  pub block_needs : (c : Row) (ls : List Row) → c.kind ≡ clause_line → (a : Option Kind) (k m : ℕ) → Passes (seen a k m) (c ∷ ls) → (2 ≤ stage a) × (k < max_clauses)
  block_needs c ls e a k m p =
      let f = judge_clause (seen a k m) c e (passes_next p).0 in (leb_le 2 (stage a) f.order, (clause_fit (seen a k m) c f).2)

  -- a clause passes wherever a C line may stand
  pub block_pass : (c : Row) (ls : List Row) → c.kind ≡ clause_line → AllLets ls → (a a' : Option Kind) (k k' m m' : ℕ)
      → Passes (seen a k m) (c ∷ ls) → 2 ≤ stage a' → k' < max_clauses → Passes (seen a' k' m') (c ∷ ls)
  block_pass c ls e u a a' k k' m m' p h b =
      let j = passes_next p in
      let f = judge_clause (seen a k m) c e j.0 in
      let q = lets_pass ls u (some clause_line) (suc k) (suc k') 0 (subst (λ t. Passes t ls) (after_clause (seen a k m) c e) j.1) in
      next (clause_judge (seen a' k' m') c e
      (record { order = le_leb {m = 2} {n = stage a'} h; fields = refl; names = f.names; ceilings = lt_ltb {m = k'} {n = max_clauses} b }))
      (subst (λ t. Passes t ls) (sym (after_clause (seen a' k' m') c e)) q)

  -- what follows a clause passes behind any other clause
  behind_pass : (xs : List Row) → Whole xs → (a b : Option Kind) (k m m' : ℕ) → 3 ≤ stage a → 3 ≤ stage b → Passes (seen a k m) xs → Passes (seen b k m') xs
  behind_pass [] w a b k m m' h g p = done
  behind_pass (r ∷ rs) w a b k m m' h g p =
      let j = passes_next p in step r.kind r.x r.y r.z w (judge_fit (seen a k m) r j.0) j.1
    where
      step : (κ : Kind) (x y z : ℕ) → (κ ≡ let_line → ⊥) → Fit (seen a k m) κ (row κ x y z) → Passes (after_kind κ (seen a k m) (row κ x y z)) rs
          → Passes (seen b k m') (row κ x y z ∷ rs)
      step type_line x y z v f d = let e = leb_le (stage a) 0 f.order in absurd (omega arith)
      step pattern_line x y z v f d = let e = leb_le (stage a) 1 f.order in absurd (omega arith)
      step iso_line x y z v f d =
          next (fit_judge (seen b k m') (row iso_line x y z) (record { order = refl; fields = refl; names = f.names; ceilings = f.ceilings })) d
      step clause_line x y z v f d =
          next (fit_judge (seen b k m') (row clause_line x y z)
          (record { order = le_leb {m = 2} {n = stage b} (omega arith); fields = refl; names = f.names; ceilings = f.ceilings })) d
      step let_line x y z v f d = absurd (v refl)

  -- no L line stands in front of what follows a clause
  behind_lets : (xs : List Row) → Whole xs → (a : Option Kind) (k m : ℕ) → 3 ≤ stage a → Passes (seen a k m) xs
      → (us : List Ty) (qs : List Pat) (i : ℕ) → (tail_from us qs i xs).lets ≡ []
  behind_lets [] w a k m h p us qs i = refl
  behind_lets (r ∷ rs) w a k m h p us qs i =
      let j = passes_next p in step r.kind r.x r.y r.z w (judge_fit (seen a k m) r j.0)
    where
      step : (κ : Kind) (x y z : ℕ) → (κ ≡ let_line → ⊥) → Fit (seen a k m) κ (row κ x y z) → (tail_from us qs i (row κ x y z ∷ rs)).lets ≡ []
      step type_line x y z v f = let e = leb_le (stage a) 0 f.order in absurd (omega arith)
      step pattern_line x y z v f = let e = leb_le (stage a) 1 f.order in absurd (omega arith)
      step iso_line x y z v f = refl
      step clause_line x y z v f = refl
      step let_line x y z v f = absurd (v refl)

-- what two neighbouring clauses and what follows them tell
record Pair (s : Seen) (c : Row) (ls : List Row) (d : Row) (ms : List Row) (xs : List Row) : Type 0 where
  moved : Passes s (d ∷ (ms ++ (c ∷ (ls ++ xs))))
  types : (after_all s (c ∷ (ls ++ (d ∷ (ms ++ xs))))).types ≡ (after_all s (d ∷ (ms ++ (c ∷ (ls ++ xs))))).types
  patterns : (after_all s (c ∷ (ls ++ (d ∷ (ms ++ xs))))).patterns ≡ (after_all s (d ∷ (ms ++ (c ∷ (ls ++ xs))))).patterns
  lets : (us : List Ty) (qs : List Pat) (i : ℕ) → (tail_from us qs i xs).lets ≡ []

-- the T and P lines told depend on those alone
trees_same : (xs : List Row) (s t : Seen) → s.types ≡ t.types → s.patterns ≡ t.patterns
    → ((after_all s xs).types ≡ (after_all t xs).types) × ((after_all s xs).patterns ≡ (after_all t xs).patterns)
trees_same [] s t p q = (p, q)
trees_same (r ∷ rs) s t p q = let h = step r.kind in trees_same rs (after s r) (after t r) h.0 h.1
  where
    step : (k : Kind) → ((after_kind k s r).types ≡ (after_kind k t r).types) × ((after_kind k s r).patterns ≡ (after_kind k t r).patterns)
    step type_line = (ap (λ ts. ts ++ (type_tree ts r ∷ [])) p, q)
    step pattern_line = (p, ap (λ ps. ps ++ (pattern_tree ps r ∷ [])) q)
    step iso_line = (p, q)
    step clause_line = (p, q)
    step let_line = (p, q)

pair_moved : (s : Seen) (c : Row) (ls : List Row) (d : Row) (ms : List Row) (xs : List Row) → c.kind ≡ clause_line → AllLets ls → d.kind ≡ clause_line
    → AllLets ms → Whole xs → Passes s (c ∷ (ls ++ (d ∷ (ms ++ xs)))) → Pair s c ls d ms xs
pair_moved s c ls d ms xs ec ul ed um w p =
    let ts : List Ty = s.types in
    let ps : List Pat = s.patterns in
    let n : ℕ = s.isos in
    let k : ℕ = s.clauses in
    let p₁ = passes_split (c ∷ ls) p in
    let n₁ = block_needs ts ps n c ls ec s.above k s.lets p₁.0 in
    let b₁ = block_after ts ps n c ls ec ul s.above k s.lets in
    let p₂ = passes_split (d ∷ ms) (subst (λ t. Passes t (d ∷ (ms ++ xs))) b₁.is p₁.1) in
    let n₂ = block_needs ts ps n d ms ed b₁.above (suc k) b₁.lets p₂.0 in
    let b₂ = block_after ts ps n d ms ed um b₁.above (suc k) b₁.lets in
    let p₃ = subst (λ t. Passes t xs) b₂.is p₂.1 in
    let b₃ = block_after ts ps n d ms ed um s.above k s.lets in
    let l₃ = b₃.late in
    let b₄ = block_after ts ps n c ls ec ul b₃.above (suc k) b₃.lets in
    let q₁ = block_pass ts ps n d ms ed um b₁.above s.above (suc k) k b₁.lets s.lets p₂.0 n₁.0 n₁.1 in
    let q₂ = block_pass ts ps n c ls ec ul s.above b₃.above k (suc k) s.lets b₃.lets p₁.0 (omega arith) n₂.1 in
    let q₃ = behind_pass ts ps n xs w b₂.above b₄.above (suc (suc k)) b₂.lets b₄.lets b₂.late b₄.late p₃ in
    let one = after_append s (c ∷ ls) (d ∷ (ms ++ xs))
    ∙ ap (λ t. after_all t (d ∷ (ms ++ xs))) b₁.is
    ∙ after_append (seen ts ps n b₁.above (suc k) b₁.lets) (d ∷ ms) xs
    ∙ ap (λ t. after_all t xs) b₂.is in
    let two = after_append s (d ∷ ms) (c ∷ (ls ++ xs))
    ∙ ap (λ t. after_all t (c ∷ (ls ++ xs))) b₃.is
    ∙ after_append (seen ts ps n b₃.above (suc k) b₃.lets) (c ∷ ls) xs
    ∙ ap (λ t. after_all t xs) b₄.is in
    let same = trees_same xs (seen ts ps n b₂.above (suc (suc k)) b₂.lets) (seen ts ps n b₄.above (suc (suc k)) b₄.lets) refl refl in
    record {
      moved =
          passes_append q₁ (subst (λ t. Passes t (c ∷ (ls ++ xs))) (sym b₃.is) (passes_append q₂ (subst (λ t. Passes t xs) (sym b₄.is) q₃)));
      types = ap (λ (t : Seen). t.types) one ∙ same.0 ∙ ap (λ (t : Seen). t.types) (sym two);
      patterns = ap (λ (t : Seen). t.patterns) one ∙ same.1 ∙ ap (λ (t : Seen). t.patterns) (sym two);
      lets = behind_lets ts ps n xs w b₂.above (suc (suc k)) b₂.lets b₂.late p₃;
    }

-- ---- unfolding

record AlikeTail (t u : Tail) : Type 0 where
  lets : t.lets ≡ u.lets
  clauses : Permuted (map bare t.clauses) (map bare u.clauses)
  isos : Alike t.isos u.isos

module _ (ts : List Ty) (ps : List Pat) where
  place_alike : (k : Kind) (n : ℕ) (r : Row) {t u : Tail} → AlikeTail t u → AlikeTail (place ts ps k n r t) (place ts ps k n r u)
  place_alike type_line n r a = a
  place_alike pattern_line n r a = a
  place_alike iso_line n r a =
      record { lets = refl; clauses = perm_refl []; isos = more (record { line = refl; from = refl; to = refl; clauses = a.clauses }) a.isos }
  place_alike clause_line n r a =
      record {
        lets = refl;
        clauses = keep (ap (λ ls. record { line = 0; lhs = get_or ps r.x (pleaf unit_leaf); lets = ls; rhs = get_or ps r.y (pleaf unit_leaf) }) a.lets) a.clauses;
        isos = a.isos;
      }
  place_alike let_line n r a =
      record { lets = ap (λ ls. record { p = get_or ps r.x (pleaf unit_leaf); iso = r.y; q = get_or ps r.z (pleaf unit_leaf) } ∷ ls) a.lets; clauses = a.clauses; isos = a.isos }

  tail_before : (before xs ys : List Row) → ((m : ℕ) → AlikeTail (tail_from ts ps m xs) (tail_from ts ps m ys)) → (m : ℕ)
      → AlikeTail (tail_from ts ps m (before ++ xs)) (tail_from ts ps m (before ++ ys))
  tail_before [] xs ys h m = h m
  tail_before (r ∷ before) xs ys h m = place_alike r.kind m r (tail_before before xs ys h (suc m))

  abbrev let_of : Row → Let
  let_of r = record { p = get_or ps r.x (pleaf unit_leaf); iso = r.y; q = get_or ps r.z (pleaf unit_leaf) }

  tail_lets : (ls : List Row) → AllLets ls → (zs : List Row) (m : ℕ) → let o : Tail = tail_from ts ps (length ls + m) zs in
      tail_from ts ps m (ls ++ zs) ≡ record { lets = map let_of ls ++ o.lets; clauses = o.clauses; isos = o.isos }
  tail_lets [] u zs m =
      let z : m ≡ 0 + m = omega arith in ap (λ k. tail_from ts ps k zs) z
  tail_lets (l ∷ ls) u zs m =
      let z : length ls + suc m ≡ suc (length ls) + m = omega arith in
      ap (λ k. place ts ps k m l (tail_from ts ps (suc m) (ls ++ zs))) u.0
      ∙ ap (place ts ps let_line m l) (tail_lets ls u.1 zs (suc m))
      ∙ ap (λ i. let o : Tail = tail_from ts ps i zs in record { lets = let_of l ∷ (map let_of ls ++ o.lets); clauses = o.clauses; isos = o.isos }) z

  abbrev clause_of : ℕ → Row → List Row → Clause
  clause_of m c ls = record { line = m; lhs = get_or ps c.x (pleaf unit_leaf); lets = map let_of ls; rhs = get_or ps c.y (pleaf unit_leaf) }

  tail_block : (c : Row) (ls : List Row) → c.kind ≡ clause_line → AllLets ls → (zs : List Row) → ((i : ℕ) → (tail_from ts ps i zs).lets ≡ []) → (m : ℕ)
      → let o : Tail = tail_from ts ps (length ls + suc m) zs in
      tail_from ts ps m (c ∷ (ls ++ zs)) ≡ record { lets = []; clauses = clause_of m c ls ∷ o.clauses; isos = o.isos }
  tail_block c ls e u zs h m =
      let o : Tail = tail_from ts ps (length ls + suc m) zs in
      ap (λ k. place ts ps k m c (tail_from ts ps (suc m) (ls ++ zs))) e
      ∙ ap (place ts ps clause_line m c) (tail_lets ls u zs (suc m))
      ∙ ap (λ us. record { lets = []; clauses = record { line = m; lhs = get_or ps c.x (pleaf unit_leaf); lets = us; rhs = get_or ps c.y (pleaf unit_leaf) } ∷ o.clauses; isos = o.isos })
      (ap (λ us. map let_of ls ++ us) (h (length ls + suc m)) ∙ append-nil (map let_of ls))

  block_lets : (c : Row) (xs : List Row) → c.kind ≡ clause_line → (i : ℕ) → (tail_from ts ps i (c ∷ xs)).lets ≡ []
  block_lets c xs e i = ap (λ k. (place ts ps k i c (tail_from ts ps (suc i) xs)).lets) e

  tail_two : (c : Row) (ls : List Row) (d : Row) (ms : List Row) → c.kind ≡ clause_line → AllLets ls → d.kind ≡ clause_line → AllLets ms
      → (xs : List Row) → ((i : ℕ) → (tail_from ts ps i xs).lets ≡ []) → (m : ℕ)
      → let o : Tail = tail_from ts ps (length ms + suc (length ls + suc m)) xs in
      tail_from ts ps m (c ∷ (ls ++ (d ∷ (ms ++ xs))))
      ≡ record { lets = []; clauses = clause_of m c ls ∷ (clause_of (length ls + suc m) d ms ∷ o.clauses); isos = o.isos }
  tail_two c ls d ms ec ul ed um xs h m =
      tail_block c ls ec ul (d ∷ (ms ++ xs)) (block_lets d (ms ++ xs) ed) m
      ∙ ap (λ (o : Tail). record { lets = []; clauses = clause_of m c ls ∷ o.clauses; isos = o.isos }) (tail_block d ms ed um xs h (length ls + suc m))

  tail_pair : (c : Row) (ls : List Row) (d : Row) (ms : List Row) → c.kind ≡ clause_line → AllLets ls → d.kind ≡ clause_line → AllLets ms
      → (xs : List Row) → ((i : ℕ) → (tail_from ts ps i xs).lets ≡ []) → (m : ℕ)
      → AlikeTail (tail_from ts ps m (c ∷ (ls ++ (d ∷ (ms ++ xs))))) (tail_from ts ps m (d ∷ (ms ++ (c ∷ (ls ++ xs)))))
  tail_pair c ls d ms ec ul ed um xs h m =
      let z : length ms + suc (length ls + suc m) ≡ length ls + suc (length ms + suc m) = omega arith in
      let o : Tail = tail_from ts ps (length ms + suc (length ls + suc m)) xs in
      let one = tail_two c ls d ms ec ul ed um xs h m in
      let two = tail_two d ms c ls ed um ec ul xs h m
      ∙ ap (λ i. let t : Tail = tail_from ts ps i xs in record { lets = []; clauses = clause_of m d ms ∷ (clause_of (length ms + suc m) c ls ∷ t.clauses); isos = t.isos }) (sym z) in
      let same : AlikeTail (record { lets = []; clauses = clause_of m c ls ∷ (clause_of (length ls + suc m) d ms ∷ o.clauses); isos = o.isos })
      (record { lets = []; clauses = clause_of m d ms ∷ (clause_of (length ms + suc m) c ls ∷ o.clauses); isos = o.isos }) =
      record { lets = refl; clauses = swap refl refl refl; isos = alike_refl o.isos } in
      subst (λ t. AlikeTail t (tail_from ts ps m (d ∷ (ms ++ (c ∷ (ls ++ xs)))))) (sym one)
      (subst (AlikeTail (record { lets = []; clauses = clause_of m c ls ∷ (clause_of (length ls + suc m) d ms ∷ o.clauses); isos = o.isos })) (sym two) same)

-- ---- rows in which two neighbouring clauses change places

pub moved_passes : {rs qs : List Row} → Moved rs qs → Passes start rs → Passes start qs
moved_passes {rs} {qs} v p =
    let s = passes_split v.before (subst (Passes start) v.here p) in
    let r = pair_moved (after_all start v.before) v.c v.ls v.d v.ms v.behind v.c_kind v.ls_lets v.d_kind v.ms_lets v.whole s.1 in
    subst (Passes start) (sym v.there) (passes_append s.0 r.moved)

-- the T lines stay
pub moved_types : {rs qs : List Row} → Moved rs qs → Passes start rs → types_of rs ≡ types_of qs
unfolding types_of
moved_types {rs} {qs} v p =
    let s = passes_split v.before (subst (Passes start) v.here p) in
    let r = pair_moved (after_all start v.before) v.c v.ls v.d v.ms v.behind v.c_kind v.ls_lets v.d_kind v.ms_lets v.whole s.1 in
    let xs : List Row = v.c ∷ (v.ls ++ (v.d ∷ (v.ms ++ v.behind))) in
    let ys : List Row = v.d ∷ (v.ms ++ (v.c ∷ (v.ls ++ v.behind))) in
    ap (λ z. (after_all start z).types) v.here
    ∙ ap (λ (t : Seen). t.types) (after_append start v.before xs)
    ∙ r.types
    ∙ ap (λ (t : Seen). t.types) (sym (after_append start v.before ys))
    ∙ ap (λ z. (after_all start z).types) (sym v.there)

pub moved_alike : {rs qs : List Row} → Moved rs qs → Passes start rs → Alike (isos_of rs) (isos_of qs)
unfolding start isos_of
moved_alike {rs} {qs} v p =
    let s = passes_split v.before (subst (Passes start) v.here p) in
    let r = pair_moved (after_all start v.before) v.c v.ls v.d v.ms v.behind v.c_kind v.ls_lets v.d_kind v.ms_lets v.whole s.1 in
    let xs : List Row = v.c ∷ (v.ls ++ (v.d ∷ (v.ms ++ v.behind))) in
    let ys : List Row = v.d ∷ (v.ms ++ (v.c ∷ (v.ls ++ v.behind))) in
    let ts : List Ty = (after_all start (v.before ++ xs)).types in
    let ps : List Pat = (after_all start (v.before ++ xs)).patterns in
    let a = tail_before ts ps v.before xs ys
    (tail_pair ts ps v.c v.ls v.d v.ms v.c_kind v.ls_lets v.d_kind v.ms_lets v.behind (r.lets ts ps)) 1 in
    let e = ap (λ (t : Seen). t.types) (after_append start v.before xs) ∙ r.types ∙ ap (λ (t : Seen). t.types) (sym (after_append start v.before ys)) in
    let f = ap (λ (t : Seen). t.patterns) (after_append start v.before xs) ∙ r.patterns ∙ ap (λ (t : Seen). t.patterns) (sym (after_append start v.before ys)) in
    let b : Alike (isos_of (v.before ++ xs)) (isos_of (v.before ++ ys)) =
    subst (Alike (isos_of (v.before ++ xs))) (ap₂ (λ us qs. (tail_from us qs 1 (v.before ++ ys)).isos) e f) a.isos in
    subst (λ z. Alike (isos_of z) (isos_of qs)) (sym v.here) (subst (λ z. Alike (isos_of (v.before ++ xs)) (isos_of z)) (sym v.there) b)

-- ---- idle lines

lets_roots : (ls : List Row) → AllLets ls → all is_root_row ls ≡ true
lets_roots [] u = refl
lets_roots (l ∷ ls) u = true_and (ap is_root u.0) (lets_roots ls u.1)

-- request 11: exchanging clauses moves no idle line, and makes none
pub moved_idle : {rs qs : List Row} → Moved rs qs → Passes start rs → idle_fault rs ≡ idle_fault qs
unfolding idle_fault type_lines types_of
moved_idle {rs} {qs} v p =
    let one : List Row = v.c ∷ v.ls in
    let two : List Row = v.d ∷ v.ms in
    let ts : ℕ = type_lines rs in
    let l = like_front ts 0 v.before (one ++ (two ++ v.behind)) (two ++ (one ++ v.behind))
    (like_exchange ts (0 + length v.before) one two v.behind (true_and (ap is_root v.c_kind) (lets_roots v.ls v.ls_lets))
    (true_and (ap is_root v.d_kind) (lets_roots v.ms v.ms_lets))) in
    ap (λ z. (reach_from ts 0 z).found) v.here
    ∙ l.found
    ∙ ap (λ z. (reach_from ts 0 z).found) (sym v.there)
    ∙ ap (λ z. (reach_from (length z) 0 qs).found) (moved_types v p)

-- ---- turned

-- what stands in front of rows that hold no L line is turned by itself
turn_front : (xs ys : List Row) → (turn_from ys).held ≡ [] → turn_from (xs ++ ys) ≡ record { held = (turn_from xs).held; rest = (turn_from xs).rest ++ (turn_from ys).rest }
turn_front [] ys h = ap (λ l. record { held = l; rest = (turn_from ys).rest }) h
turn_front (x ∷ xs) ys h = ap (turn_row x.kind x) (turn_front xs ys h) ∙ step x.kind
  where
    step : (k : Kind) → turn_row k x (record { held = (turn_from xs).held; rest = (turn_from xs).rest ++ (turn_from ys).rest })
        ≡ record { held = (turn_row k x (turn_from xs)).held; rest = (turn_row k x (turn_from xs)).rest ++ (turn_from ys).rest }
    step type_line = ap (λ zs. record { held = []; rest = exchange type_line x ∷ zs }) (sym (append_assoc (turn_from xs).held (turn_from xs).rest (turn_from ys).rest))
    step pattern_line = ap (λ zs. record { held = []; rest = exchange pattern_line x ∷ zs }) (sym (append_assoc (turn_from xs).held (turn_from xs).rest (turn_from ys).rest))
    step iso_line = ap (λ zs. record { held = []; rest = exchange iso_line x ∷ zs }) (sym (append_assoc (turn_from xs).held (turn_from xs).rest (turn_from ys).rest))
    step clause_line = ap (λ zs. record { held = []; rest = exchange clause_line x ∷ zs }) (sym (append_assoc (turn_from xs).held (turn_from xs).rest (turn_from ys).rest))
    step let_line = refl

pub turn_append : (xs ys : List Row) → (turn_from ys).held ≡ [] → turn_rows (xs ++ ys) ≡ turn_rows xs ++ turn_rows ys
unfolding turn_rows
turn_append xs ys h =
    ap (λ t. t.held ++ t.rest) (turn_front xs ys h)
    ∙ sym (append_assoc (turn_from xs).held (turn_from xs).rest (turn_from ys).rest)
    ∙ ap (λ l. ((turn_from xs).held ++ (turn_from xs).rest) ++ (l ++ (turn_from ys).rest)) (sym h)

whole_held : (xs : List Row) → Whole xs → (turn_from xs).held ≡ []
whole_held [] w = refl
whole_held (r ∷ rs) w = step r.kind w
  where
    step : (k : Kind) → (k ≡ let_line → ⊥) → (turn_row k r (turn_from rs)).held ≡ []
    step type_line v = refl
    step pattern_line v = refl
    step iso_line v = refl
    step clause_line v = refl
    step let_line v = absurd (v refl)

clause_held : (c : Row) (xs : List Row) → c.kind ≡ clause_line → (turn_from (c ∷ xs)).held ≡ []
clause_held c xs e = ap (λ k. (turn_row k c (turn_from xs)).held) e

-- L lines alone are all held
lets_rest : (ls : List Row) → AllLets ls → (turn_from ls).rest ≡ []
lets_rest [] u = refl
lets_rest (l ∷ ls) u = ap (λ k. (turn_row k l (turn_from ls)).rest) u.0 ∙ lets_rest ls u.1

turn_block : (c : Row) (ls : List Row) → c.kind ≡ clause_line → AllLets ls → turn_rows (c ∷ ls) ≡ exchange clause_line c ∷ (turn_from ls).held
unfolding turn_rows
turn_block c ls e u =
    ap (λ k. (turn_row k c (turn_from ls)).held ++ (turn_row k c (turn_from ls)).rest) e
    ∙ ap (λ zs. exchange clause_line c ∷ ((turn_from ls).held ++ zs)) (lets_rest ls u)
    ∙ ap (λ zs. exchange clause_line c ∷ zs) (append-nil (turn_from ls).held)

whole_turn : (xs : List Row) → Whole xs → Whole (turn_rows xs)
unfolding turn_rows
whole_turn [] w = tt
whole_turn (r ∷ rs) w = step r.kind r.x r.y r.z w
  where
    step : (k : Kind) (a b c : ℕ) → (k ≡ let_line → ⊥) → Whole (turn_rows (row k a b c ∷ rs))
    step type_line a b c v = v
    step pattern_line a b c v = v
    step iso_line a b c v = v
    step clause_line a b c v = v
    step let_line a b c v = absurd (v refl)

turn_four : (before : List Row) (c : Row) (ls : List Row) (d : Row) (ms : List Row) (behind : List Row)
    → c.kind ≡ clause_line → AllLets ls → d.kind ≡ clause_line → AllLets ms → Whole behind
    → turn_rows (before ++ (c ∷ (ls ++ (d ∷ (ms ++ behind)))))
    ≡ turn_rows before ++ (exchange clause_line c ∷ ((turn_from ls).held ++ (exchange clause_line d ∷ ((turn_from ms).held ++ turn_rows behind))))
turn_four before c ls d ms behind ec ul ed um w =
    turn_append before (c ∷ (ls ++ (d ∷ (ms ++ behind)))) (clause_held c (ls ++ (d ∷ (ms ++ behind))) ec)
    ∙ ap (λ zs. turn_rows before ++ zs)
    (turn_append (c ∷ ls) (d ∷ (ms ++ behind)) (clause_held d (ms ++ behind) ed)
    ∙ ap₂ (λ xs ys. xs ++ ys) (turn_block c ls ec ul)
    (turn_append (d ∷ ms) behind (whole_held behind w) ∙ ap (λ xs. xs ++ turn_rows behind) (turn_block d ms ed um)))

exchanged_kind : (c : Row) → c.kind ≡ clause_line → (exchange clause_line c).kind ≡ clause_line
exchanged_kind c e = e

-- the turned rows are such rows too
pub moved_turn : {rs qs : List Row} → Moved rs qs → Moved (turn_rows rs) (turn_rows qs)
moved_turn {rs} {qs} v =
    record {
      before = turn_rows v.before;
      c = exchange clause_line v.c;
      ls = (turn_from v.ls).held;
      d = exchange clause_line v.d;
      ms = (turn_from v.ms).held;
      behind = turn_rows v.behind;
      c_kind = exchanged_kind v.c v.c_kind;
      ls_lets = held_lets v.ls;
      d_kind = exchanged_kind v.d v.d_kind;
      ms_lets = held_lets v.ms;
      whole = whole_turn v.behind v.whole;
      here = ap turn_rows v.here ∙ turn_four v.before v.c v.ls v.d v.ms v.behind v.c_kind v.ls_lets v.d_kind v.ms_lets v.whole;
      there = ap turn_rows v.there ∙ turn_four v.before v.d v.ms v.c v.ls v.behind v.d_kind v.ms_lets v.c_kind v.ls_lets v.whole;
    }
