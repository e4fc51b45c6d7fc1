-- The walk over a file's rows in the table, from the last row to the first: where it starts, what each row makes of it, and that it ends with
-- the first refusal of the file's isos.
use Prim.Native.Nat.{ℕ, zero, suc, ◌+◌, ◌-◌, ◌≤◌, ◌<◌}
use native.Mathlib.Nat.{zero-add, sub_self}
use native.Mathlib.Numerals.{add-one}
use native.Mathlib.Omega.{arith}
use mathlib.Core.Path.{◌≡◌, refl, sym, ap, ap₂, ◌∙◌, subst}
use mathlib.Core.Logic.{◌⊎◌, inl, inr}
use mathlib.Core.Option.{Option, none, some}
use mathlib.Core.List.{List, [], ◌∷◌, ◌++◌, map, append-nil, Memᴰ}
use lib.ListN.{length, get_or, get_elem?, take, drop, length-append, length-map}
use lib.Seq.{take-length, drop-length}
use Rattle.limits.specs.Limits.{max_lines, max_isos, max_clauses, variables}
use Rattle.calculus.specs.Tools.{or_else}
use Rattle.calculus.specs.Trees.{Ty, tunit, Pat, pleaf, unit_leaf, Clause, Iso}
use Rattle.calculus.specs.Refusals.{Kind, iso_line, clause_line, let_line, Refusal}
use Rattle.format.specs.Lines.{Row, letter}
use Rattle.format.specs.Judge.{start, after_all}
use Rattle.format.specs.Unfold.{Tail, place, tail_from, isos_of}
use Rattle.calculus.specs.Clauses.{Sigs, Event, events, at, clause_fault, recursion_fault, side_fault, iso_fault, sigs_of, fault_from, fault}
use Rattle.calculus.proofs.Basic.{index_map, index_mem}
use Rattle.table_trees.specs.Unfolding.{cell_of, type_of, pattern_of}
use Rattle.table_walks.specs.InTable.{let_at, lets_in, clause_in, next_row, clauses_in, iso_in, sigs_in, patterns_at, sides_fault, whole_fault}
use Rattle.table_walks.specs.Walk.{FileIn, when_iso, iso_rows, tail_at, own_sig, pending_fault, WalkAt}
use Rattle.table_walks.proofs.Rows.{row_at, Names, row_names, kind_iso, kind_clause, kind_let, clause≢iso, let≢iso, iso_rows_step, iso_place, iso_rows_take, iso_rows_below, other_no_iso}
use Rattle.table_walks.proofs.Tails.{isos_few, clause_owned, clauses_few, Parted, parted, tail_row, place_early, early_no_iso, late_cases, IsoTypes}
use Rattle.table_walks.proofs.Tails.{sigs_from, lets_slots, file_formed, events_slots}

-- no clause, no refusal
no_pending : (sigs : Sigs) (o : Option (Ty × Ty)) → none ≡ pending_fault sigs o []
no_pending sigs none = refl
no_pending sigs (some s) = refl

pub no_lets : (t : List ℕ) (base n : ℕ) → lets_in t base n (n - n) ≡ []
no_lets t base n = ap (lets_in t base n) (sub_self n)

pub one_let_more : (t : List ℕ) (base n below : ℕ) → suc n ≤ below → lets_in t base n (below - n) ≡ let_at t base n ∷ lets_in t base (suc n) (below - suc n)
one_let_more t base n below h = ap (lets_in t base n) more
  where
    more : below - n ≡ suc (below - suc n)
    more = omega arith

module _ {t : List ℕ} {types patterns lines : ℕ} {rs : List Row} (f : FileIn t types patterns lines rs) where
  abbrev type_list : List Ty
  type_list = (after_all start rs).types

  abbrev pattern_list : List Pat
  pattern_list = (after_all start rs).patterns

  abbrev sigs : Sigs
  sigs = sigs_in t (iso_rows 0 rs)

  -- ---- rows and letters

  pub row_of : (n : ℕ) → n < lines → (r : Row) × (get_elem? rs n ≡ some r)
  row_of n h = row_at rs n (omega (arith, f.count))

  pub lines_few : lines ≤ max_lines
  lines_few = omega (arith, f.count, f.few)

  pub whole_file : take lines rs ≡ rs
  whole_file = ap (λ n. take n rs) f.count ∙ take-length rs

  pub file_parted : Parted (types + patterns) rs
  file_parted = subst (λ m. Parted m rs) (omega (arith, f.type_count, f.pattern_count)) (parted f.passes)

  pub head_few : types + patterns ≤ lines
  head_few = omega (arith, f.count, file_parted.few)

  module _ (n : ℕ) {r : Row} (e : get_elem? rs n ≡ some r) where
    -- only I, C and L lines below the T and P lines
    pub walk_other : types + patterns ≤ n → (r.kind ≡ iso_line) ⊎ ((r.kind ≡ clause_line) ⊎ (r.kind ≡ let_line))
    walk_other h = late_cases r.kind (file_parted.late n r h e)

    pub letter_iso : cell_of t n 0 ≡ 73 → r.kind ≡ iso_line
    letter_iso h = kind_iso r.kind (sym (f.letters n r e) ∙ h)

    pub letter_clause : cell_of t n 0 ≡ 67 → r.kind ≡ clause_line
    letter_clause h = kind_clause r.kind (sym (f.letters n r e) ∙ h)

    pub letter_let : cell_of t n 0 ≡ 76 → r.kind ≡ let_line
    letter_let h = kind_let r.kind (sym (f.letters n r e) ∙ h)

    pub iso_letter : r.kind ≡ iso_line → cell_of t n 0 ≡ 73
    iso_letter h = f.letters n r e ∙ ap letter h

    pub clause_letter : r.kind ≡ clause_line → cell_of t n 0 ≡ 67
    clause_letter h = f.letters n r e ∙ ap letter h

    pub let_letter : r.kind ≡ let_line → cell_of t n 0 ≡ 76
    let_letter h = f.letters n r e ∙ ap letter h

    -- what is no I and no C line there is an L line
    pub other_let : types + patterns ≤ n → (cell_of t n 0 ≡ 67 → ⊥) → (cell_of t n 0 ≡ 73 → ⊥) → r.kind ≡ let_line
    other_let h c i = go (walk_other h)
      where
        go : (r.kind ≡ iso_line) ⊎ ((r.kind ≡ clause_line) ⊎ (r.kind ≡ let_line)) → r.kind ≡ let_line
        go (inl k) = absurd (i (iso_letter k))
        go (inr (inl k)) = absurd (c (clause_letter k))
        go (inr (inr k)) = k

  -- ---- the I lines

  pub iso_rows_few : length (iso_rows 0 rs) ≤ max_isos
  iso_rows_few = isos_few f.passes

  -- each is a row of the file
  pub iso_rows_within : (h : ℕ) → Memᴰ h (iso_rows 0 rs) → h < lines
  iso_rows_within h m = let l = iso_rows_below 0 rs h m in omega (arith, f.count)

  pub iso_row_within : (i h : ℕ) → get_elem? (iso_rows 0 rs) i ≡ some h → h < lines
  iso_row_within i h e = iso_rows_within h (index_mem (iso_rows 0 rs) i e)

  -- the I lines with one row more
  pub iso_rows_iso : (n : ℕ) {r : Row} → get_elem? rs n ≡ some r → r.kind ≡ iso_line → iso_rows 0 (take (suc n) rs) ≡ iso_rows 0 (take n rs) ++ (n ∷ [])
  iso_rows_iso n e k = iso_rows_step rs n e ∙ ap (λ q. iso_rows 0 (take n rs) ++ when_iso q n []) k

  pub iso_rows_other : (n : ℕ) {r : Row} → get_elem? rs n ≡ some r → (r.kind ≡ iso_line → ⊥) → iso_rows 0 (take (suc n) rs) ≡ iso_rows 0 (take n rs)
  iso_rows_other n {r} e k =
      iso_rows_step rs n e
      ∙ ap (λ q. iso_rows 0 (take n rs) ++ q) (other_no_iso r.kind n k)
      ∙ append-nil (iso_rows 0 (take n rs))

  -- one more I line, one more iso
  pub iso_rows_longer : (n : ℕ) {r : Row} → get_elem? rs n ≡ some r → r.kind ≡ iso_line
      → length (iso_rows 0 (take (suc n) rs)) ≡ suc (length (iso_rows 0 (take n rs)))
  iso_rows_longer n e k = ap length (iso_rows_iso n e k) ∙ length-append (iso_rows 0 (take n rs)) (n ∷ []) ∙ add-one (length (iso_rows 0 (take n rs)))

  -- there is room for an I line more
  pub iso_rows_room : (n : ℕ) {r : Row} → get_elem? rs n ≡ some r → r.kind ≡ iso_line → length (iso_rows 0 (take n rs)) < max_isos
  iso_rows_room n e k = omega (arith, iso_rows_longer n e k, iso_rows_take 0 rs (suc n), iso_rows_few)

  -- no I line among the T and P lines
  pub iso_rows_early : (n : ℕ) → n ≤ types + patterns → iso_rows 0 (take n rs) ≡ []
  iso_rows_early zero h = refl
  iso_rows_early (suc n) h =
      let r = row_of n (omega (arith, head_few)) in
      iso_rows_step rs n r.1
      ∙ ap₂ ◌++◌ (iso_rows_early n (omega arith)) (early_no_iso r.0.kind n (file_parted.early n r.0 h r.1))

  -- ---- the trees that a row names

  named_type : (i c : ℕ) → i < length type_list → c ≡ i → get_or type_list i tunit ≡ type_of t c
  named_type i c h e = sym (f.type_trees i (omega (arith, f.type_count))) ∙ ap (type_of t) (sym e)

  named_pattern : (i c : ℕ) → i < length pattern_list → c ≡ i → get_or pattern_list i (pleaf unit_leaf) ≡ pattern_of t types c
  named_pattern i c h e = sym (f.pattern_trees i (omega (arith, f.pattern_count))) ∙ ap (pattern_of t types) (sym e)

  module _ (n : ℕ) {r : Row} (e : get_elem? rs n ≡ some r) where
    names_of : {k : Kind} → r.kind ≡ k → Names (length type_list) (length pattern_list) k r
    names_of k = subst (λ q. Names (length type_list) (length pattern_list) q r) k (row_names f.passes n e)

    pub iso_types : r.kind ≡ iso_line → IsoTypes t type_list n r
    iso_types k = let h = names_of k in (named_type r.x (cell_of t n 1) h.0 (f.xs n r e), named_type r.y (cell_of t n 2) h.1 (f.ys n r e))

    pub clause_left : r.kind ≡ clause_line → get_or pattern_list r.x (pleaf unit_leaf) ≡ pattern_of t types (cell_of t n 1)
    clause_left k = named_pattern r.x (cell_of t n 1) (names_of k).0 (f.xs n r e)

    pub clause_right : r.kind ≡ clause_line → get_or pattern_list r.y (pleaf unit_leaf) ≡ pattern_of t types (cell_of t n 2)
    clause_right k = named_pattern r.y (cell_of t n 2) (names_of k).1 (f.ys n r e)

    pub let_here : r.kind ≡ let_line → record { p = get_or pattern_list r.x (pleaf unit_leaf); iso = r.y; q = get_or pattern_list r.z (pleaf unit_leaf) } ≡ let_at t types n
    let_here k = λ i. record { p = p i; iso = sym (f.ys n r e) i; q = q i }
      where
        p : get_or pattern_list r.x (pleaf unit_leaf) ≡ pattern_of t types (cell_of t n 1)
        p = named_pattern r.x (cell_of t n 1) (names_of k).0 (f.xs n r e)

        q : get_or pattern_list r.z (pleaf unit_leaf) ≡ pattern_of t types (cell_of t n 3)
        q = named_pattern r.z (cell_of t n 3) (names_of k).1 (f.zs n r e)

    -- what a row of a known kind adds
    pub tail_kind : {k : Kind} → r.kind ≡ k → tail_at rs n ≡ place type_list pattern_list k (suc n) r (tail_at rs (suc n))
    tail_kind k = tail_row rs n e ∙ ap (λ q. place type_list pattern_list q (suc n) r (tail_at rs (suc n))) k

  -- the types of the isos are those that the I lines name
  pub sigs_rows : sigs_of (isos_of rs) ≡ sigs
  unfolding isos_of
  sigs_rows = sigs_from t type_list pattern_list 1 0 rs (λ k q e c. subst (λ m. IsoTypes t type_list m q) (sym (zero-add k)) (iso_types k e c))

  -- ---- the walk

  pub tail_end : tail_at rs lines ≡ record { lets = []; clauses = []; isos = [] }
  tail_end = ap (tail_from type_list pattern_list (suc lines)) (ap (λ n. drop n rs) f.count ∙ drop-length rs)

  pub walk_start : WalkAt t types rs lines [] lines lines (length (iso_rows 0 rs)) none none
  walk_start =
      record {
        further = omega arith;
        lets = ap (λ o. o.lets) tail_end ∙ sym (no_lets t types lines);
        nearest = refl;
        whole = ap (λ o. o.clauses) tail_end;
        lefts = ap (λ o. map (λ c. c.lhs) o.clauses) tail_end;
        rights = ap (λ o. map (λ c. c.rhs) o.clauses) tail_end;
        fewer = omega arith;
        number = ap (λ q. length (iso_rows 0 q)) (sym whole_file);
        clause_faults =
            no_pending sigs (own_sig sigs (length (iso_rows 0 rs)))
            ∙ ap (λ o. pending_fault sigs (own_sig sigs (length (iso_rows 0 rs))) o.clauses) (sym tail_end);
        iso_faults = ap (λ o. fault_from sigs (length (iso_rows 0 rs)) o.isos) (sym tail_end);
      }

  -- no more isos above a row than in the file
  pub iso_within : {n iso below last : ℕ} {cs : List ℕ} {pending found : Option (Refusal × ℕ)} → WalkAt t types rs n cs below last iso pending found
      → iso ≤ length (iso_rows 0 rs)
  iso_within {n} w = omega (arith, w.number, iso_rows_take 0 rs n)

  module _ (n : ℕ) {r : Row} (e : get_elem? rs n ≡ some r) {below last iso : ℕ} {cs : List ℕ} {pending found : Option (Refusal × ℕ)} where
    -- an L line
    pub walk_let : r.kind ≡ let_line → WalkAt t types rs (suc n) cs below last iso pending found → WalkAt t types rs n cs below last iso pending found
    walk_let k w =
        record {
          further = omega (arith, w.further);
          lets =
              ap (λ o. o.lets) here
              ∙ ap₂ ◌∷◌ (let_here n e k) w.lets
              ∙ sym (one_let_more t types n below w.further);
          nearest = w.nearest;
          whole = ap (λ o. o.clauses) here ∙ w.whole;
          lefts = ap (λ o. map (λ c. c.lhs) o.clauses) here ∙ w.lefts;
          rights = ap (λ o. map (λ c. c.rhs) o.clauses) here ∙ w.rights;
          fewer = w.fewer;
          number = w.number ∙ ap length (iso_rows_other n e (λ i. let≢iso (sym k ∙ i)));
          clause_faults = w.clause_faults ∙ ap (λ o. pending_fault sigs (own_sig sigs iso) o.clauses) (sym here);
          iso_faults = w.iso_faults ∙ ap (λ o. fault_from sigs iso o.isos) (sym here);
        }
      where
        here : tail_at rs n ≡ place type_list pattern_list let_line (suc n) r (tail_at rs (suc n))
        here = tail_kind n e k

    -- a C line: the I line of its iso
    pub own_row : r.kind ≡ clause_line → WalkAt t types rs (suc n) cs below last iso pending found
        → (i h : ℕ) × (iso ≡ suc i) × (get_elem? (iso_rows 0 rs) i ≡ some h)
    own_row k w =
        let i : ℕ = iso - 1 in
        let same : iso ≡ length (iso_rows 0 (take n rs)) = w.number ∙ ap length (iso_rows_other n e (λ q. clause≢iso (sym k ∙ q))) in
        let h = row_at (iso_rows 0 rs) i (omega (arith, clause_owned f.passes n e k, iso_rows_take 0 rs n)) in
        (i, h.0, omega (arith, clause_owned f.passes n e k), h.1)

    clause_here : r.kind ≡ clause_line → WalkAt t types rs (suc n) cs below last iso pending found
        → record { line = suc n; lhs = get_or pattern_list r.x (pleaf unit_leaf); lets = (tail_at rs (suc n)).lets; rhs = get_or pattern_list r.y (pleaf unit_leaf) } ≡ clause_in t types n below
    clause_here k w = λ i. record { line = suc n; lhs = clause_left n e k i; lets = w.lets i; rhs = clause_right n e k i }

    clause_tail : r.kind ≡ clause_line → WalkAt t types rs (suc n) cs below last iso pending found
        → tail_at rs n ≡ record { lets = []; clauses = clause_in t types n below ∷ (tail_at rs (suc n)).clauses; isos = (tail_at rs (suc n)).isos }
    clause_tail k w =
        tail_kind n e k ∙ ap (λ c. record { lets = []; clauses = c ∷ (tail_at rs (suc n)).clauses; isos = (tail_at rs (suc n)).isos }) (clause_here k w)

    -- its variables have slots
    pub clause_slots : r.kind ≡ clause_line → WalkAt t types rs (suc n) cs below last iso pending found
        → (v : Event) → Memᴰ v (events (clause_in t types n below)) → v.name < variables
    clause_slots k w =
        let h = file_formed f.passes in
        subst (λ (c : Clause). (v : Event) → Memᴰ v (events c) → v.name < variables) (clause_here k w)
        (events_slots
        (record { line = suc n; lhs = get_or pattern_list r.x (pleaf unit_leaf); lets = (tail_at rs (suc n)).lets; rhs = get_or pattern_list r.y (pleaf unit_leaf) })
        (h r.x) (lets_slots rs h (suc n)) (h r.y))

    -- there is room for it
    pub clause_room : r.kind ≡ clause_line → WalkAt t types rs (suc n) cs below last iso pending found → length cs < max_clauses
    clause_room k w =
        let o : Tail = tail_at rs (suc n) in
        let l : length o.clauses ≡ length cs =
        sym (length-map o.clauses (λ c. c.lhs)) ∙ ap length w.lefts ∙ length-map cs (λ q. pattern_of t types (cell_of t q 1)) in
        let m : length (tail_at rs n).clauses ≡ suc (length o.clauses) = ap (λ (q : Tail). length q.clauses) (clause_tail k w) in
        omega (arith, clauses_few f.passes n)

    -- the walk with it
    pub walk_clause : r.kind ≡ clause_line → WalkAt t types rs (suc n) cs below last iso pending found
        → (i h : ℕ) → iso ≡ suc i → get_elem? (iso_rows 0 rs) i ≡ some h
        → WalkAt t types rs n (n ∷ cs) n last iso
        (or_else (at (suc n) (clause_fault sigs (type_of t (cell_of t h 1)) (type_of t (cell_of t h 2)) (clause_in t types n below))) pending) found
    walk_clause k w i h p q =
        record {
          further = omega arith;
          lets = ap (λ o. o.lets) here ∙ sym (no_lets t types n);
          nearest = refl;
          whole = ap (λ o. o.clauses) here ∙ ap₂ (λ b ds. clause_in t types n b ∷ ds) w.nearest w.whole;
          lefts = ap (λ o. map (λ c. c.lhs) o.clauses) here ∙ ap (λ ps. pattern_of t types (cell_of t n 1) ∷ ps) w.lefts;
          rights = ap (λ o. map (λ c. c.rhs) o.clauses) here ∙ ap (λ ps. pattern_of t types (cell_of t n 2) ∷ ps) w.rights;
          fewer = clause_room k w;
          number = w.number ∙ ap length (iso_rows_other n e (λ j. clause≢iso (sym k ∙ j)));
          clause_faults =
              ap (or_else (at (suc n) (clause_fault sigs s.0 s.1 (clause_in t types n below))))
              (w.clause_faults ∙ ap (λ o. pending_fault sigs o (tail_at rs (suc n)).clauses) own)
              ∙ ap₂ (pending_fault sigs) (sym own) (ap (λ o. o.clauses) (sym here));
          iso_faults = w.iso_faults ∙ ap (λ o. fault_from sigs iso o.isos) (sym here);
        }
      where
        s : Ty × Ty
        s = (type_of t (cell_of t h 1), type_of t (cell_of t h 2))

        here : tail_at rs n ≡ record { lets = []; clauses = clause_in t types n below ∷ (tail_at rs (suc n)).clauses; isos = (tail_at rs (suc n)).isos }
        here = clause_tail k w

        own : own_sig sigs iso ≡ some s
        own = ap (own_sig sigs) p ∙ index_map (λ z. (type_of t (cell_of t z 1), type_of t (cell_of t z 2))) (iso_rows 0 rs) i q

    -- an I line stands above
    pub iso_above : r.kind ≡ iso_line → WalkAt t types rs (suc n) cs below last iso pending found → iso ≡ suc (length (iso_rows 0 (take n rs)))
    iso_above k w = w.number ∙ iso_rows_longer n e k

    -- its iso, as the table holds it
    iso_here : r.kind ≡ iso_line → WalkAt t types rs (suc n) cs below last iso pending found
        → iso_in t types n cs last ≡ record { line = suc n; from = get_or type_list r.x tunit; to = get_or type_list r.y tunit; clauses = (tail_at rs (suc n)).clauses }
    iso_here k w =
        let typed = iso_types n e k in
        λ i. record { line = suc n; from = sym typed.0 i; to = sym typed.1 i; clauses = sym w.whole i }

    -- the refusal of its iso
    iso_fault_lem : (j : ℕ) → r.kind ≡ iso_line → WalkAt t types rs (suc n) cs below last iso pending found
        → or_else pending (whole_fault t types j n cs last)
        ≡ iso_fault sigs j (record { line = suc n; from = get_or type_list r.x tunit; to = get_or type_list r.y tunit; clauses = (tail_at rs (suc n)).clauses })
    unfolding iso_fault side_fault sides_fault
    iso_fault_lem j k w =
        ap₂ or_else (w.clause_faults ∙ ap (λ o. pending_fault sigs o (tail_at rs (suc n)).clauses) own)
        (ap₂ (λ a b. or_else a (at (suc n) b)) (ap (recursion_fault j) (iso_here k w)) (ap₂ sides_fault (sym w.lefts) (sym w.rights)))
      where
        typed : IsoTypes t type_list n r
        typed = iso_types n e k

        own : own_sig sigs iso ≡ some (get_or type_list r.x tunit, get_or type_list r.y tunit)
        own =
            ap (own_sig sigs) (iso_above k w)
            ∙ index_map (λ z. (type_of t (cell_of t z 1), type_of t (cell_of t z 2))) (iso_rows 0 rs) (length (iso_rows 0 (take n rs))) (iso_place rs n e k)
            ∙ (λ i. some (sym typed.0 i, sym typed.1 i))

    -- the walk with it
    pub walk_iso : r.kind ≡ iso_line → WalkAt t types rs (suc n) cs below last iso pending found → (i : ℕ) → iso ≡ suc i
        → WalkAt t types rs n [] n n i none
        (or_else (or_else pending (whole_fault t types i n cs last)) found)
    walk_iso k w i p =
        record {
          further = omega arith;
          lets = ap (λ o. o.lets) here ∙ sym (no_lets t types n);
          nearest = refl;
          whole = ap (λ o. o.clauses) here;
          lefts = ap (λ o. map (λ c. c.lhs) o.clauses) here;
          rights = ap (λ o. map (λ c. c.rhs) o.clauses) here;
          fewer = omega arith;
          number = omega (arith, iso_above k w);
          clause_faults = no_pending sigs (own_sig sigs i) ∙ ap (λ o. pending_fault sigs (own_sig sigs i) o.clauses) (sym here);
          iso_faults =
              ap₂ or_else (iso_fault_lem i k w) (w.iso_faults ∙ ap (λ j. fault_from sigs j (tail_at rs (suc n)).isos) p)
              ∙ ap (λ o. fault_from sigs i o.isos) (sym here);
        }
      where
        here : tail_at rs n ≡ place type_list pattern_list iso_line (suc n) r (tail_at rs (suc n))
        here = tail_kind n e k

  -- T and P lines leave the tail as it is
  pub tail_early : (n : ℕ) → n ≤ types + patterns → tail_at rs n ≡ tail_at rs 0
  tail_early zero h = refl
  tail_early (suc n) h =
      let r = row_of n (omega (arith, head_few)) in
      sym (place_early type_list pattern_list r.0.kind (suc n) r.0 (tail_at rs (suc n)) (file_parted.early n r.0 h r.1))
      ∙ sym (tail_row rs n r.1)
      ∙ tail_early n (omega arith)

  pub walk_end : {below last iso : ℕ} {cs : List ℕ} {pending found : Option (Refusal × ℕ)} → WalkAt t types rs (types + patterns) cs below last iso pending found
      → found ≡ fault (isos_of rs)
  unfolding isos_of fault
  walk_end w =
      w.iso_faults
      ∙ ap (λ i. fault_from sigs i (tail_at rs (types + patterns)).isos) (w.number ∙ ap length (iso_rows_early (types + patterns) (omega arith)))
      ∙ ap (λ o. fault_from sigs 0 o.isos) (tail_early (types + patterns) (omega arith))
      ∙ ap (λ g. fault_from g 0 (isos_of rs)) (sym sigs_rows)
