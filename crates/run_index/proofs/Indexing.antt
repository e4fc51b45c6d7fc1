-- The index over the walk: where it starts, what each row makes of it, and that it ends with the isos of the file.
use Prim.Native.Nat.{ℕ, suc, ◌+◌, ◌-◌, ◌%◌, ◌≤◌, ◌<◌}
use native.Mathlib.Nat.{sub_self, eq-or-lt_of_le}
use native.Mathlib.Omega.{arith}
use mathlib.Core.Path.{◌≡◌, refl, sym, ap, ap₂, ◌∙◌, subst, subst₂}
use mathlib.Core.Logic.{◌⊎◌, inl, inr}
use mathlib.Core.Option.{some}
use mathlib.Core.List.{List, [], ◌∷◌}
use lib.ListN.{length, get_elem?, take, set, length-set}
use Rattle.calculus.specs.Trees.{Clause, Iso}
use Rattle.calculus.specs.Refusals.{iso_line, clause_line, let_line}
use Rattle.format.specs.Lines.{Row, letter}
use Rattle.format.specs.Unfold.{Tail, isos_of}
use Rattle.table_trees.specs.Unfolding.{cell_of, type_of, pattern_of}
use Rattle.table_walks.specs.InTable.{let_at, lets_in, clause_in}
use Rattle.table_walks.specs.Walk.{FileIn, iso_rows, tail_at}
use Rattle.table_walks.proofs.Rows.{clause≢iso, let≢iso}
use Rattle.area_words.proofs.Bits.{narrow_same}
use Rattle.table_walks.proofs.Walking.{no_lets, one_let_more, tail_end, row_of, lines_few, whole_file, head_few, letter_iso, letter_clause, other_let}
use Rattle.table_walks.proofs.Walking.{iso_rows_few, iso_rows_other, iso_rows_longer, iso_rows_early}
use Rattle.run_index.specs.Index.{index_length, place_at, clauses_at, iso_between, isos_at, index_end}
use Rattle.run_index.specs.Indexed.{places_of, places, Indexed}
use Rattle.run_index.proofs.Counting.{places_few, places_step}
use Rattle.run_index.proofs.Agreeing.{SameFrom, SameIsos, clauses_agree, isos_agree, stored_here, stored_other}
use Rattle.run_index.proofs.Adding.{tail_let, tail_clause, tail_iso, tail_whole, iso_count}

module _ {t : List ℕ} {types patterns lines : ℕ} {rs : List Row} (f : FileIn t types patterns lines rs) where
  -- ---- the last row's end

  -- the two stores before the walk
  pub indexed_start : (index : List ℕ) → index_length ≤ length index → {isos : ℕ} → isos ≡ length (isos_of rs)
      → Indexed t types rs lines (set (set index index_end lines) isos index_end) index_end isos
  indexed_start index h {isos} e =
      record {
        long = omega (arith, wide);
        within = omega arith;
        room = omega (arith, places_few f.passes, ap places (whole_file f));
        number = same ∙ ap (λ l. length (iso_rows 0 l)) (sym (whole_file f));
        few = omega (arith, none, same, iso_rows_few f);
        further = omega (arith, last);
        lets = ap (λ (o : Tail). o.lets) (tail_end f) ∙ sym (no_lets t types lines) ∙ ap (λ m. lets_in t types lines (m - lines)) (sym last);
        begins = λ i l u. let here : i ≡ isos = omega (arith, none) in omega (arith, ap (place_at full) here, behind);
        clauses = ap (λ (o : Tail). o.clauses) (tail_end f) ∙ ap (λ m. clauses_at t types full index_end (m - index_end)) (sym behind);
        isos = ap (λ (o : Tail). o.isos) (tail_end f) ∙ ap (isos_at t types full isos) (sym none);
      }
    where
      full : List ℕ
      full = set (set index index_end lines) isos index_end

      wide : length full ≡ length index
      wide = length-set (set index index_end lines) isos index_end ∙ length-set index index_end lines

      same : isos ≡ length (iso_rows 0 rs)
      same = e ∙ iso_count f

      none : length (tail_at rs lines).isos ≡ 0
      none = ap (λ (o : Tail). length o.isos) (tail_end f)

      last : place_at full index_end ≡ lines
      last =
          stored_other (set index index_end lines) isos index_end index_end (λ q. omega (arith, same, iso_rows_few f))
          ∙ stored_here index index_end lines (omega arith)

      behind : place_at full isos ≡ index_end
      behind = stored_here (set index index_end lines) isos index_end (omega (arith, length-set index index_end lines, same, iso_rows_few f))

  module _ (n : ℕ) {r : Row} (e : get_elem? rs n ≡ some r) {index : List ℕ} where
    -- ---- an L row

    -- it is one more of the L rows
    indexed_let : {first left : ℕ} → r.kind ≡ let_line → Indexed t types rs (suc n) index first left → Indexed t types rs n index first left
    indexed_let {first} {left} k s =
        record {
          long = s.long;
          within = s.within;
          room = omega (arith, s.room, places_step rs n e);
          number = s.number ∙ ap length (iso_rows_other f n e (λ i. let≢iso (sym k ∙ i)));
          few = omega (arith, s.few, count);
          further = omega (arith, s.further);
          lets =
              ap (λ (o : Tail). o.lets) here
              ∙ ap (λ ls. let_at t types n ∷ ls) s.lets
              ∙ sym (one_let_more t types n (place_at index first) s.further);
          begins = λ i l u. s.begins i l (omega (arith, count));
          clauses = ap (λ (o : Tail). o.clauses) here ∙ s.clauses;
          isos = ap (λ (o : Tail). o.isos) here ∙ s.isos ∙ ap (isos_at t types index left) (sym count);
        }
      where
        here : tail_at rs n ≡ record { lets = let_at t types n ∷ (tail_at rs (suc n)).lets; clauses = (tail_at rs (suc n)).clauses; isos = (tail_at rs (suc n)).isos }
        here = tail_let f n e k

        count : length (tail_at rs n).isos ≡ length (tail_at rs (suc n)).isos
        count = ap (λ (o : Tail). length o.isos) here

    -- ---- a C row

    -- its row is stored in front of the clauses
    indexed_clause : {slot left : ℕ} → r.kind ≡ clause_line → Indexed t types rs (suc n) index (suc slot) left
        → Indexed t types rs n (set index slot n) slot left
    indexed_clause {slot} {left} k s =
        record {
          long = omega (arith, s.long, length-set index slot n);
          within = omega (arith, s.within);
          room = omega (arith, s.room, more);
          number = s.number ∙ ap length (iso_rows_other f n e (λ i. clause≢iso (sym k ∙ i)));
          few = omega (arith, s.few, count);
          further = omega (arith, row);
          lets = ap (λ (o : Tail). o.lets) here ∙ sym (no_lets t types n) ∙ ap (λ m. lets_in t types n (m - n)) (sym row);
          begins = λ i l u.
              let u' : i ≤ left + length (tail_at rs (suc n)).isos = omega (arith, count) in omega (arith, s.begins i l u', (fronts i l u').0);
          clauses =
              ap (λ (o : Tail). o.clauses) here
              ∙ ap₂ {C = List Clause} ◌∷◌ clause (s.clauses ∙ sym (clauses_agree t types (suc slot) full index later (suc slot) (place_at index left - suc slot) (omega arith)))
              ∙ ap (clauses_at t types full slot) (sym ends);
          isos =
              ap (λ (o : Tail). o.isos) here
              ∙ s.isos
              ∙ sym (isos_agree t types (suc slot) full index later left (length (tail_at rs (suc n)).isos) fronts)
              ∙ ap (isos_at t types full left) (sym count);
        }
      where
        full : List ℕ
        full = set index slot n

        here : tail_at rs n
            ≡ record {
              lets = [];
              clauses =
                  record { line = suc n; lhs = pattern_of t types (cell_of t n 1); lets = (tail_at rs (suc n)).lets; rhs = pattern_of t types (cell_of t n 2) }
                  ∷ (tail_at rs (suc n)).clauses;
              isos = (tail_at rs (suc n)).isos;
            }
        here = tail_clause f n e k

        count : length (tail_at rs n).isos ≡ length (tail_at rs (suc n)).isos
        count = ap (λ (o : Tail). length o.isos) here

        more : places (take (suc n) rs) ≡ places (take n rs) + 1
        more = places_step rs n e ∙ ap (λ q. places (take n rs) + places_of q) k

        row : place_at full slot ≡ n
        row = stored_here index slot n (omega (arith, s.long, s.within))

        later : SameFrom (suc slot) full index
        later m h = stored_other index slot n m (λ q. omega arith)

        fronts : SameIsos (suc slot) left (length (tail_at rs (suc n)).isos) full index
        fronts j l u = (stored_other index slot n j (λ q. omega (arith, s.few, s.room, more)), s.begins j l u)

        ends : place_at full left - slot ≡ suc (place_at index left - suc slot)
        ends = let p = fronts left (omega arith) (omega arith) in omega arith

        clause : record { line = suc n; lhs = pattern_of t types (cell_of t n 1); lets = (tail_at rs (suc n)).lets; rhs = pattern_of t types (cell_of t n 2) }
            ≡ clause_in t types (place_at full slot) (place_at full (suc slot))
        clause =
            ap (λ ls. record { line = suc n; lhs = pattern_of t types (cell_of t n 1); lets = ls; rhs = pattern_of t types (cell_of t n 2) }) s.lets
            ∙ ap₂ (clause_in t types) (sym row) (sym (later (suc slot) (omega arith)))

    -- ---- an I row

    -- its row is stored in front of its clauses, and its place in front of the places of the isos
    indexed_iso : {slot own : ℕ} → r.kind ≡ iso_line → Indexed t types rs (suc n) index (suc slot) (suc own)
        → Indexed t types rs n (set (set index slot n) own slot) slot own
    indexed_iso {slot} {own} k s =
        record {
          long = omega (arith, s.long, wide);
          within = omega (arith, s.within);
          room = omega (arith, s.room, more);
          number = omega (arith, s.number, iso_rows_longer f n e k);
          few = omega (arith, s.few, count);
          further = omega (arith, row);
          lets = ap (λ (o : Tail). o.lets) here ∙ sym (no_lets t types n) ∙ ap (λ m. lets_in t types n (m - n)) (sym row);
          begins = λ i l u. begun i (eq-or-lt_of_le l) u;
          clauses =
              ap (λ (o : Tail). o.clauses) here
              ∙ ap (clauses_at t types full slot) (sym (sub_self slot))
              ∙ ap (λ m. clauses_at t types full slot (m - slot)) (sym begin);
          isos =
              ap (λ (o : Tail). o.isos) here
              ∙ ap₂ {C = List Iso} ◌∷◌ iso (s.isos ∙ sym (isos_agree t types (suc slot) full index later (suc own) (length (tail_at rs (suc n)).isos) fronts))
              ∙ ap (isos_at t types full own) (sym count);
        }
      where
        full : List ℕ
        full = set (set index slot n) own slot

        wide : length full ≡ length index
        wide = length-set (set index slot n) own slot ∙ length-set index slot n

        here : tail_at rs n
            ≡ record {
              lets = [];
              clauses = [];
              isos =
                  record { line = suc n; from = type_of t (cell_of t n 1); to = type_of t (cell_of t n 2); clauses = (tail_at rs (suc n)).clauses }
                  ∷ (tail_at rs (suc n)).isos;
            }
        here = tail_iso f n e k

        count : length (tail_at rs n).isos ≡ suc (length (tail_at rs (suc n)).isos)
        count = ap (λ (o : Tail). length o.isos) here

        more : places (take (suc n) rs) ≡ places (take n rs) + 1
        more = places_step rs n e ∙ ap (λ q. places (take n rs) + places_of q) k

        apart : own < slot
        apart = omega (arith, s.few, s.room, more)

        row : place_at full slot ≡ n
        row =
            stored_other (set index slot n) own slot slot (λ q. omega (arith, apart))
            ∙ stored_here index slot n (omega (arith, s.long, s.within))

        begin : place_at full own ≡ slot
        begin = stored_here (set index slot n) own slot (omega (arith, s.long, s.within, length-set index slot n, apart))

        later : SameFrom (suc slot) full index
        later m h =
            stored_other (set index slot n) own slot m (λ q. omega (arith, apart)) ∙ stored_other index slot n m (λ q. omega arith)

        fronts : SameIsos (suc slot) (suc own) (length (tail_at rs (suc n)).isos) full index
        fronts j l u = (
          stored_other (set index slot n) own slot j (λ q. omega arith)
              ∙ stored_other index slot n j (λ q. omega (arith, s.few, s.room, more)),
          s.begins j l u,
        )

        begun : (i : ℕ) → (own ≡ i) ⊎ (own < i) → i ≤ own + length (tail_at rs n).isos → slot ≤ place_at full i
        begun i (inl q) u = omega (arith, ap (place_at full) q, begin)
        begun i (inr l) u = let p = fronts i l (omega (arith, count)) in omega arith

        iso : record { line = suc n; from = type_of t (cell_of t n 1); to = type_of t (cell_of t n 2); clauses = (tail_at rs (suc n)).clauses }
            ≡ iso_between t types full (place_at full own) (place_at full (suc own))
        iso =
            ap₂ (λ (p : ℕ) (cs : List Clause). record { line = suc p; from = type_of t (cell_of t p 1); to = type_of t (cell_of t p 2); clauses = cs }) (sym row)
            (s.clauses ∙ sym (clauses_agree t types (suc slot) full index later (suc slot) (place_at index (suc own) - suc slot) (omega arith)))
            ∙ ap₂ (iso_between t types full) (sym begin) (sym (fronts (suc own) (omega arith) (omega arith)).0)

  -- ---- the same, by the letters and numbers that the code sees

  module _ {n : ℕ} (h : n < lines) {index : List ℕ} {first left : ℕ} (s : Indexed t types rs (suc n) index first left) where
    -- an L row
    pub other_row : types + patterns ≤ n → {l : ℕ} → l ≡ cell_of t n 0 → (l ≡ letter clause_line → ⊥) → (l ≡ letter iso_line → ⊥) → Indexed t types rs n index first left
    other_row late e c i = let r = row_of f n h in indexed_let n r.1 (other_let f n r.1 late (λ q. c (e ∙ q)) (λ q. i (e ∙ q))) s

    -- there is room
    pub clause_room : 0 < first
    clause_room = omega (arith, s.room)

    pub iso_room : cell_of t n 0 ≡ letter iso_line → 0 < left
    iso_room c = let r = row_of f n h in omega (arith, s.number, iso_rows_longer f n r.1 (letter_iso f n r.1 c))

    -- a C row
    pub clause_row : cell_of t n 0 ≡ letter clause_line → {v : ℕ} → v ≡ n % 65536 → {last : List ℕ} → last ≡ set index (first - 1) v
        → Indexed t types rs n last (first - 1) left
    clause_row c {v} ev {last} el =
        let r = row_of f n h in
        let front : first ≡ suc (first - 1) = omega (arith, clause_room) in
        let whole : v ≡ n = narrow_same ev (omega (arith, lines_few f)) in
        subst (λ l. Indexed t types rs n l (first - 1) left) (sym (el ∙ ap (set index (first - 1)) whole))
        (indexed_clause n r.1 (letter_clause f n r.1 c) (subst (λ m. Indexed t types rs (suc n) index m left) front s))

    -- an I row
    pub iso_row : cell_of t n 0 ≡ letter iso_line → {v : ℕ} → v ≡ n % 65536 → {mid : List ℕ} → mid ≡ set index (first - 1) v
        → {u : ℕ} → u ≡ (first - 1) % 65536 → {last : List ℕ} → last ≡ set mid (left - 1) u
        → Indexed t types rs n last (first - 1) (left - 1)
    iso_row c {v} ev {mid} em {u} eu {last} el =
        let r = row_of f n h in
        let front : first ≡ suc (first - 1) = omega (arith, clause_room) in
        let above : left ≡ suc (left - 1) = omega (arith, iso_room c) in
        let whole : v ≡ n = narrow_same ev (omega (arith, lines_few f)) in
        let small : u ≡ first - 1 = narrow_same eu (omega (arith, s.within)) in
        let same : last ≡ set (set index (first - 1) n) (left - 1) (first - 1) =
        el ∙ ap₂ (λ l m. set l (left - 1) m) (em ∙ ap (set index (first - 1)) whole) small in
        subst (λ l. Indexed t types rs n l (first - 1) (left - 1)) (sym same)
        (indexed_iso n r.1 (letter_iso f n r.1 c) (subst₂ (λ m i. Indexed t types rs (suc n) index m i) front above s))

-- ---- the loop

-- what the loop knows at row n, whatever file the table holds
pub record Indexing (t : List ℕ) (above lines isos : ℕ) (index₀ : List ℕ) (n : ℕ) (index : List ℕ) (first left : ℕ) : Type 0 where
  pub kept : length index ≡ length index₀
  pub holds : (rs : List Row) (types patterns : ℕ) → FileIn t types patterns lines rs → above ≡ types + patterns → isos ≡ length (isos_of rs)
      → index_length ≤ length index₀ → (above ≤ n) × (n ≤ lines) × Indexed t types rs n index first left

-- the loop begins behind the last row
pub indexing_start : (t : List ℕ) (above : ℕ) {lines isos : ℕ} (index : List ℕ) {v : ℕ} → v ≡ lines % 65536
    → {mid : List ℕ} → mid ≡ set index index_end v → {last : List ℕ} → last ≡ set mid isos index_end
    → Indexing t above lines isos last lines last index_end isos
indexing_start t above {lines} {isos} index {v} ev {mid} em {last} el =
    record {
      kept = refl;
      holds = λ rs types patterns f ea ei long.
          let whole : v ≡ lines = narrow_same ev (omega (arith, lines_few f)) in
          let same : last ≡ set (set index index_end lines) isos index_end =
          el ∙ ap (λ l. set l isos index_end) (em ∙ ap (set index index_end) whole) in (
            omega (arith, head_few f),
            omega arith,
            subst (λ l. Indexed t types rs lines l index_end isos) (sym same)
                (indexed_start f index (omega (arith, ap length el, length-set mid isos index_end, ap length em, length-set index index_end v)) ei),
          );
    }

-- one row up
pub indexing_step : {t : List ℕ} {above lines isos : ℕ} {index₀ : List ℕ} {n : ℕ} {index : List ℕ} {first left : ℕ}
    → Indexing t above lines isos index₀ n index first left → above < n
    → {last : List ℕ} {first' left' : ℕ} → length last ≡ length index
    → ((rs : List Row) (types patterns lines : ℕ) → FileIn t types patterns lines rs → n - 1 < lines → types + patterns ≤ n - 1
    → Indexed t types rs (suc (n - 1)) index first left → Indexed t types rs (n - 1) last first' left')
    → Indexing t above lines isos index₀ (n - 1) last first' left'
indexing_step {t} {above} {lines} {isos} {index₀} {n} {index} {first} {left} s h el more =
    record {
      kept = el ∙ s.kept;
      holds = λ rs types patterns f ea ei long.
          let now = s.holds rs types patterns f ea ei long in
          let here : n ≡ suc (n - 1) = omega arith in (
            omega arith,
            omega (arith, now.1),
            more rs types patterns lines f (omega (arith, now.1)) (omega arith)
                (subst (λ m. Indexed t types rs m index first left) here now.2),
          );
    }

-- the loop ends at the first row below the T and P lines
pub indexing_end : {t : List ℕ} {above lines isos : ℕ} {index₀ : List ℕ} {n : ℕ} {index : List ℕ} {first left : ℕ}
    → Indexing t above lines isos index₀ n index first left → n ≤ above
    → (rs : List Row) (types patterns : ℕ) → FileIn t types patterns lines rs → above ≡ types + patterns → isos ≡ length (isos_of rs)
    → index_length ≤ length index₀ → isos_of rs ≡ isos_at t types index 0 isos
indexing_end {t} {above} {lines} {isos} {index₀} {n} {index} {first} {left} s h rs types patterns f ea ei long =
    let now = s.holds rs types patterns f ea ei long in
    let here : n ≡ types + patterns = omega (arith, now.0) in
    let w : Indexed t types rs (types + patterns) index first left = subst (λ m. Indexed t types rs m index first left) here now.2 in
    let none : left ≡ 0 = w.number ∙ ap length (iso_rows_early f (types + patterns) (omega arith)) in
    sym (tail_whole f) ∙ w.isos ∙ ap₂ (isos_at t types index) none (ap length (tail_whole f) ∙ sym ei)
