-- "and the number too where a file has two faults": where one clause has a fault of 3 to 7 and no line above it has one, the refusal is the same wherever the clause
-- stands in its iso, and whatever the order of the clauses above it.
use Prim.Native.Nat.{ℕ, suc, ◌+◌, ◌≤◌, ◌<◌}
use native.Mathlib.Nat.{lt_irrefl}
use native.Mathlib.Omega.{arith}
use mathlib.Core.Path.{◌≡◌, refl, sym, ap, ap₂, ◌∙◌, subst}
use mathlib.Core.Logic.{◌⊎◌, inl, inr}
use mathlib.Core.Bool.{Bool, true, false, cond, not, ◌||◌}
use mathlib.Core.Option.{Option, none, some}
use mathlib.Core.List.{List, [], ◌∷◌, ◌++◌}
use lib.ListN.{length}
use Rattle.limits.specs.Limits.{max_clauses}
use Rattle.calculus.specs.Tools.{all, first_failing, select}
use Rattle.calculus.specs.Trees.{Ty, Pat}
use Rattle.calculus.specs.Refusals.{Kind, type_line, pattern_line, iso_line, clause_line, let_line, Refusal, misplaced, bad_field, bad_name, ceiling, too_long}
use Rattle.format.specs.Lines.{Row, lines, row_of}
use Rattle.format.specs.Judge.{Seen, start, stage, in_order, fields_fit, named, within_ceilings, judge, after_kind, after, after_all, faulty, read_from}
use Rattle.model.specs.Services.{refused, over, after_reading, verdict, answer_of, check, short, unless}
use Rattle.calculus.proofs.Basic.{and_true, or_true, true_or_left, true_or_right, bool_cases, le_leb, lt_ltb, select_true, select_false}
use Rattle.format.proofs.Turning.{after_let}
use Rattle.format.proofs.Printing.{rows≢faulty, rows_inj}
use Rattle.law_reordering.specs.Reordered.{is_clause, is_let, is_block, Exchanged, Reordered, SameButOrder}
use Rattle.law_reordering.specs.Answers.{stays, Above}
use Rattle.law_reordering.proofs.Moving.{seen}
use Rattle.law_reordering.proofs.Files.{same_over}
use Rattle.law_reordering.proofs.Reading.{Rows, read_pass, pass_read, row_clause, row_let}
use Rattle.law_reordering.proofs.Unmoved.{Stops, stops_of, of_stops, Beyond, split, join_front, join, stops_line}

-- ---- the clause

abbrev judge_as : Seen → Kind → Row → Option Refusal
judge_as s κ r = first_failing ((in_order s.above κ, misplaced κ) ∷ (fields_fit κ r, bad_field κ) ∷ (named s κ r, bad_name κ) ∷ (within_ceilings s κ r, ceiling κ) ∷ [])

module _ (ts : List Ty) (ps : List Pat) (n : ℕ) where
  -- an L line does not look at the number of clauses
  judge_let : (a : Option Kind) (k k' m : ℕ) (r : Row) → r.kind ≡ let_line → judge (seen ts ps n a k m) r ≡ judge (seen ts ps n a k' m) r
  unfolding judge
  judge_let a k k' m r e = subst (λ κ. judge_as (seen ts ps n a k m) κ r ≡ judge_as (seen ts ps n a k' m) κ r) (sym e) refl

  -- a C line is judged alike wherever one may stand
  judge_clause : (a a' : Option Kind) (k k' m m' : ℕ) → 2 ≤ stage a → 2 ≤ stage a' → k < max_clauses → k' < max_clauses → (r : Row) → r.kind ≡ clause_line
      → judge (seen ts ps n a k m) r ≡ judge (seen ts ps n a' k' m') r
  unfolding judge
  judge_clause a a' k k' m m' h h' b b' r e =
      subst (λ κ. judge_as (seen ts ps n a k m) κ r ≡ judge_as (seen ts ps n a' k' m') κ r) (sym e)
      (ap₂
      (λ o c. first_failing ((o, misplaced clause_line) ∷ (true, bad_field clause_line) ∷ (named (seen ts ps n a k m) clause_line r, bad_name clause_line) ∷ (c, ceiling clause_line) ∷ []))
      (le_leb {m = 2} {n = stage a} h ∙ sym (le_leb {m = 2} {n = stage a'} h'))
      (lt_ltb {m = k} {n = max_clauses} b ∙ sym (lt_ltb {m = k'} {n = max_clauses} b')))

  lets_stop : (xs : List (List ℕ)) → all is_let xs ≡ true → (a : Option Kind) (k k' m i i' : ℕ) {f : Refusal} {j : ℕ} {l : List ℕ}
      → Stops (seen ts ps n a k m) i xs f j l → (j' : ℕ) × Stops (seen ts ps n a k' m) i' xs f j' l
  lets_stop (x ∷ xs) h a k k' m i i' (Stops.bad e g p z) = (i', Stops.bad e g refl z)
  lets_stop (x ∷ xs) h a k k' m i i' (Stops.judged r e g p z) =
      let u = row_let x e (and_true (is_let x) (all is_let xs) h).0 in (i', Stops.judged r e (sym (judge_let a k k' m r u) ∙ g) refl z)
  lets_stop (x ∷ xs) h a k k' m i i' {f} {j} {l} (Stops.past r e g t) =
      let b = and_true (is_let x) (all is_let xs) h in
      let u = row_let x e b.0 in
      let v = lets_stop xs b.1 (some let_line) k k' (suc m) (suc i) (suc i') (subst (λ s. Stops s (suc i) xs f j l) (after_let (seen ts ps n a k m) r u) t) in
      (v.0, Stops.past r e (sym (judge_let a k k' m r u) ∙ g) (subst (λ s. Stops s (suc i') xs f v.0 l) (sym (after_let (seen ts ps n a k' m) r u)) v.1))
  lets_stop [] h a k k' m i i' {f = f} {j = j} {l = l} x'' = elim x'' [ ]

  after_clause : (a : Option Kind) (k m : ℕ) (r : Row) → r.kind ≡ clause_line → after (seen ts ps n a k m) r ≡ seen ts ps n (some clause_line) (suc k) 0
  after_clause a k m r e = ap (λ κ. after_kind κ (seen ts ps n a k m) r) e

  -- a clause stops the reading with the same refusal wherever it stands
  block_stops : (xs : List (List ℕ)) → is_block xs ≡ true → (a a' : Option Kind) (k k' m m' i i' : ℕ) → 2 ≤ stage a → 2 ≤ stage a' → k < max_clauses → k' < max_clauses
      → {f : Refusal} {j : ℕ} {l : List ℕ} → Stops (seen ts ps n a k m) i xs f j l → (j' : ℕ) × Stops (seen ts ps n a' k' m') i' xs f j' l
  block_stops (x ∷ xs) h a a' k k' m m' i i' q q' b b' (Stops.bad e g p z) = (i', Stops.bad e g refl z)
  block_stops (x ∷ xs) h a a' k k' m m' i i' q q' b b' (Stops.judged r e g p z) =
      let u = row_clause x e (and_true (is_clause x) (all is_let xs) h).0 in (i', Stops.judged r e (sym (judge_clause a a' k k' m m' q q' b b' r u) ∙ g) refl z)
  block_stops (x ∷ xs) h a a' k k' m m' i i' q q' b b' {f} {j} {l} (Stops.past r e g t) =
      let c = and_true (is_clause x) (all is_let xs) h in
      let u = row_clause x e c.0 in
      let v = lets_stop xs c.1 (some clause_line) (suc k) (suc k') 0 (suc i) (suc i') (subst (λ s. Stops s (suc i) xs f j l) (after_clause a k m r u) t) in
      (v.0, Stops.past r e (sym (judge_clause a a' k k' m m' q q' b b' r u) ∙ g) (subst (λ s. Stops s (suc i') xs f v.0 l) (sym (after_clause a' k' m' r u)) v.1))
  block_stops [] h a a' k k' m m' i i' q q' b b' {f = f} {j = j} {l = l} x6 = elim x6 [ ]

-- ---- the lines above it: types, patterns and isos are told by those that stay

abbrev core : Seen → Seen
core s = seen s.types s.patterns s.isos none 0 0

core_after : (s : Seen) (r : Row) → core (after s r) ≡ core (after (core s) r)
core_after s r = go r.kind
  where
    go : (κ : Kind) → core (after_kind κ s r) ≡ core (after_kind κ (core s) r)
    go type_line = refl
    go pattern_line = refl
    go iso_line = refl
    go clause_line = refl
    go let_line = refl

core_moved : (s : Seen) (r : Row) → (r.kind ≡ clause_line) ⊎ (r.kind ≡ let_line) → core (after s r) ≡ core s
core_moved s r (inl e) = ap (λ κ. core (after_kind κ s r)) e
core_moved s r (inr e) = ap (λ κ. core (after_kind κ s r)) e

abbrev core_by : Seen → Option Row → Seen
core_by c none = c
core_by c (some r) = core (after c r)

abbrev core_from : Seen → List (List ℕ) → Seen
core_from c [] = c
core_from c (l ∷ ls) = core_from (core_by c (row_of l)) ls

core_front : (s : Seen) (xs : List (List ℕ)) (rs : List Row) → Rows xs rs → core (after_all s rs) ≡ core_from (core s) (select stays xs)
core_front s [] [] Rows.no = refl
core_front s [] (r ∷ rs) x'' = elim x'' [ ]
core_front s (x ∷ xs) [] x4 = elim x4 [ ]
core_front s (x ∷ xs) (r ∷ rs) (Rows.more h q) = go (bool_cases (is_clause x || is_let x)) (core_front (after s r) xs rs q)
  where
    kinds : (is_clause x ≡ true) ⊎ (is_let x ≡ true) → (r.kind ≡ clause_line) ⊎ (r.kind ≡ let_line)
    kinds (inl e) = inl (row_clause x h e)
    kinds (inr e) = inr (row_let x h e)

    go : ((is_clause x || is_let x) ≡ true) ⊎ ((is_clause x || is_let x) ≡ false) → core (after_all (after s r) rs) ≡ core_from (core (after s r)) (select stays xs)
        → core (after_all (after s r) rs) ≡ core_from (core s) (select stays (x ∷ xs))
    go (inl e) p =
        p ∙ ap (λ c. core_from c (select stays xs)) (core_moved s r (kinds (or_true (is_clause x) (is_let x) e)))
        ∙ sym (ap (core_from (core s)) (select_false stays x xs (ap not e)))
    go (inr e) p =
        p ∙ ap (λ c. core_from c (select stays xs)) (core_after s r ∙ ap (core_by (core s)) (sym h))
        ∙ sym (ap (core_from (core s)) (select_true stays x xs (ap not e)))

-- ---- the lines that stay are the same in both files, in the same order

select_append : (xs ys : List (List ℕ)) → select stays (xs ++ ys) ≡ select stays xs ++ select stays ys
select_append [] ys = refl
select_append (x ∷ xs) ys = go (bool_cases (stays x)) (select_append xs ys)
  where
    go : (stays x ≡ true) ⊎ (stays x ≡ false) → select stays (xs ++ ys) ≡ select stays xs ++ select stays ys → select stays (x ∷ (xs ++ ys)) ≡ select stays (x ∷ xs) ++ select stays ys
    go (inl e) p = select_true stays x (xs ++ ys) e ∙ ap (λ zs. x ∷ zs) p ∙ sym (ap (λ zs. zs ++ select stays ys) (select_true stays x xs e))
    go (inr e) p = select_false stays x (xs ++ ys) e ∙ p ∙ sym (ap (λ zs. zs ++ select stays ys) (select_false stays x xs e))

none_stay : (xs : List (List ℕ)) → all is_let xs ≡ true → select stays xs ≡ []
none_stay [] h = refl
none_stay (x ∷ xs) h =
    let b = and_true (is_let x) (all is_let xs) h in select_false stays x xs (ap not (true_or_right (is_clause x) b.0)) ∙ none_stay xs b.1

-- a clause moves, all its lines
block_moves : (xs : List (List ℕ)) → is_block xs ≡ true → select stays xs ≡ []
block_moves [] h = refl
block_moves (x ∷ xs) h =
    let b = and_true (is_clause x) (all is_let xs) h in select_false stays x xs (ap not (true_or_left (is_let x) b.0)) ∙ none_stay xs b.1

stay_behind : (xs ys : List (List ℕ)) → is_block xs ≡ true → select stays (xs ++ ys) ≡ select stays ys
stay_behind xs ys h = select_append xs ys ∙ ap (λ zs. zs ++ select stays ys) (block_moves xs h)

exchanged_stay : {xs ys : List (List ℕ)} → Exchanged xs ys → select stays xs ≡ select stays ys
exchanged_stay x =
    let both : (a b : List (List ℕ)) → is_block a ≡ true → is_block b ≡ true → select stays (x.before ++ (a ++ (b ++ x.behind))) ≡ select stays x.before ++ select stays x.behind =
    λ a b h k. select_append x.before (a ++ (b ++ x.behind)) ∙ ap (λ zs. select stays x.before ++ zs) (stay_behind a (b ++ x.behind) h ∙ stay_behind b x.behind k) in
    ap (select stays) x.here ∙ both x.one x.two x.one_block x.two_block ∙ sym (both x.two x.one x.two_block x.one_block) ∙ sym (ap (select stays) x.there)

pub reordered_stay : {xs ys : List (List ℕ)} → Reordered xs ys → select stays xs ≡ select stays ys
reordered_stay (Reordered.same e) = ap (select stays) e
reordered_stay (Reordered.exchange x r) = exchanged_stay x ∙ reordered_stay r

front_same : (xs ys zs ws : List (List ℕ)) → xs ++ zs ≡ ys ++ ws → length xs ≡ length ys → xs ≡ ys
front_same [] [] zs ws e h = refl
front_same [] (y ∷ ys) zs ws e h = absurd (lt_irrefl 0 (omega arith))
front_same (x ∷ xs) [] zs ws e h = absurd (lt_irrefl 0 (omega arith))
front_same (x ∷ xs) (y ∷ ys) zs ws e h =
    let n : length xs ≡ length ys = omega arith in
    let a : x ≡ y = cc in
    let b : xs ++ zs ≡ ys ++ ws = cc in
    ap₂ (λ z qs. z ∷ qs) a (front_same xs ys zs ws b n)

-- a clause stands under the same I line in both: as many lines that stay stand above it, and so the same
same_above : (front front' block rest rest' : List (List ℕ)) → is_block block ≡ true → Reordered (front ++ (block ++ rest)) (front' ++ (block ++ rest'))
    → length (select stays front) ≡ length (select stays front') → select stays front ≡ select stays front'
same_above front front' block rest rest' h r n =
    front_same (select stays front) (select stays front') (select stays rest) (select stays rest')
    (sym (apart front rest) ∙ reordered_stay r ∙ apart front' rest') n
  where
    apart : (xs ys : List (List ℕ)) → select stays (xs ++ (block ++ ys)) ≡ select stays xs ++ select stays ys
    apart xs ys = select_append xs (block ++ ys) ∙ ap (λ zs. select stays xs ++ zs) (stay_behind block ys h)

-- ---- files

module _ (front front' block rest rest' : List (List ℕ)) (whole : is_block block ≡ true) (x : Above front) (y : Above front')
    (same : select stays front ≡ select stays front') (f : Refusal) (m : ℕ) where
  abbrev s : Seen
  s = after_all start x.read

  abbrev s' : Seen
  s' = after_all start y.read

  cores : core s ≡ core s'
  cores =
      core_front start front x.read (read_pass start 1 front x.read x.reads).0
      ∙ ap (core_from (core start)) same
      ∙ sym (core_front start front' y.read (read_pass start 1 front' y.read y.reads).0)

  stop : {i j : ℕ} {l : List ℕ} → Stops s i block f j l → (j' : ℕ) × (read_from start 1 (front' ++ (block ++ rest')) ≡ faulty f j')
  stop {i} {j} {l} t =
      let q = read_pass start 1 front' y.read y.reads in
      let u = block_stops s.types s.patterns s.isos block whole s.above s'.above s.clauses s'.clauses s.lets s'.lets i (length front' + 1) x.in_iso y.in_iso
      x.room y.room t in
      let here : seen s.types s.patterns s.isos s'.above s'.clauses s'.lets ≡ s' =
      ap (λ c. seen c.types c.patterns c.isos s'.above s'.clauses s'.lets) cores in
      let v = subst (λ z. Stops z (length front' + 1) block f u.0 l) here u.1 in
      (u.0, of_stops (join start 1 front' (block ++ rest') y.read q.0 q.1 (join_front s' (length front' + 1) block rest' v)))

  -- the refusal of the one clause at fault
  pub moved_refusal : read_from start 1 (front ++ (block ++ rest)) ≡ faulty f m → m ≤ length front + length block
      → (m' : ℕ) × (read_from start 1 (front' ++ (block ++ rest')) ≡ faulty f m')
  moved_refusal e low = let (l, t) = stops_of start 1 (front ++ (block ++ rest)) f m e in first l (split start 1 front (block ++ rest) t)
    where
      second : (l : List ℕ) → Stops s (length front + 1) block f m l ⊎ Beyond s (length front + 1) block rest f m l
          → (m' : ℕ) × (read_from start 1 (front' ++ (block ++ rest')) ≡ faulty f m')
      second l (inl t) = stop t
      second l (inr b) = let (k, p, q) = stops_line b.stops in absurd (lt_irrefl 0 (omega arith))

      first : (l : List ℕ) → Stops start 1 front f m l ⊎ Beyond start 1 front (block ++ rest) f m l
          → (m' : ℕ) × (read_from start 1 (front' ++ (block ++ rest')) ≡ faulty f m')
      first l (inl t) = absurd (rows≢faulty (sym x.reads ∙ of_stops t))
      first l (inr b) =
          let same_rows : b.above ≡ x.read = rows_inj (sym (pass_read 1 b.rows_are b.passes) ∙ x.reads) in
          second l (split s (length front + 1) block rest (subst (λ rs. Stops (after_all start rs) (length front + 1) (block ++ rest) f m l) same_rows b.stops))

  -- Check's number
  pub moved_number : (file other : List ℕ) → lines file ≡ front ++ (block ++ rest) → lines other ≡ front' ++ (block ++ rest') → over file ≡ false → over other ≡ false
      → read_from start 1 (lines file) ≡ faulty f m → m ≤ length front + length block
      → (table work : List ℕ) → (check file table work).answer.number ≡ (check other table work).answer.number
  unfolding check verdict
  moved_number file other here there h k e low table work =
      let (m', e') = moved_refusal (ap (read_from start 1) (sym here) ∙ e) low in
      let p = ap₂ (λ b o. cond b (refused too_long 0) (after_reading o)) h e in
      let q = ap₂ (λ b o. cond b (refused too_long 0) (after_reading o)) k (ap (read_from start 1) there ∙ e') in
      ap (λ v. (answer_of (unless (short table work) v)).number) p ∙ go (short table work) m' ∙ sym (ap (λ v. (answer_of (unless (short table work) v)).number) q)
    where
      go : (b : Bool) (m' : ℕ) → (answer_of (unless b (refused f m))).number ≡ (answer_of (unless b (refused f m'))).number
      go true m' = refl
      go false m' = refl

-- The same of two files that differ only in the order of clauses: where one clause has the fault, stands under the same I line in both, and no line above it in either has
-- one, Check's number is the same.
pub one_fault : (file other : List ℕ) → SameButOrder file other → (front front' block rest rest' : List (List ℕ)) → lines file ≡ front ++ (block ++ rest)
    → lines other ≡ front' ++ (block ++ rest') → is_block block ≡ true → Above front → Above front' → length (select stays front) ≡ length (select stays front')
    → over file ≡ false → (f : Refusal) (m : ℕ) → read_from start 1 (lines file) ≡ faulty f m → m ≤ length front + length block
    → (table work : List ℕ) → (check file table work).answer.number ≡ (check other table work).answer.number
one_fault file other r front front' block rest rest' here there h x y n k f m e low table work =
    let same = same_above front front' block rest rest' h (subst (λ z. Reordered (front ++ (block ++ rest)) z) there (subst (λ z. Reordered z (lines other)) here r)) n in
    moved_number front front' block rest rest' h x y same f m file other here there k (sym (same_over file other r) ∙ k) e low table work
