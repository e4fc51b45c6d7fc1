-- Request 07, as bytes: what Run answers of an imported file, of an exported iso, and of the import of an export.
use Prim.Native.Nat.{ℕ, zero, suc, ◌+◌, ◌≤◌, ◌<◌}
use native.Mathlib.Nat.{zero-add, add-zero, add-suc, suc-add}
use native.Mathlib.Omega.{arith}
use mathlib.Core.Path.{◌≡◌, refl, sym, ap, ap₂, ◌∙◌, subst}
use mathlib.Core.Logic.{◌⊎◌, inl, inr, ◌↔◌}
use mathlib.Core.Bool.{Bool, true, false, not, cond, ◌||◌, or-true}
use mathlib.Core.Option.{Option, none, some}
use mathlib.Core.List.{List, ◌∷◌}
use lib.Dec.{ltb, leb}
use lib.ListN.{length, get_elem?}
use Rattle.limits.specs.Limits.{max_pairs, max_clauses}
use Rattle.calculus.specs.Tools.{◌>>=◌, guard}
use Rattle.calculus.specs.Trees.{Ty, Val, Iso, invert}
use Rattle.calculus.specs.Refusals.{no_iso, no_value, too_many, ceiling, clause_line, pattern_line, bad_list, spent}
use Rattle.format.specs.Lines.{Row, lines, print_rows}
use Rattle.format.specs.Judge.{start}
use Rattle.format.specs.Unfold.{isos_of}
use Rattle.calculus.specs.Reduction.{Counted, reduce}
use Rattle.calculus.specs.Lists.{is_free}
use Rattle.calculus.specs.Letters.{letters, inhabits}
use Rattle.law_ranking.specs.Numbering.{count, rank, unrank, types_of}
use Rattle.model.specs.Services.{accepted, verdict, gives, fails, Ran, within, from, on_iso, run_rows, run_of, run, toward}
use Rattle.calculus.specs.Paper.{Of}
use Rattle.model.specs.Answers.{RunIs, strange, done}
use Rattle.law_pairlists.specs.PairLists.{upwards, on_pairs, on_exported, export_rows, tos_of, pairs_up, list_of, settings, file_rows, within_all}
use Rattle.law_pairlists.specs.PairLists.{to_if, too_many_pairs, to_from, on_list, on_lines, on_types, import_rows}
use Rattle.calculus.proofs.Basic.{bind_some, counted, not_some, guard_true, leb_le, some_bind, some_inj, none≢some, true_guard, true_and, eq_eqb, lt_ltb, not_ltb, mem_all, index_below, index_map}
use Rattle.calculus.proofs.Letters.{value_letters, inhabits_of, of_inhabits}
use Rattle.format.proofs.Turning.{isos_turn}
use Rattle.model.proofs.Runs.{accepted_good, good, preserves, halts, halted, run_iff, there_and_back, run_back}
use Rattle.model.proofs.Sizes.{free_ends}
use Rattle.law_ranking.proofs.Numbering.{unrank_inhabits, unrank_rank}
use Rattle.model.proofs.Outcomes.{fails≢gives}
use Rattle.law_ranking.proofs.Outcomes.{small_type}
use Rattle.law_pairlists.proofs.File.{closed_iso}
use Rattle.law_pairlists.proofs.List.{Taken, twice_none, settings_length, tos_length}
use Rattle.law_pairlists.proofs.Imports.{Imported, Trades, traded_run, Light, written_ceiling, import_accepted}
use Rattle.law_pairlists.proofs.Exports.{Exported, upwards_at, there_is, export_taken, export_reads, export_import}

-- the first pair that is not sent
upwards_none : (f : ℕ → Option ℕ) (k n : ℕ) → upwards f k n ≡ none → (j : ℕ) × (j < n) × (f (k + j) ≡ none)
upwards_none f k zero e = absurd (none≢some (sym e))
upwards_none f k (suc n) e = go (f k) refl (upwards_none f (suc k) n)
  where
    go : (x : Option ℕ) → f k ≡ x → (upwards f (suc k) n ≡ none → (j : ℕ) × (j < n) × (f (suc k + j) ≡ none)) → (j : ℕ) × (j < suc n) × (f (k + j) ≡ none)
    go none g h = (0, omega arith, ap f (add-zero k) ∙ g)
    go (some t) g h =
        let r = h (rest (upwards f (suc k) n) (sym (ap (λ x. x >>= λ u. upwards f (suc k) n >>= λ us. some (u ∷ us)) g) ∙ e)) in
        let l = r.1 in
        (suc r.0, omega arith, ap f (add-suc k r.0 ∙ sym (suc-add k r.0)) ∙ r.2)
      where
        rest : (x : Option (List ℕ)) → (x >>= λ us. some (t ∷ us)) ≡ none → x ≡ none
        rest none y = refl
        rest (some us) y = absurd (none≢some (sym y))

-- a run forward of a value of the from-type
run_gives : (file : List ℕ) (rs : List Row) → verdict file ≡ accepted rs → (i : ℕ) (o : Iso) → get_elem? (isos_of rs) i ≡ some o → (v w : Val) (c budget : ℕ)
    → Of v o.from → reduce (isos_of rs) i v ≡ (some w, c) → c ≤ budget → run file i false budget (letters v) ≡ gives (c, letters w)
run_gives file rs e i o p v w c budget h r l =
    (run_iff file rs e i false budget (letters v) (gives (c, letters w))).1
    (done o v w c p refl h (halts (isos_of rs) (good rs (accepted_good file rs e)) i o p v h (some w) c r) l)

-- the run of setting k of an imported file counts 1 and gives setting `to` of line k
pub import_run : (a b : Ty) (ts out : List ℕ) → Taken a b ts → (m : Trades a b ts out) → (k t budget : ℕ) → get_elem? ts k ≡ some t → 1 ≤ budget
    → run out 0 false budget (letters (unrank a k)) ≡ gives (1, letters (unrank b t))
import_run a b ts out h m k t budget e l =
    let n = index_below ts k e in
    let f = h.froms in
    run_gives out m.rows m.accepts 0 (closed_iso m.line a b (settings a b 0 ts)) (ap (λ (os : List Iso). get_elem? os 0) m.isos) (unrank a k) (unrank b t) 1 budget
    (inhabits_of (unrank a k) a (unrank_inhabits a k (omega arith))) (traded_run a b ts out h m k t e) l

-- Whatever the exported iso gives, under any budget, the import of the export gives in one application.
pub answers_alike : (file : List ℕ) (rs : List Row) → verdict file ≡ accepted rs → (i budget : ℕ) (list : List ℕ) (x : Exported rs i budget list)
    → (a b : ℕ) (out : List ℕ) (m : Imported rs a b list out) → m.from ≡ x.iso.from → m.to ≡ x.iso.to
    → (any c : ℕ) (p q : List ℕ) → run file i false any p ≡ gives (c, q) → run out 0 false 1 p ≡ gives (1, q)
answers_alike file rs e i budget list x a b out m f g any c p q r =
    let t = import_accepted file rs e a b list out m in go c q t ((run_iff file rs e i false any p (gives (c, q))).0 r)
  where
    go : (d : ℕ) (y : List ℕ) → Trades m.from m.to m.tos out → RunIs (isos_of rs) i any p (gives (d, y)) → run out 0 false 1 p ≡ gives (1, y)
    go d n t (done o v w k s y h z l) =
        let same : o ≡ x.iso = some_inj (sym s ∙ x.there) in
        let hx : Of v x.iso.from = subst (λ (n : Iso). Of v n.from) same h in
        let red = halted (isos_of rs) (good rs (accepted_good file rs e)) i o s v h z in
        ap (run out 0 false 1) y
        ∙ run_gives out t.rows t.accepts 0 (closed_iso t.line m.from m.to (settings m.from m.to 0 m.tos))
        (ap (λ (os : List Iso). get_elem? os 0) t.isos) v w 1 1 (subst (Of v) (sym f) hx)
        (export_import file rs e i budget list x a b out m f g t v w k hx red) (omega arith)

-- and back
pub answers_back : (file : List ℕ) (rs : List Row) → verdict file ≡ accepted rs → (i budget : ℕ) (list : List ℕ) (x : Exported rs i budget list)
    → (a b : ℕ) (out : List ℕ) (m : Imported rs a b list out) → m.from ≡ x.iso.from → m.to ≡ x.iso.to
    → (any c : ℕ) (p q : List ℕ) → run file i true any q ≡ gives (c, p) → run out 0 true 1 q ≡ gives (1, p)
answers_back file rs e i budget list x a b out m f g any c p q r =
    let t = import_accepted file rs e a b list out m in
    let h = (there_and_back file rs e i false any c p q).1 (sym (run_back file rs e i any q) ∙ r) in
    run_back out t.rows t.accepts 0 1 q
    ∙ (there_and_back out t.rows t.accepts 0 false 1 1 p q).0 (answers_alike file rs e i budget list x a b out m f g any c p q h)

-- The import of the export gives nothing else: whatever it gives, under any budget, the exported iso gives under some budget, its count.
pub answers_only : (file : List ℕ) (rs : List Row) → verdict file ≡ accepted rs → (i budget : ℕ) (list : List ℕ) (x : Exported rs i budget list)
    → (a b : ℕ) (out : List ℕ) (m : Imported rs a b list out) → m.from ≡ x.iso.from → m.to ≡ x.iso.to
    → (any c : ℕ) (p q : List ℕ) → run out 0 false any p ≡ gives (c, q) → (k : ℕ) × (run file i false k p ≡ gives (k, q))
answers_only file rs e i budget list x a b out m f g any c p q r =
    let t = import_accepted file rs e a b list out m in go c q t ((run_iff out t.rows t.accepts 0 false any p (gives (c, q))).0 r)
  where
    go : (d : ℕ) (y : List ℕ) → (t : Trades m.from m.to m.tos out) → RunIs (isos_of t.rows) 0 any p (gives (d, y)) → (k : ℕ) × (run file i false k p ≡ gives (k, y))
    go d n t (done o v w k s y h z l) =
        let same : o ≡ closed_iso t.line m.from m.to (settings m.from m.to 0 m.tos) = some_inj (sym s ∙ ap (λ (os : List Iso). get_elem? os 0) t.isos) in
        let hx : Of v x.iso.from = subst (Of v) f (subst (λ (n : Iso). Of v n.from) same h) in
        let u = free_ends false rs (accepted_good file rs e) i x.iso x.there x.free v hx in
        let one = export_import file rs e i budget list x a b out m f g t v u.0 u.1 hx u.2 in
        let two = halted (isos_of t.rows) (good t.rows (accepted_good out t.rows t.accepts)) 0 o s v h z in
        let alike : u.0 ≡ w = some_inj (ap (λ (r : Counted Val). r.0) (sym one ∙ two)) in (
          u.1,
          ap (run file i false u.1) y
              ∙ run_gives file rs e i x.iso x.there v u.0 u.1 u.1 hx u.2 (omega arith)
              ∙ ap (λ (r : Val). gives (u.1, letters r)) alike,
        )

-- and back
pub answers_only_back : (file : List ℕ) (rs : List Row) → verdict file ≡ accepted rs → (i budget : ℕ) (list : List ℕ) (x : Exported rs i budget list)
    → (a b : ℕ) (out : List ℕ) (m : Imported rs a b list out) → m.from ≡ x.iso.from → m.to ≡ x.iso.to
    → (any c : ℕ) (p q : List ℕ) → run out 0 true any q ≡ gives (c, p) → (k : ℕ) × (run file i true k q ≡ gives (k, p))
answers_only_back file rs e i budget list x a b out m f g any c p q r =
    let t = import_accepted file rs e a b list out m in
    let h = (there_and_back out t.rows t.accepts 0 false any c p q).1 (sym (run_back out t.rows t.accepts 0 any q) ∙ r) in
    let k = answers_only file rs e i budget list x a b out m f g any c p q h in
    (k.0, run_back file rs e i k.0 q ∙ (there_and_back file rs e i false k.0 k.0 p q).0 k.1)

-- where an iso takes values of a type, a run of it is 16 exactly for bytes that are no value of that type
strange_iff : (file : List ℕ) (rs : List Row) → verdict file ≡ accepted rs → (i : ℕ) (back : Bool) (o : Iso) → get_elem? (isos_of (toward back rs)) i ≡ some o
    → (budget : ℕ) (p : List ℕ) → (run file i back budget p ≡ fails no_value) ↔ ((v : Val) → p ≡ letters v → Of v o.from → ⊥)
strange_iff file rs e i back o s budget p =
    let h = run_iff file rs e i back budget p (fails no_value) in
    (λ r. go (h.0 r), λ f. h.1 (strange o s f))
  where
    go : RunIs (isos_of (toward back rs)) i budget p (fails no_value) → (v : Val) → p ≡ letters v → Of v o.from → ⊥
    go (strange n t none_such) v y k = none_such v y (subst (λ (z : Iso). Of v z.from) (some_inj (sym s ∙ t)) k)

-- an iso of the turned rows
turned_iso : (file : List ℕ) (rs : List Row) → verdict file ≡ accepted rs → (i : ℕ) (o : Iso) → get_elem? (isos_of rs) i ≡ some o
    → get_elem? (isos_of (toward true rs)) i ≡ some (invert o)
turned_iso file rs e i o s =
    ap (λ (os : List Iso). get_elem? os i) (isos_turn rs (accepted_good file rs e).passes) ∙ index_map invert (isos_of rs) i s

-- The import of the export refuses the same bytes with 16, there and back, under any budgets.
pub refuses_alike : (file : List ℕ) (rs : List Row) → verdict file ≡ accepted rs → (i budget : ℕ) (list : List ℕ) (x : Exported rs i budget list)
    → (a b : ℕ) (out : List ℕ) (m : Imported rs a b list out) → m.from ≡ x.iso.from → m.to ≡ x.iso.to
    → (back : Bool) (any any' : ℕ) (p : List ℕ) → (run file i back any p ≡ fails no_value) ↔ (run out 0 back any' p ≡ fails no_value)
refuses_alike file rs e i budget list x a b out m f g back any any' p = go back (import_accepted file rs e a b list out m)
  where
    own : Trades m.from m.to m.tos out → Iso
    own t = closed_iso t.line m.from m.to (settings m.from m.to 0 m.tos)

    first : (t : Trades m.from m.to m.tos out) → get_elem? (isos_of t.rows) 0 ≡ some (own t)
    first t = ap (λ (os : List Iso). get_elem? os 0) t.isos

    go : (c : Bool) → Trades m.from m.to m.tos out → (run file i c any p ≡ fails no_value) ↔ (run out 0 c any' p ≡ fails no_value)
    go false t =
        let h = strange_iff file rs e i false x.iso x.there any p in
        let k = strange_iff out t.rows t.accepts 0 false (own t) (first t) any' p in
        (λ r. k.1 (λ v y z. h.0 r v y (subst (Of v) f z)), λ r. h.1 (λ v y z. k.0 r v y (subst (Of v) (sym f) z)))
    go true t =
        let h = strange_iff file rs e i true (invert x.iso) (turned_iso file rs e i x.iso x.there) any p in
        let k = strange_iff out t.rows t.accepts 0 true (invert (own t)) (turned_iso out t.rows t.accepts 0 (own t) (first t)) any' p in
        (λ r. k.1 (λ v y z. h.0 r v y (subst (Of v) g z)), λ r. h.1 (λ v y z. k.0 r v y (subst (Of v) (sym g) z)))

-- ---- what import refuses, in order

module _ (rs : List Row) (i j : ℕ) (list : List ℕ) where
  pub import_absent_first : get_elem? (types_of rs) i ≡ none → import_rows rs i j list ≡ fails no_iso
  unfolding import_rows
  import_absent_first e = ap (λ x. on_types x (get_elem? (types_of rs) j) (lines list)) e

  -- "15 (either T line absent)"
  pub import_absent_second : get_elem? (types_of rs) j ≡ none → import_rows rs i j list ≡ fails no_iso
  unfolding import_rows
  import_absent_second e = ap (λ y. on_types (get_elem? (types_of rs) i) y (lines list)) e ∙ go (get_elem? (types_of rs) i)
    where
      go : (x : Option Ty) → on_types x none (lines list) ≡ fails no_iso
      go none = refl
      go (some a) = refl

  module _ (a b : Ty) (p : get_elem? (types_of rs) i ≡ some a) (q : get_elem? (types_of rs) j ≡ some b) where
    both : import_rows rs i j list ≡ cond (ltb max_pairs (count a) || ltb max_pairs (count b)) (fails too_many) (on_lines a b (lines list))
    unfolding import_rows
    both = ap₂ (λ x y. on_types x y (lines list)) p q

    -- "Over 4,096 values is 18, in import for either type", whatever the list
    pub import_many : (max_pairs < count a) ⊎ (max_pairs < count b) → import_rows rs i j list ≡ fails too_many
    import_many (inl h) = both ∙ ap (λ c. cond (c || ltb max_pairs (count b)) (fails too_many) (on_lines a b (lines list))) (lt_ltb h)
    import_many (inr h) = both ∙ ap (λ c. cond c (fails too_many) (on_lines a b (lines list))) (ap (λ c. ltb max_pairs (count a) || c) (lt_ltb h) ∙ or-true (ltb max_pairs (count a)))

    module _ (l : count a ≤ max_pairs) (m : count b ≤ max_pairs) where
      enough : import_rows rs i j list ≡ on_lines a b (lines list)
      enough = both ∙ ap (λ c. cond c (fails too_many) (on_lines a b (lines list))) (ap₂ ◌||◌ (not_ltb l) (not_ltb m))

      -- "Over 32 lines in the list is 7 at line 0, tested after 15 and 18"
      pub import_long : max_clauses < length (lines list) → import_rows rs i j list ≡ fails (ceiling clause_line)
      import_long h = enough ∙ ap (λ c. cond c (fails (ceiling clause_line)) (on_list a b (list_of a b (lines list)))) (lt_ltb h)

      module _ (k : length (lines list) ≤ max_clauses) where
        listed : import_rows rs i j list ≡ on_list a b (list_of a b (lines list))
        listed = enough ∙ ap (λ c. cond c (fails (ceiling clause_line)) (on_list a b (list_of a b (lines list)))) (not_ltb k)

        -- 20
        pub import_bad : list_of a b (lines list) ≡ none → import_rows rs i j list ≡ fails bad_list
        import_bad e = listed ∙ ap (on_list a b) e

        module _ (ts : List ℕ) (r : tos_of 0 (lines list) ≡ some ts) (t : Taken a b ts) where
          taken_pairs : pairs_up a b ts ≡ true
          taken_pairs =
              true_and (eq_eqb t.froms) (true_and (eq_eqb t.tos) (true_and (mem_all (λ u. ltb u (count b)) ts (λ u n. lt_ltb (t.below u n))) (twice_none t.once)))

          taken_list : list_of a b (lines list) ≡ some ts
          unfolding list_of
          taken_list = some_bind (λ us. guard (pairs_up a b us) >>= λ _. some us) r ∙ some_bind (λ _. some ts) (true_guard taken_pairs)

          -- "another ceiling passed in the writing is 7 at line 0 too, tested last"
          pub import_ceiling : within_all start (file_rows a b (settings a b 0 ts)) ≡ false → import_rows rs i j list ≡ fails (ceiling pattern_line)
          import_ceiling w =
              listed ∙ ap (on_list a b) taken_list
              ∙ ap (λ c. cond c (gives (print_rows (file_rows a b (settings a b 0 ts)))) (fails (ceiling pattern_line))) w

          pub import_given : within_all start (file_rows a b (settings a b 0 ts)) ≡ true → import_rows rs i j list ≡ gives (print_rows (file_rows a b (settings a b 0 ts)))
          import_given w =
              listed ∙ ap (on_list a b) taken_list
              ∙ ap (λ c. cond c (gives (print_rows (file_rows a b (settings a b 0 ts)))) (fails (ceiling pattern_line))) w

-- An exported list of at most 128 lines is imported between the iso's types, unless its values take more than 1,024 P lines or one of them has over 40 left and
-- right nodes.
pub export_importable : (file : List ℕ) (rs : List Row) → verdict file ≡ accepted rs → (i budget : ℕ) (list : List ℕ) (x : Exported rs i budget list)
    → (a b : ℕ) → get_elem? (types_of rs) a ≡ some x.iso.from → get_elem? (types_of rs) b ≡ some x.iso.to → count x.iso.from ≤ max_clauses
    → Light x.iso.from x.iso.to x.tos
    → import_rows rs a b list ≡ gives (print_rows (file_rows x.iso.from x.iso.to (settings x.iso.from x.iso.to 0 x.tos)))
export_importable file rs e i budget list x a b p q l r =
    let t = export_taken file rs e i budget list x in
    let f = t.froms in
    let g = t.tos in
    let z = export_reads file rs e i budget list x in
    let n = tos_length 0 (lines list) x.tos z in
    let from : Ty = x.iso.from in
    let to : Ty = x.iso.to in
    let cs : List (Val × Val) = settings from to 0 x.tos in
    let k = settings_length from to 0 x.tos in
    let sa = small_type file rs e a from p in
    let sb = small_type file rs e b to q in
    import_given rs a b list from to p q (omega arith) (omega arith) (omega arith) x.tos z t
    ((written_ceiling from to x.tos sa sb (omega arith) t).1 r)

-- ---- export and Run

module _ (rs : List Row) (i budget : ℕ) where
  pub export_absent : get_elem? (isos_of rs) i ≡ none → export_rows rs i budget ≡ fails no_iso
  unfolding export_rows
  export_absent e = ap (on_exported (isos_of rs) i budget) e

  module _ (o : Iso) (e : get_elem? (isos_of rs) i ≡ some o) where
    abbrev sends : Option (List ℕ)
    sends = upwards (to_from (isos_of rs) i o budget) 0 (count o.from)

    there : export_rows rs i budget ≡ cond (too_many_pairs (isos_of rs) i o) (fails too_many) (on_pairs sends)
    unfolding export_rows
    there = ap (on_exported (isos_of rs) i budget) e

    -- "Over 4,096 values is 18"
    pub export_many : max_pairs < count o.from → export_rows rs i budget ≡ fails too_many
    export_many h =
        there ∙ ap (λ c. cond c (fails too_many) (on_pairs sends)) (ap (λ c. not (is_free (isos_of rs) i) || c) (lt_ltb h) ∙ or-true (not (is_free (isos_of rs) i)))

    -- "or a type of the iso or of one it calls, holds a list"
    pub export_lists : is_free (isos_of rs) i ≡ false → export_rows rs i budget ≡ fails too_many
    export_lists h = there ∙ ap (λ c. cond (not c || ltb max_pairs (count o.from)) (fails too_many) (on_pairs sends)) h

    pub export_few : is_free (isos_of rs) i ≡ true → count o.from ≤ max_pairs → export_rows rs i budget ≡ on_pairs sends
    export_few f h = there ∙ ap (λ c. cond c (fails too_many) (on_pairs sends)) (ap₂ (λ x y. not x || y) f (not_ltb h))

-- what Run answers for the letters of a value of the from-type
pub run_is : (file : List ℕ) (rs : List Row) → verdict file ≡ accepted rs → (i : ℕ) (o : Iso) → get_elem? (isos_of rs) i ≡ some o → (budget : ℕ) (v : Val) → Of v o.from
    → run file i false budget (letters v) ≡ within budget (reduce (isos_of rs) i v)
unfolding run run_rows
run_is file rs e i o p budget v h =
    ap (λ x. run_of x i false budget (letters v)) e
    ∙ ap (on_iso (isos_of rs) i budget (letters v)) p
    ∙ ap (from (isos_of rs) i budget)
    (some_bind (λ u. guard (inhabits u o.from) >>= λ _. some u) (value_letters v) ∙ some_bind (λ _. some v) (true_guard (of_inhabits h)))

-- "17 (some pair's run passes the budget)": export's 17 is that of some lone run, and of no other
module _ (file : List ℕ) (rs : List Row) (e : verdict file ≡ accepted rs) (i budget : ℕ) (o : Iso) (p : get_elem? (isos_of rs) i ≡ some o)
    (free : is_free (isos_of rs) i ≡ true) where
  abbrev sent : ℕ → Option ℕ
  sent = to_from (isos_of rs) i o budget

  abbrev lone : ℕ → Ran
  lone k = run file i false budget (letters (unrank o.from k))

  -- one pair
  pair_spent : (k : ℕ) → k < count o.from → (sent k ≡ none) ↔ (lone k ≡ fails spent)
  pair_spent k h = go
    where
      typed : Of (unrank o.from k) o.from
      typed = inhabits_of (unrank o.from k) o.from (unrank_inhabits o.from k h)

      is : lone k ≡ within budget (reduce (isos_of rs) i (unrank o.from k))
      is = run_is file rs e i o p budget (unrank o.from k) typed

      by : (w : Val) (n : ℕ) → reduce (isos_of rs) i (unrank o.from k) ≡ (some w, n) → (c : Bool) → leb n budget ≡ c → (sent k ≡ none) ↔ (lone k ≡ fails spent)
      by w n g true c =
          let s : sent k ≡ some (rank w o.to) = ap (to_if budget o) g ∙ ap (λ b. guard b >>= λ _. some (rank w o.to)) c in
          let l : lone k ≡ gives (n, letters w) = is ∙ ap (within budget) g ∙ ap (λ b. cond b (gives (n, letters w)) (fails spent)) c in
          (λ x. absurd (none≢some (sym x ∙ s)), λ x. absurd (fails≢gives (sym x ∙ l)))
      by w n g false c =
          let s : sent k ≡ none = ap (to_if budget o) g ∙ ap (λ b. guard b >>= λ _. some (rank w o.to)) c in
          let l : lone k ≡ fails spent = is ∙ ap (within budget) g ∙ ap (λ b. cond b (gives (n, letters w)) (fails spent)) c in
          (λ x. l, λ x. s)

      go : (sent k ≡ none) ↔ (lone k ≡ fails spent)
      go = let (w, n, r, t) = free_ends false rs (accepted_good file rs e) i o p free (unrank o.from k) typed in by w n r (leb n budget) refl

  pub export_spent : count o.from ≤ max_pairs → (export_rows rs i budget ≡ fails spent) ↔ ((k : ℕ) × (k < count o.from) × (lone k ≡ fails spent))
  export_spent few = (
    λ x. let u = upwards_none sent 0 (count o.from) (pairs_none (upwards sent 0 (count o.from)) (sym (export_few rs i budget o p free few) ∙ x)) in
        let z = zero-add u.0 in
        let l : u.0 < count o.from = u.1 in
        (u.0, l, (pair_spent u.0 l).0 (ap sent (sym z) ∙ u.2)),
    λ x. export_few rs i budget o p free few ∙ ap on_pairs (not_some (upwards sent 0 (count o.from)) (λ ts g.
        let u = upwards_at sent 0 (count o.from) ts g in
        let n = u.0 in
        let k = x.1 in
        let t = there_is ts x.0 (omega arith) in
        none≢some (sym ((pair_spent x.0 x.1).1 x.2) ∙ ap sent (sym (zero-add x.0)) ∙ u.1 x.0 t.0 t.1))),
  )
    where
      pairs_none : (x : Option (List ℕ)) → on_pairs x ≡ fails spent → x ≡ none
      pairs_none none y = refl
      pairs_none (some ts) y = absurd (fails≢gives (sym y))

-- The to of line k is the number of what Run gives for setting k under the budget.
pub export_run : (file : List ℕ) (rs : List Row) → verdict file ≡ accepted rs → (i budget : ℕ) (list : List ℕ) (x : Exported rs i budget list)
    → (k t : ℕ) → get_elem? x.tos k ≡ some t → (c : ℕ) × (run file i false budget (letters (unrank x.iso.from k)) ≡ gives (c, letters (unrank x.iso.to t)))
export_run file rs e i budget list x k t g =
    let os : List Iso = isos_of rs in
    let u = upwards_at (to_from os i x.iso budget) 0 (count x.iso.from) x.tos x.all in
    let n = index_below x.tos k g in
    let l = u.0 in
    let f : to_from os i x.iso budget k ≡ some t = ap (to_from os i x.iso budget) (sym (zero-add k)) ∙ u.1 k t g in
    let r : Counted Val = reduce os i (unrank x.iso.from k) in
    let p = bind_some r.0 (λ w. guard (leb r.1 budget) >>= λ _. some (rank w x.iso.to)) f in
    let q = bind_some (guard (leb r.1 budget)) (λ _. some (rank p.0 x.iso.to)) p.2 in
    let s : reduce os i (unrank x.iso.from k) ≡ (some p.0, r.1) = counted p.1 refl in
    let h = inhabits_of (unrank x.iso.from k) x.iso.from (unrank_inhabits x.iso.from k (omega arith)) in
    let w = preserves os (good rs (accepted_good file rs e)) i x.iso x.there (unrank x.iso.from k) p.0 r.1 h s in
    let fin = (export_taken file rs e i budget list x).finite_to in (
      r.1,
      run_gives file rs e i x.iso x.there (unrank x.iso.from k) p.0 r.1 budget h s (leb_le r.1 budget (guard_true (leb r.1 budget) q.1))
          ∙ ap (λ v. gives (r.1, letters v)) (sym (unrank_rank p.0 x.iso.to fin (of_inhabits w)) ∙ ap (unrank x.iso.to) (some_inj q.2)),
    )
