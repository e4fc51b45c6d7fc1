-- Request 07, pair lists in and out: an imported file is accepted and answers as its list says, its export is the list, and an exported iso's list
-- pairs all settings of the two types.
use Prim.Native.Nat.{ℕ, suc, ◌+◌, ◌*◌, ◌≤◌, ◌<◌}
use native.Mathlib.Nat.{le_trans, add-zero, add-suc, suc-add, zero-add}
use native.Mathlib.Omega.{arith}
use mathlib.Core.Path.{◌≡◌, refl, sym, ap, ap₂, ◌∙◌, subst}
use mathlib.Core.Logic.{◌↔◌}
use mathlib.Core.Bool.{Bool, true, false, cond, ◌||◌, not}
use mathlib.Core.Option.{Option, none, some}
use mathlib.Core.List.Memᴰ
use mathlib.Core.List.{List, [], ◌∷◌, map, Memᴰ}
use lib.Dec.{ltb}
use lib.ListN.{length, get_elem?, length-map, length-append}
use Rattle.limits.specs.Limits.{field_bound, max_bytes, max_lines, max_clauses, max_patterns, max_nodes, max_tags, max_pairs, import_length}
use Rattle.calculus.specs.Tools.{◌>>=◌, guard, total}
use Rattle.calculus.specs.Trees.{Ty, left, right, Val, Iso, type_nodes, tags, most_tags}
use Rattle.calculus.specs.Refusals.{Kind, type_line, pattern_line, iso_line, clause_line, let_line, ceiling, too_many}
use Rattle.format.specs.Lines.{Row, lines, without_returns, decimal, print, print_rows}
use Rattle.format.specs.Judge.{start}
use Rattle.format.specs.Unfold.{isos_of}
use Rattle.calculus.specs.Reduction.{reduce}
use Rattle.law_ranking.specs.Numbering.{count, rank, unrank, types_of}
use Rattle.model.specs.Services.{accepted, verdict, over, gives, fails}
use Rattle.calculus.specs.Paper.{Of, FileOk}
use Rattle.law_pairlists.specs.PairLists.{pair_lines, tos_of, pairs_up, list_of, settings, write_pairs, file_rows, within_all, on_list, on_lines, on_types}
use Rattle.law_pairlists.specs.PairLists.{import_rows, to_if, to_from, upwards, on_pairs, on_exported, export_rows, export_on, import_on}
use Rattle.calculus.proofs.Basic.{bind_some, some_bind, some_inj, guard_true, true_guard, neither, le_leb, ltb_false, not_ltb, index_below, index_mem, each_nil, each_cons}
use Rattle.format.proofs.Printing.{WellFormed, shown, print_fields, length_print, length_print_rows, lines_print, printed_reading, concat_lines}
use Rattle.calculus.proofs.Letters.{inhabits_of}
use Rattle.model.proofs.Files.{accepted_iff}
use Rattle.model.proofs.Outcomes.{fails≢gives, gives_inj}
use Rattle.law_ranking.proofs.Outcomes.{small_type}
use Rattle.law_ranking.proofs.Numbering.{few_finite, unrank_inhabits, rank_unrank}
use Rattle.calculus.specs.Lists.{is_free, Finite}
use Rattle.model.proofs.Sizes.{of_small}
use Rattle.law_pairlists.proofs.File.{closed, SmallPair, closed_iso, FileWritten, file_written, light_pairs, pairs_within}
use Rattle.law_pairlists.proofs.Used.{Unlisted}
use Rattle.law_pairlists.proofs.Iso.{Lists, firsts, seconds, closed_nodes, closed_most, most_value, tags_nodes, closed_ok, closed_free, closed_run}
use Rattle.law_pairlists.proofs.List.{Taken, pairs_taken, lefts_all, rights_all, settings_length, settings_at, tos_printed, tos_length, decimal_few}

-- ---- an import that is not refused

pub record Imported (rs : List Row) (i j : ℕ) (list out : List ℕ) : Type 0 where
  pub from : Ty
  pub to : Ty
  pub first : get_elem? (types_of rs) i ≡ some from
  pub second : get_elem? (types_of rs) j ≡ some to
  pub few : count from ≤ max_pairs
  pub tos : List ℕ
  pub reads : tos_of 0 (lines list) ≡ some tos
  pub short : length (lines list) ≤ max_clauses
  pub taken : Taken from to tos
  pub within : within_all start (file_rows from to (settings from to 0 tos)) ≡ true
  pub bytes : out ≡ print_rows (file_rows from to (settings from to 0 tos))

module _ (rs : List Row) (i j : ℕ) (list out : List ℕ) where
  module _ (a b : Ty) (p : get_elem? (types_of rs) i ≡ some a) (q : get_elem? (types_of rs) j ≡ some b) where
    on_writing : count a ≤ max_pairs → length (lines list) ≤ max_clauses → (ts : List ℕ) → tos_of 0 (lines list) ≡ some ts → Taken a b ts
        → (c : Bool) → within_all start (file_rows a b (settings a b 0 ts)) ≡ c
        → cond c (gives (print_rows (file_rows a b (settings a b 0 ts)))) (fails (ceiling pattern_line)) ≡ gives out → Imported rs i j list out
    on_writing l m ts r t true w e =
        record { from = a; to = b; first = p; second = q; few = l; tos = ts; reads = r; short = m; taken = t; within = w; bytes = sym (gives_inj e) }
    on_writing l m ts r t false w e = absurd (fails≢gives e)

    on_tos : count a ≤ max_pairs → count b ≤ max_pairs → length (lines list) ≤ max_clauses → (x : Option (List ℕ)) → list_of a b (lines list) ≡ x → on_list a b x ≡ gives out
        → Imported rs i j list out
    unfolding list_of
    on_tos l k m none r e = absurd (fails≢gives e)
    on_tos l k m (some ts) r e =
        let f = bind_some (tos_of 0 (lines list)) (λ us. guard (pairs_up a b us) >>= λ _. some us) r in
        let g = bind_some (guard (pairs_up a b f.0)) (λ _. some f.0) f.2 in
        let s = some_inj g.2 in
        on_writing l m ts (f.1 ∙ ap some s) (subst (Taken a b) s (pairs_taken a b (few_finite a (omega arith)) (few_finite b (omega arith)) f.0 (guard_true (pairs_up a b f.0) g.1)))
        (within_all start (file_rows a b (settings a b 0 ts))) refl e

    on_short : count a ≤ max_pairs → count b ≤ max_pairs → (c : Bool) → ltb max_clauses (length (lines list)) ≡ c
        → cond c (fails (ceiling clause_line)) (on_list a b (list_of a b (lines list))) ≡ gives out → Imported rs i j list out
    on_short l k true r e = absurd (fails≢gives e)
    on_short l k false r e = on_tos l k (ltb_false max_clauses (length (lines list)) r) (list_of a b (lines list)) refl e

    on_few : (c : Bool) → (ltb max_pairs (count a) || ltb max_pairs (count b)) ≡ c → cond c (fails too_many) (on_lines a b (lines list)) ≡ gives out
        → Imported rs i j list out
    on_few true r e = absurd (fails≢gives e)
    on_few false r e =
        let h = neither (ltb max_pairs (count a)) (ltb max_pairs (count b)) r in
        on_short (ltb_false max_pairs (count a) h.0) (ltb_false max_pairs (count b) h.1) (ltb max_clauses (length (lines list))) refl e

  on_types_lem : (x y : Option Ty) → get_elem? (types_of rs) i ≡ x → get_elem? (types_of rs) j ≡ y → on_types x y (lines list) ≡ gives out → Imported rs i j list out
  on_types_lem none y p q e = absurd (fails≢gives e)
  on_types_lem (some a) none p q e = absurd (fails≢gives e)
  on_types_lem (some a) (some b) p q e = on_few a b p q (ltb max_pairs (count a) || ltb max_pairs (count b)) refl e

  pub imported : import_rows rs i j list ≡ gives out → Imported rs i j list out
  unfolding import_rows
  imported = on_types_lem (get_elem? (types_of rs) i) (get_elem? (types_of rs) j) refl refl

-- ---- printed rows are short

fields_short : (ns : List ℕ) → ((n : ℕ) → Memᴰ n ns → n < field_bound) → length (print_fields ns) ≤ length ns * 6
fields_short [] h = omega arith
fields_short (n ∷ ns) h =
    let p = fields_short ns (λ m i. h m (Memᴰ.tail i)) in
    let q = decimal_few 4 n (omega (arith, h n (Memᴰ.head refl))) in
    let r = length-append (decimal n) (print_fields ns) in
    omega arith

shown_short : (k : Kind) (x y z : ℕ) → x < field_bound → y < field_bound → z < field_bound → length (print_fields (shown (record { kind = k; x = x; y = y; z = z }))) ≤ 18
shown_short type_line x y z p q r = fields_short (x ∷ y ∷ z ∷ [])
    (each_cons (λ n. n < field_bound) p (each_cons (λ n. n < field_bound) q (each_cons (λ n. n < field_bound) r (each_nil (λ n. n < field_bound)))))
shown_short pattern_line x y z p q r = fields_short (x ∷ y ∷ z ∷ [])
    (each_cons (λ n. n < field_bound) p (each_cons (λ n. n < field_bound) q (each_cons (λ n. n < field_bound) r (each_nil (λ n. n < field_bound)))))
shown_short iso_line x y z p q r = le_trans (fields_short (x ∷ y ∷ []) (each_cons (λ n. n < field_bound) p (each_cons (λ n. n < field_bound) q (each_nil (λ n. n < field_bound))))) (omega arith)
shown_short clause_line x y z p q r = le_trans (fields_short (x ∷ y ∷ []) (each_cons (λ n. n < field_bound) p (each_cons (λ n. n < field_bound) q (each_nil (λ n. n < field_bound))))) (omega arith)
shown_short let_line x y z p q r = fields_short (x ∷ y ∷ z ∷ [])
    (each_cons (λ n. n < field_bound) p (each_cons (λ n. n < field_bound) q (each_cons (λ n. n < field_bound) r (each_nil (λ n. n < field_bound)))))

rows_short : (rs : List Row) → ((r : Row) → Memᴰ r rs → WellFormed r) → total (map (λ r. length (print r)) rs) ≤ length rs * 20
rows_short [] h = omega arith
rows_short (r ∷ rs) h =
    let w = h r (Memᴰ.head refl) in
    let p = rows_short rs (λ q m. h q (Memᴰ.tail m)) in
    let q = length_print r in
    let s = shown_short r.kind r.x r.y r.z w.x w.y w.z in
    omega arith

not_over : (rs : List Row) → length rs ≤ 1407 → ((r : Row) → Memᴰ r rs → WellFormed r) → over (print_rows rs) ≡ false
unfolding over
not_over rs l h =
    let p = length_print_rows rs in
    let q = rows_short rs h in
    let m : length (lines (print_rows rs)) ≡ length rs = ap length (lines_print rs) ∙ length-map rs print in
    ap₂ ◌||◌ (not_ltb {m = max_bytes} {n = length (print_rows rs)} (omega arith)) (not_ltb {m = max_lines} {n = length (lines (print_rows rs))} (omega arith))

-- ---- the imported file

of_unlisted : {v : Val} {a : Ty} → Finite a → Of v a → Unlisted v
of_unlisted Finite.unit Of.unit = Unlisted.unit
of_unlisted (Finite.sum x y) (Of.inj {t = left} h) = Unlisted.inj (of_unlisted x h)
of_unlisted (Finite.sum x y) (Of.inj {t = right} h) = Unlisted.inj (of_unlisted y h)
of_unlisted (Finite.product x y) (Of.pair h k) = Unlisted.pair (of_unlisted x h) (of_unlisted y k)

-- values of few nodes
wide_pairs : {a b : Ty} (cs : List (Val × Val)) → type_nodes a ≤ max_nodes → type_nodes b ≤ max_nodes
    → Lists a (firsts cs) → Lists b (seconds cs) → (c : Val × Val) → Memᴰ c cs → SmallPair max_nodes c
wide_pairs {a} {b} cs ha hb h k c m =
    let x = h.typed c.0 (Memᴰ.map (λ (d : Val × Val). d.0) m) in
    let y = k.typed c.1 (Memᴰ.map (λ (d : Val × Val). d.1) m) in
    let p = le_trans (closed_nodes h.finite x) ha in
    let q = le_trans (closed_nodes k.finite y) hb in
    record {
      unlisted = record { from = of_unlisted h.finite x; to = of_unlisted k.finite y };
      lhs = (p, le_trans (tags_nodes (closed c.0)) p);
      rhs = (q, le_trans (tags_nodes (closed c.1)) q);
    }

-- and of types whose values have at most 40 left and right nodes
pub small_pairs : {a b : Ty} (cs : List (Val × Val)) → type_nodes a ≤ max_nodes → type_nodes b ≤ max_nodes → most_tags a ≤ max_tags → most_tags b ≤ max_tags
    → Lists a (firsts cs) → Lists b (seconds cs) → (c : Val × Val) → Memᴰ c cs → SmallPair max_tags c
small_pairs {a} {b} cs ha hb ta tb h k c m =
    let p = h.typed c.0 (Memᴰ.map (λ (d : Val × Val). d.0) m) in
    let q = k.typed c.1 (Memᴰ.map (λ (d : Val × Val). d.1) m) in
    record {
      unlisted = record { from = of_unlisted h.finite p; to = of_unlisted k.finite q };
      lhs = (le_trans (closed_nodes h.finite p) ha, le_trans (closed_most h.finite p) ta);
      rhs = (le_trans (closed_nodes k.finite q) hb, le_trans (closed_most k.finite q) tb);
    }

-- what the ceilings of P lines come to: 40 left and right nodes for every value of both types, and 1,024 P lines
pub record Light (a b : Ty) (ts : List ℕ) : Type 0 where
  pub from : most_tags a ≤ max_tags
  pub to : most_tags b ≤ max_tags
  pub few : length (write_pairs (settings a b 0 ts) []).patterns ≤ max_patterns

module _ (a b : Ty) (ts : List ℕ) (ha : type_nodes a ≤ max_nodes) (hb : type_nodes b ≤ max_nodes) (l : length ts ≤ max_clauses) (t : Taken a b ts) where
  pub wide : (c : Val × Val) → Memᴰ c (settings a b 0 ts) → SmallPair max_nodes c
  wide = wide_pairs (settings a b 0 ts) ha hb (lefts_all t) (rights_all t)

  few : length (settings a b 0 ts) ≤ max_clauses
  few = let n = settings_length a b 0 ts in omega arith

  -- "another ceiling passed in the writing": over 1,024 P lines, or over 40 left and right nodes in one of them
  pub written_ceiling : (within_all start (file_rows a b (settings a b 0 ts)) ≡ true) ↔ Light a b ts
  written_ceiling = (
    there,
    λ h. pairs_within a b (settings a b 0 ts) (lefts_all t).finite (rights_all t).finite ha hb
        (small_pairs (settings a b 0 ts) ha hb h.from h.to (lefts_all t) (rights_all t)) few h.few,
  )
    where
      there : within_all start (file_rows a b (settings a b 0 ts)) ≡ true → Light a b ts
      there w =
          let x = light_pairs max_nodes a b (settings a b 0 ts) (lefts_all t).finite (rights_all t).finite ha hb wide w in
          let v = most_value a (lefts_all t).finite in
          let u = most_value b (rights_all t).finite in
          let c = Memᴰ.of_map (λ (d : Val × Val). d.0) (settings a b 0 ts) ((lefts_all t).whole v.0 v.1) in
          let d = Memᴰ.of_map (λ (d : Val × Val). d.1) (settings a b 0 ts) ((rights_all t).whole u.0 u.1) in
          let e = ap (λ z. tags (closed z)) c.2 ∙ v.2 in
          let f = ap (λ z. tags (closed z)) d.2 ∙ u.2 in
          record {
            from = subst (λ n. n ≤ max_tags) e (x.1 c.0 c.1).lhs.1;
            to = subst (λ n. n ≤ max_tags) f (x.1 d.0 d.1).rhs.1;
            few = x.0;
          }

  pub whole : Light a b ts → FileWritten a b (settings a b 0 ts) (file_rows a b (settings a b 0 ts))
  whole h = file_written a b (settings a b 0 ts) (lefts_all t).finite (rights_all t).finite ha hb (small_pairs (settings a b 0 ts) ha hb h.from h.to (lefts_all t) (rights_all t)) few h.few

  -- "into an area of 65,536 bytes"
  pub written_room : Light a b ts → length (print_rows (file_rows a b (settings a b 0 ts))) ≤ import_length
  written_room h =
      let w = whole h in
      let p = length_print_rows (file_rows a b (settings a b 0 ts)) in
      let q = rows_short (file_rows a b (settings a b 0 ts)) w.formed in
      let r = w.few in
      omega arith

pub record Trades (a b : Ty) (ts : List ℕ) (out : List ℕ) : Type 0 where
  pub small_from : type_nodes a ≤ max_nodes
  pub small_to : type_nodes b ≤ max_nodes
  pub rows : List Row
  pub accepts : verdict out ≡ accepted rows
  pub line : ℕ
  pub isos : isos_of rows ≡ closed_iso line a b (settings a b 0 ts) ∷ []

-- what import writes is accepted, and its one iso has the two types
pub written_accepted : (a b : Ty) (ts : List ℕ) → type_nodes a ≤ max_nodes → type_nodes b ≤ max_nodes → length ts ≤ max_clauses → Taken a b ts
    → within_all start (file_rows a b (settings a b 0 ts)) ≡ true → Trades a b ts (print_rows (file_rows a b (settings a b 0 ts)))
written_accepted a b ts ha hb l t w =
    let cs : List (Val × Val) = settings a b 0 ts in
    let rs : List Row = file_rows a b cs in
    let h = whole a b ts ha hb l t ((written_ceiling a b ts ha hb l t).0 w) in
    record {
      small_from = ha;
      small_to = hb;
      rows = rs;
      accepts =
          (accepted_iff (print_rows rs) rs).1 (
            record { fits = not_over rs h.few h.formed; reads = printed_reading h.passes h.formed; used = h.used },
            subst FileOk (sym h.isos) (closed_ok h.line a b cs (lefts_all t) (rights_all t)),
          );
      line = h.line;
      isos = h.isos;
    }

pub import_accepted : (file : List ℕ) (rs : List Row) → verdict file ≡ accepted rs → (i j : ℕ) (list out : List ℕ) (m : Imported rs i j list out)
    → Trades m.from m.to m.tos out
import_accepted file rs e i j list out m =
    let n = tos_length 0 (lines list) m.tos m.reads in
    let s = m.short in
    subst (Trades m.from m.to m.tos) (sym m.bytes)
    (written_accepted m.from m.to m.tos (small_type file rs e i m.from m.first) (small_type file rs e j m.to m.second) (omega arith) m.taken m.within)

-- its run of setting k counts 1 and gives setting `to` of line k
pub traded_run : (a b : Ty) (ts out : List ℕ) → Taken a b ts → (m : Trades a b ts out) → (k t : ℕ) → get_elem? ts k ≡ some t
    → reduce (isos_of m.rows) 0 (unrank a k) ≡ (some (unrank b t), 1)
traded_run a b ts out h m k t e =
    let n = index_below ts k e in
    let f = h.froms in
    let x = inhabits_of (unrank a k) a (unrank_inhabits a k (omega arith)) in
    let y = inhabits_of (unrank b t) b (unrank_inhabits b t (h.below t (index_mem ts k e))) in
    ap (λ os. reduce os 0 (unrank a k)) m.isos
    ∙ closed_run m.line a b (settings a b 0 ts) (lefts_all h) (unrank a k) (unrank b t)
    (le_leb (le_trans (of_small h.finite_from x) m.small_from)) (le_leb (le_trans (of_small h.finite_to y) m.small_to))
    (subst (λ n. Memᴰ (unrank a n, unrank b t) (settings a b 0 ts)) (zero-add k) (settings_at a b 0 ts k t e))

-- ---- its export

upwards_all : (f : ℕ → Option ℕ) (k : ℕ) (ts : List ℕ) → ((i t : ℕ) → get_elem? ts i ≡ some t → f (k + i) ≡ some t) → upwards f k (length ts) ≡ some ts
upwards_all f k [] h = refl
upwards_all f k (t ∷ ts) h =
    some_bind (λ u. upwards f (suc k) (length ts) >>= λ us. some (u ∷ us)) (ap f (sym (add-zero k)) ∙ h 0 t refl)
    ∙ some_bind (λ us. some (t ∷ us)) (upwards_all f (suc k) ts (λ i u e. ap f (suc-add k i ∙ sym (add-suc k i)) ∙ h (suc i) u e))

-- "Exporting an imported list with a budget of 1 or more gives the list"
pub traded_export : (a b : Ty) (ts out : List ℕ) → Taken a b ts → count a ≤ max_pairs → (m : Trades a b ts out) → (budget : ℕ) → 1 ≤ budget
    → export_rows m.rows 0 budget ≡ gives (pair_lines 0 ts)
unfolding export_rows
traded_export a b ts out h l m budget p =
    let os : List Iso = isos_of m.rows in
    let o : Iso = closed_iso m.line a b (settings a b 0 ts) in
    ap (on_exported os 0 budget) (ap (λ (z : List Iso). get_elem? z 0) m.isos)
    ∙ ap (λ c. cond c (fails too_many) (on_pairs (upwards (to_from os 0 o budget) 0 (count a))))
    (ap₂ (λ x y. not x || y) (ap (λ z. is_free z 0) m.isos ∙ closed_free m.line a b (settings a b 0 ts) h.finite_from h.finite_to) (not_ltb l))
    ∙ ap on_pairs (ap (upwards (to_from os 0 o budget) 0) (sym h.froms) ∙ upwards_all (to_from os 0 o budget) 0 ts each)
  where
    each : (i t : ℕ) → get_elem? ts i ≡ some t → to_from (isos_of m.rows) 0 (closed_iso m.line a b (settings a b 0 ts)) budget (0 + i) ≡ some t
    each i t e =
        ap (to_from (isos_of m.rows) 0 (closed_iso m.line a b (settings a b 0 ts)) budget) (zero-add i)
        ∙ ap (to_if budget (closed_iso m.line a b (settings a b 0 ts))) (traded_run a b ts out h m i t e)
        ∙ some_bind (λ _. some (rank (unrank b t) b)) (true_guard (le_leb p))
        ∙ ap some (rank_unrank b h.finite_to t (h.below t (index_mem ts i e)))

pub import_export : (file : List ℕ) (rs : List Row) → verdict file ≡ accepted rs → (i j : ℕ) (list out : List ℕ) → import_on (verdict file) i j list ≡ gives out
    → (budget : ℕ) → 1 ≤ budget → export_on (verdict out) 0 budget ≡ gives (without_returns list)
import_export file rs e i j list out g budget p =
    let m = imported rs i j list out (ap (λ v. import_on v i j list) (sym e) ∙ g) in
    let t = import_accepted file rs e i j list out m in
    ap (λ v. export_on v 0 budget) t.accepts
    ∙ traded_export m.from m.to m.tos out m.taken m.few t budget p
    ∙ ap gives (sym (tos_printed 0 (lines list) m.tos m.reads) ∙ ap without_returns (concat_lines list))
