-- Request 07, "Pair lists in and out": an iso as lines `from,to` of setting numbers, a list of such lines as a file with one iso, and what the two
-- services answer and leave in every lent area.
use Rattle.std.specs.Prelude.{ℕ, zero, suc, Bool, true, cond, not, ◌&&◌, ◌||◌, List, [], ◌∷◌, ◌++◌, ltb, leb, eqb, length}
use Rattle.std.proofs.Math.Option.{Option, none, some}
use Rattle.std.proofs.Math.ListN.{get_elem?}
use Rattle.limits.specs.Limits.{budget_bound, comma, line_feed, max_clauses, max_pairs, export_length, import_length}
use Rattle.calculus.specs.Tools.{◌>>=◌, guard, all}
use Rattle.calculus.specs.Trees.{Ty, tunit, tlist, tsum, tprod, unit_leaf, empty_leaf, left, right, pair_node, element_node, Val, vleaf, vinj, vnode, Iso}
use Rattle.calculus.specs.Refusals.{type_line, pattern_line, iso_line, clause_line, no_iso, spent, ceiling, too_many, bad_list}
use Rattle.format.specs.Lines.{Row, letter, lines, text, numeral, skip, ended, decimal, print_rows}
use Rattle.format.specs.Judge.{Seen, start, within_ceilings, after}
use Rattle.format.specs.Unfold.{isos_of}
use Rattle.calculus.specs.Reduction.{Counted, reduce}
use Rattle.calculus.specs.Lists.{free_isos, is_free}
use Rattle.law_ranking.specs.Numbering.{count, rank, unrank, types_of}
use Rattle.model.specs.Services.{Verdict, verdict, short, Outcome, gives, fails, go_on, Served, serve, Output, output_by}

-- ---- the list as bytes

-- "lines `from,to` of setting numbers": the lines of the tos from pair k on
unfoldable pub pair_line : ℕ → ℕ → List ℕ
unfolding decimal
pair_line k t = decimal k ++ (comma ∷ (decimal t ++ (line_feed ∷ [])))

abbrev pub pair_lines : ℕ → List ℕ → List ℕ
pair_lines k [] = []
pair_lines k (t ∷ ts) = pair_line k t ++ pair_lines (suc k) ts

-- the to of a text whose from is k: two numbers of the file's form, with 32 bits as setting numbers have
abbrev pub to_in : ℕ → List ℕ → Option ℕ
to_in k bs =
    numeral budget_bound bs >>= λ f.
    guard (eqb f.0 k) >>= λ _.
    skip comma f.1 >>= λ cs.
    numeral budget_bound cs >>= λ t.
    ended t.1 >>= λ _.
    some t.0

-- the to of a line, with either ending
abbrev pub to_of : ℕ → List ℕ → Option ℕ
to_of k l = text l >>= λ t. to_in k t

-- "the froms are … 0, 1, 2 and so on": the tos of lines whose froms are k, k + 1 and so on
abbrev pub tos_of : ℕ → List (List ℕ) → Option (List ℕ)
tos_of k [] = some []
tos_of k (l ∷ ls) = to_of k l >>= λ t. tos_of (suc k) ls >>= λ ts. some (t ∷ ts)

-- "a to is repeated"
abbrev pub none_twice : List ℕ → Bool
none_twice [] = true
none_twice (t ∷ ts) = all (λ u. not (eqb t u)) ts && none_twice ts

-- "up to the counts of both types, or a to is repeated or too high"
abbrev pub pairs_up : Ty → Ty → List ℕ → Bool
pairs_up a b ts = eqb (length ts) (count a) && (eqb (length ts) (count b) && (all (λ t. ltb t (count b)) ts && none_twice ts))

unfoldable pub list_of : Ty → Ty → List (List ℕ) → Option (List ℕ)
list_of a b ls = tos_of 0 ls >>= λ ts. guard (pairs_up a b ts) >>= λ _. some ts

-- ---- the file written

-- "no equal line twice": rows of one letter, each once. The number of a row is that of the row there which is equal to it, or else the next.
abbrev pub same_row : Row → Row → Bool
same_row r s = eqb (letter r.kind) (letter s.kind) && (eqb r.x s.x && (eqb r.y s.y && eqb r.z s.z))

abbrev pub find : Row → List Row → ℕ
find r [] = 0
find r (s ∷ ss) = cond (same_row r s) 0 (suc (find r ss))

abbrev pub enter : Row → List Row → List Row
enter r [] = r ∷ []
enter r (s ∷ ss) = cond (same_row r s) (s ∷ ss) (s ∷ enter r ss)

-- the rows with a tree written, and the number of its row
pub record Entry : Type 0 where
  pub rows : List Row
  pub number : ℕ

abbrev pub entry : Row → List Row → Entry
entry r rs = record { rows = enter r rs; number = find r rs }

abbrev pub type_row : ℕ → ℕ → ℕ → Row
type_row k a b = record { kind = type_line; x = k; y = a; z = b }

abbrev pub pattern_row : ℕ → ℕ → ℕ → Row
pattern_row k a b = record { kind = pattern_line; x = k; y = a; z = b }

-- "first part before second, parts before wholes"
abbrev pub write_type : Ty → List Row → Entry
write_type tunit rs = entry (type_row 0 0 0) rs
write_type (tlist a) rs = let f : Entry = write_type a rs in entry (type_row 3 f.number 0) f.rows
write_type (tsum a b) rs =
    let f : Entry = write_type a rs in
    let s : Entry = write_type b f.rows in
    entry (type_row 1 f.number s.number) s.rows
write_type (tprod a b) rs =
    let f : Entry = write_type a rs in
    let s : Entry = write_type b f.rows in
    entry (type_row 2 f.number s.number) s.rows

abbrev pub write_value : Val → List Row → Entry
write_value (vleaf unit_leaf) rs = entry (pattern_row 0 0 0) rs
write_value (vleaf empty_leaf) rs = entry (pattern_row 5 0 0) rs
write_value (vinj left v) rs = let f : Entry = write_value v rs in entry (pattern_row 2 f.number 0) f.rows
write_value (vinj right v) rs = let f : Entry = write_value v rs in entry (pattern_row 3 f.number 0) f.rows
write_value (vnode pair_node v w) rs =
    let f : Entry = write_value v rs in
    let s : Entry = write_value w f.rows in
    entry (pattern_row 4 f.number s.number) s.rows
write_value (vnode element_node v w) rs =
    let f : Entry = write_value v rs in
    let s : Entry = write_value w f.rows in
    entry (pattern_row 6 f.number s.number) s.rows

-- "P lines clause by clause, left before right": the P rows, and the C rows that name them
pub record Written : Type 0 where
  pub patterns : List Row
  pub clauses : List Row

abbrev pub clause_row : ℕ → ℕ → Row
clause_row p q = record { kind = clause_line; x = p; y = q; z = 0 }

abbrev pub iso_row : ℕ → ℕ → Row
iso_row a b = record { kind = iso_line; x = a; y = b; z = 0 }

abbrev pub write_pairs : List (Val × Val) → List Row → Written
write_pairs [] rs = record { patterns = rs; clauses = [] }
write_pairs (c ∷ cs) rs =
    let l : Entry = write_value c.0 rs in
    let r : Entry = write_value c.1 l.rows in
    let o : Written = write_pairs cs r.rows in
    record { patterns = o.patterns; clauses = clause_row l.number r.number ∷ o.clauses }

-- "one clause of closed values a pair", from pair k on
abbrev pub settings : Ty → Ty → ℕ → List ℕ → List (Val × Val)
settings a b k [] = []
settings a b k (t ∷ ts) = (unrank a k, unrank b t) ∷ settings a b (suc k) ts

-- "T lines for from-type then to-type", the P lines, the iso
unfoldable pub file_rows : Ty → Ty → List (Val × Val) → List Row
file_rows a b cs =
    let f : Entry = write_type a [] in
    let s : Entry = write_type b f.rows in
    let w : Written = write_pairs cs [] in
    s.rows ++ (w.patterns ++ (iso_row f.number s.number ∷ w.clauses))

-- "another ceiling passed in the writing": whether each row keeps the ceilings of its kind, below the rows above it
abbrev pub within_all : Seen → List Row → Bool
within_all s [] = true
within_all s (r ∷ rs) = within_ceilings s r.kind r && within_all (after s r) rs

-- ---- import

abbrev pub writing : List Row → Outcome (List ℕ)
writing rs = cond (within_all start rs) (gives (print_rows rs)) (fails (ceiling pattern_line))

abbrev pub on_list : Ty → Ty → Option (List ℕ) → Outcome (List ℕ)
on_list a b none = fails bad_list
on_list a b (some ts) = writing (file_rows a b (settings a b 0 ts))

-- "Over 32 lines in the list is 7 at line 0, tested after 15 and 18" (request 13: "import takes 128 pairs"); 20; "another ceiling …, tested last"
abbrev pub on_lines : Ty → Ty → List (List ℕ) → Outcome (List ℕ)
on_lines a b ls = cond (ltb max_clauses (length ls)) (fails (ceiling clause_line)) (on_list a b (list_of a b ls))

-- "an accepted file's two T lines": 15 for either, then "Over 4,096 values is 18, in import for either type"; a type that holds a list has more (`count`)
abbrev pub on_types : Option Ty → Option Ty → List (List ℕ) → Outcome (List ℕ)
on_types none y ls = fails no_iso
on_types (some a) none ls = fails no_iso
on_types (some a) (some b) ls = cond (ltb max_pairs (count a) || ltb max_pairs (count b)) (fails too_many) (on_lines a b ls)

unfoldable pub import_rows : List Row → ℕ → ℕ → List ℕ → Outcome (List ℕ)
unfolding types_of list_of file_rows print_rows start
import_rows rs i j list = on_types (get_elem? (types_of rs) i) (get_elem? (types_of rs) j) (lines list)

-- ---- export

-- the to of pair k: what the run of setting k gives, "with one budget for each pair"
abbrev pub to_if : ℕ → Iso → Counted Val → Option ℕ
to_if budget o r = r.0 >>= λ w. guard (leb r.1 budget) >>= λ _. some (rank w o.to)

abbrev pub to_from : List Iso → ℕ → Iso → ℕ → ℕ → Option ℕ
to_from os i o budget k = to_if budget o (reduce os i (unrank o.from k))

-- the tos of n pairs, "from 0 upwards"
abbrev pub upwards : (ℕ → Option ℕ) → ℕ → ℕ → Option (List ℕ)
upwards f k zero = some []
upwards f k (suc n) = f k >>= λ t. upwards f (suc k) n >>= λ ts. some (t ∷ ts)

abbrev pub on_pairs : Option (List ℕ) → Outcome (List ℕ)
on_pairs none = fails spent
on_pairs (some ts) = gives (pair_lines 0 ts)

-- 18: over 4,096 values, or a type of the iso or of one that it reaches holds a list (request 14)
abbrev pub too_many_pairs : List Iso → ℕ → Iso → Bool
too_many_pairs os i o = not (is_free os i) || ltb max_pairs (count o.from)

abbrev pub on_exported : List Iso → ℕ → ℕ → Option Iso → Outcome (List ℕ)
on_exported os i budget none = fails no_iso
on_exported os i budget (some o) = cond (too_many_pairs os i o) (fails too_many) (on_pairs (upwards (to_from os i o budget) 0 (count o.from)))

unfoldable pub export_rows : List Row → ℕ → ℕ → Outcome (List ℕ)
unfolding isos_of reduce pair_line free_isos
export_rows rs i budget = on_exported (isos_of rs) i budget (get_elem? (isos_of rs) i)

-- ---- the services

abbrev pub export_on : Verdict → ℕ → ℕ → Outcome (List ℕ)
export_on v i budget = go_on v (λ rs. export_rows rs i budget)

abbrev pub import_on : Verdict → ℕ → ℕ → List ℕ → Outcome (List ℕ)
import_on v i j list = go_on v (λ rs. import_rows rs i j list)

-- "into an area of 40,960 bytes"
abbrev pub export_served : List ℕ → List ℕ → List ℕ → ℕ → ℕ → List ℕ → Served (List ℕ)
export_served file table work i budget output =
    serve (short table work || ltb (length output) export_length) (verdict file) (λ rs. export_rows rs i budget) table work

unfoldable pub export_service : List ℕ → List ℕ → List ℕ → ℕ → ℕ → List ℕ → Output
unfolding verdict export_rows
export_service file table work i budget output = output_by output (export_served file table work i budget output)

-- "into an area of 65,536 bytes"
abbrev pub import_served : List ℕ → List ℕ → List ℕ → ℕ → ℕ → List ℕ → List ℕ → Served (List ℕ)
import_served file table work i j list output =
    serve (short table work || ltb (length output) import_length) (verdict file) (λ rs. import_rows rs i j list) table work

unfoldable pub import_service : List ℕ → List ℕ → List ℕ → ℕ → ℕ → List ℕ → List ℕ → Output
unfolding verdict import_rows
import_service file table work i j list output = output_by output (import_served file table work i j list output)
