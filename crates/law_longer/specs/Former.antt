-- "The checker as it stood before this request": 32 C lines in an iso and 32 lines in an imported list, all else as it is today.
use Rattle.std.specs.Prelude.{ℕ, suc, ◌≤◌, Bool, true, cond, ◌&&◌, ◌||◌, ltb, length}
use Rattle.std.proofs.Math.Option.{Option, none, some}
use mathlib.Core.List.{List, [], ◌∷◌, Memᴰ}
use Rattle.std.proofs.Math.ListN.{get_elem?}
use Rattle.limits.specs.Limits.{max_pairs, import_length}
use Rattle.calculus.specs.Tools.{first_failing}
use Rattle.calculus.specs.Trees.{Ty, Iso}
use Rattle.calculus.specs.Refusals.{Kind, type_line, pattern_line, iso_line, clause_line, let_line, Refusal, misplaced, bad_field, bad_name, ceiling, too_long, no_iso, too_many, bad_list}
use Rattle.format.specs.Lines.{Row, lines, row_of, print_rows}
use Rattle.format.specs.Judge.{Seen, start, in_order, fields_fit, named, within_ceilings, after, Reading, rows, with_row, on_row, on_judged}
use Rattle.format.specs.Unfold.{isos_of}
use Rattle.format.specs.Idle.{idle_fault}
use Rattle.calculus.specs.Clauses.{fault, iso_fault}
use Rattle.law_ranking.specs.Numbering.{count, types_of}
use Rattle.model.specs.Services.{Verdict, refused, after_reading, over, Outcome, gives, fails, Output}
use Rattle.law_witnesses.specs.Showing.{setting, shown_of}
use Rattle.law_pairlists.specs.PairLists.{list_of, settings, file_rows}
use Rattle.law_refused.specs.ByVerdict.{output_with}

abbrev pub former_clauses : ℕ
former_clauses = 32

-- the ceilings, those of C lines as they were
abbrev pub within_former : Seen → Kind → Row → Bool
within_former s type_line r = within_ceilings s type_line r
within_former s pattern_line r = within_ceilings s pattern_line r
within_former s iso_line r = within_ceilings s iso_line r
within_former s clause_line r = ltb s.clauses former_clauses
within_former s let_line r = within_ceilings s let_line r

unfoldable pub former_judge : Seen → Row → Option Refusal
former_judge s r =
    let k : Kind = r.kind in
    first_failing
    ((in_order s.above k, misplaced k)
    ∷ (fields_fit k r, bad_field k)
    ∷ (named s k r, bad_name k)
    ∷ (within_former s k r, ceiling k)
    ∷ [])

abbrev pub former_read : Seen → ℕ → List (List ℕ) → Reading
former_read s n [] = rows []
former_read s n (l ∷ ls) = on_row n (row_of l) (λ r. on_judged n (former_judge s r) (λ _. with_row r (former_read (after s r) (suc n) ls)))

unfoldable pub former : List ℕ → Verdict
unfolding over start former_judge idle_fault isos_of fault
former bs = cond (over bs) (refused too_long 0) (after_reading (former_read start 1 (lines bs)))

-- request 09's letters, of the lines as they were read
unfoldable pub former_showing : List ℕ → List ℕ
unfolding over start former_judge idle_fault isos_of iso_fault setting
former_showing bs = cond (over bs) [] (shown_of (former_read start 1 (lines bs)))

-- "within the old ceiling": no iso of over 32 clauses
abbrev pub FewClauses : List Row → Type 0
FewClauses rs = (o : Iso) → Memᴰ o (isos_of rs) → length o.clauses ≤ former_clauses

-- ---- import

abbrev pub within_all_former : Seen → List Row → Bool
within_all_former s [] = true
within_all_former s (r ∷ rs) = within_former s r.kind r && within_all_former (after s r) rs

abbrev pub former_writing : List Row → Outcome (List ℕ)
former_writing rs = cond (within_all_former start rs) (gives (print_rows rs)) (fails (ceiling pattern_line))

abbrev pub former_on_list : Ty → Ty → Option (List ℕ) → Outcome (List ℕ)
former_on_list a b none = fails bad_list
former_on_list a b (some ts) = former_writing (file_rows a b (settings a b 0 ts))

abbrev pub former_on_lines : Ty → Ty → List (List ℕ) → Outcome (List ℕ)
former_on_lines a b ls = cond (ltb former_clauses (length ls)) (fails (ceiling clause_line)) (former_on_list a b (list_of a b ls))

abbrev pub former_on_types : Option Ty → Option Ty → List (List ℕ) → Outcome (List ℕ)
former_on_types none y ls = fails no_iso
former_on_types (some a) none ls = fails no_iso
former_on_types (some a) (some b) ls = cond (ltb max_pairs (count a) || ltb max_pairs (count b)) (fails too_many) (former_on_lines a b ls)

unfoldable pub former_import_rows : List Row → ℕ → ℕ → List ℕ → Outcome (List ℕ)
unfolding types_of list_of file_rows print_rows start
former_import_rows rs i j list = former_on_types (get_elem? (types_of rs) i) (get_elem? (types_of rs) j) (lines list)

-- the service, for a file of which the verdict is `file`
abbrev pub former_import : Verdict → List ℕ → List ℕ → ℕ → ℕ → List ℕ → List ℕ → Output
former_import file table work i j list output = output_with import_length (λ rs. former_import_rows rs i j list) file table work output
