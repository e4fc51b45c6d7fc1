-- A file's rows in the table, and what a walk over them from the last row to the first has come to at some row.
use Rattle.std.specs.Prelude.{ℕ, zero, suc, ◌-◌, ◌≤◌, ◌<◌, ◌≡◌, List, [], ◌∷◌, map, length, get_or, take, drop}
use Rattle.std.proofs.Math.Option.{Option, none, some}
use Rattle.std.proofs.Math.ListN.{get_elem?}
use Rattle.limits.specs.Fields.{letter_field, clause_left, clause_right}
use Rattle.limits.specs.Limits.{max_lines, max_clauses}
use Rattle.calculus.specs.Tools.{first_of}
use Rattle.calculus.specs.Trees.{Ty, tunit, pleaf, unit_leaf, Clause}
use Rattle.calculus.specs.Refusals.{Kind, type_line, pattern_line, iso_line, clause_line, let_line, Refusal}
use Rattle.format.specs.Lines.{Row, letter}
use Rattle.format.specs.Judge.{start, after_all, Passes}
use Rattle.format.specs.Unfold.{Tail, tail_from}
use Rattle.calculus.specs.Clauses.{Sigs, at, clause_fault, fault_from}
use Rattle.table_trees.specs.Unfolding.{cell_of, type_of, pattern_of}
use Rattle.table_walks.specs.InTable.{lets_in, next_row, clauses_in, sigs_in, patterns_at}

-- the table holds rows that passed: `types` T lines, then `patterns` P lines, `lines` rows in all
pub record FileIn (t : List ℕ) (types patterns lines : ℕ) (rs : List Row) : Type 0 where
  pub passes : Passes start rs
  pub count : lines ≡ length rs
  pub few : length rs ≤ max_lines
  pub type_count : types ≡ length (after_all start rs).types
  pub pattern_count : patterns ≡ length (after_all start rs).patterns
  pub type_trees : (i : ℕ) → i < types → type_of t i ≡ get_or (after_all start rs).types i tunit
  pub pattern_trees : (j : ℕ) → j < patterns → pattern_of t types j ≡ get_or (after_all start rs).patterns j (pleaf unit_leaf)
  pub letters : (k : ℕ) (r : Row) → get_elem? rs k ≡ some r → cell_of t k letter_field ≡ letter r.kind
  pub xs : (k : ℕ) (r : Row) → get_elem? rs k ≡ some r → cell_of t k 1 ≡ r.x
  pub ys : (k : ℕ) (r : Row) → get_elem? rs k ≡ some r → cell_of t k 2 ≡ r.y
  pub zs : (k : ℕ) (r : Row) → get_elem? rs k ≡ some r → cell_of t k 3 ≡ r.z

-- the rows of the I lines, numbered from n on
abbrev pub when_iso : Kind → ℕ → List ℕ → List ℕ
when_iso type_line n ns = ns
when_iso pattern_line n ns = ns
when_iso iso_line n ns = n ∷ ns
when_iso clause_line n ns = ns
when_iso let_line n ns = ns

abbrev pub iso_rows : ℕ → List Row → List ℕ
iso_rows n [] = []
iso_rows n (r ∷ rs) = when_iso r.kind n (iso_rows (suc n) rs)

-- what the rows from row n on unfold to
abbrev pub tail_at : List Row → ℕ → Tail
tail_at rs n = tail_from (after_all start rs).types (after_all start rs).patterns (suc n) (drop n rs)

-- the from- and to-type of the iso of which i I lines are the last
abbrev pub own_sig : Sigs → ℕ → Option (Ty × Ty)
own_sig sigs zero = none
own_sig sigs (suc i) = get_elem? sigs i

-- the first refusal of the clauses of an iso with these types
abbrev pub pending_fault : Sigs → Option (Ty × Ty) → List Clause → Option (Refusal × ℕ)
pending_fault sigs none cs = none
pending_fault sigs (some s) cs = first_of (λ c. at c.line (clause_fault sigs s.0 s.1 c)) cs

-- the walk at row n: the rows of the C lines of the iso above, the row where the L lines of the next C line above end and the one where the iso
-- ends, the number of I lines above, the first refusal of those clauses, the first refusal of the isos further down
pub record WalkAt (t : List ℕ) (base : ℕ) (rs : List Row) (n : ℕ) (clauses : List ℕ) (below last iso : ℕ) (pending found : Option (Refusal × ℕ)) : Type 0 where
  pub further : n ≤ below
  pub lets : (tail_at rs n).lets ≡ lets_in t base n (below - n)
  pub nearest : below ≡ next_row clauses last
  pub whole : (tail_at rs n).clauses ≡ clauses_in t base clauses last
  pub lefts : map (λ c. c.lhs) (tail_at rs n).clauses ≡ patterns_at t base clause_left clauses
  pub rights : map (λ c. c.rhs) (tail_at rs n).clauses ≡ patterns_at t base clause_right clauses
  pub fewer : length clauses ≤ max_clauses
  pub number : iso ≡ length (iso_rows 0 (take n rs))
  pub clause_faults : pending ≡ pending_fault (sigs_in t (iso_rows 0 rs)) (own_sig (sigs_in t (iso_rows 0 rs)) iso) (tail_at rs n).clauses
  pub iso_faults : found ≡ fault_from (sigs_in t (iso_rows 0 rs)) iso (tail_at rs n).isos
