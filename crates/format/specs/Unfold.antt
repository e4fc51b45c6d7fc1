-- The rows of a file as isos over trees, and the turned rows.
use Rattle.std.specs.Prelude.{ℕ, suc, List, [], ◌∷◌, ◌++◌, get_or}
use Rattle.calculus.specs.Trees.{Ty, tunit, Pat, pleaf, unit_leaf, Let, Clause, Iso}
use Rattle.calculus.specs.Refusals.{Kind, type_line, pattern_line, iso_line, clause_line, let_line}
use Rattle.format.specs.Lines.{Row}
use Rattle.format.specs.Judge.{Seen, start, after_all}

-- what the rows from some place on hold: L lines of a clause above, C lines of an iso above, and whole isos
pub record Tail : Type 0 where
  pub lets : List Let
  pub clauses : List Clause
  pub isos : List Iso

module _ (ts : List Ty) (ps : List Pat) where
  abbrev type_at : ℕ → Ty
  type_at i = get_or ts i tunit

  abbrev pattern_at : ℕ → Pat
  pattern_at i = get_or ps i (pleaf unit_leaf)

  -- the row of line n before what follows it: an L line goes to the clause above, a C line to the iso above
  abbrev pub place : Kind → ℕ → Row → Tail → Tail
  place type_line n r o = o
  place pattern_line n r o = o
  place iso_line n r o =
      record { lets = []; clauses = []; isos = record { line = n; from = type_at r.x; to = type_at r.y; clauses = o.clauses } ∷ o.isos }
  place clause_line n r o =
      record { lets = []; clauses = record { line = n; lhs = pattern_at r.x; lets = o.lets; rhs = pattern_at r.y } ∷ o.clauses; isos = o.isos }
  place let_line n r o = record { lets = record { p = pattern_at r.x; iso = r.y; q = pattern_at r.z } ∷ o.lets; clauses = o.clauses; isos = o.isos }

  abbrev pub tail_from : ℕ → List Row → Tail
  tail_from n [] = record { lets = []; clauses = []; isos = [] }
  tail_from n (r ∷ rs) = place r.kind n r (tail_from (suc n) rs)

-- the isos of a file, numbered from 0
unfoldable pub isos_of : List Row → List Iso
unfolding start
isos_of rs = let s : Seen = after_all start rs in (tail_from s.types s.patterns 1 rs).isos

-- "T and P lines as they were, I lines with their types exchanged, C lines with their sides exchanged, the L lines of each clause
-- last to first with p and q exchanged"
abbrev pub exchange : Kind → Row → Row
exchange type_line r = r
exchange pattern_line r = r
exchange iso_line r = record { kind = r.kind; x = r.y; y = r.x; z = r.z }
exchange clause_line r = record { kind = r.kind; x = r.y; y = r.x; z = r.z }
exchange let_line r = record { kind = r.kind; x = r.z; y = r.y; z = r.x }

-- the turned rows from some place on: first the L lines of a clause above, in their new order, then the rest
pub record TurnedTail : Type 0 where
  pub held : List Row
  pub rest : List Row

abbrev pub turn_row : Kind → Row → TurnedTail → TurnedTail
turn_row type_line r o = record { held = []; rest = exchange type_line r ∷ (o.held ++ o.rest) }
turn_row pattern_line r o = record { held = []; rest = exchange pattern_line r ∷ (o.held ++ o.rest) }
turn_row iso_line r o = record { held = []; rest = exchange iso_line r ∷ (o.held ++ o.rest) }
turn_row clause_line r o = record { held = []; rest = exchange clause_line r ∷ (o.held ++ o.rest) }
turn_row let_line r o = record { held = o.held ++ (exchange let_line r ∷ []); rest = o.rest }

abbrev pub turn_from : List Row → TurnedTail
turn_from [] = record { held = []; rest = [] }
turn_from (r ∷ rs) = turn_row r.kind r (turn_from rs)

unfoldable pub turn_rows : List Row → List Row
turn_rows rs = (turn_from rs).held ++ (turn_from rs).rest
