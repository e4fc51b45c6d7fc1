-- What each row adds to the rows below it, told from the table.
use Prim.Native.Nat.{ℕ, suc, ◌+◌}
use native.Mathlib.Omega.{arith}
use mathlib.Core.Path.{◌≡◌, sym, ap, ◌∙◌}
use mathlib.Core.Option.{some}
use mathlib.Core.List.{List, [], ◌∷◌}
use lib.ListN.{length, get_elem?, length-map}
use Rattle.calculus.specs.Trees.{Ty, Pat}
use Rattle.calculus.specs.Refusals.{iso_line, clause_line, let_line}
use Rattle.format.specs.Lines.{Row}
use Rattle.format.specs.Judge.{start, after_all}
use Rattle.format.specs.Unfold.{Tail, isos_of}
use Rattle.table_trees.specs.Unfolding.{cell_of, type_of, pattern_of}
use Rattle.table_walks.specs.InTable.{let_at}
use Rattle.table_walks.specs.Walk.{FileIn, iso_rows, tail_at}
use Rattle.table_walks.proofs.Walking.{iso_types, clause_left, clause_right, let_here, tail_kind, sigs_rows, tail_early}

module _ {t : List ℕ} {types patterns lines : ℕ} {rs : List Row} (f : FileIn t types patterns lines rs) where
  abbrev type_list : List Ty
  type_list = (after_all start rs).types

  abbrev pattern_list : List Pat
  pattern_list = (after_all start rs).patterns

  module _ (n : ℕ) {r : Row} (e : get_elem? rs n ≡ some r) where
    -- an L row
    pub tail_let : r.kind ≡ let_line
        → tail_at rs n ≡ record { lets = let_at t types n ∷ (tail_at rs (suc n)).lets; clauses = (tail_at rs (suc n)).clauses; isos = (tail_at rs (suc n)).isos }
    tail_let k =
        tail_kind f n e k
        ∙ ap (λ l. record { lets = l ∷ (tail_at rs (suc n)).lets; clauses = (tail_at rs (suc n)).clauses; isos = (tail_at rs (suc n)).isos }) (let_here f n e k)

    -- a C row
    pub tail_clause : r.kind ≡ clause_line
        → tail_at rs n
        ≡ record {
          lets = [];
          clauses =
              record { line = suc n; lhs = pattern_of t types (cell_of t n 1); lets = (tail_at rs (suc n)).lets; rhs = pattern_of t types (cell_of t n 2) }
              ∷ (tail_at rs (suc n)).clauses;
          isos = (tail_at rs (suc n)).isos;
        }
    tail_clause k =
        tail_kind f n e k
        ∙ (λ i. record {
          lets = [];
          clauses =
              record { line = suc n; lhs = clause_left f n e k i; lets = (tail_at rs (suc n)).lets; rhs = clause_right f n e k i } ∷ (tail_at rs (suc n)).clauses;
          isos = (tail_at rs (suc n)).isos;
        })

    -- an I row
    pub tail_iso : r.kind ≡ iso_line
        → tail_at rs n
        ≡ record {
          lets = [];
          clauses = [];
          isos =
              record { line = suc n; from = type_of t (cell_of t n 1); to = type_of t (cell_of t n 2); clauses = (tail_at rs (suc n)).clauses }
              ∷ (tail_at rs (suc n)).isos;
        }
    tail_iso k =
        let a = iso_types f n e k in
        tail_kind f n e k
        ∙ (λ i. record {
          lets = [];
          clauses = [];
          isos = record { line = suc n; from = a.0 i; to = a.1 i; clauses = (tail_at rs (suc n)).clauses } ∷ (tail_at rs (suc n)).isos;
        })

  -- the isos below the T and P lines are all
  pub tail_whole : (tail_at rs (types + patterns)).isos ≡ isos_of rs
  unfolding isos_of
  tail_whole = ap (λ (o : Tail). o.isos) (tail_early f (types + patterns) (omega arith))

  -- as many isos as I lines
  pub iso_count : length (isos_of rs) ≡ length (iso_rows 0 rs)
  iso_count =
      sym (length-map (isos_of rs) (λ i. (i.from, i.to)))
      ∙ ap length (sigs_rows f)
      ∙ length-map (iso_rows 0 rs) (λ r. (type_of t (cell_of t r 1), type_of t (cell_of t r 2)))
