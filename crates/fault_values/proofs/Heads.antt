-- An iso of a file by its line: the row of its I line, and its clauses below.
use Prim.Native.Nat.{ℕ, suc, ◌+◌, ◌<◌}
use native.Mathlib.Nat.{add-zero, add-suc, suc-add}
use native.Mathlib.Omega.{arith}
use mathlib.Core.Path.{◌≡◌, refl, sym, ap, ◌∙◌}
use mathlib.Core.Option.{some}
use mathlib.Core.List.{List, [], ◌∷◌, Memᴰ}
use lib.ListN.{get_or, get_elem?, drop}
use Rattle.calculus.specs.Trees.{Ty, tunit, Pat, Iso}
use Rattle.calculus.specs.Refusals.{Kind, type_line, pattern_line, iso_line, clause_line, let_line}
use Rattle.format.specs.Lines.{Row}
use Rattle.format.specs.Judge.{start, after_all}
use Rattle.format.specs.Unfold.{place, tail_from, isos_of}
use Rattle.calculus.proofs.Basic.{each_nil, each_cons, index_below}
use Rattle.table_trees.specs.Unfolding.{cell_of, type_of}
use Rattle.table_walks.specs.Walk.{FileIn, tail_at}
use Rattle.table_walks.proofs.Walking.{iso_types}

-- an iso of the rows from line a on
record Headed (ts : List Ty) (ps : List Pat) (a : ℕ) (rs : List Row) (o : Iso) : Type 0 where
  at : ℕ
  row : Row
  here : get_elem? rs at ≡ some row
  kind : row.kind ≡ iso_line
  line : o.line ≡ a + at
  from : o.from ≡ get_or ts row.x tunit
  to : o.to ≡ get_or ts row.y tunit
  clauses : o.clauses ≡ (tail_from ts ps (suc (a + at)) (drop (suc at) rs)).clauses

module _ (ts : List Ty) (ps : List Pat) where
  -- behind another row
  behind : (a : ℕ) (q : Row) (rs : List Row) (o : Iso) → Headed ts ps (suc a) rs o → Headed ts ps a (q ∷ rs) o
  behind a q rs o h =
      let e : suc a + h.at ≡ a + suc h.at = suc-add a h.at ∙ sym (add-suc a h.at) in
      record {
        at = suc h.at;
        row = h.row;
        here = h.here;
        kind = h.kind;
        line = h.line ∙ e;
        from = h.from;
        to = h.to;
        clauses = h.clauses ∙ ap (λ n. (tail_from ts ps (suc n) (drop (suc h.at) rs)).clauses) e;
      }

  headed : (a : ℕ) (rs : List Row) (o : Iso) → Memᴰ o (tail_from ts ps a rs).isos → Headed ts ps a rs o
  headed a [] o = each_nil (Headed ts ps a []) o
  headed a (q ∷ rs) o = step q.kind refl (λ p m. behind a q rs p (headed (suc a) rs p m)) o
    where
      step : (k : Kind) → q.kind ≡ k → ((p : Iso) → Memᴰ p (tail_from ts ps (suc a) rs).isos → Headed ts ps a (q ∷ rs) p)
          → (p : Iso) → Memᴰ p (place ts ps k a q (tail_from ts ps (suc a) rs)).isos → Headed ts ps a (q ∷ rs) p
      step type_line e later = later
      step pattern_line e later = later
      step iso_line e later =
          each_cons (Headed ts ps a (q ∷ rs))
          (record {
            at = 0;
            row = q;
            here = refl;
            kind = e;
            line = sym (add-zero a);
            from = refl;
            to = refl;
            clauses = ap (λ n. (tail_from ts ps (suc n) rs).clauses) (sym (add-zero a));
          })
          later
      step clause_line e later = later
      step let_line e later = later

-- the iso of a line, in the table
pub record Head (t : List ℕ) (lines : ℕ) (rs : List Row) (o : Iso) : Type 0 where
  pub row : ℕ
  pub line : o.line ≡ suc row
  pub within : row < lines
  pub from : o.from ≡ type_of t (cell_of t row 1)
  pub to : o.to ≡ type_of t (cell_of t row 2)
  pub clauses : o.clauses ≡ (tail_at rs (suc row)).clauses

pub head : {t : List ℕ} {types patterns lines : ℕ} {rs : List Row} → FileIn t types patterns lines rs → (o : Iso) → Memᴰ o (isos_of rs) → Head t lines rs o
unfolding isos_of start
head {t} {types} {patterns} {lines} {rs} f o m =
    let h = headed (after_all start rs).types (after_all start rs).patterns 1 rs o m in
    let e : 1 + h.at ≡ suc h.at = omega arith in
    let types = iso_types f h.at h.here h.kind in
    record {
      row = h.at;
      line = h.line ∙ e;
      within = omega (arith, index_below rs h.at h.here, f.count);
      from = h.from ∙ types.0;
      to = h.to ∙ types.1;
      clauses = h.clauses ∙ ap (λ n. (tail_from (after_all start rs).types (after_all start rs).patterns (suc n) (drop (suc h.at) rs)).clauses) e;
    }
