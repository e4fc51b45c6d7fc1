-- The I line of an iso, and the two T lines that it names.
use Prim.Native.Nat.{ℕ, zero, suc, ◌+◌, ◌-◌, ◌≤◌, ◌<◌}
use native.Mathlib.Nat.{le_refl, le_trans, not-suc-le-zero, le_of_suc-le-suc, add-zero}
use native.Mathlib.Omega.{arith}
use mathlib.Core.Path.{◌≡◌, refl, sym, ap, ◌∙◌, subst}
use mathlib.Core.Bool.{Bool, true, false}
use mathlib.Core.Option.{some}
use mathlib.Core.List.{List, [], ◌∷◌}
use lib.ListN.{length, get_or, get_elem?, length-append}
use Rattle.calculus.specs.Trees.{Ty, tunit, Pat, Iso, invert}
use Rattle.calculus.specs.Refusals.{Kind, type_line, pattern_line, iso_line, clause_line, let_line}
use Rattle.format.specs.Lines.{Row}
use Rattle.format.specs.Judge.{Seen, start, type_tree, after_kind, after, after_all}
use Rattle.format.specs.Unfold.{tail_from, isos_of}
use Rattle.calculus.proofs.Basic.{none≢some, some_inj, index_of_map}
use Rattle.format.proofs.Passing.{Passes, done, next, Fit, judge_fit, iso_fit}
use Rattle.format.proofs.Turning.{isos_turn}
use Rattle.model.specs.Services.{toward}
use Rattle.law_ranking.specs.Numbering.{types_of}
use Rattle.law_units.specs.Units.{end_of, other_end}

abbrev row : Kind → ℕ → ℕ → ℕ → Row
row k a b c = record { kind = k; x = a; y = b; z = c }

-- no row takes a T line away
more_types : (s : Seen) (k : Kind) (r : Row) → length s.types ≤ length (after_kind k s r).types
more_types s type_line r = omega (arith, length-append s.types (type_tree s.types r ∷ []))
more_types s pattern_line r = le_refl (length s.types)
more_types s iso_line r = le_refl (length s.types)
more_types s clause_line r = le_refl (length s.types)
more_types s let_line r = le_refl (length s.types)

all_types : (s : Seen) (rs : List Row) → length s.types ≤ length (after_all s rs).types
all_types s [] = le_refl (length s.types)
all_types s (r ∷ rs) = le_trans (more_types s r.kind r) (all_types (after s r) rs)

pub there : {A : Type 0} (xs : List A) (k : ℕ) (d : A) → k < length xs → get_elem? xs k ≡ some (get_or xs k d)
there [] k d h = absurd (not-suc-le-zero h)
there (x ∷ xs) zero d h = refl
there (x ∷ xs) (suc k) d h = there xs k d (le_of_suc-le-suc h)

-- row k of some rows, the first of which is line n, is the I line of an iso
record Found (ts : List Ty) (n : ℕ) (rs : List Row) (o : Iso) : Type 0 where
  place : ℕ
  row : Row
  here : get_elem? rs place ≡ some row
  line : o.line ≡ n + place
  x : row.x < length ts
  y : row.y < length ts
  from : o.from ≡ get_or ts row.x tunit
  to : o.to ≡ get_or ts row.y tunit

later : {ts : List Ty} {n : ℕ} {r : Row} {rs : List Row} {o : Iso} → Found ts (suc n) rs o → Found ts n (r ∷ rs) o
later {n = n} f =
    record { place = suc f.place; row = f.row; here = f.here; line = omega (arith, f.line); x = f.x; y = f.y; from = f.from; to = f.to }

found : (ts : List Ty) (ps : List Pat) {s : Seen} {rs : List Row} → Passes s rs → length (after_all s rs).types ≤ length ts
    → (n i : ℕ) {o : Iso} → get_elem? (tail_from ts ps n rs).isos i ≡ some o → Found ts n rs o
found ts ps done h n i e = absurd (none≢some e)
found ts ps (next {s = s} {r = r} {rs = rs} j d) h n i {o} e =
    step r.kind r.x r.y r.z (judge_fit s r j) (le_trans (all_types (after s r) rs) h) (λ m f. found ts ps d h (suc n) m f) i e
  where
    step : (k : Kind) (a b c : ℕ) → Fit s k (row k a b c) → length (after_kind k s (row k a b c)).types ≤ length ts
        → ((m : ℕ) → get_elem? (tail_from ts ps (suc n) rs).isos m ≡ some o → Found ts (suc n) rs o)
        → (m : ℕ) → get_elem? (tail_from ts ps n (row k a b c ∷ rs)).isos m ≡ some o → Found ts n (row k a b c ∷ rs) o
    step type_line a b c f l g m e = later (g m e)
    step pattern_line a b c f l g m e = later (g m e)
    step iso_line a b c f l g zero e =
        let q = iso_fit s (row iso_line a b c) f in
        let q₀ = q.0 in
        let q₁ = q.1 in
        let p = some_inj e in
        record {
          place = 0;
          row = row iso_line a b c;
          here = refl;
          line = ap (λ (u : Iso). u.line) (sym p) ∙ sym (add-zero n);
          x = omega (arith, q₀, l);
          y = omega (arith, q₁, l);
          from = ap (λ (u : Iso). u.from) (sym p);
          to = ap (λ (u : Iso). u.to) (sym p);
        }
    step iso_line a b c f l g (suc m) e = later (g m e)
    step clause_line a b c f l g m e = later (g m e)
    step let_line a b c f l g m e = later (g m e)

-- the I line of an iso, with the T lines that it names
pub record NamedBy (rs : List Row) (o : Iso) : Type 0 where
  pub row : Row
  pub here : get_elem? rs (o.line - 1) ≡ some row
  pub from : get_elem? (types_of rs) row.x ≡ some o.from
  pub to : get_elem? (types_of rs) row.y ≡ some o.to

pub named_by : (rs : List Row) → Passes start rs → (i : ℕ) {o : Iso} → get_elem? (isos_of rs) i ≡ some o → NamedBy rs o
unfolding isos_of types_of
named_by rs d i {o} e =
    let s : Seen = after_all start rs in
    let f = found s.types s.patterns d (le_refl (length s.types)) 1 i e in
    let l = f.line in
    let k : o.line - 1 ≡ f.place = omega (arith, l) in
    record {
      row = f.row;
      here = ap (get_elem? rs) k ∙ f.here;
      from = there s.types f.row.x tunit f.x ∙ ap some (sym f.from);
      to = there s.types f.row.y tunit f.y ∙ ap some (sym f.to);
    }

-- "the T line that the iso's I line names at the other end" has the type at that end, in either direction
pub end_type : (rs : List Row) → Passes start rs → (back : Bool) (i : ℕ) {o : Iso} → get_elem? (isos_of (toward back rs)) i ≡ some o
    → get_elem? (types_of rs) (other_end rs back (some o)) ≡ some o.to
end_type rs d false i {o} e = let n = named_by rs d i e in ap (λ x. get_elem? (types_of rs) (end_of false x)) n.here ∙ n.to
end_type rs d true i {o} e =
    let k = index_of_map invert (isos_of rs) i (subst (λ os. get_elem? os i ≡ some o) (isos_turn rs d) e) in
    let n = named_by rs d i k.1 in
    ap (λ (u : Iso). get_elem? (types_of rs) (other_end rs true (some u))) (sym k.2)
    ∙ ap (λ x. get_elem? (types_of rs) (end_of true x)) n.here ∙ n.from ∙ ap (λ (u : Iso). some u.to) k.2

-- the I line of an iso, in either direction
pub end_row : (rs : List Row) → Passes start rs → (back : Bool) (i : ℕ) {o : Iso} → get_elem? (isos_of (toward back rs)) i ≡ some o
    → (r : Row) × (get_elem? rs (o.line - 1) ≡ some r)
end_row rs d false i e = let n = named_by rs d i e in (n.row, n.here)
end_row rs d true i {o} e =
    let k = index_of_map invert (isos_of rs) i (subst (λ os. get_elem? os i ≡ some o) (isos_turn rs d) e) in
    let n = named_by rs d i k.1 in
    (n.row, ap (λ (u : Iso). get_elem? rs (u.line - 1)) (sym k.2) ∙ n.here)
