-- Several letters: what is left of the way gives what the whole gives.
use Prim.Native.Nat.{ℕ, ◌+◌, ◌<◌, ◌≤◌}
use native.Mathlib.Omega.{arith}
use mathlib.Core.Path.{◌≡◌, refl, sym, ap, ◌∙◌}
use mathlib.Core.Option.{none, some}
use mathlib.Core.List.{List, [], ◌∷◌, map}
use lib.ListN.{length, get_or, set, drop, length-set, drop_of_length-le}
use Rattle.std.specs.Prelude.{None, Some}
use Rattle.calculus.specs.Tools.{◌>>=◌}
use Rattle.law_witnesses.specs.Showing.{Move, leaf, tag, node}
use Rattle.law_witnesses.specs.Seeking.{after}
use Rattle.table_trees.specs.Unfolding.{type_of, pattern_of}
use Rattle.fault_stacks.specs.Stacks.{types_from, row_from, move_of, top_after, types_along, row_along, TypesStepped, TypesWalked, RowWalked}
use Rattle.fault_stacks.proofs.Counting.{types_end, row_end}
use Rattle.calculus.proofs.Basic.{drop_set_same, from_byte}

-- the place moves by at most one
pub top_near : (m : Move) (top : ℕ) → 0 < top → (top ≤ top_after m top + 1) × (top_after m top ≤ top + 1)
top_near (leaf l) top p = (omega arith, omega arith)
top_near (tag s) top p = (omega arith, omega arith)
top_near (node k) top p = (omega arith, omega arith)

last_line : (s : List ℕ) (v : ℕ) → length s ≡ 128 → drop 127 (set s 127 v) ≡ v ∷ []
last_line s v e = drop_set_same s 127 v (omega arith) ∙ ap (λ l. v ∷ l) (drop_of_length-le s {i = 128} (omega arith))

-- nothing is to come any more
along_none : (w : List ℕ) → types_along w [] ≡ []
along_none [] = refl
along_none (c ∷ w) = along_none w

-- ---- T lines

pub record TypesOn (t w s : List ℕ) (i n top : ℕ) : Type 0 where
  pub within : n ≤ length w
  pub lower : 127 ≤ top + n
  pub upper : top ≤ 128
  pub long : length s ≡ 128
  pub whole : types_along (drop n w) (types_from t s top) ≡ types_along w (type_of t i ∷ [])

pub types_on : (t w s : List ℕ) (i : ℕ) → length s ≡ 128 → TypesOn t w (set s 127 i) i 0 127
types_on t w s i e = record { within = omega arith; lower = omega arith; upper = omega arith; long = length-set s 127 i ∙ e; whole = ap (λ l. types_along w (map (type_of t) l)) (last_line s i e) }

pub types_more : {t w s s' : List ℕ} {i n top r : ℕ} → TypesOn t w s i n top → n < length w → top ≤ 127 → length w ≤ 127 → length s' ≡ length s → TypesStepped t (get_or w n 0) s s' top r
    → TypesOn t w s' i (n + 1) r
types_more {t} {w} {s} {s'} {i} {n} {top} {r} o h b l e st =
    let near = top_near (move_of (get_or w n 0)) top (omega (arith, o.lower)) in
    record {
      within = omega arith;
      lower = omega (arith, o.lower, near.0, st.0);
      upper = omega (arith, near.1, st.0);
      long = e ∙ o.long;
      whole = ap (types_along (drop (n + 1) w)) st.1 ∙ ap (λ x. types_along x (types_from t s top)) (sym (from_byte w n h)) ∙ o.whole;
    }

pub types_none : {t w s : List ℕ} {i n top : ℕ} → TypesOn t w s i n top → 127 < top → TypesWalked t w s i 128
types_none {t} {w} {s} {i} {n} {top} o h =
    let z = types_end t s 128 (omega (arith, o.long)) in
    let y = types_end t s top (omega (arith, o.long)) in
    z ∙ sym (along_none (drop n w)) ∙ ap (types_along (drop n w)) (sym y) ∙ o.whole

pub types_all : {t w s : List ℕ} {i n top : ℕ} → TypesOn t w s i n top → length w ≤ n → TypesWalked t w s i top
types_all {t} {w} {s} {i} {n} {top} o h = ap (λ x. types_along x (types_from t s top)) (sym (drop_of_length-le w h)) ∙ o.whole

-- ---- P lines

pub record RowOn (t : List ℕ) (base : ℕ) (w s : List ℕ) (p n top : ℕ) : Type 0 where
  pub long : length s ≡ 128
  pub whole : row_along (drop n w) (row_from t base s top) ≡ row_along w (pattern_of t base p ∷ [])

pub row_on : (t : List ℕ) (base : ℕ) (w s : List ℕ) (p : ℕ) → length s ≡ 128 → RowOn t base w (set s 127 p) p 0 127
row_on t base w s p e = record { long = length-set s 127 p ∙ e; whole = ap (λ l. row_along w (map (pattern_of t base) l)) (last_line s p e) }

module _ {t : List ℕ} {base : ℕ} {w s : List ℕ} {p n top : ℕ} (o : RowOn t base w s p n top) (h : n < length w) where
  one_more : row_along (drop n w) (row_from t base s top) ≡ (after (move_of (get_or w n 0)) (row_from t base s top) >>= λ r. row_along (drop (n + 1) w) r)
  one_more = ap (λ x. row_along x (row_from t base s top)) (from_byte w n h)

  pub row_more : (s' : List ℕ) {r : ℕ} → r ≡ top_after (move_of (get_or w n 0)) top → length s' ≡ length s → after (move_of (get_or w n 0)) (row_from t base s top) ≡ some
      (row_from t base s' (top_after (move_of (get_or w n 0)) top))
      → RowOn t base w s' p (n + 1) r
  row_more s' {r} e l st =
      record {
        long = l ∙ o.long;
        whole = ap (λ x. row_along (drop (n + 1) w) (row_from t base s' x)) e ∙ sym (one_more ∙ ap (λ x. x >>= λ z. row_along (drop (n + 1) w) z) st) ∙ o.whole;
      }

  pub row_dead : after (move_of (get_or w n 0)) (row_from t base s top) ≡ none → row_along w (pattern_of t base p ∷ []) ≡ none
  row_dead st = sym o.whole ∙ one_more ∙ ap (λ x. x >>= λ z. row_along (drop (n + 1) w) z) st

  pub row_none : 127 < top → row_along w (pattern_of t base p ∷ []) ≡ none
  row_none b = row_dead (ap (after (move_of (get_or w n 0))) (row_end t base s s top (omega (arith, o.long))))

pub row_all : {t : List ℕ} {base : ℕ} {w s : List ℕ} {p n top : ℕ} → RowOn t base w s p n top → length w ≤ n → row_along w (pattern_of t base p ∷ []) ≡ some (row_from t base s top)
row_all {t} {base} {w} {s} {p} {n} {top} o h = sym o.whole ∙ ap (λ x. row_along x (row_from t base s top)) (drop_of_length-le w h)

-- both
pub record On (t : List ℕ) (base : ℕ) (w ps ts : List ℕ) (p i n top : ℕ) : Type 0 where
  pub types : TypesOn t w ts i n top
  pub row : RowOn t base w ps p n top

pub walked_dead : (t : List ℕ) (base : ℕ) (w ps ts : List ℕ) (p i : ℕ) → row_along w (pattern_of t base p ∷ []) ≡ none → RowWalked t base w ps ts p i None
walked_dead t base w ps ts p i e = e

pub walked_all : {t : List ℕ} {base : ℕ} {w ps ts : List ℕ} {p i n top : ℕ} → On t base w ps ts p i n top → length w ≤ n → RowWalked t base w ps ts p i (Some top)
walked_all o h = (o.types.upper, row_all o.row h, types_all o.types h)
