-- Counts less others.
use Prim.Native.Nat.{ℕ, ◌+◌, ◌-◌, ◌%◌, ◌<◌, ◌≤◌}
use native.Mathlib.Nat.{mod-eq_of_lt, mod-eq-sub-mod, add-mod}
use native.Mathlib.Omega.{arith}
use mathlib.Core.Path.{◌≡◌, refl, sym, ap, ap₂, ◌∙◌, subst}
use mathlib.Core.Bool.{Bool, true, false, cond}
use mathlib.Core.Option.{Option, none, some}
use mathlib.Core.List.{List, [], ◌∷◌, Memᴰ}
use lib.Dec.{leb}
use lib.ListN.{length, get_or, drop}
use Rattle.std.specs.Prelude.{None, Some}
use Rattle.calculus.specs.Trees.{Ty, Pat}
use Rattle.law_witnesses.specs.Seeking.{how_many, ways, or_zero, also, keep, alone}
use Rattle.calculus.proofs.Basic.{leb_le, leb_false, le_leb, not_leb}
use Rattle.table_trees.specs.Unfolding.{cell_of, type_of, pattern_of}
use Rattle.table_walks.specs.InTable.{patterns_at}
use Rattle.fault_tallies.specs.Tallies.{Holds}
use Rattle.fault_stacks.specs.Stacks.{row_from, Countable, types_along, row_along, RowHolds, RowWalked}
use Rattle.fault_tallies.proofs.Counting.{held_as, below}
use Rattle.fault_gaps.specs.Gaps.{minus_of, Takes, Fitting, TakesRow, matched_by, TakesAll}
use Rattle.table_walks.proofs.Named.{rows_line, rows_end}

-- ---- the loop over places

-- ---- modulo

-- the difference from what is left over
apart : (m d x w : ℕ) → 1 < m → d < m → x < m → (d + x) % m ≡ w → minus_of m w x ≡ d
apart m d x w wide hd hx e = go (leb m (d + x)) refl
  where
    go : (b : Bool) → leb m (d + x) ≡ b → minus_of m w x ≡ d
    go true q =
        let h = leb_le m (d + x) q in
        let r : w ≡ d + x - m = sym e ∙ mod-eq-sub-mod h ∙ mod-eq_of_lt (omega arith) in
        with_leb (leb x w) refl r h
      where
        with_leb : (b : Bool) → leb x w ≡ b → w ≡ d + x - m → m ≤ d + x → cond b (w - x) (m - (x - w)) ≡ d
        with_leb true p r h = let l = leb_le x w p in absurd (omega arith)
        with_leb false p r h = let l = leb_false x w p in omega arith
    go false q =
        let h = leb_false m (d + x) q in
        let r : w ≡ d + x = sym e ∙ mod-eq_of_lt h in
        with_leb (leb x w) refl r
      where
        with_leb : (b : Bool) → leb x w ≡ b → w ≡ d + x → cond b (w - x) (m - (x - w)) ≡ d
        with_leb true p r = omega arith
        with_leb false p r = let l = leb_false x w p in absurd (omega arith)

minus_mod : (m a b : ℕ) → 1 < m → b ≤ a → minus_of m (a % m) (b % m) ≡ (a - b) % m
minus_mod m a b w h =
    let s : a - b + b ≡ a = omega arith in
    apart m ((a - b) % m) (b % m) (a % m) w (below m (a - b) w) (below m b w) (sym (add-mod (a - b) b m) ∙ ap (λ n. n % m) s)

-- the code's way
pub minus_in : (m x y : ℕ) → y ≤ x → x - y ≡ minus_of m x y
minus_in m x y h = sym (ap (λ b. cond b (x - y) (m - (y - x))) (le_leb h))

pub minus_out : (m x y : ℕ) → x < y → m - (y - x) ≡ minus_of m x y
minus_out m x y h = sym (ap (λ b. cond b (x - y) (m - (y - x))) (not_leb h))

pub held_less : {m : ℕ} {k o l : List ℕ} {W X : ℕ → ℕ} → Takes m k o l → ((r : ℕ) → X r ≤ W r) → Holds m k W → Holds m o X → Holds m l (λ r. W r - X r)
held_less {m} {W = W} {X = X} e b h g =
    record { wide = h.wide; at = λ r q. e.at r q ∙ ap₂ (minus_of m) (h.at r q) (g.at r q) ∙ minus_mod m (W r) (X r) h.wide (b r) }

-- ---- one row

module _ (t : List ℕ) (base : ℕ) (w ps ts : List ℕ) (p i : ℕ) where
  less_zero : (n : ℕ) → n ≡ n - 0
  less_zero n = omega arith

  -- a row that is dead takes nothing
  pub dead_row : RowWalked t base w ps ts p i None → (m : ℕ) (k : List ℕ) → TakesRow m k k (types_along w (type_of t i ∷ [])) (row_along w (pattern_of t base p ∷ []))
  dead_row d m k = subst (TakesRow m k k (types_along w (type_of t i ∷ []))) (sym d) (record { at = λ W f z b g. held_as (λ n. W n - 0) (λ n. less_zero (W n)) g })

  pub live_row : {r : ℕ} → RowWalked t base w ps ts p i (Some r) → {m : ℕ} {k o l : List ℕ} → RowHolds m t base ps ts o r
      → Takes m k o l → TakesRow m k l (types_along w (type_of t i ∷ [])) (row_along w (pattern_of t base p ∷ []))
  live_row {r} d {m} {k} {o} {l} c e =
      subst (TakesRow m k l (types_along w (type_of t i ∷ []))) (sym d.1)
      (subst (λ z. TakesRow m k l z (some (row_from t base ps r))) d.2
      (record { at = λ W f z b g. held_less e b g (c g.wide (f (row_from t base ps r) refl) z) }))

-- ---- all rows, from the last

-- what is left after the rows of the patterns ps
pub record TakenAll (m : ℕ) (k w : List ℕ) (ts : List Ty) (ps : List Pat) : Type 0 where
  pub long : length k ≡ 128
  pub taken : TakesAll m k w ts ps

pub none_taken : {m : ℕ} {k : List ℕ} (w : List ℕ) (ts : List Ty) → length k ≡ 128 → (1 < m → Countable ts → Holds m k (λ n. how_many n ts)) → TakenAll m k w ts []
none_taken w ts e h = record { long = e; taken = record { at = λ v f z b. held_as (λ n. how_many n ts - 0) (λ n. less (how_many n ts)) (h v z) } }
  where
    less : (n : ℕ) → n ≡ n - 0
    less n = omega arith

-- a row more or none
kept_sum : (n : ℕ) (ts : List Ty) (rows : List (List Pat)) (x : Option (List Pat)) → matched_by n ts (also x rows) ≡ or_zero (ways n ts) x + matched_by n ts rows
kept_sum n ts rows none = omega arith
kept_sum n ts rows (some r) = refl

pub one_taken : {m : ℕ} {k l w : List ℕ} {ts : List Ty} {ps : List Pat} (p : Pat) → TakenAll m k w ts ps → length l ≡ length k → TakesRow m k l ts (row_along w (p ∷ []))
    → TakenAll m l w ts (p ∷ ps)
one_taken {m} {k} {l} {w} {ts} {ps} p a e d = record { long = e ∙ a.long; taken = record { at = go } }
  where
    sum : (n : ℕ) → matched_by n ts (keep (row_along w) (alone (p ∷ ps))) ≡ or_zero (ways n ts) (row_along w (p ∷ [])) + matched_by n ts (keep (row_along w) (alone ps))
    sum n = kept_sum n ts (keep (row_along w) (alone ps)) (row_along w (p ∷ []))

    go : 1 < m → ((q : Pat) → Memᴰ q (p ∷ ps) → Fitting (row_along w (q ∷ [])) ts) → Countable ts → ((n : ℕ) → matched_by n ts (keep (row_along w) (alone (p ∷ ps))) ≤ how_many n ts)
        → Holds m l (λ n. how_many n ts - matched_by n ts (keep (row_along w) (alone (p ∷ ps))))
    go v f z b =
        held_as (λ n. how_many n ts - matched_by n ts (keep (row_along w) (alone (p ∷ ps))))
        (λ n. let s = sum n in omega arith)
        (d.at (λ n. how_many n ts - matched_by n ts (keep (row_along w) (alone ps))) (f p (Memᴰ.head refl)) z (λ n. let s = sum n in let c = b n in omega arith)
        (a.taken.at v (λ q m. f q (Memᴰ.tail m)) z (λ n. let s = sum n in let c = b n in omega arith)))

-- ---- the loop over rows

pub record RowsLeft (m : ℕ) (t : List ℕ) (base f : ℕ) (rows k w : List ℕ) (ts : List Ty) (x : ℕ) : Type 0 where
  pub within : x ≤ length rows
  pub taken : TakenAll m k w ts (patterns_at t base f (drop x rows))

pub rows_start : (m : ℕ) (t : List ℕ) (base f : ℕ) (rows w : List ℕ) {k : List ℕ} {ts ts' : List Ty} → length k ≡ 128 → ts ≡ ts'
    → (1 < m → Countable ts → Holds m k (λ n. how_many n ts)) → RowsLeft m t base f rows k w ts' (length rows)
rows_start m t base f rows w {k} {ts} {ts'} e g h =
    record {
      within = omega arith;
      taken = subst (TakenAll m k w ts') (sym (rows_end t base f rows))
          (none_taken w ts' e (subst (λ z. 1 < m → Countable z → Holds m k (λ n. how_many n z)) g h));
    }

pub rows_more : (m : ℕ) (t : List ℕ) (base f : ℕ) (rows k l w : List ℕ) (ts : List Ty) (x row q p : ℕ) → RowsLeft m t base f rows k w ts x → 0 < x → length l ≡ length k → row
    ≡ get_or rows (x - 1) 0 → q
    ≡ row → p ≡ cell_of t q f
    → TakesRow m k l ts (row_along w (pattern_of t base p ∷ [])) → RowsLeft m t base f rows l w ts (x - 1)
rows_more m t base f rows k l w ts x row q p o z e g' g h d =
    let r : p ≡ cell_of t (get_or rows (x - 1) 0) f = h ∙ ap (λ n. cell_of t n f) (g ∙ g') in
    record {
      within = omega (arith, o.within);
      taken = subst (TakenAll m l w ts) (sym (rows_line t base f rows x z o.within))
          (subst (λ n. TakenAll m l w ts (pattern_of t base n ∷ patterns_at t base f (drop x rows))) r (one_taken (pattern_of t base p) o.taken e d));
    }

pub rows_done : {m : ℕ} {t : List ℕ} {base f : ℕ} {rows k w : List ℕ} {ts : List Ty} {x : ℕ} → RowsLeft m t base f rows k w ts x → x ≤ 0
    → TakesAll m k w ts (patterns_at t base f rows)
rows_done {m} {t} {base} {f} {rows} {k} {w} {ts} {x} o h =
    let e : x ≡ 0 = omega arith in subst (λ n. TakesAll m k w ts (patterns_at t base f (drop n rows))) e o.taken.taken
