-- All pairs, from the last.
use Prim.Native.Nat.{ℕ, ◌-◌, ◌<◌, ◌≤◌}
use native.Mathlib.Nat.{le_refl}
use native.Mathlib.Omega.{arith}
use mathlib.Core.Path.{◌≡◌, refl, sym, ap, ap₂, ◌∙◌, subst}
use mathlib.Core.Logic.{◌⊎◌, inl, inr}
use mathlib.Core.Bool.{Bool, true, false, cond}
use mathlib.Core.Option.{Option, none, some}
use mathlib.Core.List.{List, [], ◌∷◌, ◌++◌, Memᴰ}
use lib.ListN.{length, get_or, take, drop, take-append-drop}
use Rattle.limits.specs.Limits.{max_nodes}
use Rattle.calculus.specs.Trees.{Ty, Pat, Val, type_nodes}
use Rattle.calculus.specs.Letters.{letters}
use Rattle.model.specs.Services.{written}
use Rattle.calculus.specs.Shapes.{Shape}
use Rattle.law_witnesses.specs.Showing.{sooner, twice, setting}
use Rattle.law_witnesses.specs.Seeking.{better, in_both, overlap_with, overlap_in, fitting}
use Rattle.calculus.proofs.Basic.{not_both, bool_cases, le_or_lt}
use Rattle.law_witnesses.proofs.Shortlex.{not_after_trans, not_after_sooner, sooner_not_after, total_order}
use Rattle.law_witnesses.proofs.Overlaps.{overlap_setting}
use Rattle.table_trees.specs.Unfolding.{cell_of, pattern_of}
use Rattle.table_walks.specs.InTable.{patterns_at}
use Rattle.fault_pairs.specs.Pairs.{Stored, nothing, text, Adds, gather, gather_all, AddsAll, Keeps, OverlapValue}
use Rattle.table_walks.proofs.Named.{rows_line, rows_end}
use Rattle.fault_pairs.proofs.Sooner.{sooner_fewer, sooner_more}
use Rattle.fault_pairs.proofs.Adding.{fits, no_fit}

-- ---- one pattern with others

pub record Inner (t : List ℕ) (base f : ℕ) (rows : List ℕ) (a : Ty) (p : Pat) (out₀ out : List ℕ) (best b y : ℕ) : Type 0 where
  pub within : y ≤ length rows
  pub few : b ≤ 127
  pub long : length out ≡ length out₀
  pub adds : AddsAll a p (patterns_at t base f (drop y rows)) out₀ out best b

pub inner_start : (t : List ℕ) (base f : ℕ) (rows : List ℕ) (a : Ty) (p : Pat) (out : List ℕ) (best : ℕ) → best ≤ 127 → Inner t base f rows a p out out best best (length rows)
inner_start t base f rows a p out best h =
    record {
      within = le_refl (length rows);
      few = h;
      long = refl;
      adds = subst (λ l. AddsAll a p l out out best best) (sym (rows_end t base f rows)) (record { by = λ s ss k x d. d });
    }

pub inner_more : (t : List ℕ) (base f : ℕ) (rows : List ℕ) {a : Ty} {p : Pat} {out₀ out out' : List ℕ} {best b b' y : ℕ} (row q : ℕ) → Inner t base f rows a p out₀ out best b y → 0 < y →
    length out' ≡ length out → b' ≤ 127
    → row ≡ get_or rows (y - 1) 0 → q ≡ cell_of t row f → Adds a p (pattern_of t base q) out out' b b' → Inner t base f rows a p out₀ out' best b' (y - 1)
inner_more t base f rows {a} {p} {out₀} {out} {out'} {best} {b} {b'} {y} row q i z e l g h d =
    let r : q ≡ cell_of t (get_or rows (y - 1) 0) f = h ∙ ap (λ n. cell_of t n f) g in
    record {
      within = omega (arith, i.within);
      few = l;
      long = e ∙ i.long;
      adds = subst (λ ps. AddsAll a p ps out₀ out' best b') (sym (rows_line t base f rows y z i.within))
          (record { by = λ s ss k x k'. (subst (λ n. Adds a p (pattern_of t base n) out out' b b') r d).by s (ss _ (Memᴰ.head refl)) k _ (i.adds.by s (λ u m. ss u (Memᴰ.tail m)) k x k') });
    }

pub inner_done : {t : List ℕ} {base f : ℕ} {rows : List ℕ} {a : Ty} {p : Pat} {out₀ out : List ℕ} {best b y : ℕ} → Inner t base f rows a p out₀ out best b y → y ≤ 0 → AddsAll a p
    (patterns_at t base f rows) out₀ out best b
inner_done {t} {base} {f} {rows} {a} {p} {out₀} {out} {best} {b} {y} i h = let e : y ≡ 0 = omega arith in subst (λ n. AddsAll a p (patterns_at t base f (drop n rows)) out₀ out best b) e i.adds

-- ---- all patterns

pub record Outer (t : List ℕ) (base f : ℕ) (rows : List ℕ) (a : Ty) (out₀ out : List ℕ) (b x : ℕ) : Type 0 where
  pub within : x ≤ length rows
  pub few : b ≤ 127
  pub long : length out ≡ length out₀
  pub keeps : Keeps a (patterns_at t base f (drop x rows)) out b

pub outer_start : (t : List ℕ) (base f : ℕ) (rows : List ℕ) (a : Ty) (out : List ℕ) → Outer t base f rows a out out 0 (length rows)
outer_start t base f rows a out =
    record {
      within = le_refl (length rows);
      few = omega arith;
      long = refl;
      keeps = subst (λ l. Keeps a l out 0) (sym (rows_end t base f rows)) (record { by = λ ss k. nothing refl });
    }

pub outer_more : (t : List ℕ) (base f : ℕ) (rows : List ℕ) {a : Ty} {out₀ out out' : List ℕ} {b b' x : ℕ} (row p : ℕ) → Outer t base f rows a out₀ out b x → 0 < x → length out' ≡ length out → b' ≤ 127
    → row ≡ get_or rows (x - 1) 0 → p ≡ cell_of t row f → AddsAll a (pattern_of t base p) (patterns_at t base f (drop x rows)) out out' b b' → Outer t base f rows a out₀ out' b' (x - 1)
outer_more t base f rows {a} {out₀} {out} {out'} {b} {b'} {x} row p o z e l g h d =
    let r : p ≡ cell_of t (get_or rows (x - 1) 0) f = h ∙ ap (λ n. cell_of t n f) g in
    let added = subst (λ n. AddsAll a (pattern_of t base n) (patterns_at t base f (drop x rows)) out out' b b') r d in
    record {
      within = omega (arith, o.within);
      few = l;
      long = e ∙ o.long;
      keeps = subst (λ ps. Keeps a ps out' b') (sym (rows_line t base f rows x z o.within))
          (record { by = λ ss k. added.by (ss _ (Memᴰ.head refl)) (λ u m. ss u (Memᴰ.tail m)) k _ (o.keeps.by (λ u m. ss u (Memᴰ.tail m)) k) });
    }

pub outer_done : {t : List ℕ} {base f : ℕ} {rows : List ℕ} {a : Ty} {out₀ out : List ℕ} {b x : ℕ} → Outer t base f rows a out₀ out b x → x ≤ 0 → Keeps a (patterns_at t base f rows) out b
outer_done {t} {base} {f} {rows} {a} {out₀} {out} {b} {x} o h = let e : x ≡ 0 = omega arith in subst (λ n. Keeps a (patterns_at t base f (drop n rows)) out b) e o.keeps

-- ---- what was gathered is the least of all pairs

sooner_trans : (u v w : Val) → sooner (letters w) (letters v) ≡ true → sooner (letters v) (letters u) ≡ true → sooner (letters w) (letters u) ≡ true
sooner_trans u v w e f = go (bool_cases (sooner (letters w) (letters u)))
  where
    go : (sooner (letters w) (letters u) ≡ true) ⊎ (sooner (letters w) (letters u) ≡ false) → sooner (letters w) (letters u) ≡ true
    go (inl h) = h
    go (inr h) = absurd (not_both f (not_after_sooner (not_after_trans (sooner_not_after (letters u) (letters w) h) (total_order (letters v) (letters w) e))))

better_assoc : (x y z : Option Val) → better (better x y) z ≡ better x (better y z)
better_assoc none y z = refl
better_assoc (some u) none z = refl
better_assoc (some u) (some v) none = go (sooner (letters v) (letters u))
  where
    go : (c : Bool) → better (cond c (some v) (some u)) none ≡ cond c (some v) (some u)
    go true = refl
    go false = refl
better_assoc (some u) (some v) (some w) = go (sooner (letters v) (letters u)) (sooner (letters w) (letters v)) refl refl
  where
    go : (b c : Bool) → sooner (letters v) (letters u) ≡ b → sooner (letters w) (letters v) ≡ c → better (cond b (some v) (some u)) (some w) ≡ better (some u) (cond c (some w) (some v))
    go true true p q = ap (λ d. cond d (some w) (some v)) q ∙ sym (ap (λ d. cond d (some w) (some u)) (sooner_trans u v w q p))
    go true false p q = ap (λ d. cond d (some w) (some v)) q ∙ sym (ap (λ d. cond d (some v) (some u)) p)
    go false true p q = refl
    go false false p q =
        ap (λ d. cond d (some w) (some u)) (not_after_sooner (not_after_trans (sooner_not_after (letters u) (letters v) p) (sooner_not_after (letters v) (letters w) q)))
        ∙ sym (ap (λ d. cond d (some v) (some u)) p)

-- of two values the sooner has at most 127 letters where either has
better_none : (x : Option Val) → better x none ≡ x
better_none none = refl
better_none (some v) = refl

fitting_better : (x y : Option Val) → fitting (better x y) ≡ better (fitting x) (fitting y)
fitting_better none y = refl
fitting_better (some v) none = sym (better_none (fitting (some v)))
fitting_better (some v) (some w) = go (le_or_lt (length (letters v)) 127) (le_or_lt (length (letters w)) 127)
  where
    both : (c : Bool) → fitting (some v) ≡ some v → fitting (some w) ≡ some w → fitting (cond c (some w) (some v)) ≡ cond c (some w) (some v)
    both true f g = g
    both false f g = f

    neither : (c : Bool) → fitting (some v) ≡ none → fitting (some w) ≡ none → fitting (cond c (some w) (some v)) ≡ none
    neither true f g = g
    neither false f g = f

    go : (length (letters v) ≤ 127) ⊎ (127 < length (letters v)) → (length (letters w) ≤ 127) ⊎ (127 < length (letters w))
        → fitting (better (some v) (some w)) ≡ better (fitting (some v)) (fitting (some w))
    go (inl h) (inl k) = both (sooner (letters w) (letters v)) (fits v h) (fits w k) ∙ sym (ap₂ better (fits v h) (fits w k))
    go (inl h) (inr k) =
        ap (λ c. fitting (cond c (some w) (some v))) (sym (sooner_more (letters w) (letters v) (omega arith)))
        ∙ fits v h ∙ sym (ap₂ better (fits v h) (no_fit w k))
    go (inr h) (inl k) =
        ap (λ c. fitting (cond c (some w) (some v))) (sym (sooner_fewer (letters w) (letters v) (omega arith)))
        ∙ fits w k ∙ sym (ap₂ better (no_fit v h) (fits w k))
    go (inr h) (inr k) = neither (sooner (letters w) (letters v)) (no_fit v h) (no_fit w k) ∙ sym (ap₂ better (no_fit v h) (no_fit w k))

gather_with : (a : Ty) (p : Pat) (qs : List Pat) (x : Option Val) → gather a p qs x ≡ better (fitting (overlap_with a p qs)) x
gather_with a p [] x = refl
gather_with a p (q ∷ qs) x =
    ap (better (fitting (in_both a p q))) (gather_with a p qs x)
    ∙ sym (better_assoc (fitting (in_both a p q)) (fitting (overlap_with a p qs)) x)
    ∙ ap (λ y. better y x) (sym (fitting_better (in_both a p q) (overlap_with a p qs)))

gather_in : (a : Ty) (ps : List Pat) → gather_all a ps ≡ fitting (overlap_in a ps)
gather_in a [] = refl
gather_in a (p ∷ ps) =
    gather_with a p ps (gather_all a ps) ∙ ap (better (fitting (overlap_with a p ps))) (gather_in a ps) ∙ sym (fitting_better (overlap_with a p ps) (overlap_in a ps))

-- the letters kept are those of the value that request 09 asks for
pub kept_setting : {a : Ty} {ps : List Pat} {out : List ℕ} {best : ℕ} → Keeps a ps out best → ((p : Pat) → Memᴰ p ps → Shape p a) → type_nodes a ≤ max_nodes
    → Stored a (setting a (twice ps)) out best
kept_setting {a} {ps} {out} {best} k s h = subst (λ x. Stored a x out best) (gather_in a ps ∙ overlap_setting a ps s) (k.by s h)

-- what is shown: the letters of the setting, then what was there
pub value_shown : {a : Ty} {ps : List Pat} {kept out out' : List ℕ} {n : ℕ} → (n ≤ 127) × Keeps a ps kept n → (take n out' ≡ take n kept) × (drop n out' ≡ drop n out)
    → OverlapValue a ps out out' n
value_shown {a} {ps} {kept} {out} {out'} {n} k e = record {
  given = λ s v h. some_shown v (subst (λ x. Stored a x kept n) h (kept_setting k.1 s.shapes s.small));
  nothing = λ s h. none_shown (subst (λ x. Stored a x kept n) h (kept_setting k.1 s.shapes s.small));
}
  where
    some_shown : (v : Val) → Stored a (some v) kept n → (n ≡ length (letters v)) × (out' ≡ written (letters v) out)
    some_shown v (text o l t) =
        (l, sym (take-append-drop n out') ∙ ap₂ ◌++◌ (e.0 ∙ t) e.1 ∙ ap (λ m. letters v ++ drop m out) l)

    none_shown : Stored a none kept n → (n ≡ 0) × (out' ≡ out)
    none_shown (nothing z) = (z, subst (λ m. drop m out' ≡ drop m out) z e.1)
