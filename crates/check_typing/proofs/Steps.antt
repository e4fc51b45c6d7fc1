-- The way down through parts that alone matter, and the fit of lines in the code's entries.
use Prim.Native.Nat.{ℕ, suc, ◌+◌, ◌-◌, ◌<◌, ◌≤◌}
use native.Mathlib.Omega.{arith}
use mathlib.Core.Path.{◌≡◌, refl, sym, ap, ◌∙◌, subst}
use mathlib.Core.Logic.{◌⊎◌, inl, inr}
use mathlib.Core.Bool.{Bool, true, false, cond}
use mathlib.Core.Option.{Option}
use mathlib.Core.List.{List}
use lib.Dec.{ltb, eqb}
use lib.ListN.{length}
use borrow.Author.Tests.{ltb-true, ltb-false, eqb-true, eqb-false}
use Rattle.limits.specs.Limits.{max_lines, row_width, table_length}
use Rattle.calculus.specs.Trees.{Ty, Pat, pvar}
use Rattle.calculus.specs.Slots.{Slots}
use Rattle.calculus.proofs.Basic.{bool_cases}
use Rattle.table_trees.specs.Unfolding.{cell_of, smaller_of, type_of, pattern_of}
use Rattle.table_trees.proofs.Cases.{Injects, lefts, rights, Plain}
use Rattle.table_trees.proofs.Unfolding.{rank, rank_within}
use Rattle.check_shapes.specs.Naming.{names_nothing}
use Rattle.check_shapes.proofs.Sameness.{is_whole, is_naming}
use Rattle.check_bare.specs.Bare.{Bare}
use Rattle.std.specs.Prelude as O
use Rattle.std.specs.Prelude.{None, Some}
use Rattle.table_parts.specs.Naming.{Named, Parts}
use Rattle.table_parts.specs.declared.Lines.{Lines}
use Rattle.check_typing.specs.Fitting.{fit_all, view_of, Fitted, HasParts, of_left, of_right, Ready, Alike, Earlier, Stepped, Reached, list_part}
use Rattle.check_typing.proofs.Meeting.{bare_same, fit_unit, fit_unit_not, fit_var, fit_tag_not, fit_tag, fit_pair_not, fit_pair, fit_empty, fit_empty_not, fit_element_not, fit_element}

-- ---- lines that have marks

-- lines that have marks have rows
pub parts_rows : {t g : List ℕ} {base p a j k : ℕ} → Ready t g base p a → j < row_width → k < row_width
    → (table_length ≤ length t) × (base + p < max_lines) × (a < max_lines) × (j < row_width) × (k < row_width)
parts_rows w h l = (w.whole, omega (arith, w.line, w.few), omega (arith, w.type, w.line, w.few), h, l)

pub marks_there : (base p a n : ℕ) → n ≤ max_lines → a < base → base ≤ n → ltb p (n - base) ≡ true → (n ≤ max_lines) × (base + p < n) × (a < base)
marks_there base p a n f l w e = (f, omega (arith, ltb-true p (n - base) e, w), l)

-- ---- one step down

injected : {k : ℕ} → Injects k → HasParts k
injected lefts = of_left
injected rights = of_right

injects_no_pair : {k : ℕ} → Injects k → k ≡ 4 → ⊥
injects_no_pair lefts e = absurd (omega arith)
injects_no_pair rights e = absurd (omega arith)

module _ {t : List ℕ} {base p a : ℕ} where
  -- a left or a right on a sum: its part on the part of that side
  pub step_tag : {j k q b : ℕ} → j ≡ cell_of t (base + p) 1 → k ≡ cell_of t a 1 → Injects j → k ≡ 1 → Named t base p a 2 j q b → Earlier t base p a q b
  step_tag u v i y m = record {
    lower = m.lower;
    below = m.below;
    same = record { alike = λ c x. fit_tag t base p a c x u v (injected i) (injects_no_pair i) y m.pattern m.type refl };
  }

pub stepped_tag : (t : List ℕ) (base p a : ℕ) {j k : ℕ} (r : O.Option Lines) → j ≡ cell_of t (base + p) 1 → k ≡ cell_of t a 1 → Injects j → k ≡ 1 → Parts t base p a 2 j r
    → Stepped t base p a r
stepped_tag t base p a None u v i y m = tt
stepped_tag t base p a (Some l) u v i y m = step_tag u v i y m

-- a pair on a product, of which one part changes nothing: the other part
module _ (t : List ℕ) (base p a : ℕ) where
  module _ {q b q' b' : ℕ} (u : cell_of t (base + p) 1 ≡ 4) (v : cell_of t a 1 ≡ 2) (s : q ≡ smaller_of (cell_of t (base + p) 2) p) (w : b ≡ smaller_of (cell_of t a 2) a)
      (s' : q' ≡ smaller_of (cell_of t (base + p) 3) p) (w' : b' ≡ smaller_of (cell_of t a 3) a) where
    pair_first : Bare (pattern_of t base q') (type_of t b') → (c : Bool) (x : Option (Slots Ty))
        → fit_all c (pattern_of t base q) (type_of t b) x ≡ fit_all c (pattern_of t base p) (type_of t a) x
    pair_first h true x = fit_pair t base p a true x (sym u) (sym v) refl refl refl refl s w refl s' w' (bare_same true h _)
    pair_first h false x = fit_pair t base p a false x (sym u) (sym v) refl refl refl refl s' w' (bare_same false h x) s w refl

    pair_second : Bare (pattern_of t base q) (type_of t b) → (c : Bool) (x : Option (Slots Ty))
        → fit_all c (pattern_of t base q') (type_of t b') x ≡ fit_all c (pattern_of t base p) (type_of t a) x
    pair_second h true x = fit_pair t base p a true x (sym u) (sym v) refl refl refl refl s w (bare_same true h x) s' w' refl
    pair_second h false x = fit_pair t base p a false x (sym u) (sym v) refl refl refl refl s' w' refl s w (bare_same false h _)

module _ {t : List ℕ} {base p a : ℕ} where
  module _ {q b q' b' : ℕ} (u : cell_of t (base + p) 1 ≡ 4) (v : cell_of t a 1 ≡ 2) (m : Named t base p a 2 2 q b) (n : Named t base p a 3 3 q' b') where
    pub step_first : Bare (pattern_of t base q') (type_of t b') → Earlier t base p a q b
    step_first h = record { lower = m.lower; below = m.below; same = record { alike = pair_first t base p a u v m.pattern m.type n.pattern n.type h } }

    pub step_second : Bare (pattern_of t base q) (type_of t b) → Earlier t base p a q' b'
    step_second h = record { lower = n.lower; below = n.below; same = record { alike = pair_second t base p a u v m.pattern m.type n.pattern n.type h } }

-- ---- all the way down

-- what the loop keeps
pub record Descended (t g : List ℕ) (base i b p a : ℕ) : Type 0 where
  pub ready : Ready t g base p a
  pub lower : p ≤ i
  pub same : Alike t base i b p a

alike_self : {t : List ℕ} {base p a : ℕ} → Alike t base p a p a
alike_self = record { alike = λ c x. refl }

pub descended_start : {t g : List ℕ} {base i b : ℕ} → Ready t g base i b → Descended t g base i b i b
descended_start w = record { ready = w; lower = omega arith; same = alike_self }

pub descended_next : {t g : List ℕ} {base i b p a q d : ℕ} → Descended t g base i b p a → Earlier t base p a q d → Descended t g base i b q d
descended_next h s = record {
  ready = record {
    whole = h.ready.whole;
    bares = h.ready.bares;
    few = h.ready.few;
    line = omega (arith, h.ready.line, s.lower);
    type = omega (arith, h.ready.type, s.below);
  };
  lower = omega (arith, h.lower, s.lower);
  same = record { alike = λ c x. s.same.alike c x ∙ h.same.alike c x };
}

pub descended_end : {t g : List ℕ} {base i b p a : ℕ} → Ready t g base i b → Descended t g base i b p a → Reached t base i b p a
descended_end {i = i} w h = record {
  within = λ _. h.lower;
  past = λ l. absurd (omega (arith, w.line, w.few, l));
  same = h.same;
}

pub reached_self : {t : List ℕ} {base p a : ℕ} → Reached t base p a p a
reached_self = record { within = λ _. omega arith; past = λ _. refl; same = alike_self }

pub reached_rank : {t : List ℕ} {base i b p a : ℕ} → Reached t base i b p a → rank p ≤ rank i
reached_rank {i = i} {p = p} h = go (bool_cases (ltb i max_lines))
  where
    go : (ltb i max_lines ≡ true) ⊎ (ltb i max_lines ≡ false) → rank p ≤ rank i
    go (inl e) =
        let l = ltb-true i max_lines e in
        let w = h.within l in
        let k : p < max_lines = omega (arith, l, w) in
        subst (λ r. r ≤ rank i) (sym (rank_within p k)) (subst (λ r. suc p ≤ r) (sym (rank_within i l)) (omega (arith, w)))
    go (inr e) = subst (λ x. rank p ≤ rank x) (h.past (ltb-false i max_lines e)) (omega arith)

-- ---- the fit of lines

-- what holds of the lines that were reached holds of the lines from which
pub fitted_from : {t : List ℕ} {base i b p a : ℕ} {c r : Bool} {l z : List ℕ} → Reached t base i b p a
    → Fitted t c (pattern_of t base p) (type_of t a) l r z → Fitted t c (pattern_of t base i) (type_of t b) l r z
fitted_from {t = t} {c = c} {l = l} w f = record { long = f.long; fitted = f.fitted ∙ w.same.alike c (view_of t true l) }

pub fitted_bare : {t : List ℕ} {p : Pat} {a : Ty} {c : Bool} {l : List ℕ} → Bare p a → Fitted t c p a l true l
fitted_bare {c = c} h = record { long = refl; fitted = bare_same c h _ }

module _ (t : List ℕ) (base p a : ℕ) (c : Bool) (l : List ℕ) {j k : ℕ} (u : j ≡ cell_of t (base + p) 1) (v : k ≡ cell_of t a 1) where
  pub fitted_var : {n : ℕ} {r : Bool} {z : List ℕ} → j ≡ 1 → n ≡ cell_of t (base + p) 2 → Fitted t c (pvar n) (type_of t a) l r z → Fitted t c (pattern_of t base p) (type_of t a) l r z
  fitted_var y i f = record { long = f.long; fitted = fit_var t base p a c (view_of t true l) u v y i f.fitted }

  -- a P line that names nothing, and is neither a variable nor empty
  pub fitted_unit : {r : Bool} → Plain j → (j ≡ 1 → ⊥) → r ≡ names_nothing k → Fitted t c (pattern_of t base p) (type_of t a) l r l
  fitted_unit {r} h y e = go r e
    where
      go : (r : Bool) → r ≡ names_nothing k → Fitted t c (pattern_of t base p) (type_of t a) l r l
      go true e = record { long = refl; fitted = fit_unit t base p a c (view_of t true l) u v h y (is_whole k e refl) }
      go false e = record { long = refl; fitted = fit_unit_not t base p a c (view_of t true l) u v h y refl (is_naming k e refl) }

  pub fitted_empty : {r : Bool} → j ≡ 5 → r ≡ eqb k 3 → Fitted t c (pattern_of t base p) (type_of t a) l r l
  fitted_empty {r} h e = go r e
    where
      go : (r : Bool) → r ≡ eqb k 3 → Fitted t c (pattern_of t base p) (type_of t a) l r l
      go true e = record { long = refl; fitted = fit_empty t base p a c (view_of t true l) u v h (eqb-true k 3 (sym e)) }
      go false e = record { long = refl; fitted = fit_empty_not t base p a c (view_of t true l) u v refl h (eqb-false k 3 (sym e)) }

  module _ (h : HasParts j) where
    pub fitted_tag_not : (j ≡ 4 → ⊥) → (k ≡ 1 → ⊥) → Fitted t c (pattern_of t base p) (type_of t a) l false l
    fitted_tag_not n y = record { long = refl; fitted = fit_tag_not t base p a c (view_of t true l) u v refl h n y }

    pub fitted_tag : {q b : ℕ} {r : Bool} {z : List ℕ} → (j ≡ 4 → ⊥) → k ≡ 1 → q ≡ smaller_of (cell_of t (base + p) 2) p → b ≡ smaller_of (cell_of t a j) a
        → Fitted t c (pattern_of t base q) (type_of t b) l r z → Fitted t c (pattern_of t base p) (type_of t a) l r z
    fitted_tag n y s w f = record { long = f.long; fitted = fit_tag t base p a c (view_of t true l) u v h n y s w f.fitted }

  pub fitted_pair_not : j ≡ 4 → (k ≡ 2 → ⊥) → Fitted t c (pattern_of t base p) (type_of t a) l false l
  fitted_pair_not h y = record { long = refl; fitted = fit_pair_not t base p a c (view_of t true l) u v refl h y }

  module _ (h : j ≡ 4) (y : k ≡ 2) {f q b : ℕ} (ef : f ≡ cond c 2 3) (s : q ≡ smaller_of (cell_of t (base + p) f) p) (w : b ≡ smaller_of (cell_of t a f) a)
      {d : Bool} {m : List ℕ} (one : Fitted t c (pattern_of t base q) (type_of t b) l d m) where
    pub fitted_pair : {g q' b' : ℕ} {r : Bool} {z : List ℕ} → d ≡ true → g ≡ cond c 3 2 → q' ≡ smaller_of (cell_of t (base + p) g) p → b' ≡ smaller_of (cell_of t a g) a
        → Fitted t c (pattern_of t base q') (type_of t b') m r z → Fitted t c (pattern_of t base p) (type_of t a) l r z
    fitted_pair e eg s' w' two = record {
      long = two.long ∙ one.long;
      fitted = fit_pair t base p a c (view_of t true l) u v {m = view_of t true m} h y ef eg s w (ap (λ e. view_of t e m) (sym e) ∙ one.fitted) s' w' two.fitted;
    }

    -- the first part does not fit
    pub fitted_pair_stop : d ≡ false → Fitted t c (pattern_of t base p) (type_of t a) l false m
    fitted_pair_stop e = record {
      long = one.long;
      fitted = fit_pair t base p a c (view_of t true l) u v {m = view_of t false m} h y ef refl s w (ap (λ e. view_of t e m) (sym e) ∙ one.fitted) refl refl refl;
    }

  pub fitted_element_not : j ≡ 6 → (k ≡ 3 → ⊥) → Fitted t c (pattern_of t base p) (type_of t a) l false l
  fitted_element_not h y = record { long = refl; fitted = fit_element_not t base p a c (view_of t true l) u v refl h y }

  module _ (h : j ≡ 6) (y : k ≡ 3) {f q b : ℕ} (ef : f ≡ cond c 2 3) (s : q ≡ smaller_of (cell_of t (base + p) f) p) (w : b ≡ list_part t a f)
      {d : Bool} {m : List ℕ} (one : Fitted t c (pattern_of t base q) (type_of t b) l d m) where
    pub fitted_element : {g q' b' : ℕ} {r : Bool} {z : List ℕ} → d ≡ true → g ≡ cond c 3 2 → q' ≡ smaller_of (cell_of t (base + p) g) p → b' ≡ list_part t a g
        → Fitted t c (pattern_of t base q') (type_of t b') m r z → Fitted t c (pattern_of t base p) (type_of t a) l r z
    fitted_element e eg s' w' two = record {
      long = two.long ∙ one.long;
      fitted = fit_element t base p a c (view_of t true l) u v {m = view_of t true m} h y ef eg s w (ap (λ e. view_of t e m) (sym e) ∙ one.fitted) s' w' two.fitted;
    }

    -- the first part does not fit
    pub fitted_element_stop : d ≡ false → Fitted t c (pattern_of t base p) (type_of t a) l false m
    fitted_element_stop e = record {
      long = one.long;
      fitted = fit_element t base p a c (view_of t true l) u v {m = view_of t false m} h y ef refl s w (ap (λ e. view_of t e m) (sym e) ∙ one.fitted) refl refl refl;
    }
