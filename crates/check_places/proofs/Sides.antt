-- The clauses of a side, one after the other: each clashes with those before it exactly where it meets them at some place.
use Prim.Native.Nat.{ℕ, zero, suc, ◌+◌, ◌%◌, ◌<◌, ◌≤◌}
use native.Mathlib.Nat.{le_refl, eq-or-lt_of_le}
use native.Mathlib.Omega.{arith}
use mathlib.Core.Path.{◌≡◌, refl, sym, ap, ap₂, ◌∙◌, subst}
use mathlib.Core.Bool.{Bool, true, false, not, ◌&&◌, ◌||◌, true≢false}
use mathlib.Core.Logic.{◌⊎◌, inl, inr}
use mathlib.Core.List.{List, [], ◌∷◌}
use Rattle.std.proofs.Common.{Option, Some, None}
use lib.ListN.{length, get_or, replicate, length-replicate, get_or-map, length-map}
use Rattle.limits.specs.Limits.{table_length, max_lines}
use Rattle.calculus.specs.Tools.{all}
use Rattle.calculus.specs.Trees.{Ty, Tag, Pat}
use Rattle.calculus.specs.Clauses.{clash, apart}
use Rattle.calculus.proofs.Orthogonal.{clash_sym}
use Rattle.table_trees.specs.Unfolding.{cell_of, type_of, pattern_of}
use Rattle.table_walks.specs.InTable.{patterns_at}
use Rattle.check_facts.specs.Facts.{Facts, places, width}
use Rattle.check_sets.specs.Sets.{bit, gatherer, area, members, word_of, has, Emptied, Full}
use Rattle.check_sets.proofs.Digits.{bit_zero}
use Rattle.check_places.specs.Places.{flip, Mark, marks, shaped, member, meets}
use Rattle.check_places.specs.Walking.{set_at, met, Ready, Told, Sided, Ordered, Started, Seen, Separated}
use Rattle.check_places.proofs.Places.{Between, none, more, wider, marks_between, clash_places}
use Rattle.check_places.proofs.Walking.{set_low}

-- ---- the sets hold a pattern's marks

met_meets : {lo : ℕ} (s : List ℕ) (k : ℕ) {xs : List Mark} (ys : List Mark) → ((n : ℕ) (t : Tag) → n < places → has s (set_at n t) k ≡ member n t ys)
    → Between lo places xs → met s k xs ≡ meets xs ys
met_meets s k ys e none = refl
met_meets s k ys e (more {n = n} {t = t} x y w) = ap₂ (λ a b. a || b) (e n (flip t) y) (met_meets s k ys e w)

-- ---- one clause more: P line p, whose pattern is that of clause i

module _ {t f : List ℕ} {base p a i : ℕ} {s e z : List ℕ} (o : Ordered t f base a i s) (m : Emptied s e) {r : Bool} (w : Told t base p a 0 i e z r) (h : r ≡ true)
    (pat : ℕ → Pat) (same : pattern_of t base p ≡ pat i) (d : Sided (type_of t a) pat i s) where
  abbrev ty : Ty
  ty = type_of t a

  abbrev own : List Mark
  own = marks (pattern_of t base p) ty 0

  own_between : Between 0 places own
  own_between = wider (le_refl 0) (omega (arith, o.room)) (marks_between (pattern_of t base p) ty 0)

  gathered : (k : ℕ) → k < i → has z gatherer k ≡ clash (pat k) (pat i)
  gathered k l =
      let few : k < members = omega (arith, o.one) in
      (w.walked h).gathers k few (λ q. omega arith)
      ∙ ap (λ b. b || met e k own) (m.gathers k few)
      ∙ met_meets e k (marks (pat k) ty 0) (λ n u g. m.kept (set_at n u) k (set_low n u g) few ∙ d.held k l n u g) own_between
      ∙ sym (clash_places (pattern_of t base p) (pat k) ty 0 (w.fits h) (d.shapes k l))
      ∙ clash_sym (pattern_of t base p) (pat k)
      ∙ ap (clash (pat k)) same

  other_kept : (n : ℕ) (u : Tag) (k : ℕ) → n < places → k < members → (k ≡ i → ⊥) → has z (set_at n u) k ≡ has s (set_at n u) k
  other_kept n u k g l q = (w.walked h).others n u k g l q ∙ m.kept (set_at n u) k (set_low n u g) l

  own_held : (n : ℕ) (u : Tag) → n < places → has z (set_at n u) i ≡ member n u (marks (pat i) ty 0)
  own_held n u g =
      (w.walked h).own n u g
      ∙ ap (λ b. b || member n u own) (m.kept (set_at n u) i (set_low n u g) o.one ∙ d.free i (le_refl i) o.one n u g)
      ∙ ap (λ x. member n u (marks x ty 0)) same

  sided_next : ((k : ℕ) → k < i → has z gatherer k ≡ true) → Sided ty pat (suc i) z
  sided_next full = record {
    long = w.long ∙ m.long ∙ o.long;
    shapes = λ k l. shape k (eq-or-lt_of_le l);
    held = λ k l n u g. hold k n u g (eq-or-lt_of_le l);
    free = λ k l b n u g. other_kept n u k g b (λ q. omega arith) ∙ d.free k (omega arith) b n u g;
    clashes = λ j k l b. meet j k l (eq-or-lt_of_le b);
  }
    where
      shape : (k : ℕ) → (suc k ≡ suc i) ⊎ (suc k < suc i) → shaped (pat k) ty ≡ true
      shape k (inl q) =
          let at : k ≡ i = omega arith in
          ap (λ x. shaped (pat x) ty) at ∙ ap (λ x. shaped x ty) (sym same) ∙ w.fits h
      shape k (inr q) = d.shapes k (omega arith)

      hold : (k n : ℕ) (u : Tag) → n < places → (suc k ≡ suc i) ⊎ (suc k < suc i) → has z (set_at n u) k ≡ member n u (marks (pat k) ty 0)
      hold k n u g (inl q) =
          let at : k ≡ i = omega arith in
          ap (λ x. has z (set_at n u) x) at ∙ own_held n u g ∙ ap (λ x. member n u (marks (pat x) ty 0)) (sym at)
      hold k n u g (inr q) = other_kept n u k g (omega (arith, o.one)) (λ y. omega arith) ∙ d.held k (omega arith) n u g

      meet : (j k : ℕ) → j < k → (suc k ≡ suc i) ⊎ (suc k < suc i) → clash (pat j) (pat k) ≡ true
      meet j k l (inl q) =
          let at : k ≡ i = omega arith in
          ap (λ x. clash (pat j) (pat x)) at ∙ sym (gathered j (omega arith)) ∙ full j (omega arith)
      meet j k l (inr q) = d.clashes j k l (omega arith)

  sided_not : (k : ℕ) × (k < i) × (has z gatherer k ≡ false) → (k : ℕ) × (k < i) × (clash (pat k) (pat i) ≡ false)
  sided_not g = (g.0, g.1, sym (gathered g.0 g.1) ∙ g.2)

-- ---- answers

abbrev answer : Option Bool → Bool
answer None = false
answer (Some b) = b

abbrev denied : Option Bool → Bool
denied None = false
denied (Some b) = not b

abbrev unknown : Option Bool
unknown = None

unknown_yes : {A : Type 0} → unknown ≡ Some true → A
unknown_yes e = absurd (true≢false (sym (ap answer e)))

unknown_no : {A : Type 0} → unknown ≡ Some false → A
unknown_no e = absurd (true≢false (sym (ap denied e)))

pub seen_unknown : {t : List ℕ} {base p a i : ℕ} {s z : List ℕ} → length z ≡ length s → Seen t base p a i s z None
seen_unknown e = record { yes = λ h. unknown_yes h; no = λ h. unknown_no h; long = e }

pub seen_known : {t f : List ℕ} {base p a i : ℕ} {s e z : List ℕ} → Ordered t f base a i s → Emptied s e → {r : Bool} → Told t base p a 0 i e z r → r ≡ true
    → {b : Bool} → Full z i b → Seen t base p a i s z (Some b)
seen_known o m w h g = record {
  yes = λ l pat same d. sided_next o m w h pat same d (g.yes (ap answer l));
  no = λ l pat same d. sided_not o m w h pat same d (g.no (ap answer l));
  long = w.long ∙ m.long;
}

pub ordered_ready : {t f : List ℕ} {base p a i : ℕ} {s e : List ℕ} → Ordered t f base a i s → base + p < length f → length e ≡ length s → Ready t f base p a 0 i e
ordered_ready o l q = record {
  whole = o.whole;
  facts = o.facts;
  few = o.few;
  line = l;
  type = o.type;
  room = omega (arith, o.room);
  one = o.one;
  long = q ∙ o.long;
}

-- ---- patterns two by two

all_true : {A : Type 0} (f : A → Bool) (xs : List A) (d : A) → ((k : ℕ) → k < length xs → f (get_or xs k d) ≡ true) → all f xs ≡ true
all_true f [] d h = refl
all_true f (x ∷ xs) d h = ap₂ (λ a b. a && b) (h 0 (omega arith)) (all_true f xs d (λ k l. h (suc k) (omega arith)))

all_false : {A : Type 0} (f : A → Bool) (xs : List A) (d : A) (k : ℕ) → k < length xs → f (get_or xs k d) ≡ false → all f xs ≡ false
all_false f [] d k l e = absurd (omega arith)
all_false f (x ∷ xs) d zero l e = ap (λ a. a && all f xs) e
all_false f (x ∷ xs) d (suc k) l e = ap (λ b. f x && b) (all_false f xs d k (omega arith) e) ∙ and_false (f x)
  where
    and_false : (b : Bool) → (b && false) ≡ false
    and_false true = refl
    and_false false = refl

apart_true : (ps : List Pat) (d : Pat) → ((j k : ℕ) → j < k → k < length ps → clash (get_or ps j d) (get_or ps k d) ≡ true) → apart ps ≡ true
apart_true [] d h = refl
apart_true (p ∷ ps) d h =
    ap₂ (λ a b. a && b) (all_true (clash p) ps d (λ k l. h 0 (suc k) (omega arith) (omega arith)))
    (apart_true ps d (λ j k l b. h (suc j) (suc k) (omega arith) (omega arith)))

apart_false : (ps : List Pat) (d : Pat) (j k : ℕ) → j < k → k < length ps → clash (get_or ps j d) (get_or ps k d) ≡ false → apart ps ≡ false
apart_false [] d j k l b e = absurd (omega arith)
apart_false (p ∷ ps) d j zero l b e = absurd (omega arith)
apart_false (p ∷ ps) d zero (suc k) l b e = ap (λ a. a && apart ps) (all_false (clash p) ps d k (omega arith) e)
apart_false (p ∷ ps) d (suc j) (suc k) l b e = ap (λ a. all (clash p) ps && a) (apart_false ps d j k (omega arith) (omega arith) e) ∙ and_false (all (clash p) ps)
  where
    and_false : (c : Bool) → (c && false) ≡ false
    and_false true = refl
    and_false false = refl

-- ---- all clauses

-- the pattern in field k of a clause row
abbrev pub pat_at : List ℕ → ℕ → ℕ → List ℕ → ℕ → Pat
pat_at t base k rows i = pattern_of t base (cell_of t (get_or rows i 0) k)

-- what the loop knows at place i
pub record Placing (t f : List ℕ) (base a k : ℕ) (rows s : List ℕ) (i : ℕ) : Type 0 where
  pub whole : table_length ≤ length t
  pub facts : Facts t base f
  pub few : length f ≤ max_lines
  pub within : base ≤ length f
  pub type : a < base
  pub room : width (type_of t a) ≤ places
  pub clauses : length rows ≤ members
  pub sided : Sided (type_of t a) (pat_at t base k rows) i s

nothing_held : (ty : Ty) (pat : ℕ → Pat) (s : List ℕ) → length s ≡ area → ((c k : ℕ) → has s c k ≡ false) → Sided ty pat 0 s
nothing_held ty pat s e h = record {
  long = e;
  shapes = λ k l. absurd (omega arith);
  held = λ k l. absurd (omega arith);
  free = λ k l b n u g. h (set_at n u) k;
  clashes = λ j k l b. absurd (omega arith);
}

pub placing_start : {t f : List ℕ} {base a : ℕ} (k : ℕ) (rows : List ℕ) {s : List ℕ} → Started t f base a s → length rows ≤ members → Placing t f base a k rows s 0
placing_start {t} {f} {base} {a} k rows {s} w l = record {
  whole = w.whole;
  facts = w.facts;
  few = w.few;
  within = w.within;
  type = w.type;
  room = w.room;
  clauses = l;
  sided = nothing_held (type_of t a) (pat_at t base k rows) s w.long w.clear;
}

module _ {t f : List ℕ} {base a k : ℕ} {rows s : List ℕ} {i : ℕ} (w : Placing t f base a k rows s i) (below : i < length rows) where
  pub placing_ordered : Ordered t f base a i s
  placing_ordered = record {
    whole = w.whole;
    facts = w.facts;
    few = w.few;
    long = w.sided.long;
    within = w.within;
    type = w.type;
    room = w.room;
    one = omega (arith, w.clauses);
  }

  module _ {q p : ℕ} {v : Option Bool} {z : List ℕ} (row : q ≡ get_or rows i 0) (line : p ≡ cell_of t q k) (g : Seen t base p a i s z v) where
    line_pattern : pattern_of t base p ≡ pat_at t base k rows i
    line_pattern = ap (pattern_of t base) (line ∙ ap (λ x. cell_of t x k) row)

    pub placing_next : v ≡ Some true → Placing t f base a k rows z (i + 1)
    placing_next e =
        let next : suc i ≡ i + 1 = omega arith in
        record {
          whole = w.whole;
          facts = w.facts;
          few = w.few;
          within = w.within;
          type = w.type;
          room = w.room;
          clauses = w.clauses;
          sided = subst_place next (g.yes e (pat_at t base k rows) line_pattern w.sided);
        }
      where
        subst_place : {x y : ℕ} → x ≡ y → Sided (type_of t a) (pat_at t base k rows) x z → Sided (type_of t a) (pat_at t base k rows) y z
        subst_place e d = subst (λ n. Sided (type_of t a) (pat_at t base k rows) n z) e d

    pub placing_not : v ≡ Some false → Separated t base k rows (Some false)
    placing_not n = record { yes = λ e. absurd (true≢false (sym (ap answer e))); no = λ e. overlaps (g.no n (pat_at t base k rows) line_pattern w.sided) }
      where
        overlaps : (j : ℕ) × (j < i) × (clash (pat_at t base k rows j) (pat_at t base k rows i) ≡ false) → apart (patterns_at t base k rows) ≡ false
        overlaps x =
            let long : length (patterns_at t base k rows) ≡ length rows = length-map rows (λ r. pattern_of t base (cell_of t r k)) in
            apart_false (patterns_at t base k rows) (pattern_of t base (cell_of t 0 k)) x.0 i x.1 (omega (arith, long))
            (ap₂ clash (get_or-map (λ r. pattern_of t base (cell_of t r k)) rows x.0 0) (get_or-map (λ r. pattern_of t base (cell_of t r k)) rows i 0) ∙ x.2)

pub placing_all : {t f : List ℕ} {base a k : ℕ} {rows s : List ℕ} {i : ℕ} → Placing t f base a k rows s i → length rows ≤ i → Separated t base k rows (Some true)
placing_all {t} {f} {base} {a} {k} {rows} {s} {i} w h = record { yes = λ e. clear; no = λ e. absurd (true≢false (ap answer e)) }
  where
    clear : apart (patterns_at t base k rows) ≡ true
    clear =
        let long : length (patterns_at t base k rows) ≡ length rows = length-map rows (λ r. pattern_of t base (cell_of t r k)) in
        apart_true (patterns_at t base k rows) (pattern_of t base (cell_of t 0 k))
        (λ j m l b.
        ap₂ clash (get_or-map (λ r. pattern_of t base (cell_of t r k)) rows j 0) (get_or-map (λ r. pattern_of t base (cell_of t r k)) rows m 0)
        ∙ w.sided.clashes j m l (omega (arith, long)))

-- ---- the start

zero_at : (n i : ℕ) → get_or (replicate n zero) i zero ≡ zero
zero_at zero i = refl
zero_at (suc n) zero = refl
zero_at (suc n) (suc i) = zero_at n i

pub none_there : (n c k : ℕ) → has (replicate n zero) c k ≡ false
none_there n c k = ap (bit (k % 64)) (zero_at n (word_of c k)) ∙ bit_zero (k % 64)

pub separated_unknown : (t : List ℕ) (base k : ℕ) (rows : List ℕ) → Separated t base k rows None
separated_unknown t base k rows = record { yes = λ e. unknown_yes e; no = λ e. unknown_no e }

-- the facts say how many places the type has
pub width_known : {t f : List ℕ} {base a v : ℕ} → Facts t base f → base ≤ length f → a < base → v ≡ get_or f a 0 → v ≤ places → width (type_of t a) ≤ places
width_known {t} {f} {base} {a} w l h e g =
    let known = w.widths a h (omega arith) in omega (arith, known)

pub started : {t f : List ℕ} {base a v : ℕ} → table_length ≤ length t → Facts t base f → length f ≤ max_lines → base ≤ length f → a < base → v ≡ get_or f a 0
    → v ≤ places → Started t f base a (replicate area zero)
started whole facts few within type e g = record {
  whole = whole;
  facts = facts;
  few = few;
  long = length-replicate area zero;
  within = within;
  type = type;
  room = width_known facts within type e g;
  clear = λ c k. none_there area c k;
}
