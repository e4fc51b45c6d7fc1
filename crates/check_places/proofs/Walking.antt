-- The walk over a pattern: what it marks and gathers, from what it does for the parts.
use Prim.Native.Nat.{ℕ, suc, ◌+◌, ◌*◌, ◌<◌, ◌≤◌, min, max}
use native.Mathlib.Nat.{le_refl}
use native.Mathlib.Omega.{arith}
use mathlib.Core.Path.{◌≡◌, refl, sym, ap, ap₂, ◌∙◌, subst}
use mathlib.Core.Bool.{Bool, true, false, ◌&&◌, ◌||◌, true≢false}
use mathlib.Core.List.{List, [], ◌∷◌, ◌++◌}
use lib.Dec.{eqb}
use lib.ListN.{length, get_or}
use borrow.Author.Tests.{eqb-true, eq-eqb}
use Rattle.limits.specs.Limits.{row_width, many_tags}
use Rattle.calculus.specs.Trees.{Ty, tsum, tprod, Tag, left, right, Pat, pinj, pnode, pair_node, same_tag, part, tags}
use Rattle.table_trees.specs.Unfolding.{cell_of, smaller_of, type_of, pattern_of}
use Rattle.table_trees.proofs.Cases.{Injects, lefts, rights}
use Rattle.table_trees.proofs.Lines.{line_sum, line_product, is_left, is_right, is_pair}
use Rattle.table_parts.specs.Naming.{Named}
use Rattle.check_facts.specs.Facts.{places, width}
use Rattle.check_sets.specs.Sets.{gatherer, members, has, United, Joined}
use Rattle.check_places.specs.Places.{flip, Mark, marks, shaped, member}
use Rattle.check_places.specs.Walking.{set_at, met, Walked, Marked, Ready, Told}
use Rattle.check_places.proofs.Places.{Between, none, more, wider, marks_between, member_join, tagless_shaped, tagless_marks}

-- ---- booleans

or_false : (b : Bool) → (b || false) ≡ b
or_false true = refl
or_false false = refl

or_true : (b : Bool) → (b || true) ≡ true
or_true true = refl
or_true false = refl

or_assoc : (a b c : Bool) → ((a || b) || c) ≡ (a || (b || c))
or_assoc true b c = refl
or_assoc false b c = refl

-- ---- sets by place

pub set_low : (n : ℕ) (t : Tag) → n < places → set_at n t < gatherer
set_low n left h = omega arith
set_low n right h = omega arith

-- a set is that of one place and one tag
set_differs : (m n : ℕ) (u t : Tag) → (eqb m n && same_tag u t) ≡ false → set_at m u ≡ set_at n t → ⊥
set_differs m n left left h e = let same : m ≡ n = omega arith in true≢false (sym (ap (λ b. b && true) (eq-eqb m n same)) ∙ h)
set_differs m n left right h e = omega arith
set_differs m n right left h e = omega arith
set_differs m n right right h e = let same : m ≡ n = omega arith in true≢false (sym (ap (λ b. b && true) (eq-eqb m n same)) ∙ h)

set_same : (m n : ℕ) (u t : Tag) → (eqb m n && same_tag u t) ≡ true → set_at m u ≡ set_at n t
set_same m n left left h = ap (λ x. 2 * x) (eqb-true m n (both_first (eqb m n) h))
  where
    both_first : (b : Bool) → (b && true) ≡ true → b ≡ true
    both_first true z = refl
    both_first false z = z
set_same m n left right h = absurd (true≢false (sym h ∙ and_false (eqb m n)))
  where
    and_false : (b : Bool) → (b && false) ≡ false
    and_false true = refl
    and_false false = refl
set_same m n right left h = absurd (true≢false (sym h ∙ and_false (eqb m n)))
  where
    and_false : (b : Bool) → (b && false) ≡ false
    and_false true = refl
    and_false false = refl
set_same m n right right h = ap (λ x. 2 * x + 1) (eqb-true m n (both_first (eqb m n) h))
  where
    both_first : (b : Bool) → (b && true) ≡ true → b ≡ true
    both_first true z = refl
    both_first false z = z

-- ---- one mark

module _ {s u z : List ℕ} {n i : ℕ} (t : Tag) (hn : n < places) (hi : i < members) (w : United s u (set_at n (flip t))) (v : Joined u z (set_at n t) i) where
  mark_own : (m : ℕ) (r : Tag) → m < places → (b : Bool) → (eqb m n && same_tag r t) ≡ b → has z (set_at m r) i ≡ (has s (set_at m r) i || (b || false))
  mark_own m r h true e = ap (λ c. has z c i) (set_same m n r t e) ∙ v.mine ∙ sym (or_true (has s (set_at m r) i))
  mark_own m r h false e =
      v.kept (set_at m r) i (let l = set_low m r h in omega arith) hi (λ d q. set_differs m n r t e d)
      ∙ w.kept (set_at m r) i (set_low m r h) hi
      ∙ sym (or_false (has s (set_at m r) i))

  pub mark_one : Walked s z i ((n, t) ∷ [])
  mark_one = record {
    long = v.long ∙ w.long;
    own = λ m r h. mark_own m r h (eqb m n && same_tag r t) refl;
    others = λ m r k h l d.
        v.kept (set_at m r) k (let q = set_low m r h in omega arith) l (λ x y. d y) ∙ w.kept (set_at m r) k (set_low m r h) l;
    gathers = λ k l d.
        v.kept gatherer k (omega arith) l (λ x y. d y) ∙ w.gathers k l
        ∙ ap (λ b. has s gatherer k || b) (sym (or_false (has s (set_at n (flip t)) k)));
  }

pub marked_left : {s u z : List ℕ} {n kind i : ℕ} → n < places → i < members → kind ≡ 2 → United s u (2 * n + 1) → Joined u z (2 * n) i → Marked s z n kind i
marked_left hn hi e w v = record { long = v.long ∙ w.long; lefts = λ q. mark_one left hn hi w v; rights = λ q. absurd (q e) }

pub marked_right : {s u z : List ℕ} {n kind i : ℕ} → n < places → i < members → (kind ≡ 2 → ⊥) → United s u (2 * n) → Joined u z (2 * n + 1) i → Marked s z n kind i
marked_right hn hi e w v = record { long = v.long ∙ w.long; lefts = λ q. absurd (e q); rights = λ q. mark_one right hn hi w v }

-- ---- marks one after the other

walked_none : (s : List ℕ) (i : ℕ) → Walked s s i []
walked_none s i = record {
  long = refl;
  own = λ n t h. sym (or_false (has s (set_at n t) i));
  others = λ n t k h l d. refl;
  gathers = λ k l d. sym (or_false (has s gatherer k));
}

met_same : {lo : ℕ} (s u : List ℕ) (k : ℕ) {ys : List Mark} → ((n : ℕ) (t : Tag) → n < places → has u (set_at n t) k ≡ has s (set_at n t) k)
    → Between lo places ys → met u k ys ≡ met s k ys
met_same s u k e none = refl
met_same s u k e (more {n = n} {t = t} x y w) = ap₂ (λ a b. a || b) (e n (flip t) y) (met_same s u k e w)

met_join : (s : List ℕ) (k : ℕ) (xs ys : List Mark) → met s k (xs ++ ys) ≡ (met s k xs || met s k ys)
met_join s k [] ys = refl
met_join s k (x ∷ xs) ys =
    ap (λ b. has s (set_at x.0 (flip x.1)) k || b) (met_join s k xs ys)
    ∙ sym (or_assoc (has s (set_at x.0 (flip x.1)) k) (met s k xs) (met s k ys))

pub walked_join : {lo : ℕ} {s u z : List ℕ} {i : ℕ} {xs ys : List Mark} → Walked s u i xs → Walked u z i ys → Between lo places ys → Walked s z i (xs ++ ys)
walked_join {s = s} {u = u} {z = z} {i = i} {xs = xs} {ys = ys} w v b = record {
  long = v.long ∙ w.long;
  own = λ n t h.
      v.own n t h ∙ ap (λ x. x || member n t ys) (w.own n t h) ∙ or_assoc (has s (set_at n t) i) (member n t xs) (member n t ys)
      ∙ ap (λ x. has s (set_at n t) i || x) (sym (member_join n t xs ys));
  others = λ n t k h l d. v.others n t k h l d ∙ w.others n t k h l d;
  gathers = λ k l d.
      v.gathers k l d
      ∙ ap₂ (λ x y. x || y) (w.gathers k l d) (met_same s u k (λ n t h. w.others n t k h l d) b)
      ∙ or_assoc (has s gatherer k) (met s k xs) (met s k ys)
      ∙ ap (λ x. has s gatherer k || x) (sym (met_join s k xs ys));
}

-- ---- the answers of the walk

pub told_no : {t : List ℕ} {base p a n i : ℕ} {s z : List ℕ} → length z ≡ length s → Told t base p a n i s z false
told_no e = record { long = e; fits = λ h. absurd (true≢false (sym h)); walked = λ h. absurd (true≢false (sym h)) }

no_tags : {v : ℕ} (x : ℕ) → v ≡ min many_tags x → v ≡ 0 → x ≡ 0
no_tags x e z = omega arith

pub told_tagless : {t f : List ℕ} {base p a n i : ℕ} {s : List ℕ} {v : ℕ} → Ready t f base p a n i s → v ≡ get_or f (base + p) 0 → v ≡ 0
    → Told t base p a n i s s true
told_tagless {t} {f} {base} {p} {a} {n} {i} {s} w e z =
    let bare : tags (pattern_of t base p) ≡ 0 = no_tags (tags (pattern_of t base p)) (e ∙ w.facts.tagged p w.line) z in
    record {
      long = refl;
      fits = λ h. tagless_shaped (pattern_of t base p) (type_of t a) bare;
      walked = λ h. subst (Walked s s i) (sym (tagless_marks (pattern_of t base p) (type_of t a) n bare)) (walked_none s i);
    }

-- the rest of the places holds the marks of a part
rest_between : (q : Pat) (b : Ty) (m : ℕ) → m + width b ≤ places → Between m places (marks q b m)
rest_between q b m h = wider (le_refl m) h (marks_between q b m)

-- a pair
module _ {t f : List ℕ} {base p a n i : ℕ} {s : List ℕ} (w : Ready t f base p a n i s) {k o : ℕ} (ek : k ≡ cell_of t (base + p) 1) (eo : o ≡ cell_of t a 1)
    (zk : k ≡ 4) (zo : o ≡ 2) {q b r c : ℕ} (one : Named t base p a 2 2 q b) (two : Named t base p a 3 3 r c) where
  pair_pattern : pattern_of t base p ≡ pnode pair_node (pattern_of t base q) (pattern_of t base r)
  pair_pattern = is_pair t base p ek zk (one.pattern) (two.pattern)

  pair_type : type_of t a ≡ tprod (type_of t b) (type_of t c)
  pair_type = line_product t a eo (one.type) (two.type) zo

  pair_width : width (type_of t a) ≡ width (type_of t b) + width (type_of t c)
  pair_width = ap width pair_type

  pub ready_first : Ready t f base q b n i s
  ready_first = record {
    whole = w.whole;
    facts = w.facts;
    few = w.few;
    line = omega (arith, w.line, one.lower);
    type = omega (arith, w.type, one.below);
    room = omega (arith, w.room, pair_width);
    one = w.one;
    long = w.long;
  }

  module _ {v : ℕ} (ev : v ≡ get_or f b 0) where
    first_width : v ≡ width (type_of t b)
    first_width =
        let known = w.facts.widths b (omega (arith, w.type, one.below)) (omega (arith, w.line, w.type, one.below)) in
        omega (arith, known, w.room, pair_width)

    pub ready_second : {u : List ℕ} → length u ≡ length s → Ready t f base r c (n + v) i u
    ready_second e = record {
      whole = w.whole;
      facts = w.facts;
      few = w.few;
      line = omega (arith, w.line, two.lower);
      type = omega (arith, w.type, two.below);
      room = omega (arith, w.room, pair_width, first_width);
      one = w.one;
      long = e ∙ w.long;
    }

    pub told_pair : {u z : List ℕ} {d e : Bool} → Told t base q b n i s u d → d ≡ true → Told t base r c (n + v) i u z e → Told t base p a n i s z e
    told_pair {u} {z} g hd h = record {
      long = h.long ∙ g.long;
      fits = λ l. ap₂ shaped pair_pattern pair_type ∙ ap₂ (λ x y. x && y) (g.fits hd) (h.fits l);
      walked = λ l.
          subst (Walked s z i)
          (ap (λ m. marks (pattern_of t base q) (type_of t b) n ++ marks (pattern_of t base r) (type_of t c) (n + m)) first_width
          ∙ sym (ap₂ (λ x y. marks x y n) pair_pattern pair_type))
          (walked_join (g.walked hd) (h.walked l)
          (rest_between (pattern_of t base r) (type_of t c) (n + v) (omega (arith, w.room, pair_width, first_width))));
    }

-- a left or a right
sum_part : (t : List ℕ) (a : ℕ) {o : ℕ} → o ≡ cell_of t a 1 → o ≡ 1
    → type_of t a ≡ tsum (type_of t (smaller_of (cell_of t a 2) a)) (type_of t (smaller_of (cell_of t a 3) a))
sum_part t a e z = line_sum t a e refl refl z

-- the mark, and the marks below it
below : {t : List ℕ} {base p a n i q b : ℕ} {s u z : List ℕ} {r : Bool} (g : Tag) (x y : Ty)
    → pattern_of t base p ≡ pinj g (pattern_of t base q) → type_of t a ≡ tsum x y → type_of t b ≡ part g x y → suc n + width (type_of t b) ≤ places
    → Walked s u i ((n, g) ∷ []) → Told t base q b (n + 1) i u z r → Told t base p a n i s z r
below {t} {base} {p} {a} {n} {i} {q} {b} {s} {u} {z} g x y ep ea eb room w h =
    let next : n + 1 ≡ suc n = omega arith in
    record {
      long = h.long ∙ w.long;
      fits = λ l. ap₂ shaped ep ea ∙ ap (shaped (pattern_of t base q)) (sym eb) ∙ h.fits l;
      walked = λ l.
          subst (Walked s z i)
          (ap₂ (λ m d. (n, g) ∷ marks (pattern_of t base q) d m) next eb ∙ sym (ap₂ (λ c d. marks c d n) ep ea))
          (walked_join w (h.walked l) (rest_between (pattern_of t base q) (type_of t b) (n + 1) (omega arith)));
    }

module _ {t f : List ℕ} {base p a n i : ℕ} {s : List ℕ} (w : Ready t f base p a n i s) {o : ℕ} (eo : o ≡ cell_of t a 1) (zo : o ≡ 1) where
  sum_width : width (type_of t a) ≡ suc (max (width (type_of t (smaller_of (cell_of t a 2) a))) (width (type_of t (smaller_of (cell_of t a 3) a))))
  sum_width = ap width (sum_part t a eo zo)

  pub tag_place : n < places
  tag_place = omega (arith, w.room, sum_width)

  part_room : {k : ℕ} (q b : ℕ) → Injects k → b ≡ smaller_of (cell_of t a k) a → suc n + width (type_of t b) ≤ places
  part_room q b lefts e = let same : width (type_of t b) ≡ width (type_of t (smaller_of (cell_of t a 2) a)) = ap (λ x. width (type_of t x)) e in omega (arith, w.room, sum_width, same)
  part_room q b rights e = let same : width (type_of t b) ≡ width (type_of t (smaller_of (cell_of t a 3) a)) = ap (λ x. width (type_of t x)) e in omega (arith, w.room, sum_width, same)

  pub ready_only : {k q b : ℕ} {u : List ℕ} → Injects k → Named t base p a 2 k q b → length u ≡ length s → Ready t f base q b (n + 1) i u
  ready_only {k} {q} {b} h m e = record {
    whole = w.whole;
    facts = w.facts;
    few = w.few;
    line = omega (arith, w.line, m.lower);
    type = omega (arith, w.type, m.below);
    room = omega (arith, part_room q b h (m.type));
    one = w.one;
    long = e ∙ w.long;
  }

  pub told_tag : {k q b : ℕ} {r : Bool} {u z : List ℕ} → Injects k → k ≡ cell_of t (base + p) 1 → Named t base p a 2 k q b → Marked s u n k i
      → Told t base q b (n + 1) i u z r → Told t base p a n i s z r
  told_tag {q = q} {b = b} lefts ek m v h =
      below left (type_of t (smaller_of (cell_of t a 2) a)) (type_of t (smaller_of (cell_of t a 3) a)) (is_left t base p ek refl (m.pattern)) (sum_part t a eo zo)
      (ap (type_of t) (m.type)) (part_room q b lefts (m.type)) (v.lefts refl) h
  told_tag {q = q} {b = b} rights ek m v h =
      below right (type_of t (smaller_of (cell_of t a 2) a)) (type_of t (smaller_of (cell_of t a 3) a)) (is_right t base p ek refl (m.pattern)) (sum_part t a eo zo)
      (ap (type_of t) (m.type)) (part_room q b rights (m.type)) (v.rights (λ e. omega arith)) h

-- ---- a number of a row, and the measure

-- the kind of a left or right is the place of a number of its row too
pub tag_field : {k : ℕ} → k < 4 → k < row_width
tag_field h = omega (arith, h)

pub falls_by : {q p m : ℕ} → p ≡ m → q < p → q < m
falls_by e h = omega arith
