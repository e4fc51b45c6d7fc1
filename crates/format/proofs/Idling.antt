-- Request 11: the pass that finds the first idle line against the judgement, and the idle lines of turned rows.
use Prim.Native.Nat.{ℕ, zero, suc, ◌+◌, ◌-◌, ◌≤◌, ◌<◌}
use native.Mathlib.Nat.{not-suc-le-zero}
use native.Mathlib.Omega.{arith}
use mathlib.Core.Path.{◌≡◌, refl, sym, ap, ◌∙◌, subst}
use mathlib.Core.Logic.{◌⊎◌, inl, inr, ◌↔◌}
use mathlib.Core.Bool.{Bool, true, false, cond, ◌||◌, false≢true, true≢false}
use mathlib.Core.Option.{Option, none, some}
use mathlib.Core.List.{List, [], ◌∷◌, ◌++◌, append_assoc, Memᴰ}
use lib.Dec.{eqb}
use lib.ListN.{length, get_elem?, length-append}
use Rattle.calculus.specs.Tools.{all}
use Rattle.calculus.specs.Refusals.{Kind, type_line, pattern_line, iso_line, clause_line, let_line, Refusal, idle}
use Rattle.format.specs.Lines.{Row}
use Rattle.format.specs.Judge.{Seen, start, stage, type_tree, pattern_tree, type_names_of, pattern_names_of, after_kind, after, after_all}
use Rattle.format.specs.Kinds.{TypeKind, unit_type, sum_type, product_type, list_type, no_type, type_kind, PatternKind, unit_pattern, variable_pattern}
use Rattle.format.specs.Kinds.{left_pattern, right_pattern, pair_pattern, empty_pattern, element_pattern, no_pattern, pattern_kind}
use Rattle.format.specs.Unfold.{turn_from, turn_rows}
use Rattle.format.specs.Idle.{type_lines, type_reach, pattern_reach, reach, is_root, Reached, NoneIdle, FirstIdle, member, Reach, reach_row, reach_from, idle_fault}
use Rattle.calculus.proofs.Basic.{none≢some, some_inj, some_pair, or_true, true_or_left, true_or_right, not_both, eqb_eq, eq_eqb, leb_le, ltb_lt, true_and}
use Rattle.calculus.proofs.Basic.{and_true, all_append, each_nil, each_cons, index_below, le_or_lt}
use Rattle.format.proofs.Naming.{both_named}
use Rattle.format.proofs.Passing.{Passes, done, next, Fit, judge_fit, iso_fit, clause_fit, let_fit}
use Rattle.format.proofs.Turning.{after_turn}

-- ---- members

pub member_mem : (i : ℕ) (xs : List ℕ) → member i xs ≡ true → Memᴰ i xs
member_mem i [] e = absurd (false≢true e)
member_mem i (x ∷ xs) e = go (or_true (eqb i x) (member i xs) e) (member_mem i xs)
  where
    go : (eqb i x ≡ true) ⊎ (member i xs ≡ true) → (member i xs ≡ true → Memᴰ i xs) → Memᴰ i (x ∷ xs)
    go (inl h) below = Memᴰ.head (eqb_eq i x h)
    go (inr h) below = Memᴰ.tail (below h)

pub mem_member : {i : ℕ} {xs : List ℕ} → Memᴰ i xs → member i xs ≡ true
mem_member {i} (Memᴰ.head {x} {xs} e) = true_or_left (member i xs) (eq_eqb e)
mem_member {i} (Memᴰ.tail {x} {xs} m) = true_or_right (eqb i x) (mem_member m)

or_assoc : (a b c : Bool) → ((a || b) || c) ≡ (a || (b || c))
or_assoc true b c = refl
or_assoc false b c = refl

pub or_swap : (a b c : Bool) → (a || (b || c)) ≡ (b || (a || c))
or_swap true true c = refl
or_swap true false c = refl
or_swap false b c = refl

pub member_append : (i : ℕ) (xs ys : List ℕ) → member i (xs ++ ys) ≡ (member i xs || member i ys)
member_append i [] ys = refl
member_append i (x ∷ xs) ys = ap (λ b. eqb i x || b) (member_append i xs ys) ∙ sym (or_assoc (eqb i x) (member i xs) (member i ys))

-- ---- lines name only earlier ones

type_earlier : (n : ℕ) (k : TypeKind) (a b : ℕ) → type_names_of n k a b ≡ true → (i : ℕ) → Memᴰ i (type_reach k a b) → i < n
type_earlier n unit_type a b e = each_nil (λ i. i < n)
type_earlier n sum_type a b e = let h = both_named n a b e in each_cons (λ i. i < n) h.0 (each_cons (λ i. i < n) h.1 (each_nil (λ i. i < n)))
type_earlier n product_type a b e = let h = both_named n a b e in each_cons (λ i. i < n) h.0 (each_cons (λ i. i < n) h.1 (each_nil (λ i. i < n)))
type_earlier n list_type a b e = each_cons (λ i. i < n) (ltb_lt a n e) (each_nil (λ i. i < n))
type_earlier n no_type a b e = each_nil (λ i. i < n)

one_earlier : {m : ℕ} (a : ℕ) → a < m → (i : ℕ) → Memᴰ i (a ∷ []) → i < m
one_earlier {m} a h = each_cons (λ i. i < m) h (each_nil (λ i. i < m))

two_earlier : {m : ℕ} (a b : ℕ) → a < m → b < m → (i : ℕ) → Memᴰ i (a ∷ (b ∷ [])) → i < m
two_earlier {m} a b h k = each_cons (λ i. i < m) h (one_earlier b k)

pattern_earlier : (ts n : ℕ) (k : PatternKind) (a b : ℕ) → pattern_names_of n k a b ≡ true → (i : ℕ) → Memᴰ i (pattern_reach ts k a b) → i < ts + n
pattern_earlier ts n unit_pattern a b e = each_nil (λ i. i < ts + n)
pattern_earlier ts n variable_pattern a b e = each_nil (λ i. i < ts + n)
pattern_earlier ts n left_pattern a b e = let h = ltb_lt a n e in one_earlier (ts + a) (omega arith)
pattern_earlier ts n right_pattern a b e = let h = ltb_lt a n e in one_earlier (ts + a) (omega arith)
pattern_earlier ts n pair_pattern a b e = let h = both_named n a b e in two_earlier (ts + a) (ts + b) (omega arith) (omega arith)
pattern_earlier ts n empty_pattern a b e = each_nil (λ i. i < ts + n)
pattern_earlier ts n element_pattern a b e = let h = both_named n a b e in two_earlier (ts + a) (ts + b) (omega arith) (omega arith)
pattern_earlier ts n no_pattern a b e = each_nil (λ i. i < ts + n)

-- how many T and P lines the rows above tell of
abbrev told : Seen → ℕ
told s = length s.types + length s.patterns

-- no T line below a line of another letter
fixed_row : (s : Seen) (k : Kind) (r : Row) → 1 ≤ stage s.above → Fit s k r
    → (length (after_kind k s r).types ≡ length s.types) × (1 ≤ stage (after_kind k s r).above)
fixed_row s type_line r h f = let e = leb_le (stage s.above) 0 f.order in absurd (omega arith)
fixed_row s pattern_line r h f = (refl, omega arith)
fixed_row s iso_line r h f = (refl, omega arith)
fixed_row s clause_line r h f = (refl, omega arith)
fixed_row s let_line r h f = (refl, omega arith)

fixed_types : {s : Seen} {rs : List Row} → Passes s rs → 1 ≤ stage s.above → length (after_all s rs).types ≡ length s.types
fixed_types done h = refl
fixed_types (next {s = s} {r = r} j d) h = let k = fixed_row s r.kind r h (judge_fit s r j) in fixed_types d k.1 ∙ k.0

row_earlier : (s : Seen) (ts : ℕ) (k : Kind) (r : Row) → Fit s k r → (1 ≤ stage (after_kind k s r).above → ts ≡ length s.types)
    → (i : ℕ) → Memᴰ i (reach ts k r) → i < told s
row_earlier s ts type_line r f e i m = let h = type_earlier (length s.types) (type_kind r.x) r.y r.z f.names i m in omega arith
row_earlier s ts pattern_line r f e i m =
    let t = e (omega arith) in
    let h = pattern_earlier ts (length s.patterns) (pattern_kind r.x) r.y r.z f.names i m in
    omega arith
row_earlier s ts iso_line r f e i m = let h = iso_fit s r f in two_earlier r.x r.y (omega arith) (omega arith) i m
row_earlier s ts clause_line r f e i m =
    let t = e (omega arith) in let h = clause_fit s r f in two_earlier (ts + r.x) (ts + r.y) (omega arith) (omega arith) i m
row_earlier s ts let_line r f e i m =
    let t = e (omega arith) in let h = let_fit s r f in two_earlier (ts + r.x) (ts + r.z) (omega arith) (omega arith) i m

grows : (s : Seen) (k : Kind) (r : Row) → told (after_kind k s r) ≤ suc (told s)
grows s type_line r = omega (arith, length-append s.types (type_tree s.types r ∷ []))
grows s pattern_line r = omega (arith, length-append s.patterns (pattern_tree s.patterns r ∷ []))
grows s iso_line r = omega arith
grows s clause_line r = omega arith
grows s let_line r = omega arith

after_fixed : (s : Seen) (k : Kind) (r : Row) → 1 ≤ stage (after_kind k s r).above → length (after_kind k s r).types ≡ length s.types
after_fixed s type_line r h = absurd (not-suc-le-zero h)
after_fixed s pattern_line r h = refl
after_fixed s iso_line r h = refl
after_fixed s clause_line r h = refl
after_fixed s let_line r h = refl

earlier_from : {s : Seen} {rs : List Row} → Passes s rs → (n : ℕ) → told s ≤ n → (m : ℕ) (r : Row) → get_elem? rs m ≡ some r
    → (i : ℕ) → Memᴰ i (reach (length (after_all s rs).types) r.kind r) → i < n + m
earlier_from done n h m r e i x = absurd (none≢some e)
earlier_from (next {s = s} {r = q} {rs = rs} j d) n h zero r e i x =
    let w : q ≡ r = some_inj e in
    let ts : ℕ = length (after_all (after s q) rs).types in
    let k = row_earlier s ts q.kind q (judge_fit s q j) (λ l. fixed_types d l ∙ after_fixed s q.kind q l) i
    (subst (λ (p : Row). Memᴰ i (reach ts p.kind p)) (sym w) x) in
    omega arith
earlier_from (next {s = s} {r = q} {rs = rs} j d) n h (suc m) r e i x =
    let g : told (after s q) ≤ suc (told s) = grows s q.kind q in
    let k = earlier_from d (suc n) (omega arith) m r e i x in
    omega arith

told_start : told start ≡ 0
unfolding start
told_start = refl

-- a line names only earlier ones
pub earlier : {rs : List Row} → Passes start rs → (m : ℕ) (r : Row) → get_elem? rs m ≡ some r → (i : ℕ)
    → Memᴰ i (reach (type_lines rs) r.kind r) → i < m
unfolding type_lines
earlier d m r e i x = let t = told_start in let k = earlier_from d 0 (omega arith) m r e i x in omega arith

-- ---- the pass against the judgement

past : (xs : List Row) (k : ℕ) → get_elem? xs k ≡ none → k < length xs → ⊥
past [] k e b = not-suc-le-zero b
past (x ∷ xs) zero e b = none≢some (sym e)
past (x ∷ xs) (suc k) e b = past xs k e (omega arith)

module _ (rs : List Row) (names : (m : ℕ) (r : Row) → get_elem? rs m ≡ some r → (i : ℕ) → Memᴰ i (reach (type_lines rs) r.kind r) → i < m) where
  -- qs are the rows from place n on
  abbrev From : ℕ → List Row → Type 0
  From n qs = (k : ℕ) → get_elem? qs k ≡ get_elem? rs (n + k)

  from_next : (n : ℕ) (q : Row) (qs : List Row) → From n (q ∷ qs) → From (suc n) qs
  from_next n q qs f k = let e : n + suc k ≡ suc n + k = omega arith in f (suc k) ∙ ap (get_elem? rs) e

  from_head : (n : ℕ) (q : Row) (qs : List Row) → From n (q ∷ qs) → get_elem? rs n ≡ some q
  from_head n q qs f = let e : n + 0 ≡ n = omega arith in sym (f 0 ∙ ap (get_elem? rs) e)

  from_end : (n m : ℕ) (r : Row) → From n [] → n ≤ m → get_elem? rs m ≡ some r → ⊥
  from_end n m r f l e = let z : m ≡ n + (m - n) = omega arith in none≢some (f (m - n) ∙ ap (get_elem? rs) (sym z) ∙ e)

  -- what is told of the lines from place n on
  record Tells (n : ℕ) (o : Reach) : Type 0 where
    sound : (i : ℕ) → member i o.named ≡ true → Reached rs i
    complete : (m : ℕ) (r : Row) → n ≤ m → Reached rs m → get_elem? rs m ≡ some r → (i : ℕ) → Memᴰ i (reach (type_lines rs) r.kind r)
        → member i o.named ≡ true

  test_sound : (n : ℕ) (q : Row) (o : Reach) → get_elem? rs n ≡ some q → Tells (suc n) o → (is_root q.kind || member n o.named) ≡ true → Reached rs n
  test_sound n q o e t b = go (or_true (is_root q.kind) (member n o.named) b)
    where
      go : (is_root q.kind ≡ true) ⊎ (member n o.named ≡ true) → Reached rs n
      go (inl h) = Reached.root q e h
      go (inr h) = t.sound n h

  test_complete : (n : ℕ) (q : Row) (o : Reach) → get_elem? rs n ≡ some q → Tells (suc n) o → Reached rs n → (is_root q.kind || member n o.named) ≡ true
  test_complete n q o e t (Reached.root r g h) =
      let w : r ≡ q = some_inj (sym g ∙ e) in true_or_left (member n o.named) (ap (λ (p : Row). is_root p.kind) (sym w) ∙ h)
  test_complete n q o e t (Reached.named m r w g x) = true_or_right (is_root q.kind) (t.complete m r (names m r g n x) w g n x)

  split : (n m : ℕ) → n ≤ m → (n ≡ m) ⊎ (suc n ≤ m)
  split n m l = go (le_or_lt m n)
    where
      go : (m ≤ n) ⊎ (n < m) → (n ≡ m) ⊎ (suc n ≤ m)
      go (inl h) = inl (omega arith)
      go (inr h) = inr (omega arith)

  tells_row : (n : ℕ) (q : Row) (o : Reach) → get_elem? rs n ≡ some q → Tells (suc n) o → Tells n (reach_row (type_lines rs) n q o)
  tells_row n q o e t = go (is_root q.kind || member n o.named) refl
    where
      ns : List ℕ
      ns = reach (type_lines rs) q.kind q

      go : (b : Bool) → (is_root q.kind || member n o.named) ≡ b
          → Tells n (cond b (record { named = reach (type_lines rs) q.kind q ++ o.named; found = o.found }) (record { named = o.named; found = some (idle q.kind, suc n) }))
      go true b = record { sound = sound; complete = λ m r l w g i x. complete m r w g i x (split n m l) }
        where
          sound : (i : ℕ) → member i (ns ++ o.named) ≡ true → Reached rs i
          sound i h = or (or_true (member i ns) (member i o.named) (sym (member_append i ns o.named) ∙ h))
            where
              or : (member i ns ≡ true) ⊎ (member i o.named ≡ true) → Reached rs i
              or (inl k) = Reached.named n q (test_sound n q o e t b) e (member_mem i ns k)
              or (inr k) = t.sound i k

          complete : (m : ℕ) (r : Row) → Reached rs m → get_elem? rs m ≡ some r → (i : ℕ) → Memᴰ i (reach (type_lines rs) r.kind r)
              → (n ≡ m) ⊎ (suc n ≤ m) → member i (ns ++ o.named) ≡ true
          complete m r w g i x (inl z) =
              let p : r ≡ q = some_inj (sym g ∙ ap (get_elem? rs) (sym z) ∙ e) in
              member_append i ns o.named
              ∙ true_or_left (member i o.named) (mem_member (subst (λ (p : Row). Memᴰ i (reach (type_lines rs) p.kind p)) p x))
          complete m r w g i x (inr l) = member_append i ns o.named ∙ true_or_right (member i ns) (t.complete m r l w g i x)
      go false b = record { sound = t.sound; complete = λ m r l w g i x. complete m r w g i x (split n m l) }
        where
          complete : (m : ℕ) (r : Row) → Reached rs m → get_elem? rs m ≡ some r → (i : ℕ) → Memᴰ i (reach (type_lines rs) r.kind r)
              → (n ≡ m) ⊎ (suc n ≤ m) → member i o.named ≡ true
          complete m r w g i x (inl z) = absurd (not_both (test_complete n q o e t (subst (Reached rs) (sym z) w)) b)
          complete m r w g i x (inr l) = t.complete m r l w g i x

  tells : (n : ℕ) (qs : List Row) → From n qs → Tells n (reach_from (type_lines rs) n qs)
  tells n [] f = record { sound = λ i h. absurd (false≢true h); complete = λ m r l w g i x. absurd (from_end n m r f l g) }
  tells n (q ∷ qs) f = tells_row n q (reach_from (type_lines rs) (suc n) qs) (from_head n q qs f) (tells (suc n) qs (from_next n q qs f))

  -- the first idle line from place n on
  record Idles (n : ℕ) (f : Refusal) (l : ℕ) : Type 0 where
    place : ℕ
    row : Row
    behind : n ≤ place
    here : get_elem? rs place ≡ some row
    unreached : Reached rs place → ⊥
    above : (m : ℕ) → n ≤ m → m < place → Reached rs m
    refusal : f ≡ idle row.kind
    line : l ≡ suc place

  abbrev First : ℕ → Option (Refusal × ℕ) → Type 0
  First n none = (m : ℕ) → n ≤ m → m < length rs → Reached rs m
  First n (some x) = Idles n x.0 x.1

  first_past : (n : ℕ) → Reached rs n → (x : Option (Refusal × ℕ)) → First (suc n) x → First n x
  first_past n w none h = λ m l b. go m b (split n m l)
    where
      go : (m : ℕ) → m < length rs → (n ≡ m) ⊎ (suc n ≤ m) → Reached rs m
      go m b (inl e) = subst (Reached rs) e w
      go m b (inr k) = h m k b
  first_past n w (some x) h =
      record {
        place = h.place;
        row = h.row;
        behind = omega (arith, h.behind);
        here = h.here;
        unreached = h.unreached;
        above = λ m l b. go m b (split n m l);
        refusal = h.refusal;
        line = h.line;
      }
    where
      go : (m : ℕ) → m < h.place → (n ≡ m) ⊎ (suc n ≤ m) → Reached rs m
      go m b (inl e) = subst (Reached rs) e w
      go m b (inr k) = h.above m k b

  first : (n : ℕ) (qs : List Row) → From n qs → First n (reach_from (type_lines rs) n qs).found
  first n [] f = λ m l b. go m l b (get_elem? rs m) refl
    where
      go : (m : ℕ) → n ≤ m → m < length rs → (x : Option Row) → get_elem? rs m ≡ x → Reached rs m
      go m l b none e = absurd (past rs m e b)
      go m l b (some r) e = absurd (from_end n m r f l e)
  first n (q ∷ qs) f = go (is_root q.kind || member n o.named) refl (first (suc n) qs (from_next n q qs f))
    where
      o : Reach
      o = reach_from (type_lines rs) (suc n) qs

      e : get_elem? rs n ≡ some q
      e = from_head n q qs f

      t : Tells (suc n) o
      t = tells (suc n) qs (from_next n q qs f)

      go : (b : Bool) → (is_root q.kind || member n o.named) ≡ b → First (suc n) o.found
          → First n (cond {A = Reach} b (record { named = reach (type_lines rs) q.kind q ++ o.named; found = o.found }) (record { named = o.named; found = some (idle q.kind, suc n) })).found
      go true b h = first_past n (test_sound n q o e t b) o.found h
      go false b h =
          record {
            place = n;
            row = q;
            behind = omega arith;
            here = e;
            unreached = λ w. not_both (test_complete n q o e t w) b;
            above = λ m l k. absurd (not-suc-le-zero {n = 0} (omega arith));
            refusal = refl;
            line = refl;
          }

  whole : First 0 (reach_from (type_lines rs) 0 rs).found
  whole = first 0 rs (λ k. let e : 0 + k ≡ k = omega arith in ap (get_elem? rs) (sym e))

  as_first : (f : Refusal) (n : ℕ) → Idles 0 f n → FirstIdle rs f n
  as_first f n h =
      record { place = h.place; row = h.row; here = h.here; unreached = h.unreached; above = λ m b. h.above m (omega arith) b; refusal = h.refusal; line = h.line }

  -- there is but one first idle line
  same_first : (f g : Refusal) (n m : ℕ) → FirstIdle rs f n → FirstIdle rs g m → ◌≡◌ {A = Option (Refusal × ℕ)} (some (f, n)) (some (g, m))
  same_first f g n m h k = some_pair (h.refusal ∙ ap (λ (r : Row). idle r.kind) rows ∙ sym k.refusal) (h.line ∙ ap suc places ∙ sym k.line)
    where
      places : h.place ≡ k.place
      places = go (le_or_lt h.place k.place) (le_or_lt k.place h.place)
        where
          go : (h.place ≤ k.place) ⊎ (k.place < h.place) → (k.place ≤ h.place) ⊎ (h.place < k.place) → h.place ≡ k.place
          go (inl a) (inl b) = omega arith
          go (inl a) (inr b) = absurd (h.unreached (k.above h.place b))
          go (inr a) y = absurd (k.unreached (h.above k.place a))

      rows : h.row ≡ k.row
      rows = some_inj (sym h.here ∙ ap (get_elem? rs) places ∙ k.here)

  none_iff : (idle_fault rs ≡ none) ↔ NoneIdle rs
  unfolding idle_fault
  none_iff = (there (reach_from (type_lines rs) 0 rs).found whole, back (reach_from (type_lines rs) 0 rs).found whole)
    where
      there : (x : Option (Refusal × ℕ)) → First 0 x → x ≡ none → NoneIdle rs
      there none h e = λ n b. h n (omega arith) b
      there (some x) h e = absurd (none≢some (sym e))

      back : (x : Option (Refusal × ℕ)) → First 0 x → NoneIdle rs → x ≡ none
      back none h w = refl
      back (some x) h w = absurd (h.unreached (w h.place (index_below rs h.place h.here)))

  some_iff : (f : Refusal) (n : ℕ) → (idle_fault rs ≡ some (f, n)) ↔ FirstIdle rs f n
  unfolding idle_fault
  some_iff f n = (there (reach_from (type_lines rs) 0 rs).found whole, back (reach_from (type_lines rs) 0 rs).found whole)
    where
      there : (x : Option (Refusal × ℕ)) → First 0 x → x ≡ some (f, n) → FirstIdle rs f n
      there none h e = absurd (none≢some e)
      there (some x) h e = let w : x ≡ (f, n) = some_inj e in subst (λ (y : Refusal × ℕ). FirstIdle rs y.0 y.1) w (as_first x.0 x.1 h)

      back : (x : Option (Refusal × ℕ)) → First 0 x → FirstIdle rs f n → x ≡ some (f, n)
      back none h w = absurd (w.unreached (h w.place (omega arith) (index_below rs w.place w.here)))
      back (some x) h w = same_first x.0 f x.1 n (as_first x.0 x.1 h) w

-- The pass finds no line exactly when none is idle, and otherwise the first one that is.
pub idle_none : {rs : List Row} → Passes start rs → (idle_fault rs ≡ none) ↔ NoneIdle rs
idle_none {rs} d = none_iff rs (earlier d)

pub idle_some : {rs : List Row} → Passes start rs → (f : Refusal) (n : ℕ) → (idle_fault rs ≡ some (f, n)) ↔ FirstIdle rs f n
idle_some {rs} d = some_iff rs (earlier d)

-- ---- rows that tell alike

-- the same places named, in any order, and the same line found
pub record Like (o u : Reach) : Type 0 where
  pub named : (i : ℕ) → member i o.named ≡ member i u.named
  pub found : o.found ≡ u.found

pub like_row : (ts n : ℕ) (r : Row) (o u : Reach) → Like o u → Like (reach_row ts n r o) (reach_row ts n r u)
like_row ts n r o u h =
    go (is_root r.kind || member n o.named) (is_root r.kind || member n u.named) (ap (λ b. is_root r.kind || b) (h.named n))
  where
    ns : List ℕ
    ns = reach ts r.kind r

    go : (b c : Bool) → b ≡ c
        → Like (cond {A = Reach} b (record { named = ns ++ o.named; found = o.found }) (record { named = o.named; found = some (idle r.kind, suc n) }))
        (cond {A = Reach} c (record { named = ns ++ u.named; found = u.found }) (record { named = u.named; found = some (idle r.kind, suc n) }))
    go true true e =
        record {
          named = λ i. member_append i ns o.named ∙ ap (λ b. member i ns || b) (h.named i) ∙ sym (member_append i ns u.named);
          found = h.found;
        }
    go true false e = absurd (true≢false e)
    go false true e = absurd (false≢true e)
    go false false e = record { named = h.named; found = refl }

-- rows in front of them
pub like_front : (ts n : ℕ) (qs xs ys : List Row) → Like (reach_from ts (n + length qs) xs) (reach_from ts (n + length qs) ys)
    → Like (reach_from ts n (qs ++ xs)) (reach_from ts n (qs ++ ys))
like_front ts n [] xs ys h = let e : n + 0 ≡ n = omega arith in subst (λ k. Like (reach_from ts k xs) (reach_from ts k ys)) e h
like_front ts n (q ∷ qs) xs ys h =
    let e : n + suc (length qs) ≡ suc n + length qs = omega arith in
    like_row ts n q (reach_from ts (suc n) (qs ++ xs)) (reach_from ts (suc n) (qs ++ ys))
    (like_front ts (suc n) qs xs ys (subst (λ k. Like (reach_from ts k xs) (reach_from ts k ys)) e h))

-- I, C and L rows, and all places that they name
abbrev pub is_root_row : Row → Bool
is_root_row r = is_root r.kind

abbrev pub root_names : ℕ → List Row → List ℕ
root_names ts [] = []
root_names ts (r ∷ rs) = reach ts r.kind r ++ root_names ts rs

root_names_append : (ts : ℕ) (xs ys : List Row) → root_names ts (xs ++ ys) ≡ root_names ts xs ++ root_names ts ys
root_names_append ts [] ys = refl
root_names_append ts (x ∷ xs) ys =
    ap (λ ns. reach ts x.kind x ++ ns) (root_names_append ts xs ys) ∙ sym (append_assoc (reach ts x.kind x) (root_names ts xs) (root_names ts ys))

pub roots_front : (ts n : ℕ) (qs xs : List Row) → all is_root_row qs ≡ true
    → reach_from ts n (qs ++ xs)
    ≡ record { named = root_names ts qs ++ (reach_from ts (n + length qs) xs).named; found = (reach_from ts (n + length qs) xs).found }
roots_front ts n [] xs h = let e : n ≡ n + 0 = omega arith in ap (λ k. reach_from ts k xs) e
roots_front ts n (q ∷ qs) xs h =
    let e : suc n + length qs ≡ n + suc (length qs) = omega arith in
    let k = and_true (is_root_row q) (all is_root_row qs) h in
    let o : Reach = reach_from ts (suc n) (qs ++ xs) in
    ap (λ b. cond {A = Reach} (b || member n o.named) (record { named = reach ts q.kind q ++ o.named; found = o.found })
    (record { named = o.named; found = some (idle q.kind, suc n) })) k.0
    ∙ ap (λ (u : Reach). record { named = reach ts q.kind q ++ u.named; found = u.found }) (roots_front ts (suc n) qs xs k.1)
    ∙ ap (λ m. record { named = reach ts q.kind q ++ (root_names ts qs ++ (reach_from ts m xs).named); found = (reach_from ts m xs).found }) e
    ∙ ap (λ ns. record { named = ns; found = (reach_from ts (n + suc (length qs)) xs).found })
    (sym (append_assoc (reach ts q.kind q) (root_names ts qs) (reach_from ts (n + suc (length qs)) xs).named))

roots_all : (ts n : ℕ) (qs : List Row) → all is_root_row qs ≡ true → reach_from ts n qs ≡ record { named = root_names ts qs; found = none }
roots_all ts n [] h = refl
roots_all ts n (q ∷ qs) h =
    let k = and_true (is_root_row q) (all is_root_row qs) h in
    let o : Reach = reach_from ts (suc n) qs in
    ap (λ b. cond {A = Reach} (b || member n o.named) (record { named = reach ts q.kind q ++ o.named; found = o.found })
    (record { named = o.named; found = some (idle q.kind, suc n) })) k.0
    ∙ ap (λ (u : Reach). record { named = reach ts q.kind q ++ u.named; found = u.found }) (roots_all ts (suc n) qs k.1)

-- two neighbouring lists of such rows may change places
pub like_exchange : (ts n : ℕ) (one two xs : List Row) → all is_root_row one ≡ true → all is_root_row two ≡ true
    → Like (reach_from ts n (one ++ (two ++ xs))) (reach_from ts n (two ++ (one ++ xs)))
like_exchange ts n one two xs h k =
    let e : n + length two + length one ≡ n + length one + length two = omega arith in
    let o : Reach = reach_from ts (n + length one + length two) xs in
    let a = roots_front ts n one (two ++ xs) h ∙ ap (λ (u : Reach). record { named = root_names ts one ++ u.named; found = u.found }) (roots_front ts (n + length one) two xs k) in
    let b = roots_front ts n two (one ++ xs) k
    ∙ ap (λ (u : Reach). record { named = root_names ts two ++ u.named; found = u.found })
    (roots_front ts (n + length two) one xs h ∙ ap (λ m. record { named = root_names ts one ++ (reach_from ts m xs).named; found = (reach_from ts m xs).found }) e) in
    record {
      named = λ i.
          ap (λ (u : Reach). member i u.named) a
          ∙ member_append i (root_names ts one) (root_names ts two ++ o.named)
          ∙ ap (λ z. member i (root_names ts one) || z) (member_append i (root_names ts two) o.named)
          ∙ or_swap (member i (root_names ts one)) (member i (root_names ts two)) (member i o.named)
          ∙ sym
          (ap (λ (u : Reach). member i u.named) b
          ∙ member_append i (root_names ts two) (root_names ts one ++ o.named)
          ∙ ap (λ z. member i (root_names ts two) || z) (member_append i (root_names ts one) o.named));
      found = ap (λ (u : Reach). u.found) a ∙ sym (ap (λ (u : Reach). u.found) b);
    }

-- ---- turned rows

abbrev row : Kind → ℕ → ℕ → ℕ → Row
row k a b c = record { kind = k; x = a; y = b; z = c }

root_row : (s : Seen) (k : Kind) (r : Row) → 2 ≤ stage s.above → Fit s k r → (is_root k ≡ true) × (2 ≤ stage (after_kind k s r).above)
root_row s type_line r h f = let e = leb_le (stage s.above) 0 f.order in absurd (omega arith)
root_row s pattern_line r h f = let e = leb_le (stage s.above) 1 f.order in absurd (omega arith)
root_row s iso_line r h f = (refl, omega arith)
root_row s clause_line r h f = (refl, omega arith)
root_row s let_line r h f = (refl, omega arith)

-- below an I, C or L line there is no other
roots_from : {s : Seen} {rs : List Row} → Passes s rs → 2 ≤ stage s.above → all is_root_row rs ≡ true
roots_from done h = refl
roots_from (next {s = s} {r = r} j d) h = let k = root_row s r.kind r h (judge_fit s r j) in true_and k.0 (roots_from d k.1)

turn_roots : (rs : List Row) → all is_root_row rs ≡ true → (all is_root_row (turn_from rs).held ≡ true) × (all is_root_row (turn_from rs).rest ≡ true)
turn_roots [] h = (refl, refl)
turn_roots (r ∷ rs) h = let p = and_true (is_root_row r) (all is_root_row rs) h in step r.kind r.x r.y r.z p.0 (turn_roots rs p.1)
  where
    held : List Row
    held = (turn_from rs).held

    rest : List Row
    rest = (turn_from rs).rest

    step : (k : Kind) (a b c : ℕ) → is_root k ≡ true → (all is_root_row held ≡ true) × (all is_root_row rest ≡ true)
        → (all is_root_row (turn_from (row k a b c ∷ rs)).held ≡ true) × (all is_root_row (turn_from (row k a b c ∷ rs)).rest ≡ true)
    step type_line a b c e p = absurd (false≢true e)
    step pattern_line a b c e p = absurd (false≢true e)
    step iso_line a b c e p = (refl, all_append is_root_row held rest p.0 p.1)
    step clause_line a b c e p = (refl, all_append is_root_row held rest p.0 p.1)
    step let_line a b c e p = (all_append is_root_row held (row let_line c b a ∷ []) p.0 refl, p.1)

or_last : (h x y r : Bool) → ((h || (x || (y || false))) || r) ≡ (y || (x || (h || r)))
or_last true true true r = refl
or_last true true false r = refl
or_last true false true r = refl
or_last true false false r = refl
or_last false true true r = refl
or_last false true false r = refl
or_last false false true r = refl
or_last false false false r = refl

turn_names : (ts : ℕ) (rs : List Row) → all is_root_row rs ≡ true → (i : ℕ)
    → (member i (root_names ts (turn_from rs).held) || member i (root_names ts (turn_from rs).rest)) ≡ member i (root_names ts rs)
turn_names ts [] h i = refl
turn_names ts (r ∷ rs) h i = let p = and_true (is_root_row r) (all is_root_row rs) h in step r.kind r.x r.y r.z p.0 (turn_names ts rs p.1 i)
  where
    held : List Row
    held = (turn_from rs).held

    rest : List Row
    rest = (turn_from rs).rest

    both : member i (root_names ts (held ++ rest)) ≡ (member i (root_names ts held) || member i (root_names ts rest))
    both = ap (member i) (root_names_append ts held rest) ∙ member_append i (root_names ts held) (root_names ts rest)

    step : (k : Kind) (a b c : ℕ) → is_root k ≡ true → (member i (root_names ts held) || member i (root_names ts rest)) ≡ member i (root_names ts rs)
        → (member i (root_names ts (turn_from (row k a b c ∷ rs)).held) || member i (root_names ts (turn_from (row k a b c ∷ rs)).rest))
        ≡ member i (root_names ts (row k a b c ∷ rs))
    step type_line a b c e p = absurd (false≢true e)
    step pattern_line a b c e p = absurd (false≢true e)
    step iso_line a b c e p = ap (λ z. eqb i b || (eqb i a || z)) (both ∙ p) ∙ or_swap (eqb i b) (eqb i a) (member i (root_names ts rs))
    step clause_line a b c e p =
        ap (λ z. eqb i (ts + b) || (eqb i (ts + a) || z)) (both ∙ p) ∙ or_swap (eqb i (ts + b)) (eqb i (ts + a)) (member i (root_names ts rs))
    step let_line a b c e p =
        ap (λ z. z || member i (root_names ts rest))
        (ap (member i) (root_names_append ts held (row let_line c b a ∷ [])) ∙ member_append i (root_names ts held) ((ts + c) ∷ ((ts + a) ∷ [])))
        ∙ or_last (member i (root_names ts held)) (eqb i (ts + c)) (eqb i (ts + a)) (member i (root_names ts rest))
        ∙ ap (λ z. eqb i (ts + a) || (eqb i (ts + c) || z)) p

turn_like_roots : (ts n : ℕ) (rs : List Row) → all is_root_row rs ≡ true → Like (reach_from ts n (turn_rows rs)) (reach_from ts n rs)
unfolding turn_rows
turn_like_roots ts n rs h =
    let held : List Row = (turn_from rs).held in
    let rest : List Row = (turn_from rs).rest in
    let k = turn_roots rs h in
    let a = roots_all ts n (held ++ rest) (all_append is_root_row held rest k.0 k.1) in
    let b = roots_all ts n rs h in
    record {
      named = λ i.
          ap (λ (u : Reach). member i u.named) a
          ∙ ap (member i) (root_names_append ts held rest)
          ∙ member_append i (root_names ts held) (root_names ts rest)
          ∙ turn_names ts rs h i
          ∙ sym (ap (λ (u : Reach). member i u.named) b);
      found = ap (λ (u : Reach). u.found) a ∙ sym (ap (λ (u : Reach). u.found) b);
    }

pub turn_like : {s : Seen} {rs : List Row} → Passes s rs → (ts n : ℕ) → Like (reach_from ts n (turn_rows rs)) (reach_from ts n rs)
unfolding turn_rows
turn_like done ts n = record { named = λ i. refl; found = refl }
turn_like (next {s = s} {r = r} {rs = rs} j d) ts n = step r.kind r.x r.y r.z d (turn_like d ts (suc n))
  where
    step : (k : Kind) (a b c : ℕ) → Passes (after_kind k s (row k a b c)) rs → Like (reach_from ts (suc n) (turn_rows rs)) (reach_from ts (suc n) rs)
        → Like (reach_from ts n (turn_rows (row k a b c ∷ rs))) (reach_from ts n (row k a b c ∷ rs))
    step type_line a b c e h = like_row ts n (row type_line a b c) (reach_from ts (suc n) (turn_rows rs)) (reach_from ts (suc n) rs) h
    step pattern_line a b c e h = like_row ts n (row pattern_line a b c) (reach_from ts (suc n) (turn_rows rs)) (reach_from ts (suc n) rs) h
    step iso_line a b c e h = turn_like_roots ts n (row iso_line a b c ∷ rs) (roots_from e (omega arith))
    step clause_line a b c e h = turn_like_roots ts n (row clause_line a b c ∷ rs) (roots_from e (omega arith))
    step let_line a b c e h = turn_like_roots ts n (row let_line a b c ∷ rs) (roots_from e (omega arith))

pub type_lines_turn : (rs : List Row) → type_lines (turn_rows rs) ≡ type_lines rs
unfolding type_lines
type_lines_turn rs = ap (λ (s : Seen). length s.types) (after_turn start rs)

-- turned rows have the idle lines that the rows have, at the same places
pub idle_turn : {rs : List Row} → Passes start rs → idle_fault (turn_rows rs) ≡ idle_fault rs
unfolding idle_fault
idle_turn {rs} d = ap (λ ts. (reach_from ts 0 (turn_rows rs)).found) (type_lines_turn rs) ∙ (turn_like d (type_lines rs) 0).found
