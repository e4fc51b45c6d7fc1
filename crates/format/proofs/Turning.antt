-- The turned rows: turning twice gives the rows back, the turned rows tell the same of types and patterns, they unfold to the inverted isos,
-- and they pass the judge where the rows do.
use Prim.Native.Nat.{ℕ, suc, ◌≤◌}
use native.Mathlib.Omega.{arith}
use mathlib.Core.Path.{◌≡◌, refl, sym, ap, ◌∙◌, subst}
use mathlib.Core.Bool.{◌&&◌}
use mathlib.Core.Option.{none, some}
use mathlib.Core.List.{List, [], ◌∷◌, ◌++◌, map, reverse, append-nil, append_assoc, reverse-cons}
use lib.Dec.{ltb}
use lib.ListN.{length, get_or}
use Rattle.limits.specs.Limits.{max_lets}
use Rattle.calculus.specs.Trees.{Ty, Pat, pleaf, unit_leaf, Let, invert_let, invert_clause, invert}
use Rattle.calculus.specs.Refusals.{Kind, type_line, pattern_line, iso_line, clause_line, let_line}
use Rattle.format.specs.Lines.{Row}
use Rattle.format.specs.Judge.{Seen, start, stage, judge, after_kind, after, after_all}
use Rattle.format.specs.Unfold.{Tail, place, tail_from, isos_of, exchange, turn_row, turn_from, turn_rows}
use Rattle.calculus.proofs.Basic.{and_true, true_and, ltb_lt, lt_ltb, leb_le}
use Rattle.format.proofs.Passing.{Passes, done, next, Fit, judge_fit, fit_judge}

abbrev row : Kind → ℕ → ℕ → ℕ → Row
row k a b c = record { kind = k; x = a; y = b; z = c }

-- ---- the L lines in front

-- only L lines
abbrev pub AllLets : List Row → Type 0
AllLets [] = Unit {0}
AllLets (r ∷ rs) = (r.kind ≡ let_line) × AllLets rs

snoc_lets : (ls : List Row) (l : Row) → AllLets ls → l.kind ≡ let_line → AllLets (ls ++ (l ∷ []))
snoc_lets [] l u e = (e, tt)
snoc_lets (h ∷ ls) l u e = (u.0, snoc_lets ls l u.1 e)

pub held_lets : (rs : List Row) → AllLets (turn_from rs).held
held_lets [] = tt
held_lets (r ∷ rs) = step r.kind r.x r.y r.z (held_lets rs)
  where
    step : (k : Kind) (a b c : ℕ) → AllLets (turn_from rs).held → AllLets (turn_from (row k a b c ∷ rs)).held
    step type_line a b c h = tt
    step pattern_line a b c h = tt
    step iso_line a b c h = tt
    step clause_line a b c h = tt
    step let_line a b c h = snoc_lets (turn_from rs).held (row let_line c b a) h refl

-- ---- turning twice

-- L lines in front are held, last to first, behind what is held of the rest
front : (ls xs : List Row) → AllLets ls → turn_from (ls ++ xs) ≡ record { held = (turn_from xs).held ++ (turn_from ls).held; rest = (turn_from xs).rest }
front [] xs u = ap (λ h. record { held = h; rest = (turn_from xs).rest }) (sym (append-nil (turn_from xs).held))
front (l ∷ ls) xs u =
    ap (λ k. turn_row k l (turn_from (ls ++ xs))) u.0
    ∙ ap (turn_row let_line l) (front ls xs u.1)
    ∙ ap (λ h. record { held = h; rest = (turn_from xs).rest })
    (append_assoc (turn_from xs).held (turn_from ls).held (exchange let_line l ∷ [])
    ∙ ap (λ k. (turn_from xs).held ++ (turn_row k l (turn_from ls)).held) (sym u.0))

-- what is held and the rest, turned once more
record Back (rs : List Row) : Type 0 where
  held : (turn_from (turn_from rs).rest).held ≡ []
  both : (turn_from (turn_from rs).held).held ++ (turn_from (turn_from rs).rest).rest ≡ rs

turn_back : (rs : List Row) → Back rs → turn_rows (turn_rows rs) ≡ rs
unfolding turn_rows
turn_back rs b =
    ap (λ t. t.held ++ t.rest) (front (turn_from rs).held (turn_from rs).rest (held_lets rs))
    ∙ ap (λ h. h ++ (turn_from (turn_from rs).held).held ++ (turn_from (turn_from rs).rest).rest) b.held
    ∙ b.both

back : (rs : List Row) → Back rs
unfolding turn_rows
back [] = record { held = refl; both = refl }
back (r ∷ rs) = step r.kind r.x r.y r.z (back rs)
  where
    step : (k : Kind) (a b c : ℕ) → Back rs → Back (row k a b c ∷ rs)
    step type_line a b c h = record { held = refl; both = ap (λ qs. row type_line a b c ∷ qs) (turn_back rs h) }
    step pattern_line a b c h = record { held = refl; both = ap (λ qs. row pattern_line a b c ∷ qs) (turn_back rs h) }
    step iso_line a b c h = record { held = refl; both = ap (λ qs. row iso_line a b c ∷ qs) (turn_back rs h) }
    step clause_line a b c h = record { held = refl; both = ap (λ qs. row clause_line a b c ∷ qs) (turn_back rs h) }
    step let_line a b c h =
        record {
          held = h.held;
          both =
              ap (λ t. t.held ++ (turn_from (turn_from rs).rest).rest) (front (turn_from rs).held (row let_line c b a ∷ []) (held_lets rs))
              ∙ ap (λ qs. row let_line a b c ∷ qs) h.both;
        }

pub turn_turn : (rs : List Row) → turn_rows (turn_rows rs) ≡ rs
turn_turn rs = turn_back rs (back rs)

-- ---- what the turned rows tell

-- what the rows tell with one L line more
abbrev pub with_let : Seen → Seen
with_let s = record { above = some let_line; types = s.types; patterns = s.patterns; isos = s.isos; clauses = s.clauses; lets = suc s.lets }

pub after_let : (s : Seen) (l : Row) → l.kind ≡ let_line → after s l ≡ with_let s
after_let s l e = ap (λ k. after_kind k s l) e

-- an L line behind other L lines tells as much as one before them
after_move : (ls : List Row) → AllLets ls → (l : Row) → l.kind ≡ let_line → (s : Seen) (xs : List Row)
    → after_all s ((ls ++ (l ∷ [])) ++ xs) ≡ after_all (with_let s) (ls ++ xs)
after_move [] u l e s xs = ap (λ t. after_all t xs) (after_let s l e)
after_move (h ∷ ls) u l e s xs =
    ap (λ t. after_all t ((ls ++ (l ∷ [])) ++ xs)) (after_let s h u.0)
    ∙ after_move ls u.1 l e (with_let s) xs
    ∙ ap (λ t. after_all t (ls ++ xs)) (sym (after_let (with_let s) h u.0))

-- no field of an I, C or L line is told
pub after_turn : (s : Seen) (rs : List Row) → after_all s (turn_rows rs) ≡ after_all s rs
unfolding turn_rows
after_turn s [] = refl
after_turn s (r ∷ rs) = step r.kind r.x r.y r.z (λ t. after_turn t rs)
  where
    step : (k : Kind) (a b c : ℕ) → ((t : Seen) → after_all t (turn_rows rs) ≡ after_all t rs)
        → after_all s (turn_rows (row k a b c ∷ rs)) ≡ after_all s (row k a b c ∷ rs)
    step type_line a b c h = h (after s (row type_line a b c))
    step pattern_line a b c h = h (after s (row pattern_line a b c))
    step iso_line a b c h = h (after s (row iso_line a b c))
    step clause_line a b c h = h (after s (row clause_line a b c))
    step let_line a b c h =
        after_move (turn_from rs).held (held_lets rs) (row let_line c b a) refl s (turn_from rs).rest ∙ h (with_let s)

-- ---- the isos of the turned rows

-- only I, C and L lines
abbrev Late : Kind → Type 0
Late type_line = ⊥
Late pattern_line = ⊥
Late iso_line = Unit {0}
Late clause_line = Unit {0}
Late let_line = Unit {0}

abbrev AllLate : List Row → Type 0
AllLate [] = Unit {0}
AllLate (r ∷ rs) = Late r.kind × AllLate rs

-- no T or P line below an I, C or L line
late_row : (s : Seen) (k : Kind) (r : Row) → 2 ≤ stage s.above → Fit s k r → Late k × (2 ≤ stage (after_kind k s r).above)
late_row s type_line r h f = let e = leb_le (stage s.above) 0 f.order in absurd (omega arith)
late_row s pattern_line r h f = let e = leb_le (stage s.above) 1 f.order in absurd (omega arith)
late_row s iso_line r h f = (tt, omega arith)
late_row s clause_line r h f = (tt, omega arith)
late_row s let_line r h f = (tt, omega arith)

all_late : {s : Seen} {rs : List Row} → Passes s rs → 2 ≤ stage s.above → AllLate rs
all_late done h = tt
all_late (next {s = s} {r = r} j d) h = let l = late_row s r.kind r h (judge_fit s r j) in (l.0, all_late d l.1)

-- a tail inverted
abbrev pub turn_tail : Tail → Tail
turn_tail o = record { lets = reverse (map invert_let o.lets); clauses = map invert_clause o.clauses; isos = map invert o.isos }

module _ (ts : List Ty) (ps : List Pat) where
  abbrev let_of : Row → Let
  let_of r = record { p = get_or ps r.x (pleaf unit_leaf); iso = r.y; q = get_or ps r.z (pleaf unit_leaf) }

  abbrev snoc_let : Let → Tail → Tail
  snoc_let l o = record { lets = o.lets ++ (l ∷ []); clauses = o.clauses; isos = o.isos }

  -- the rest of the turned rows has no L line in front
  rest_lets : (rs : List Row) → AllLate rs → (n : ℕ) → (tail_from ts ps n (turn_from rs).rest).lets ≡ []
  rest_lets [] u n = refl
  rest_lets (r ∷ rs) u n = step r.kind r.x r.y r.z u.0 (rest_lets rs u.1 n)
    where
      step : (k : Kind) (a b c : ℕ) → Late k → (tail_from ts ps n (turn_from rs).rest).lets ≡ []
          → (tail_from ts ps n (turn_from (row k a b c ∷ rs)).rest).lets ≡ []
      step type_line a b c v h = absurd v
      step pattern_line a b c v h = absurd v
      step iso_line a b c v h = refl
      step clause_line a b c v h = refl
      step let_line a b c v h = h

  tail_let : (n : ℕ) (l : Row) (xs : List Row) → l.kind ≡ let_line → tail_from ts ps n (l ∷ xs) ≡ place ts ps let_line n l (tail_from ts ps (suc n) xs)
  tail_let n l xs e = ap (λ k. place ts ps k n l (tail_from ts ps (suc n) xs)) e

  -- an L line behind other L lines gives the last let step, and the lines behind it keep their numbers
  tail_move : (ls : List Row) → AllLets ls → (l : Row) → l.kind ≡ let_line → (n : ℕ) (xs : List Row)
      → ((m : ℕ) → (tail_from ts ps m xs).lets ≡ []) → tail_from ts ps n ((ls ++ (l ∷ [])) ++ xs) ≡ snoc_let (let_of l) (tail_from ts ps (suc n) (ls ++ xs))
  tail_move [] u l e n xs h =
      let o : Tail = tail_from ts ps (suc n) xs in
      tail_let n l xs e
      ∙ ap (λ qs. record { lets = let_of l ∷ qs; clauses = o.clauses; isos = o.isos }) (h (suc n))
      ∙ ap (λ qs. record { lets = qs ++ (let_of l ∷ []); clauses = o.clauses; isos = o.isos }) (sym (h (suc n)))
  tail_move (m ∷ ls) u l e n xs h =
      tail_let n m ((ls ++ (l ∷ [])) ++ xs) u.0
      ∙ ap (place ts ps let_line n m) (tail_move ls u.1 l e (suc n) xs h)
      ∙ ap (snoc_let (let_of l)) (sym (tail_let (suc n) m (ls ++ xs) u.0))

  pub tail_turn : {s : Seen} {rs : List Row} → Passes s rs → (n : ℕ) → tail_from ts ps n (turn_rows rs) ≡ turn_tail (tail_from ts ps n rs)
  unfolding turn_rows
  tail_turn done n = refl
  tail_turn (next {s = s} {r = r} {rs = rs} j d) n = step r.kind r.x r.y r.z d (tail_turn d (suc n))
    where
      step : (k : Kind) (a b c : ℕ) → Passes (after_kind k s (row k a b c)) rs
          → tail_from ts ps (suc n) (turn_rows rs) ≡ turn_tail (tail_from ts ps (suc n) rs)
          → tail_from ts ps n (turn_rows (row k a b c ∷ rs)) ≡ turn_tail (tail_from ts ps n (row k a b c ∷ rs))
      step type_line a b c e h = h
      step pattern_line a b c e h = h
      step iso_line a b c e h = ap (place ts ps iso_line n (row iso_line b a c)) h
      step clause_line a b c e h = ap (place ts ps clause_line n (row clause_line b a c)) h
      step let_line a b c e h =
          let o : Tail = tail_from ts ps (suc n) rs in
          tail_move (turn_from rs).held (held_lets rs) (row let_line c b a) refl n (turn_from rs).rest (rest_lets rs (all_late e (omega arith)))
          ∙ ap (snoc_let (let_of (row let_line c b a))) h
          ∙ ap (λ qs. record { lets = qs; clauses = map invert_clause o.clauses; isos = map invert o.isos })
          (sym (reverse-cons (invert_let (let_of (row let_line a b c))) (map invert_let o.lets)))

-- the turned rows unfold to the inverted isos
pub isos_turn : (rs : List Row) → Passes start rs → isos_of (turn_rows rs) ≡ map invert (isos_of rs)
unfolding start isos_of
isos_turn rs d =
    let s : Seen = after_all start rs in
    ap (λ (t : Seen). (tail_from t.types t.patterns 1 (turn_rows rs)).isos) (after_turn start rs)
    ∙ ap (λ (o : Tail). o.isos) (tail_turn s.types s.patterns d 1)

-- ---- the turned rows pass

-- an exchanged row names the same lines
exchange_fit : (s : Seen) (k : Kind) (r : Row) → Fit s k r → Fit s k (exchange k r)
exchange_fit s type_line r f = f
exchange_fit s pattern_line r f = f
exchange_fit s iso_line r f =
    let n : ℕ = length s.types in
    let e = and_true (ltb r.x n) (ltb r.y n) f.names in
    record { order = f.order; fields = refl; names = true_and e.1 e.0; ceilings = f.ceilings }
exchange_fit s clause_line r f =
    let n : ℕ = length s.patterns in
    let e = and_true (ltb r.x n) (ltb r.y n) f.names in
    record { order = f.order; fields = refl; names = true_and e.1 e.0; ceilings = f.ceilings }
exchange_fit s let_line r f =
    let n : ℕ = length s.patterns in
    let d = and_true (ltb r.x n && ltb r.z n) (ltb r.y s.isos) f.names in
    let e = and_true (ltb r.x n) (ltb r.z n) d.0 in
    record { order = f.order; fields = refl; names = true_and (true_and e.1 e.0) d.1; ceilings = f.ceilings }

pub judge_let : (s : Seen) (l : Row) → l.kind ≡ let_line → judge s l ≡ none → Fit s let_line l
judge_let s l e j = subst (λ k. Fit s k l) e (judge_fit s l j)

pub let_judge : (s : Seen) (l : Row) → l.kind ≡ let_line → Fit s let_line l → judge s l ≡ none
let_judge s l e f = fit_judge s l (subst (λ k. Fit s k l) (sym e) f)

-- of two L lines the second passes in front of the first
sooner_fit : (s : Seen) (l h : Row) → Fit s let_line l → Fit (with_let s) let_line h → Fit s let_line h
sooner_fit s l h f g =
    let b = ltb_lt (suc s.lets) max_lets g.ceilings in
    record { order = f.order; fields = refl; names = g.names; ceilings = lt_ltb {m = s.lets} {n = max_lets} (omega arith) }

-- and the first behind the second
later_fit : (s : Seen) (l h : Row) → Fit s let_line l → Fit (with_let s) let_line h → Fit (with_let s) let_line l
later_fit s l h f g = record { order = refl; fields = refl; names = f.names; ceilings = g.ceilings }

pub passes_next : {s : Seen} {r : Row} {rs : List Row} → Passes s (r ∷ rs) → (judge s r ≡ none) × Passes (after s r) rs
passes_next (next j d) = (j, d)

-- an L line that passes before other L lines passes behind them
passes_move : (ls : List Row) → AllLets ls → (l : Row) → l.kind ≡ let_line → (s : Seen) (xs : List Row)
    → Fit s let_line l → Passes (with_let s) (ls ++ xs) → Passes s ((ls ++ (l ∷ [])) ++ xs)
passes_move [] u l e s xs f d = next (let_judge s l e f) (subst (λ t. Passes t xs) (sym (after_let s l e)) d)
passes_move (h ∷ ls) u l e s xs f d =
    let j = passes_next d in
    let g = judge_let (with_let s) h u.0 j.0 in
    let rest = passes_move ls u.1 l e (with_let s) xs (later_fit s l h f g) (subst (λ t. Passes t (ls ++ xs)) (after_let (with_let s) h u.0) j.1) in
    next (let_judge s h u.0 (sooner_fit s l h f g)) (subst (λ t. Passes t ((ls ++ (l ∷ [])) ++ xs)) (sym (after_let s h u.0)) rest)

pub passes_turn_from : {s : Seen} {rs : List Row} → Passes s rs → Passes s (turn_rows rs)
unfolding turn_rows
passes_turn_from done = done
passes_turn_from (next {s = s} {r = r} {rs = rs} j d) = step r.kind r.x r.y r.z (judge_fit s r j) (passes_turn_from d)
  where
    step : (k : Kind) (a b c : ℕ) → Fit s k (row k a b c) → Passes (after_kind k s (row k a b c)) (turn_rows rs)
        → Passes s (turn_rows (row k a b c ∷ rs))
    step type_line a b c f e = next (fit_judge s (row type_line a b c) f) e
    step pattern_line a b c f e = next (fit_judge s (row pattern_line a b c) f) e
    step iso_line a b c f e = next (fit_judge s (row iso_line b a c) (exchange_fit s iso_line (row iso_line a b c) f)) e
    step clause_line a b c f e = next (fit_judge s (row clause_line b a c) (exchange_fit s clause_line (row clause_line a b c) f)) e
    step let_line a b c f e =
        passes_move (turn_from rs).held (held_lets rs) (row let_line c b a) refl s (turn_from rs).rest (exchange_fit s let_line (row let_line a b c) f) e

pub passes_turn : {rs : List Row} → Passes start rs → Passes start (turn_rows rs)
passes_turn d = passes_turn_from d
