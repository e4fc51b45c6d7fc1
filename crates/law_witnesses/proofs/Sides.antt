-- One side of an iso, and an iso: where it is refused 11 to 14 a least value shows the fault, and the search finds it unless it has over 127 letters.
use Prim.Native.Nat.{ℕ, ◌≤◌}
use mathlib.Core.Path.{◌≡◌, refl}
use mathlib.Core.Logic.{◌↔◌, ⊎_elim}
use mathlib.Core.Bool.{Bool, true, false}
use mathlib.Core.Option.{Option, none, some}
use mathlib.Core.List.{List, Memᴰ}
use Rattle.limits.specs.Limits.{max_nodes, max_tags, result_length}
use lib.ListN.{length}
use Rattle.calculus.specs.Letters.{letters}
use Rattle.calculus.specs.Shapes.{Shape}
use Rattle.calculus.specs.Trees.{Ty, left, right, Pat, Val, Clause, Iso, vars, tags, type_nodes}
use Rattle.calculus.specs.Refusals.{Refusal, iso_line, overlap, gap}
use Rattle.calculus.specs.Clauses.{Sigs, lefts, rights, apart, full_weight, iso_fault}
use Rattle.calculus.specs.Paper.{Of, Apart, Covers, Distinct, ClauseOk}
use Rattle.calculus.specs.Faulty.{SideFault, Breach, IsoFault, FirstClause, ClauseFault}
use Rattle.law_witnesses.specs.Shapes.{Side}
use Rattle.law_witnesses.specs.Showing.{Least, Twice, Never, Large, twice, never, setting, sided}
use Rattle.calculus.proofs.Basic.{not_both, is_false, each_map, le_or_lt}
use Rattle.calculus.proofs.Variables.{distinct_lhs, distinct_rhs}
use Rattle.calculus.proofs.Checking.{Light, apart_iff, iso_fault_lem, rhs_shape}
use Rattle.calculus.proofs.Matrix.{fits_shape}
use Rattle.calculus.proofs.Covering.{covering}
use Rattle.law_witnesses.proofs.Spelling.{setting_least, setting_none}
use Rattle.law_witnesses.proofs.Overlaps.{overlap_found, twice_iff}
use Rattle.law_witnesses.proofs.Gaps.{never_iff, gap_found}

-- a least value under another description
least_iff : (a : Ty) (F G : Val → Type 0) → ((v : Val) → F v ↔ G v) → (v : Val) → Least a F v → Least a G v
least_iff a F G h v l = record { of = l.of; shows = (h v).0 l.shows; first = λ w o g. l.first w o ((h w).1 g) }

-- What a search gives: the least value, of at most 127 letters; or nothing, where each has more, and there is one.
pub data Sight (a : Ty) (F : Val → Type 0) : Option Val → Type 0 where
  seen : {v : Val} → Least a F v → length (letters v) ≤ result_length → Sight a F (some v)
  unseen : Large a F → Sight a F none

-- a value that passes a test is there
sight : (a : Ty) (f : Val → Bool) (F : Val → Type 0) → ((v : Val) → (f v ≡ true) ↔ F v) → (w : Val) → Of w a → F w → Sight a F (setting a f)
sight a f F iff w o h = go (setting a f) refl
  where
    go : (x : Option Val) → setting a f ≡ x → Sight a F x
    go (some v) e = let l = setting_least a f v e in Sight.seen (least_iff a (λ u. f u ≡ true) F iff v l.0) l.1
    go none e =
        Sight.unseen record {
          value = w;
          of = o;
          shows = h;
          longer = λ u p g. ⊎_elim (λ l. absurd (setting_none a f e u p l ((iff u).1 g))) (λ l. l) (le_or_lt (length (letters u)) result_length);
        }

-- ---- one side of an iso whose clauses are in order

module _ (a : Ty) (ps : List Pat) (shapes : (p : Pat) → Memᴰ p ps → Shape p a)
    (distinct : (p : Pat) → Memᴰ p ps → Distinct (vars p)) (light : (p : Pat) → Memᴰ p ps → tags p ≤ max_tags) where
  pub overlap_least : ¬ Apart ps → Sight a (Twice ps) (setting a (twice ps))
  overlap_least h =
      let w = overlap_found a ps shapes (is_false (apart ps) (λ e. h ((apart_iff ps).0 e))) in
      sight a (twice ps) (Twice ps) (twice_iff ps distinct) w.0 w.1 ((twice_iff ps distinct w.0).0 w.2)

  pub gap_least : Apart ps → ¬ Covers a ps → Sight a (Never ps) (setting a (never ps))
  gap_least h k =
      let e = is_false (full_weight ps) (λ e. k ((covering a ps shapes distinct light h).0 e)) in
      let w = gap_found a ps shapes distinct light h e in
      sight a (never ps) (Never ps) (never_iff ps distinct) w.0 w.1 w.2

-- a refused side has a least value that shows the fault; where it has a gap it has no overlap
pub data Found (o : Iso) : Refusal → Type 0 where
  overlap_left : Side o.from (lefts o) → Sight o.from (Twice (lefts o)) (setting o.from (twice (lefts o))) → Found o (overlap iso_line left)
  overlap_right : Side o.to (rights o) → Sight o.to (Twice (rights o)) (setting o.to (twice (rights o))) → Found o (overlap iso_line right)
  gap_left : Side o.from (lefts o) → Apart (lefts o) → Sight o.from (Never (lefts o)) (setting o.from (never (lefts o))) → Found o (gap iso_line left)
  gap_right : Side o.to (rights o) → Apart (rights o) → Sight o.to (Never (rights o)) (setting o.to (never (rights o))) → Found o (gap iso_line right)

-- what is known of an iso of a file in form
pub record Known (o : Iso) : Type 0 where
  pub light : Light o
  pub from : type_nodes o.from ≤ max_nodes
  pub to : type_nodes o.to ≤ max_nodes

-- ---- an iso whose clauses are in order

module _ (sigs : Sigs) (o : Iso) (known : Known o) (ok : (c : Clause) → Memᴰ c o.clauses → ClauseOk sigs o.from o.to c) where
  left_shapes : (p : Pat) → Memᴰ p (lefts o) → Shape p o.from
  left_shapes = each_map (λ p. Shape p o.from) (λ c. c.lhs) o.clauses (λ c m. fits_shape (ok c m).types.lhs)

  right_shapes : (p : Pat) → Memᴰ p (rights o) → Shape p o.to
  right_shapes = each_map (λ p. Shape p o.to) (λ c. c.rhs) o.clauses (λ c m. rhs_shape (ok c m).types.rest)

  left_distinct : (p : Pat) → Memᴰ p (lefts o) → Distinct (vars p)
  left_distinct = each_map (λ p. Distinct (vars p)) (λ c. c.lhs) o.clauses (λ c m. distinct_lhs c (ok c m).variables)

  right_distinct : (p : Pat) → Memᴰ p (rights o) → Distinct (vars p)
  right_distinct = each_map (λ p. Distinct (vars p)) (λ c. c.rhs) o.clauses (λ c m. distinct_rhs c (ok c m).variables)

  left_light : (p : Pat) → Memᴰ p (lefts o) → tags p ≤ max_tags
  left_light = each_map (λ p. tags p ≤ max_tags) (λ c. c.lhs) o.clauses known.light.lhs

  right_light : (p : Pat) → Memᴰ p (rights o) → tags p ≤ max_tags
  right_light = each_map (λ p. tags p ≤ max_tags) (λ c. c.rhs) o.clauses known.light.rhs

  left_side : Side o.from (lefts o)
  left_side = record { small = known.from; shapes = left_shapes }

  right_side : Side o.to (rights o)
  right_side = record { small = known.to; shapes = right_shapes }

  side_found : {f : Refusal} → SideFault o f → Found o f
  side_found (SideFault.overlap_left h) = Found.overlap_left left_side (overlap_least o.from (lefts o) left_shapes left_distinct left_light h)
  side_found (SideFault.overlap_right h k) = Found.overlap_right right_side (overlap_least o.to (rights o) right_shapes right_distinct right_light k)
  side_found (SideFault.gap_left h k l) = Found.gap_left left_side h (gap_least o.from (lefts o) left_shapes left_distinct left_light h l)
  side_found (SideFault.gap_right h k l m) = Found.gap_right right_side k (gap_least o.to (rights o) right_shapes right_distinct right_light k m)

-- 8 to 10 are of clauses
pub fault_unsided : {sigs : Sigs} {a b : Ty} {c : Clause} {f : Refusal} → ClauseFault sigs a b c f → sided f ≡ false
fault_unsided (ClauseFault.variables h) = refl
fault_unsided (ClauseFault.shapes h k) = refl
fault_unsided (ClauseFault.types h k l) = refl

clause_unsided : {sigs : Sigs} {a b : Ty} {cs : List Clause} {f : Refusal} {n : ℕ} → FirstClause sigs a b cs f n → sided f ≡ false
clause_unsided (FirstClause.here h e) = fault_unsided h
clause_unsided (FirstClause.later h k) = clause_unsided k

-- and so is 23
breach_unsided : {i : ℕ} {o : Iso} {f : Refusal} {n : ℕ} → Breach i o f n → sided f ≡ false
breach_unsided (Breach.in_type h e) = refl
breach_unsided (Breach.in_clause h k) = refl

-- an iso refused 11 to 14
pub iso_found : (sigs : Sigs) (i : ℕ) (o : Iso) → Known o → (f : Refusal) (n : ℕ) → sided f ≡ true → iso_fault sigs i o ≡ some (f, n) → (n ≡ o.line) × Found o f
iso_found sigs i o k f n s e = go (iso_fault_lem sigs i o k.light f n e)
  where
    go : IsoFault sigs i o f n → (n ≡ o.line) × Found o f
    go (IsoFault.in_clause h) = absurd (not_both s (clause_unsided h))
    go (IsoFault.in_recursion ok h b) = absurd (not_both s (breach_unsided b))
    go (IsoFault.in_sides ok r h l) = (l, side_found sigs o k ok h)
