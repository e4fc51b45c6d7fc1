-- The laws of the overlap of two P lines, said of the service: it is the orthogonality of section 2.2, the same for the lines exchanged, and counts at
-- least 1 and at most the smaller number of nodes; a refusal gives false and 0, and the areas are as after Check.
use Rattle.std.proofs.Common.{◌≡◌, ℕ, zero, suc, ◌<◌, ◌≤◌, true, false, List, [], ◌∷◌, ◌++◌, length, get_or, sym, refl, ap, ◌∙◌, ap₂, arith}
use mathlib.Core.Option.{Option, none, some}
use lib.ListN.{get_elem?}
use Rattle.limits.specs.Limits.{max_nodes}
use Rattle.calculus.specs.Trees.{Pat, pleaf, unit_leaf, nodes}
use Rattle.calculus.specs.Refusals.{Kind, type_line, pattern_line, iso_line, clause_line, let_line}
use Rattle.format.specs.Lines.{Row}
use Rattle.format.specs.Judge.{Seen, start, pattern_tree, after_kind, after_all}
use Rattle.model.specs.Services.{Verdict, accepted, refused, verdict, short, unless, check, Outcome, gives, fails, refusal_number, line_of, served}
use Rattle.calculus.specs.Paper.{Orth}
use Rattle.format.proofs.Passing as P
use Rattle.model.proofs.Outcomes.{refused_first}
use Rattle.check_overlap.specs.Comparison.{Compared, compare, laid}
use Rattle.check_overlap.specs.Overlap.{patterns_of, on_patterns, overlap_rows, overlap_on, clash_of, pairs_of, overlapped_by, overlap_service}
use Rattle.check_overlap.proofs.Comparing.{compare_orth, compare_sym, compare_least, compare_most, compare_whole}

-- ---- P lines have few nodes

abbrev AllSmall : List Pat → Type 0
AllSmall ps = (i : ℕ) → nodes (get_or ps i (pleaf unit_leaf)) ≤ max_nodes

snoc_small : (ps : List Pat) (p : Pat) → AllSmall ps → nodes p ≤ max_nodes → AllSmall (ps ++ (p ∷ []))
snoc_small [] p h f zero = f
snoc_small [] p h f (suc i) = omega arith
snoc_small (q ∷ ps) p h f zero = h zero
snoc_small (q ∷ ps) p h f (suc i) = snoc_small ps p (λ j. h (suc j)) f i

after_small : (s : Seen) (k : Kind) (r : Row) → P.Fit s k r → AllSmall s.patterns → AllSmall (after_kind k s r).patterns
after_small s type_line r f h = h
after_small s pattern_line r f h = snoc_small s.patterns (pattern_tree s.patterns r) h (P.pattern_fit s r f).1
after_small s iso_line r f h = h
after_small s clause_line r f h = h
after_small s let_line r f h = h

patterns_small_from : {s : Seen} {rs : List Row} → P.Passes s rs → AllSmall s.patterns → AllSmall (after_all s rs).patterns
patterns_small_from P.done h = h
patterns_small_from (P.next {s = s} {r = r} j ps) h = patterns_small_from ps (after_small s r.kind r (P.judge_fit s r j) h)

-- the P lines of rows that pass have few nodes
pub patterns_small : {rs : List Row} → P.Passes start rs → AllSmall (after_all start rs).patterns
unfolding start
patterns_small d = patterns_small_from d (λ i. omega arith)

-- ---- one outcome

on_sym : (p q : Option Pat) → on_patterns p q ≡ on_patterns q p
on_sym none none = refl
on_sym none (some q) = refl
on_sym (some p) none = refl
on_sym (some p) (some q) = ap gives (compare_sym p q)

overlap_on_sym : (v : Verdict) (i j : ℕ) → overlap_on v i j ≡ overlap_on v j i
overlap_on_sym (accepted rs) i j = on_sym (get_elem? (patterns_of rs) i) (get_elem? (patterns_of rs) j)
overlap_on_sym (refused f n) i j = refl

module _ (file table work : List ℕ) where
  abbrev given : Verdict
  given = unless (short table work) (verdict file)

  -- "the number is the same with the patterns exchanged", and so is all else
  pub overlap_sym : (i j : ℕ) → overlap_service file table work i j ≡ overlap_service file table work j i
  unfolding overlap_service
  overlap_sym i j = ap (λ o. overlapped_by (served given o table work)) (overlap_on_sym given i j)

  -- the areas are as after Check
  pub overlap_areas : (i j : ℕ)
      → ((overlap_service file table work i j).table ≡ (check file table work).table) × ((overlap_service file table work i j).work ≡ (check file table work).work)
  unfolding overlap_service check
  overlap_areas i j = (refl, refl)

  -- a refusal of Check is given with its line
  pub overlap_refused : (i j : ℕ) → 0 < (check file table work).answer.number
      → ((overlap_service file table work i j).number ≡ (check file table work).answer.number)
      × ((overlap_service file table work i j).line ≡ (check file table work).answer.line)
  unfolding overlap_service check
  overlap_refused i j h = refused_first given (overlap_rows i j) h

  -- with any refusal false and 0
  pub overlap_nothing : (i j : ℕ) → 0 < (overlap_service file table work i j).number
      → ((overlap_service file table work i j).clash ≡ false) × ((overlap_service file table work i j).pairs ≡ 0)
  unfolding overlap_service
  overlap_nothing i j h = go (overlap_on given i j) h
    where
      go : (o : Outcome Compared) → 0 < refusal_number o → (clash_of o ≡ false) × (pairs_of o ≡ 0)
      go (gives c) l = absurd (omega arith)
      go (fails f) l = (refl, refl)

  -- two P lines of a file that Check accepts
  module _ (rs : List Row) (e : given ≡ accepted rs) (i j : ℕ) where
    outcome : overlap_on given i j ≡ on_patterns (get_elem? (patterns_of rs) i) (get_elem? (patterns_of rs) j)
    outcome = ap (λ v. overlap_on v i j) e

    -- 15 where one is absent
    absent_outcome : (p q : Option Pat) → get_elem? (patterns_of rs) i ≡ p → get_elem? (patterns_of rs) j ≡ q → on_patterns p q ≡ on_patterns none none
        → ((overlap_service file table work i j).number ≡ 15) × ((overlap_service file table work i j).line ≡ 0)
    unfolding overlap_service
    absent_outcome p q f g h =
        let o = outcome ∙ ap₂ on_patterns f g ∙ h in (ap refusal_number o, ap line_of e)

    pub overlap_absent_left : get_elem? (patterns_of rs) i ≡ none → ((overlap_service file table work i j).number ≡ 15) × ((overlap_service file table work i j).line ≡ 0)
    overlap_absent_left f = absent_outcome none (get_elem? (patterns_of rs) j) f refl refl

    pub overlap_absent_right : get_elem? (patterns_of rs) j ≡ none → ((overlap_service file table work i j).number ≡ 15) × ((overlap_service file table work i j).line ≡ 0)
    overlap_absent_right g = absent_outcome (get_elem? (patterns_of rs) i) none refl g (on_sym (get_elem? (patterns_of rs) i) none)

    module _ (p q : Pat) (f : get_elem? (patterns_of rs) i ≡ some p) (g : get_elem? (patterns_of rs) j ≡ some q) where
      compared : overlap_on given i j ≡ gives (compare p q)
      compared = outcome ∙ ap₂ on_patterns f g

      pub overlap_given : ((overlap_service file table work i j).number ≡ 0) × ((overlap_service file table work i j).line ≡ 0)
          × ((overlap_service file table work i j).clash ≡ (compare p q).clash) × ((overlap_service file table work i j).pairs ≡ (compare p q).pairs)
      unfolding overlap_service
      overlap_given = (ap refusal_number compared, ap line_of e, ap clash_of compared, ap pairs_of compared)

      -- it is the orthogonality of section 2.2
      pub overlap_orth : ((overlap_service file table work i j).clash ≡ true → Orth p q) × (Orth p q → (overlap_service file table work i j).clash ≡ true)
      overlap_orth =
          let o = compare_orth p q in
          let c = overlap_given.2 in
          (λ h. o.0 (sym c ∙ h), λ h. c ∙ o.1 h)

      -- at least 1, and at most the smaller number of nodes
      pub overlap_bounds : (1 ≤ (overlap_service file table work i j).pairs) × ((overlap_service file table work i j).pairs ≤ nodes p)
          × ((overlap_service file table work i j).pairs ≤ nodes q)
      overlap_bounds =
          let m = compare_most p q in
          (omega (arith, overlap_given.3, compare_least p q), omega (arith, overlap_given.3, m.0), omega (arith, overlap_given.3, m.1))

      -- without a clash, the number of node pairs laid on each other
      pub overlap_whole : (overlap_service file table work i j).clash ≡ false → (overlap_service file table work i j).pairs ≡ length (laid p q)
      overlap_whole h = overlap_given.3 ∙ compare_whole p q (sym overlap_given.2 ∙ h)
