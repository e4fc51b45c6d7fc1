use Prim.Native.Nat.{ℕ, ◌-◌, ◌+◌}
use native.Mathlib.Omega.{arith}
use mathlib.Core.Path.{◌≡◌, refl, sym, ap, ◌∙◌, subst}
use mathlib.Core.List.{List, [], ◌∷◌}
use lib.ListN.{length, take, drop, length-drop}
use Rattle.table_trees.specs.Unfolding.{type_of, pattern_of}
use Rattle.table_walks.specs.InTable.{patterns_at}
use Rattle.fault_pairs.specs.Pairs.{AddsAll}
use Rattle.fault_pairs.proofs.Gathering.{outer_start, outer_more}
use borrow.Author.Rules.{rules}
use Rattle.fault_pairs.proofs.overlap_value.Goals as goal

take_all : (s : List ℕ) → take (length s) s ≡ s
take_all [] = refl
take_all (x ∷ s) = ap (λ r. x ∷ r) (take_all s)

take_rest : (s : List ℕ) (x : ℕ) → take (length s - x) (drop x s) ≡ drop x s
take_rest s x = ap (λ n. take n (drop x s)) (sym (length-drop x s)) ∙ take_all (drop x s)

pub loop-x-init : goal.loop-x-init
loop-x-init c = outer_start c.args.t.now c.args.base c.args.f c.args.rows.now (type_of c.args.t.now c.args.i) c.args.out.now

pub loop-x-preserved : goal.loop-x-preserved
loop-x-preserved c =
    let l = c.loop-x in outer_more c.args.t.now c.args.base c.args.f c.args.rows.now c.wide.result c.cell-p.result l.invariant (search rules) c.add_row-best.auto.out
    c.add_row-best.ensures.0 c.wide.ensures.value c.cell-p.ensures.0
    (subst (λ z. AddsAll (type_of c.args.t.now c.args.i) (pattern_of c.args.t.now c.args.base c.cell-p.result) (patterns_at c.args.t.now c.args.base c.args.f z) l.out
    c.add_row-best.new.out l.best c.add_row-best.result)
    (ap (λ n. take (length c.args.rows.now - n) (drop n c.args.rows.now)) (let e : l.x - 1 + 1 ≡ l.x = omega arith in e) ∙ take_rest c.args.rows.now l.x) c.add_row-best.ensures.1)
