use mathlib.Core.Path.{◌∙◌}
use Rattle.calculus.proofs.Basic.{eq_eqb}
use Rattle.check_shapes.proofs.Sameness.{same_line, is_whole, is_naming, naming_two, same_whole, other_kind, other_first, same_list, same_second}
use Rattle.check_shapes.proofs.+same_type.Goals as goal

pub returns-then-a-b : goal.returns-then-a-b
returns-then-a-b t c = same_line (c.args.t.now) (c.if-a-b.true)

pub returns-then-names_nothing : goal.returns-then-names_nothing
returns-then-names_nothing t c =
    let s = (c.args) in
    same_whole s.t.now s.a s.b (c.cell-ka.ensures.0) (c.cell-kb.ensures.0) (is_whole _ (c.names_nothing.ensures) (c.if-names_nothing.true)) (c.names_nothing-then-names_nothing.ensures)

pub returns-then-ka-kb : goal.returns-then-ka-kb
returns-then-ka-kb t c =
    let s = (c.args) in
    other_kind s.t.now s.a s.b (c.cell-ka.ensures.0) (c.cell-kb.ensures.0) (is_naming _ (c.names_nothing.ensures) (c.if-names_nothing.false)) (c.if-ka-kb.true)

pub returns-then-ka-eq-LIST : goal.returns-then-ka-eq-LIST
returns-then-ka-eq-LIST t c =
    eq_eqb c.if-ka-eq-LIST.true
    ∙ same_list c.args.t.now c.args.a c.args.b c.cell-ka.ensures.0 c.cell-kb.ensures.0 c.if-ka-eq-LIST.true c.if-ka-kb.false c.type_part-c.ensures c.type_part-d.ensures c.same_type.ensures
    c.if-same_type.true

pub returns-else-ka-eq-LIST : goal.returns-else-ka-eq-LIST
returns-else-ka-eq-LIST t c =
    let s = (c.args) in
    same_second s.t.now s.a s.b (c.cell-ka.ensures.0) (c.cell-kb.ensures.0) (naming_two (is_naming _ (c.names_nothing.ensures) (c.if-names_nothing.false)) c.if-ka-eq-LIST.false) (c.if-ka-kb.false)
    (c.type_part-c.ensures)
    (c.type_part-d.ensures) (c.same_type.ensures) (c.if-same_type.true) (c.type_part.ensures) (c.type_part-else-ka-eq-LIST.ensures) (c.same_type-else-ka-eq-LIST.ensures)

pub returns-else-same_type : goal.returns-else-same_type
returns-else-same_type t c =
    let s = (c.args) in
    c.if-same_type.false ∙ other_first s.t.now s.a s.b (c.cell-ka.ensures.0) (c.cell-kb.ensures.0) (is_naming _ (c.names_nothing.ensures) (c.if-names_nothing.false)) (c.if-ka-kb.false)
    (c.type_part-c.ensures)
    (c.type_part-d.ensures) (c.same_type.ensures) (c.if-same_type.false)
