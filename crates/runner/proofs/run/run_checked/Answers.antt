use Rattle.runner.proofs.Running.{no_iso_lem, no_value_lem, run_done, run_spent, run_large}
use Rattle.run_coding.specs.Coded.{Coded}
use Rattle.format.specs.Code.{refusal_view}
use Rattle.std.specs.Prelude.{Err}
use mathlib.Core.Path.{refl, sym, ap, ◌∙◌, subst}
use Rattle.runner.proofs.run.run_checked.Goals as goal

pub returns-then-isos-i : goal.returns-then-isos-i
returns-then-isos-i c =
    λ rs p long most room. (
      no_iso_lem c.args.t.now c.args.base c.args.index.now c.args.isos c.args.i c.args.back c.args.budget c.args.value.now c.args.res.now c.refused.result c.if-isos-i.true
          (ap refusal_view c.refused.ensures.0) c.refused.ensures.1 c.refused.ensures.2 rs p,
      refl,
    )

pub returns-then-not-is_value : goal.returns-then-not-is_value
returns-then-not-is_value c =
    λ rs p long most room. (
      no_value_lem c.args.t.now c.args.base c.args.index.now c.args.isos c.args.i c.args.back c.args.budget c.args.value.now c.args.res.now c.refused-then-not-is_value.result
          c.cell.result c.place-row.result c.place.result c.side.result c.is_value.result c.if-isos-i.false c.cell.ensures.0 c.place-row.ensures.0 c.place.ensures.0 c.side.ensures
          c.is_value.ensures c.if-not-is_value.true (ap refusal_view c.refused-then-not-is_value.ensures.0) c.refused-then-not-is_value.ensures.1 c.refused-then-not-is_value.ensures.2 rs p,
      refl,
    )

pub returns-in-Ok : goal.returns-in-Ok
returns-in-Ok c =
    λ rs p long most room. let says = c.apply.ensures.apply_says (subst (Coded c.args.t.now c.args.base) (sym c.code_part-code.ensures) p.coded) in
    run_done c.args.t.now c.args.base c.args.index.now c.args.isos c.args.i c.args.back c.args.budget c.args.value.now c.args.work.now
    c.cell.result c.place-row.result c.place.result c.side.result c.is_value.result c.if-isos-i.false c.cell.ensures.0 c.place-row.ensures.0 c.place.ensures.0 c.side.ensures
    c.is_value.ensures c.if-not-is_value.false c.copy_front.auto.to c.copied.ensures c.copy_front.ensures says rs p long most _ _ c.args.res.now _ _ _ _ _
    c.in-Ok.is c.front.ensures c.tail-letters.ensures c.copy_front-in-Ok.ensures refl
    c.saturating_sub.ensures refl room

pub returns-in-Err-Spent : goal.returns-in-Err-Spent
returns-in-Err-Spent c =
    λ rs p long most room. let says = c.apply.ensures.apply_says (subst (Coded c.args.t.now c.args.base) (sym c.code_part-code.ensures) p.coded) in
    run_spent c.args.t.now c.args.base c.args.index.now c.args.isos c.args.i c.args.back c.args.budget c.args.value.now c.args.work.now
    c.cell.result c.place-row.result c.place.result c.side.result c.is_value.result c.if-isos-i.false c.cell.ensures.0 c.place-row.ensures.0 c.place.ensures.0 c.side.ensures
    c.is_value.ensures c.if-not-is_value.false c.copy_front.auto.to c.copied.ensures c.copy_front.ensures says rs p long most c.args.res.now c.refused-in-Err-Spent.result
    (c.in-Err-Spent.is ∙ ap Err c.in-Err-Spent.field-0-is) (ap refusal_view c.refused-in-Err-Spent.ensures.0)
    c.refused-in-Err-Spent.ensures.1 c.refused-in-Err-Spent.ensures.2

pub returns-in-Err-Large : goal.returns-in-Err-Large
returns-in-Err-Large c =
    λ rs p long most room. let says = c.apply.ensures.apply_says (subst (Coded c.args.t.now c.args.base) (sym c.code_part-code.ensures) p.coded) in
    run_large c.args.t.now c.args.base c.args.index.now c.args.isos c.args.i c.args.back c.args.budget c.args.value.now c.args.work.now
    c.cell.result c.place-row.result c.place.result c.side.result c.is_value.result c.if-isos-i.false c.cell.ensures.0 c.place-row.ensures.0 c.place.ensures.0 c.side.ensures
    c.is_value.ensures c.if-not-is_value.false c.copy_front.auto.to c.copied.ensures c.copy_front.ensures says rs p long most c.args.res.now c.refused-in-Err-Large.result
    (c.in-Err-Large.is ∙ ap Err c.in-Err-Large.field-0-is) (ap refusal_view c.refused-in-Err-Large.ensures.0)
    c.refused-in-Err-Large.ensures.1 c.refused-in-Err-Large.ensures.2
