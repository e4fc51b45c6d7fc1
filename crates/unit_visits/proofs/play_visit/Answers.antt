use mathlib.Core.Path.{refl, sym, ap, ◌∙◌}
use Rattle.law_units.specs.Units.{done, skipped, spent}
use Rattle.unit_script.specs.Views.{planned_view}
use Rattle.unit_visits.specs.Visiting.{visited_view}
use Rattle.unit_visits.proofs.Storing.{played, held}
use Rattle.unit_visits.proofs.play_visit.Goals as goal

pub returns-in-Done : goal.returns-in-Done
returns-in-Done c =
    λ rs a h low free long short small.
    let u = c.visit.ensures rs a (held h c.number_at-i.ensures c.number_at-n.ensures) low free long short in
    played rs c.args.budget (planned_view c.args.p) c.args.k c.args.work.now c.args.lines.now c.args.settings.now _ (done _ _) small c.number_at-i.ensures c.number_at-n.ensures
    (sym (ap visited_view c.in-Done.is) ∙ u.0) u.1 c.put_mark.ensures refl c.store.ensures c.store-in-Done.ensures

pub returns-in-Skipped : goal.returns-in-Skipped
returns-in-Skipped c =
    λ rs a h low free long short small.
    let u = c.visit.ensures rs a (held h c.number_at-i.ensures c.number_at-n.ensures) low free long short in
    played rs c.args.budget (planned_view c.args.p) c.args.k c.args.work.now c.args.lines.now c.args.settings.now _ skipped small c.number_at-i.ensures c.number_at-n.ensures
    (sym (ap visited_view c.in-Skipped.is) ∙ u.0) u.1 c.put_mark-in-Skipped.ensures refl refl refl

pub returns-in-Spent : goal.returns-in-Spent
returns-in-Spent c =
    λ rs a h low free long short small.
    let u = c.visit.ensures rs a (held h c.number_at-i.ensures c.number_at-n.ensures) low free long short in
    played rs c.args.budget (planned_view c.args.p) c.args.k c.args.work.now c.args.lines.now c.args.settings.now _ spent small c.number_at-i.ensures c.number_at-n.ensures
    (sym (ap visited_view c.in-Spent.is) ∙ u.0) u.1 c.put_mark-in-Spent.ensures refl refl refl
