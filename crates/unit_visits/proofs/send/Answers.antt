use mathlib.Core.Path.{sym, subst}
use Rattle.run_coding.specs.Coded.{Coded}
use Rattle.unit_visits.proofs.Sending.{send_spared, send_stops, send_done}
use Rattle.unit_visits.proofs.send.Goals as goal

pub returns-in-Ok : goal.returns-in-Ok
returns-in-Ok c =
    let q = (c.args) in λ isos rs a there free h o e same ej low long short.
    let u = c.apply.ensures.apply_says (subst (Coded q.t.now q.types) (sym (c.code_part-code.ensures)) a.prepared.coded) in (
      send_done a q.budget q.p there free h e same q.work.now (c.unrank_at-size.ensures) c.unrank_at-size.auto.out long short u ej (c.in-Ok.is) (c.rank_at-r.ensures) low (c.narrow_number.ensures)
          (c.narrow_number-in-Ok.ensures),
      send_spared a q.budget q.p there free h e same q.work.now (c.unrank_at-size.ensures) c.unrank_at-size.auto.out long short u,
    )

pub returns-in-Err : goal.returns-in-Err
returns-in-Err c =
    let q = (c.args) in λ isos rs a there free h o e same ej low long short.
    let u = c.apply.ensures.apply_says (subst (Coded q.t.now q.types) (sym (c.code_part-code.ensures)) a.prepared.coded) in (
      send_stops a q.budget q.p there free h e same q.work.now (c.unrank_at-size.ensures) c.unrank_at-size.auto.out long short u ej _ (c.in-Err.is),
      send_spared a q.budget q.p there free h e same
          q.work.now (c.unrank_at-size.ensures) c.unrank_at-size.auto.out long short u,
    )
