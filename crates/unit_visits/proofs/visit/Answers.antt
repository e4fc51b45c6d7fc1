use mathlib.Core.Path.{refl}
use borrow.Author.Tests.{not-false}
use Rattle.unit_visits.proofs.Visiting.{iso_of, to_end, same_types, visit_skipped, visit_sent}
use Rattle.unit_visits.proofs.visit.Goals as goal

pub returns-then-not-same_type : goal.returns-then-not-same_type
returns-then-not-same_type c =
    λ rs a h low free long short. (
      visit_skipped a c.args.p low h c.same_type.ensures c.cell.ensures.0 c.side.ensures c.place-row.ensures.0 c.place.ensures.0 free c.args.budget c.if-not-same_type.true,
      record
          { behind = refl },
    )

pub returns : goal.returns
returns c =
    λ rs a h low free long short.
    let ej = to_end a c.args.p low c.cell-to.ensures.0 c.side-2.ensures c.place-row.ensures.0 c.place.ensures.0 in
    let same = same_types a c.args.p low h c.same_type.ensures c.cell.ensures.0 c.side.ensures c.place-row.ensures.0 c.place.ensures.0 c.if-not-same_type.false in
    let s = c.send.ensures c.args.isos rs a low free h (iso_of a c.args.p low).0 (iso_of a c.args.p low).1 same ej c.cell-to.ensures.1 long short in
    (visit_sent a c.args.p low h c.same_type.ensures c.cell.ensures.0 c.side.ensures c.place-row.ensures.0 c.place.ensures.0 free c.args.budget c.if-not-same_type.false ej s.0, s.1)
