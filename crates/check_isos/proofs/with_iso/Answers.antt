use mathlib.Core.Bool.{true≢false}
use mathlib.Core.Path.{sym, ◌∙◌}
use Rattle.check_isos.proofs.Stepping.{iso_inside, walked_iso}
use Rattle.check_isos.proofs.with_iso.Goals as goal

pub returns-then-is_inside : goal.returns-then-is_inside
returns-then-is_inside c rs patterns lines f h e s = walked_iso f h s e c.none-clear.result c.iso_found.result c.none-clear.ensures.0 c.iso_found.ensures

pub returns : goal.returns
returns c rs patterns lines f h e s =
    let i = iso_inside f h s e in absurd (true≢false (sym (c.is_inside.ensures.1 i.above i.places i.early) ∙ c.if-is_inside.false))
