use native.Mathlib.Omega.{arith}
use mathlib.Core.Path.{refl}
use Rattle.bounds.proofs.Telling.{no_iso_lem, has_lists, told, zeros}
use Rattle.bounds.proofs.bounds_checked.Goals as goal

pub returns-then-isos-i : goal.returns-then-isos-i
returns-then-isos-i c = no_iso_lem c.args.t.now c.args.index.now c.args.isos c.args.i _ c.refused.result (omega (arith, c.if-isos-i.true)) refl c.refused.ensures

pub returns-then-not-is_free : goal.returns-then-not-is_free
returns-then-not-is_free c =
    has_lists c.args.t.now c.args.index.now c.args.isos c.args.i _ c.refused-then-not-is_free.result c.if-isos-i.false c.is_free.ensures c.if-not-is_free.true refl c.refused-then-not-is_free.ensures

pub returns : goal.returns
returns c =
    told c.args.t.now c.args.index.now c.reckon.new.least c.reckon.new.greatest c.args.isos c.args.i _ _ _ c.if-isos-i.false c.is_free.ensures c.if-not-is_free.false
    (λ base few. c.reckon.ensures.all_reckoned base few (zeros 32)) (λ base few. c.reckon.ensures.all_reckoned_2 base few (zeros 32)) c.item_at-l.ensures c.item_at-g.ensures refl
    c.min.ensures c.min-2.ensures refl refl
