use native.Mathlib.Omega.{arith}
use mathlib.Core.Path.{refl, ap}
use Rattle.format.specs.Code.{refusal_view}
use Rattle.exports.proofs.Listing.{no_iso_lem, has_lists, too_many_lem, some_spent, list_given}
use Rattle.exports.proofs.export_checked.Goals as goal

pub returns-then-isos-i : goal.returns-then-isos-i
returns-then-isos-i c =
    λ rs p long short room. no_iso_lem p c.args.i c.args.budget c.args.output.now c.not_listed.result c.if-isos-i.true (ap refusal_view c.not_listed.ensures.0) c.not_listed.ensures.1

pub returns-then-not-is_free : goal.returns-then-not-is_free
returns-then-not-is_free c =
    λ rs p long short room. has_lists p c.args.i c.args.budget c.args.output.now c.too_many.result c.if-isos-i.false c.is_free.ensures c.if-not-is_free.true c.too_many.ensures.0 c.too_many.ensures.1

pub returns-then-n-gt-MAX_PAIRS : goal.returns-then-n-gt-MAX_PAIRS
returns-then-n-gt-MAX_PAIRS c =
    λ rs p long short room. too_many_lem p c.args.i c.args.budget c.args.output.now c.too_many-then-n-gt-MAX_PAIRS.result c.if-isos-i.false c.is_free.ensures c.if-not-is_free.false
    c.iso_cell.ensures c.count_values-n.ensures c.if-n-gt-MAX_PAIRS.true c.too_many-then-n-gt-MAX_PAIRS.ensures.0 c.too_many-then-n-gt-MAX_PAIRS.ensures.1

pub returns-then-not-find_tos : goal.returns-then-not-find_tos
returns-then-not-find_tos c =
    λ rs p long short room. some_spent p c.args.i c.args.budget c.args.output.now c.not_listed-then-not-find_tos.result c.if-isos-i.false c.is_free.ensures c.if-not-is_free.false
    c.iso_cell.ensures c.count_values-n.ensures c.if-n-gt-MAX_PAIRS.false (λ o run m. c.find_tos.ensures rs o run m (omega (arith, c.if-n-gt-MAX_PAIRS.false)) long short)
    c.if-not-find_tos.true (ap refusal_view c.not_listed-then-not-find_tos.ensures.0) c.not_listed-then-not-find_tos.ensures.1

pub returns : goal.returns
returns c =
    λ rs p long short room. list_given p c.args.i c.args.budget c.args.output.now _ c.if-isos-i.false c.is_free.ensures c.if-not-is_free.false c.iso_cell.ensures c.count_values-n.ensures
    c.if-n-gt-MAX_PAIRS.false (λ o run m. c.find_tos.ensures rs o run m (omega (arith, c.if-n-gt-MAX_PAIRS.false)) long short) c.if-not-find_tos.false
    (omega (arith, c.find_tos.auto.tos, c.if-n-gt-MAX_PAIRS.false)) room c.put_pairs-length.ensures refl refl
