use Rattle.run_coding.proofs.Listing.{listing_next, all_coded}
use mathlib.Core.Path.{refl, ◌∙◌}
use native.Mathlib.Omega.{arith}
use Rattle.run_coding.proofs.code_patterns.Goals as goal

pub loop-j-preserved : goal.loop-j-preserved
loop-j-preserved c = (
  listing_next _ c.loop-j.invariant.0 (let a = c.loop-j-test.true in omega (arith, a)) refl c.code_line-at.ensures c.if-patterns-gt-MAX_PATTERNS.false,
  c.code_line-at.auto.code
      ∙ c.loop-j.invariant.1,
)

pub returns : goal.returns
returns c =
    all_coded c.args.t.now c.args.base c.args.patterns c.loop-j.invariant.0 c.loop-j-test.false c.if-patterns-gt-MAX_PATTERNS.false c.narrow.ensures
    (let a = c.if-code-lt-LISTED.false in let b = c.loop-j.invariant.1 in let k = c.store.auto.items in omega (arith, a, b, k)) c.store-2.ensures
