-- The first number that isn't finite decides, or none is.
use Rattle.std.proofs.Common.{ap, sym, ◌∙◌}
use native.Mathlib.Omega.{arith}
use lib.ListN.{length-take}
use lib.Ieee.Scale.{finite}
use Rattle.floats.proofs.Finite.{passed_none, passed_more, passed_bad}
use Rattle.floats.proofs.Numbers.{floats_long, item_is}
use Rattle.floats.proofs.all_finite.Goals as goal

pub loop-x-init : goal.loop-x-init
loop-x-init g c = passed_none

pub returns-then-not-is_finite : goal.returns-then-not-is_finite
returns-then-not-is_finite g c =
    let law = g.met.T.Number.floats_law in
    passed_bad c.loop-x.invariant c.args.k (omega (arith, floats_long law c.args.s.now, length-take c.min.result c.args.s.now)) (omega (arith, length-take c.min.result c.args.s.now))
    (ap finite (sym (item_is law _ _ _ _ c.loop-x-test.true c.x-item.is)) ∙ sym c.is_finite.ensures ∙ c.if-not-is_finite.true)

pub loop-x-preserved : goal.loop-x-preserved
loop-x-preserved g c =
    let law = g.met.T.Number.floats_law in
    passed_more c.loop-x.invariant (omega (arith, floats_long law c.args.s.now, length-take c.min.result c.args.s.now))
    (ap finite (sym (item_is law _ _ _ _ c.loop-x-test.true c.x-item.is)) ∙ sym c.is_finite.ensures ∙ c.if-not-is_finite.false)
