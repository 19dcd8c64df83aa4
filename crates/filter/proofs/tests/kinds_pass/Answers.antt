-- `tests::kinds_pass` meets its contract: the first kind that fails decides, or none does. Assumes nothing.
use mathlib.Core.Path.{sym, ap, ◌∙◌}
use native.Mathlib.Omega.{arith}
use lib.ListN.{length-take}
use Rattle.angles.specs.declared.Kind.TheVariants.{Plain}
use Rattle.angles.proofs.SeenKinds.{kinds_long}
use Rattle.filter.specs.Asked.{passing}
use Rattle.filter.proofs.KindTests.{passed_more, passed_bad, passed_all, kind_is}
use Rattle.filter.proofs.tests.kinds_pass.Goals as goal

pub returns-then-not-passes : goal.returns-then-not-passes
returns-then-not-passes g c =
    let same = g.T.Number.same in
    passed_bad c.loop-k.invariant c.args.m Plain (omega (arith, kinds_long same c.args.kinds.now, length-take c.min.result c.args.kinds.now)) (omega (arith, length-take c.min.result c.args.kinds.now))
    (ap (passing g.T.Number.format) (kind_is same _ _ _ _ Plain c.loop-k-test.true c.k-item.is) ∙ sym c.passes.ensures ∙ c.if-not-passes.true)

pub loop-k-preserved : goal.loop-k-preserved
loop-k-preserved g c =
    let same = g.T.Number.same in
    passed_more c.loop-k.invariant Plain (omega (arith, kinds_long same c.args.kinds.now, length-take c.min.result c.args.kinds.now))
    (ap (passing g.T.Number.format) (kind_is same _ _ _ _ Plain c.loop-k-test.true c.k-item.is) ∙ sym c.passes.ensures ∙ c.if-not-passes.false)

pub returns : goal.returns
returns g c =
    let same = g.T.Number.same in
    passed_all c.loop-k.invariant c.args.m (omega (arith, length-take c.min.result c.args.kinds.now)) (λ h. omega (arith, kinds_long same c.args.kinds.now, length-take c.min.result c.args.kinds.now))
