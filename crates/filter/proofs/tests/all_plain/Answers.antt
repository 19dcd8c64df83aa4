-- `tests::all_plain` meets its contract: the first turn decides, or there is none. Assumes nothing.
use Prim.Native.Nat.{◌<◌}
use mathlib.Core.Path.{◌≡◌, sym, ap, ◌∙◌}
use mathlib.Core.List.{List}
use native.Mathlib.Omega.{arith}
use lib.ListN.{length, length-take}
use Rattle.angles.specs.declared.Kind.{Kind}
use Rattle.angles.specs.declared.Kind.TheVariants.{Plain}
use Rattle.angles.proofs.SeenKinds.{kinds_long}
use Rattle.angles.specs.Kinds.{is_plain}
use Rattle.filter.proofs.KindTests.{passed_more, passed_bad, passed_all, kind_is, plain_is, turn_is}
use Rattle.filter.proofs.tests.all_plain.Goals.{in-Plain, in_default}
use Rattle.filter.proofs.tests.all_plain.Goals as goal

pub returns-then-not-matches : goal.returns-then-not-matches
returns-then-not-matches g c =
    let same = g.T.Number.same in
    passed_bad c.loop-k.invariant c.args.n Plain (omega (arith, kinds_long same c.args.kinds.now, length-take c.min.result c.args.kinds.now)) (omega (arith, length-take c.min.result c.args.kinds.now))
    (ap is_plain (kind_is same _ _ _ _ Plain c.loop-k-test.true c.k-item.is) ∙ elim c.match-matches.branch [ in-Plain w ↦ cc | in_default w ↦ turn_is same _ w.in_default.not-Plain ])

pub loop-k-preserved : goal.loop-k-preserved
loop-k-preserved g c =
    let same = g.T.Number.same in
    passed_more c.loop-k.invariant Plain (omega (arith, kinds_long same c.args.kinds.now, length-take c.min.result c.args.kinds.now))
    (ap is_plain (kind_is same _ _ _ _ Plain c.loop-k-test.true c.k-item.is) ∙ elim c.match-matches.branch [ in-Plain w ↦ plain_is same _ w.in-Plain.is | in_default w ↦ cc ])

pub returns : goal.returns
returns g c =
    let same = g.T.Number.same in
    passed_all c.loop-k.invariant c.args.n (omega (arith, length-take c.min.result c.args.kinds.now)) (λ h. omega (arith, kinds_long same c.args.kinds.now, length-take c.min.result c.args.kinds.now))
