-- One more difference is passed through its kind, and set at its place.
use Rattle.std.proofs.Common.{ap₂, ◌∙◌}
use native.Mathlib.Omega.{arith}
use lib.Ieee.{sub}
use Rattle.floats.proofs.Numbers.{floats_set}
use Rattle.angles.specs.declared.Kind.{Kind}
use Rattle.angles.specs.Kinds.{through_of, plain}
use Rattle.matrix.proofs.Generic.{blank, read}
use Rattle.matrix.proofs.Turns.{places_from, places_more, places_end}
use Rattle.sigma.proofs.Generic.{seen_at}
use Rattle.correction.proofs.innovation.Goals as goal

pub loop-j-init : goal.loop-j-init
loop-j-init g c = places_from (blank g.met.T.Number.floats_law 8 c.ZERO-y.ensures g.met.T.Number.zero_law)

pub loop-j-preserved : goal.loop-j-preserved
loop-j-preserved g c =
    let n = g.met.T.Number in
    let f = g.T.Number.format in
    places_more c.loop-j.invariant (floats_set n.floats_law _ _ _)
    (c.through.ensures
    ∙ ap₂ (through_of f) (seen_at g.T.Number.same Kind _ _ _ plain (omega arith)) (n.sub_law _ _ _ c.sub.ensures ∙ ap₂ (sub f) (read n.floats_law _ _ _ (omega arith)) (read n.floats_law _ _ _ (omega arith))))

pub returns : goal.returns
returns g c = places_end c.loop-j.invariant (omega arith)
