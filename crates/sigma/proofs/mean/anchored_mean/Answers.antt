-- One more entry of the mean is set at its place.
use Rattle.std.proofs.Common.{ap₂, ◌∙◌}
use native.Mathlib.Omega.{arith}
use lib.Ieee.{add, mul}
use Rattle.floats.proofs.Numbers.{floats_set}
use Rattle.matrix.proofs.Generic.{blank, read}
use Rattle.matrix.proofs.Turns.{places_from, places_more, places_end}
use Rattle.sigma.proofs.mean.anchored_mean.Goals as goal

pub loop-i-init : goal.loop-i-init
loop-i-init g c = places_from (blank g.met.T.Number.floats_law 8 c.ZERO-mean.ensures g.met.T.Number.zero_law)

pub loop-i-preserved : goal.loop-i-preserved
loop-i-preserved g c =
    let n = g.met.T.Number in
    let f = g.T.Number.format in
    places_more c.loop-i.invariant (floats_set n.floats_law _ _ _)
    (n.add_law _ _ _ c.add.ensures ∙ ap₂ (add f) (n.mul_law _ _ _ c.mul.ensures ∙ ap₂ (mul f) c.weight_sum-sum.ensures (read n.floats_law _ _ _ (omega arith))) c.offset.ensures)

pub returns : goal.returns
returns g c = places_end c.loop-i.invariant (omega arith)
