-- One more entry of the mean is set at its place.
use native.Mathlib.Omega.{arith}
use Rattle.floats.proofs.Numbers.{floats_set}
use Rattle.matrix.proofs.Generic.{blank}
use Rattle.matrix.proofs.Turns.{places_from, places_more, places_end}
use Rattle.correction.proofs.flat.flat_mean.Goals as goal

pub loop-i-init : goal.loop-i-init
loop-i-init g c = places_from (blank g.met.T.Number.floats_law 8 c.ZERO-mean.ensures g.met.T.Number.zero_law)

pub loop-i-preserved : goal.loop-i-preserved
loop-i-preserved g c = places_more c.loop-i.invariant (floats_set g.met.T.Number.floats_law _ _ _) c.mean_at.ensures

pub returns : goal.returns
returns g c = places_end c.loop-i.invariant (omega arith)
