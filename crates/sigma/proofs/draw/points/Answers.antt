-- One more number is drawn, at its place.
use native.Mathlib.Omega.{arith}
use Rattle.floats.proofs.Numbers.{floats_set}
use Rattle.matrix.proofs.Generic.{blank}
use Rattle.matrix.proofs.Turns.{rows_from, row_none, row_more, row_end, rows_end}
use Rattle.sigma.proofs.draw.points.Goals as goal

pub loop-k-init : goal.loop-k-init
loop-k-init g c = rows_from (blank g.met.T.Number.floats_law 136 c.ZERO-out.ensures g.met.T.Number.zero_law)

pub loop-i-init : goal.loop-i-init
loop-i-init g c = row_none c.loop-k.invariant

pub loop-i-preserved : goal.loop-i-preserved
loop-i-preserved g c = row_more c.loop-i.invariant (floats_set g.met.T.Number.floats_law _ _ _) c.place.ensures.0 c.point_at.ensures

pub loop-k-preserved : goal.loop-k-preserved
loop-k-preserved g c = row_end c.loop-i.invariant (omega arith)

pub returns : goal.returns
returns g c = rows_end c.loop-k.invariant (omega arith)
