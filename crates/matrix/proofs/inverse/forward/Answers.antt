-- One more number is set at its place.
use Rattle.std.proofs.Common.{refl}
use Rattle.floats.proofs.Numbers.{floats_set}
use Rattle.matrix.proofs.Generic.{blank}
use Rattle.matrix.proofs.Turns.{built_from, built_more}
use Rattle.matrix.proofs.inverse.forward.Goals as goal

pub loop-i-init : goal.loop-i-init
loop-i-init g c = built_from (blank g.met.T.Number.floats_law 8 c.ZERO-u.ensures g.met.T.Number.zero_law)

pub loop-i-preserved : goal.loop-i-preserved
loop-i-preserved g c = built_more c.loop-i.invariant (floats_set g.met.T.Number.floats_law _ _ _) refl c.forward_at.ensures
