-- One more number is set at its place, from the last down.
use Rattle.std.proofs.Common.{refl}
use native.Mathlib.Omega.{arith}
use Rattle.floats.proofs.Numbers.{floats_set}
use Rattle.matrix.proofs.Turns.{built_from, built_more, built_as}
use Rattle.matrix.proofs.inverse.backward.Goals as goal

pub loop-i-init : goal.loop-i-init
loop-i-init g c = built_as (built_from refl) (omega arith)

pub loop-i-preserved : goal.loop-i-preserved
loop-i-preserved g c = built_as (built_more c.loop-i.invariant (floats_set g.met.T.Number.floats_law _ _ _) (omega arith) c.backward_at.ensures) (omega arith)
