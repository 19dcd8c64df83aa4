-- One more weight is taken in.
use Rattle.std.proofs.Common.{refl}
use native.Mathlib.Omega.{arith}
use Rattle.matrix.proofs.Generic.{read}
use Rattle.matrix.proofs.Turns.{total_from, total_more, total_end}
use Rattle.sigma.proofs.mean.weight_sum.Goals as goal

pub loop-k-init : goal.loop-k-init
loop-k-init g c = total_from refl

pub loop-k-preserved : goal.loop-k-preserved
loop-k-preserved g c =
    let n = g.met.T.Number in
    total_more c.loop-k.invariant (n.add_law _ _ _ c.add-s.ensures) (read n.floats_law _ _ _ (omega arith))

pub returns : goal.returns
returns g c = total_end c.loop-k.invariant (omega arith)
