-- After k turns s is the sum over the first k points.
use lib.Ieee.{add}
use Rattle.floats.specs.Numbers.{plus_zero}
use Rattle.matrix.proofs.Turns.{Total}
use Rattle.sigma.specs.Spread.{weighed_at}
use Rattle.sigma.proofs.spread.sum_at.Given as goal

abbrev pub invariant-loop-k : goal.invariant-loop-k
invariant-loop-k g l =
    let n = g.T.Number in
    Total (add n.format) plus_zero (weighed_at n.format (n.floats l.a) l.da (n.floats l.b) l.db (n.floats l.w) l.t l.i l.j) l.k (n.float l.s)
