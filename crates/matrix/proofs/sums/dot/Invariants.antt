-- After k turns t is the sum of the first k products.
use lib.Ieee.{add}
use Rattle.floats.specs.Numbers.{plus_zero}
use Rattle.matrix.specs.Sums.{product_at}
use Rattle.matrix.proofs.Turns.{Total}
use Rattle.matrix.proofs.sums.dot.Given as goal

abbrev pub invariant-loop-k : goal.invariant-loop-k
invariant-loop-k g l =
    let n = g.T.Number in
    Total (add n.format) plus_zero (product_at n.format (n.floats l.x) l.r (n.floats l.y) l.s) l.k (n.float l.t)
