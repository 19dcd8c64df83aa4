-- After k turns t is a minus the first k products.
use lib.Ieee.{sub}
use Rattle.matrix.specs.Sums.{product_at}
use Rattle.matrix.proofs.Turns.{Total}
use Rattle.matrix.proofs.sums.less.Given as goal

abbrev pub invariant-loop-k : goal.invariant-loop-k
invariant-loop-k g l =
    let n = g.T.Number in
    Total (sub n.format) (n.float l.fn.a) (product_at n.format (n.floats l.l) l.r (n.floats l.l) l.s) l.k (n.float l.t)
