-- i rows are filled, and j cells of row i.
use Rattle.floats.specs.Numbers.{zeros}
use Rattle.matrix.specs.Product.{transb_at}
use Rattle.matrix.proofs.Turns.{Row, Rows}
use Rattle.matrix.proofs.product.mult_transb.Given as goal

abbrev pub invariant-loop-i : goal.invariant-loop-i
invariant-loop-i g l =
    let n = g.T.Number in
    Rows (transb_at n.format (n.floats l.a) (n.floats l.b) l.d) l.m (zeros 64) l.i (n.floats l.out)

abbrev pub invariant-loop-j : goal.invariant-loop-j
invariant-loop-j g l =
    let n = g.T.Number in
    Row (transb_at n.format (n.floats l.a) (n.floats l.b) l.d) l.m (zeros 64) l.i l.j (n.floats l.out)
