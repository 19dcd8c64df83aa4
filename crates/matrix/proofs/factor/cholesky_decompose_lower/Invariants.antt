-- What is left of the work comes to the whole outcome.
use Rattle.matrix.specs.Factor.{refused_by}
use Rattle.matrix.proofs.FactorSteps.{ColumnsAt, RowsAt}
use Rattle.matrix.proofs.factor.cholesky_decompose_lower.Given as goal

abbrev pub invariant-loop-j : goal.invariant-loop-j
invariant-loop-j g l =
    let n = g.T.Number in
    ColumnsAt n.format (refused_by l.of) (n.floats l.a) l.n l.j (n.floats l.l)

abbrev pub invariant-loop-i : goal.invariant-loop-i
invariant-loop-i g l =
    let n = g.T.Number in
    RowsAt n.format (refused_by l.of) (n.floats l.a) l.n l.j (n.float l.d) l.i (n.floats l.l)
