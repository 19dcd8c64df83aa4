-- c columns are laid out, and i numbers of column c.
use Rattle.floats.specs.Numbers.{zeros}
use Rattle.matrix.specs.Inverse.{column_at}
use Rattle.matrix.proofs.Turns.{Row, Rows}
use Rattle.matrix.proofs.inverse.columns.Given as goal

abbrev pub invariant-loop-c : goal.invariant-loop-c
invariant-loop-c g l =
    let n = g.T.Number in
    Rows (column_at n.format (n.floats l.l) l.m) l.m (zeros 64) l.c (n.floats l.out)

abbrev pub invariant-loop-i : goal.invariant-loop-i
invariant-loop-i g l =
    let n = g.T.Number in
    Row (column_at n.format (n.floats l.l) l.m) l.m (zeros 64) l.c l.i (n.floats l.out)
