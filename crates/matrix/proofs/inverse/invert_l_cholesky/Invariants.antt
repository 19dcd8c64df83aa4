-- i rows of the inverse stand, and c cells of row i.
use Rattle.std.proofs.Common.{ℕ}
use Rattle.floats.specs.Numbers.{zeros}
use Rattle.matrix.specs.Inverse.{column_at}
use Rattle.matrix.proofs.Turns.{Row, Rows}
use Rattle.matrix.proofs.inverse.invert_l_cholesky.Given as goal

abbrev pub invariant-loop-i : goal.invariant-loop-i
invariant-loop-i g l =
    let n = g.T.Number in
    Rows (λ (r s : ℕ). column_at n.format (n.floats l.l) l.m s r) l.m (zeros 64) l.i (n.floats l.out)

abbrev pub invariant-loop-c : goal.invariant-loop-c
invariant-loop-c g l =
    let n = g.T.Number in
    Row (λ (r s : ℕ). column_at n.format (n.floats l.l) l.m s r) l.m (zeros 64) l.i l.c (n.floats l.out)
