-- After i turns out holds a + b at its first i places.
use Rattle.floats.specs.Numbers.{zeros}
use Rattle.matrix.specs.Sums.{plus_at}
use Rattle.matrix.proofs.Turns.{Places}
use Rattle.matrix.proofs.sums.plus.Given as goal

abbrev pub invariant-loop-i : goal.invariant-loop-i
invariant-loop-i g l =
    let n = g.T.Number in
    Places (plus_at n.format (n.floats l.a) (n.floats l.b)) (zeros 64) l.i (n.floats l.out)
