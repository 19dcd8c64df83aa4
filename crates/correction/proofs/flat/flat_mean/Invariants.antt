-- After i turns the mean stands at its first i places.
use Rattle.floats.specs.Numbers.{zeros}
use Rattle.matrix.proofs.Turns.{Places}
use Rattle.correction.specs.Flat.{flat_mean_at}
use Rattle.correction.proofs.flat.flat_mean.Given as goal

abbrev pub invariant-loop-i : goal.invariant-loop-i
invariant-loop-i g l =
    let n = g.T.Number in
    Places (flat_mean_at n.format (n.floats l.p) l.d l.t) (zeros 8) l.i (n.floats l.mean)
