-- k points are done, and i numbers of point k.
use Rattle.std.proofs.Common.{List}
use Rattle.floats.specs.Numbers.{zeros}
use Rattle.angles.specs.declared.Kind.{Kind}
use Rattle.matrix.proofs.Turns.{Row, Rows}
use Rattle.sigma.specs.Spread.{deviation_at}
use Rattle.sigma.proofs.spread.deviations.Given as goal

abbrev pub invariant-loop-k : goal.invariant-loop-k
invariant-loop-k g l =
    let n = g.T.Number in
    Rows (deviation_at n.format (n.floats l.p) l.d (n.floats l.mean) (n.seen (λ A. List (Kind A)) l.kinds)) l.d (zeros 136) l.k (n.floats l.out)

abbrev pub invariant-loop-i : goal.invariant-loop-i
invariant-loop-i g l =
    let n = g.T.Number in
    Row (deviation_at n.format (n.floats l.p) l.d (n.floats l.mean) (n.seen (λ A. List (Kind A)) l.kinds)) l.d (zeros 136) l.k l.i (n.floats l.out)
