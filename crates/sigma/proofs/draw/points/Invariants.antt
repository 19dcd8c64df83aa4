-- k points are drawn, and i numbers of point k.
use Rattle.floats.specs.Numbers.{zeros}
use Rattle.matrix.proofs.Turns.{Row, Rows}
use Rattle.sigma.specs.Draw.{point_at}
use Rattle.sigma.proofs.draw.points.Given as goal

abbrev pub invariant-loop-k : goal.invariant-loop-k
invariant-loop-k g l =
    let n = g.T.Number in
    Rows (point_at n.format l.n (n.floats l.x) (n.floats l.l) (n.float l.s)) l.n (zeros 136) l.k (n.floats l.out)

abbrev pub invariant-loop-i : goal.invariant-loop-i
invariant-loop-i g l =
    let n = g.T.Number in
    Row (point_at n.format l.n (n.floats l.x) (n.floats l.l) (n.float l.s)) l.n (zeros 136) l.k l.i (n.floats l.out)
