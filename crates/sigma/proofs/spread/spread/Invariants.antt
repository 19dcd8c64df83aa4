-- i rows are filled, and j cells of row i.
use Rattle.floats.specs.Numbers.{zeros}
use Rattle.matrix.proofs.Turns.{Row, Rows}
use Rattle.sigma.specs.Spread.{spread_at}
use Rattle.sigma.proofs.spread.spread.Given as goal

abbrev pub invariant-loop-i : goal.invariant-loop-i
invariant-loop-i g l =
    let n = g.T.Number in
    Rows (spread_at n.format (n.floats l.a) l.da (n.floats l.b) l.db (n.floats l.w) l.t) l.db (zeros 64) l.i (n.floats l.out)

abbrev pub invariant-loop-j : goal.invariant-loop-j
invariant-loop-j g l =
    let n = g.T.Number in
    Row (spread_at n.format (n.floats l.a) l.da (n.floats l.b) l.db (n.floats l.w) l.t) l.db (zeros 64) l.i l.j (n.floats l.out)
