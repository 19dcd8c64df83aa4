-- i rows are filled, and j cells of row i.
use Rattle.floats.specs.Numbers.{zeros}
use Rattle.matrix.proofs.Turns.{Row, Rows}
use Rattle.correction.specs.Flat.{flat_spread_at}
use Rattle.correction.proofs.flat.flat_spread.Given as goal

abbrev pub invariant-loop-i : goal.invariant-loop-i
invariant-loop-i g l =
    let n = g.T.Number in
    Rows (flat_spread_at n.format (n.floats l.a) l.da (n.floats l.b) l.db l.t) l.db (zeros 64) l.i (n.floats l.out)

abbrev pub invariant-loop-j : goal.invariant-loop-j
invariant-loop-j g l =
    let n = g.T.Number in
    Row (flat_spread_at n.format (n.floats l.a) l.da (n.floats l.b) l.db l.t) l.db (zeros 64) l.i l.j (n.floats l.out)
