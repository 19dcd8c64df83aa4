-- x is shifted at its first i places, and s is the sum of the first j products of row i.
use Prim.Native.Nat.{◌*◌}
use lib.Ieee.{add}
use Rattle.floats.specs.Numbers.{plus_zero, zeros}
use Rattle.matrix.specs.Sums.{product_at}
use Rattle.matrix.proofs.Turns.{Total, Places}
use Rattle.correction.specs.Leaves.{shifted_at}
use Rattle.correction.proofs.shifted.Given as goal

abbrev pub invariant-loop-j : goal.invariant-loop-j
invariant-loop-j g l =
    let n = g.T.Number in
    Total (add n.format) plus_zero (product_at n.format (n.floats l.k) (l.i * l.m) (n.floats l.y) 0) l.j (n.float l.s)

abbrev pub invariant-loop-i : goal.invariant-loop-i
invariant-loop-i g l =
    let n = g.T.Number in
    Places (shifted_at n.format l.m (n.floats l.x) (n.floats l.k) (n.floats l.y)) (zeros 8) l.i (n.floats l.out)
