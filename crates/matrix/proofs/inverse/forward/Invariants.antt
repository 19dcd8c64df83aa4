-- After i turns u holds its first i numbers.
use Rattle.std.proofs.Common.{ℕ}
use Rattle.floats.specs.Numbers.{zeros}
use Rattle.matrix.specs.Inverse.{forward_at}
use Rattle.matrix.proofs.Turns.{Built}
use Rattle.matrix.proofs.inverse.forward.Given as goal

abbrev pub invariant-loop-i : goal.invariant-loop-i
invariant-loop-i g l =
    let n = g.T.Number in
    Built (λ (j : ℕ). j) (forward_at n.format (n.floats l.l) l.m l.c) (zeros 8) l.i (n.floats l.u)
