-- After k turns s is the unit's number less the first k products.
use Rattle.std.proofs.Common.{ℕ, ◌+◌, ◌*◌, get_or}
use lib.Ieee.{sub, mul, nan}
use Rattle.matrix.specs.Inverse.{unit_at}
use Rattle.matrix.proofs.Turns.{Total}
use Rattle.matrix.proofs.inverse.forward_at.Given as goal

abbrev pub invariant-loop-k : goal.invariant-loop-k
invariant-loop-k g l =
    let n = g.T.Number in
    Total (sub n.format) (unit_at n.format l.c l.i) (λ (j : ℕ). mul n.format (get_or (n.floats l.l) (l.i * l.m + j) nan) (get_or (n.floats l.u) j nan)) l.k (n.float l.s)
