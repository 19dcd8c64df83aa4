-- After the turns up to k, s is u[i] less the products of those from i + 1 on.
use Rattle.std.proofs.Common.{ℕ, ◌+◌, ◌-◌, ◌*◌, get_or}
use lib.Ieee.{sub, mul, nan}
use Rattle.matrix.proofs.Turns.{Total}
use Rattle.matrix.proofs.inverse.backward_at.Given as goal

abbrev pub invariant-loop-k : goal.invariant-loop-k
invariant-loop-k g l =
    let n = g.T.Number in
    Total (sub n.format) (get_or (n.floats l.v) l.i nan) (λ (j : ℕ). mul n.format (get_or (n.floats l.l) ((l.i + 1 + j) * l.m + l.i) nan) (get_or (n.floats l.v) (l.i + 1 + j) nan)) (l.k - (l.i + 1)) (n.float l.s)
