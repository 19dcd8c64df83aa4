-- After k turns s is the sum over the first k points.
use Rattle.std.proofs.Common.{ℕ, ◌+◌, ◌*◌, get_or}
use lib.Ieee.{nan, add, mul}
use Rattle.floats.specs.Numbers.{plus_zero}
use Rattle.matrix.proofs.Turns.{Total}
use Rattle.correction.proofs.flat.spread_at.Given as goal

abbrev pub invariant-loop-k : goal.invariant-loop-k
invariant-loop-k g l =
    let n = g.T.Number in
    Total (add n.format) plus_zero (λ (v : ℕ). mul n.format (get_or (n.floats l.a) (v * l.da + l.i) nan) (get_or (n.floats l.b) (v * l.db + l.j) nan)) l.k (n.float l.s)
