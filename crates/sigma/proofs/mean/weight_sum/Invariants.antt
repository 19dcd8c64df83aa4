-- After k turns s is w0m plus the first k of the weights.
use Rattle.std.proofs.Common.{ℕ, ◌+◌, get_or}
use lib.Ieee.{nan, add}
use Rattle.matrix.proofs.Turns.{Total}
use Rattle.sigma.proofs.mean.weight_sum.Given as goal

abbrev pub invariant-loop-k : goal.invariant-loop-k
invariant-loop-k g l =
    let n = g.T.Number in
    Total (add n.format) (n.float l.fn.w0m) (λ (j : ℕ). get_or (n.floats l.w) (j + 1) nan) l.k (n.float l.s)
