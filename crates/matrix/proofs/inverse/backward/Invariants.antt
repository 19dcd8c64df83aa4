-- v holds its numbers from i on, and u below it.
use Rattle.std.proofs.Common.{ℕ, ◌+◌, ◌-◌}
use Rattle.matrix.specs.Inverse.{backward_at}
use Rattle.matrix.proofs.Turns.{Built}
use Rattle.matrix.proofs.inverse.backward.Given as goal

abbrev pub invariant-loop-i : goal.invariant-loop-i
invariant-loop-i g l =
    let n = g.T.Number in
    Built (λ (j : ℕ). l.m - (j + 1)) (backward_at n.format (n.floats l.l) l.m) (n.floats l.fn.u) (l.m - l.i) (n.floats l.v)
