-- After k turns s is the sum of the first k terms.
use Rattle.std.proofs.Common.{List}
use lib.Ieee.{add}
use Rattle.floats.specs.Numbers.{plus_zero}
use Rattle.angles.specs.declared.Kind.{Kind}
use Rattle.matrix.proofs.Turns.{Total}
use Rattle.sigma.specs.Mean.{offset_at}
use Rattle.sigma.proofs.mean.offset.Given as goal

abbrev pub invariant-loop-k : goal.invariant-loop-k
invariant-loop-k g l =
    let n = g.T.Number in
    Total (add n.format) plus_zero (offset_at n.format (n.floats l.p) l.d l.t (n.floats l.w) (n.seen (λ A. List (Kind A)) l.kinds) l.i) l.k (n.float l.s)
