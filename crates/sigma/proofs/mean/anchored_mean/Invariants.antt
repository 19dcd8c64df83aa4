-- After i turns the mean stands at its first i places.
use Rattle.std.proofs.Common.{List}
use Rattle.floats.specs.Numbers.{zeros}
use Rattle.angles.specs.declared.Kind.{Kind}
use Rattle.matrix.proofs.Turns.{Places}
use Rattle.sigma.specs.Mean.{mean_at}
use Rattle.sigma.proofs.mean.anchored_mean.Given as goal

abbrev pub invariant-loop-i : goal.invariant-loop-i
invariant-loop-i g l =
    let n = g.T.Number in
    Places (mean_at n.format (n.floats l.p) l.d l.t (n.float l.fn.w0m) (n.floats l.w) (n.seen (λ A. List (Kind A)) l.kinds)) (zeros 8) l.i (n.floats l.mean)
