-- The first k weights stand.
use Rattle.floats.specs.Numbers.{zeros}
use Rattle.matrix.proofs.Turns.{Places}
use Rattle.sigma.specs.declared.Params.{Params}
use Rattle.sigma.specs.Weights.{weight_at}
use Rattle.sigma.proofs.weights.weights.Given as goal

abbrev pub invariant-loop-k : goal.invariant-loop-k
invariant-loop-k g l =
    let n = g.T.Number in
    Places (weight_at n.format l.n (n.seen Params l.fn.p)) (zeros 17) l.k (n.floats l.w)
