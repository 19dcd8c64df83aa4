-- After j turns y stands at its first j places.
use Rattle.std.proofs.Common.{List}
use Rattle.floats.specs.Numbers.{zeros}
use Rattle.angles.specs.declared.Kind.{Kind}
use Rattle.matrix.proofs.Turns.{Places}
use Rattle.correction.specs.Leaves.{innovation_at}
use Rattle.correction.proofs.innovation.Given as goal

abbrev pub invariant-loop-j : goal.invariant-loop-j
invariant-loop-j g l =
    let n = g.T.Number in
    Places (innovation_at n.format (n.floats l.z) (n.floats l.mean) (n.seen (λ A. List (Kind A)) l.kinds)) (zeros 8) l.j (n.floats l.y)
