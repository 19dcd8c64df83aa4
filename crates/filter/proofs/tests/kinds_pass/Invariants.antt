-- The kinds gone through have passed. Assumes nothing.
use mathlib.Core.List.{List}
use Rattle.angles.specs.declared.Kind.{Kind}
use Rattle.filter.specs.Asked.{passing}
use Rattle.filter.proofs.KindTests.{Passed}
use Rattle.filter.proofs.tests.kinds_pass.Given as goal

abbrev pub invariant-loop-k : goal.invariant-loop-k
invariant-loop-k g l = Passed (passing g.T.Number.format) (g.T.Number.seen (λ A. List (Kind A)) l.fn.kinds) l.k-index
