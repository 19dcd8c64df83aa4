-- The kinds gone through are plain. Assumes nothing.
use mathlib.Core.List.{List}
use Rattle.angles.specs.declared.Kind.{Kind}
use Rattle.angles.specs.Kinds.{is_plain}
use Rattle.filter.proofs.KindTests.{Passed}
use Rattle.filter.proofs.tests.all_plain.Given as goal

abbrev pub invariant-loop-k : goal.invariant-loop-k
invariant-loop-k g l = Passed is_plain (g.T.Number.seen (λ A. List (Kind A)) l.fn.kinds) l.k-index
