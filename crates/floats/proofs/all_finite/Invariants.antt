-- The numbers before this one have passed.
use Rattle.floats.proofs.Finite.{Passed}
use Rattle.floats.proofs.all_finite.Given as goal

abbrev pub invariant-loop-x : goal.invariant-loop-x
invariant-loop-x g l = Passed (g.T.Number.floats l.fn.s) l.x-index
