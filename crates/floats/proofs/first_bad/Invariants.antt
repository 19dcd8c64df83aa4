-- The numbers before this place have passed.
use Rattle.floats.proofs.Finite.{Passed}
use Rattle.floats.proofs.first_bad.Given as goal

abbrev pub invariant-loop-place : goal.invariant-loop-place
invariant-loop-place g l = Passed (g.T.Number.floats l.fn.s) l.place
