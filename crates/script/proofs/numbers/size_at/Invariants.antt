-- The digits before this one are read. Assumes nothing.
use Rattle.script.proofs.Sizes.{Counted}
use Rattle.script.proofs.numbers.size_at.Given as goal

abbrev pub invariant-loop-k : goal.invariant-loop-k
invariant-loop-k l = Counted l.s l.fn.at l.t.end l.value l.k
