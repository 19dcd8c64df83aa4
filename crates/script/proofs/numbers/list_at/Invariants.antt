-- The numbers before this one are read. Assumes nothing.
use Rattle.script.proofs.Lists.{Gone}
use Rattle.script.proofs.numbers.list_at.Given as goal

abbrev pub invariant-loop-i : goal.invariant-loop-i
invariant-loop-i g l = let n = g.T.Number.floats in Gone g.T.Number.format l.s l.fn.at (n l.initial.out) l.len l.i l.next (n l.out)
