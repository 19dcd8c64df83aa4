-- The numbers before this one are put. Assumes nothing.
use Rattle.script.proofs.Pages.{Printed}
use Rattle.script.proofs.write.put_numbers.Given as goal

abbrev pub invariant-loop-x : goal.invariant-loop-x
invariant-loop-x g l = Printed g.T.Number.format (g.T.Number.floats l.x-items) l.fn.out l.fn.at l.x-index l.out l.next
