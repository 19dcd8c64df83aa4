-- The bytes before this one are put. Assumes nothing.
use Rattle.script.proofs.Digits.{Spelled}
use Rattle.script.proofs.hex.put_each.Given as goal

abbrev pub invariant-loop-b : goal.invariant-loop-b
invariant-loop-b l = Spelled l.s l.fn.out l.fn.at l.b-index l.out l.next
