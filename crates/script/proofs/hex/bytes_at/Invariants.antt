-- The bytes before this one are read. Assumes nothing.
use Rattle.script.proofs.Digits.{Got}
use Rattle.script.proofs.hex.bytes_at.Given as goal

abbrev pub invariant-loop-i : goal.invariant-loop-i
invariant-loop-i l = Got l.s l.fn.at l.initial.out l.t l.len l.i l.out
