-- Each turn puts one byte. Assumes nothing.
use Rattle.std.proofs.Common.{arith}
use Rattle.script.proofs.Digits.{spelled_none, spelled_more, spelled_over}
use Rattle.script.proofs.hex.put_each.Goals as goal

pub loop-b-init : goal.loop-b-init
loop-b-init c = spelled_none

pub loop-b-preserved : goal.loop-b-preserved
loop-b-preserved c = let e = c.put_byte-next.ensures in spelled_more c.loop-b.invariant (omega arith) (e.value, e.out_after)

pub returns-clause-value : goal.returns-clause-value
returns-clause-value c = (spelled_over c.loop-b.invariant (omega arith)).0

pub returns-clause-out_after : goal.returns-clause-out_after
returns-clause-out_after c = (spelled_over c.loop-b.invariant (omega arith)).1
