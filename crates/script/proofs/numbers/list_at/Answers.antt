-- Each turn reads one number and puts it in its place. Assumes nothing.
use Rattle.std.proofs.Common.{◌∙◌, sym, arith}
use Rattle.floats.proofs.Numbers.{floats_set}
use Rattle.script.proofs.Seen.{no_number, number_found}
use Rattle.script.proofs.Lists.{gone_more, gone_not, gone_end}
use Rattle.script.proofs.numbers.list_at.Goals as goal

pub returns-in_err-number-clause-value : goal.returns-in_err-number-clause-value
returns-in_err-number-clause-value g c =
    c.from_residual-in_err-number.ensures ∙ (gone_not c.loop-i.invariant (omega arith) (sym (no_number g.T.Number.same) ∙ c.in_err-number.ensures)).0

pub returns-in_err-number-clause-out_after : goal.returns-in_err-number-clause-out_after
returns-in_err-number-clause-out_after g c = (gone_not c.loop-i.invariant (omega arith) (sym (no_number g.T.Number.same) ∙ c.in_err-number.ensures)).1

pub loop-i-preserved : goal.loop-i-preserved
loop-i-preserved g c =
    let n = c.in_ok-number.number in
    gone_more c.loop-i.invariant (omega arith) (sym (number_found g.T.Number.same g.met.T.Number.float_law n.value n.next) ∙ c.in_ok-number.ensures)
    (floats_set g.met.T.Number.floats_law c.loop-i.out c.loop-i.i n.value)

pub returns-clause-value : goal.returns-clause-value
returns-clause-value g c = (gone_end c.loop-i.invariant (omega arith)).0

pub returns-clause-out_after : goal.returns-clause-out_after
returns-clause-out_after g c = (gone_end c.loop-i.invariant (omega arith)).1
