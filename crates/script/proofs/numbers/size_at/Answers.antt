-- Each turn reads one digit. Assumes nothing.
use Rattle.std.proofs.Common.{◌∙◌, arith}
use Rattle.script.proofs.Sizes.{counted_none, counted_more, counted_mark, counted_letter, counted_over, counted_end}
use Rattle.script.proofs.numbers.size_at.Goals as goal

pub loop-k-init : goal.loop-k-init
loop-k-init c = counted_none c.token_at-t.ensures (omega arith)

pub returns-in_err-d : goal.returns-in_err-d
returns-in_err-d c = c.from_residual.ensures ∙ counted_mark c.loop-k.invariant (omega arith) c.in_err-d.ensures

pub returns-then-d-ge10 : goal.returns-then-d-ge10
returns-then-d-ge10 c = counted_letter c.loop-k.invariant (omega arith) c.in_ok-d.ensures c.if-d-ge10.true

pub returns-in_err-checked_mul : goal.returns-in_err-checked_mul
returns-in_err-checked_mul c = c.from_residual-in_err-checked_mul.ensures ∙ counted_over c.loop-k.invariant (omega arith) c.in_ok-d.ensures c.if-d-ge10.false (omega (arith, c.in_err-checked_mul.ensures))

pub returns-in_err-value : goal.returns-in_err-value
returns-in_err-value c = c.from_residual-in_err-value.ensures ∙ counted_over c.loop-k.invariant (omega arith) c.in_ok-d.ensures c.if-d-ge10.false (omega (arith, c.in_ok-checked_mul.ensures, c.in_err-value.ensures))

pub loop-k-preserved : goal.loop-k-preserved
loop-k-preserved c =
    let m = c.in_ok-checked_mul.ensures in
    let n = c.in_ok-value.ensures in
    counted_more c.loop-k.invariant (omega arith) c.in_ok-d.ensures c.if-d-ge10.false (omega (arith, m, n)) (omega (arith, n))

pub returns : goal.returns
returns c = counted_end c.loop-k.invariant (omega arith)
