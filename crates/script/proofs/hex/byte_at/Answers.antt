-- Two digits, or one of them is none. Assumes nothing.
use Rattle.std.proofs.Common.{◌∙◌}
use Rattle.script.proofs.Digits.{both_digits, no_high, no_low}
use Rattle.script.proofs.hex.byte_at.Goals as goal

pub returns-in_err-high : goal.returns-in_err-high
returns-in_err-high c = c.from_residual.ensures ∙ no_high _ _ c.in_err-high.ensures

pub returns-in_err-low : goal.returns-in_err-low
returns-in_err-low c = c.from_residual-in_err-low.ensures ∙ no_low _ _ c.in_err-low.ensures

pub returns : goal.returns
returns c = both_digits _ _ c.in_ok-high.ensures c.in_ok-low.ensures
