-- One more product is taken in; at the end the sum is divided by the count.
use Rattle.std.proofs.Common.{ap, ap₂, ◌∙◌}
use native.Mathlib.Omega.{arith}
use lib.Ieee.{mul, div}
use Rattle.matrix.proofs.Generic.{read_as}
use Rattle.matrix.proofs.Turns.{total_from, total_more, total_end}
use Rattle.correction.proofs.flat.spread_at.Goals as goal

pub loop-k-init : goal.loop-k-init
loop-k-init g c = total_from (ap g.T.Number.float c.ZERO-s.ensures ∙ g.met.T.Number.zero_law)

pub loop-k-preserved : goal.loop-k-preserved
loop-k-preserved g c =
    let n = g.met.T.Number in
    total_more c.loop-k.invariant (n.add_law _ _ _ c.add-s.ensures)
    (n.mul_law _ _ _ c.mul.ensures ∙ ap₂ (mul g.T.Number.format) (read_as n.floats_law _ _ _ c.place-x.ensures.0 (omega arith)) (read_as n.floats_law _ _ _ c.place-y.ensures.0 (omega arith)))

pub returns : goal.returns
returns g c = g.met.T.Number.div_law _ _ _ c.div.ensures ∙ ap₂ (div g.T.Number.format) (total_end c.loop-k.invariant (omega arith)) c.count.ensures
