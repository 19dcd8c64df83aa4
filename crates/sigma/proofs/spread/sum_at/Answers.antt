-- One more product is weighed and taken in.
use Rattle.std.proofs.Common.{ap, ap₂, ◌∙◌}
use native.Mathlib.Omega.{arith}
use lib.Ieee.{mul}
use Rattle.matrix.proofs.Generic.{read, read_as}
use Rattle.matrix.proofs.Turns.{total_from, total_more, total_end}
use Rattle.sigma.proofs.spread.sum_at.Goals as goal

pub loop-k-init : goal.loop-k-init
loop-k-init g c = total_from (ap g.T.Number.float c.ZERO-s.ensures ∙ g.met.T.Number.zero_law)

pub loop-k-preserved : goal.loop-k-preserved
loop-k-preserved g c =
    let n = g.met.T.Number in
    let f = g.T.Number.format in
    total_more c.loop-k.invariant (n.add_law _ _ _ c.add-s.ensures)
    (n.mul_law _ _ _ c.mul-in-loop-k.ensures
    ∙ ap₂ (mul f) (n.mul_law _ _ _ c.mul.ensures ∙ ap₂ (mul f) (read n.floats_law _ _ _ (omega arith)) (read_as n.floats_law _ _ _ c.place-x.ensures.0 (omega arith)))
    (read_as n.floats_law _ _ _ c.place-y.ensures.0 (omega arith)))

pub returns : goal.returns
returns g c = total_end c.loop-k.invariant (omega arith)
