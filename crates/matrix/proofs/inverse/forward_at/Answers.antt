-- One more product is taken away, and in the end the rest is divided.
use Rattle.std.proofs.Common.{ap₂, ◌∙◌}
use native.Mathlib.Omega.{arith}
use lib.Ieee.{mul, div}
use Rattle.matrix.proofs.Generic.{read, read_as}
use Rattle.matrix.proofs.Turns.{total_from, total_more, total_end}
use Rattle.matrix.proofs.inverse.forward_at.Goals as goal

pub loop-k-init : goal.loop-k-init
loop-k-init g c = total_from c.unit-s.ensures

pub loop-k-preserved : goal.loop-k-preserved
loop-k-preserved g c =
    let n = g.met.T.Number in
    total_more c.loop-k.invariant (n.sub_law _ _ _ c.sub-s.ensures)
    (n.mul_law _ _ _ c.mul.ensures ∙ ap₂ (mul g.T.Number.format) (read_as n.floats_law _ _ _ c.cell.ensures.0 (omega arith)) (read n.floats_law _ _ _ (omega arith)))

pub returns : goal.returns
returns g c =
    let n = g.met.T.Number in
    n.div_law _ _ _ c.div.ensures ∙ ap₂ (div g.T.Number.format) (total_end c.loop-k.invariant (omega arith)) (read_as n.floats_law _ _ _ c.cell-2.ensures.0 (omega arith))
