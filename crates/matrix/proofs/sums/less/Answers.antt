-- One more product is read at its two places and taken away.
use Rattle.std.proofs.Common.{refl, ap₂, ◌∙◌}
use native.Mathlib.Omega.{arith}
use lib.Ieee.{mul}
use Rattle.matrix.proofs.Generic.{read}
use Rattle.matrix.proofs.Turns.{total_from, total_more}
use Rattle.matrix.proofs.sums.less.Goals as goal

pub loop-k-init : goal.loop-k-init
loop-k-init g c = total_from refl

pub loop-k-preserved : goal.loop-k-preserved
loop-k-preserved g c =
    let n = g.met.T.Number in
    total_more c.loop-k.invariant (n.sub_law _ _ _ c.sub-t.ensures)
    (n.mul_law _ _ _ c.mul.ensures ∙ ap₂ (mul g.T.Number.format) (read n.floats_law _ _ _ (omega arith)) (read n.floats_law _ _ _ (omega arith)))
