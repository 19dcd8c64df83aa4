-- One more difference is set at its place.
use Rattle.std.proofs.Common.{ap₂, ◌∙◌}
use native.Mathlib.Omega.{arith}
use lib.Ieee.{sub}
use Rattle.floats.proofs.Numbers.{floats_set}
use Rattle.matrix.proofs.Generic.{blank, read}
use Rattle.matrix.proofs.Turns.{places_from, places_more}
use Rattle.matrix.proofs.sums.minus.Goals as goal

pub loop-i-init : goal.loop-i-init
loop-i-init g c = places_from (blank g.met.T.Number.floats_law 64 c.ZERO-out.ensures g.met.T.Number.zero_law)

pub loop-i-preserved : goal.loop-i-preserved
loop-i-preserved g c =
    let n = g.met.T.Number in
    places_more c.loop-i.invariant (floats_set n.floats_law _ _ _)
    (n.sub_law _ _ _ c.sub.ensures ∙ ap₂ (sub g.T.Number.format) (read n.floats_law _ _ _ (omega arith)) (read n.floats_law _ _ _ (omega arith)))
