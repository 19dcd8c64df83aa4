-- One more product is taken in; one more entry is shifted by its row's sum.
use Rattle.std.proofs.Common.{ap, ap₂, ◌∙◌}
use native.Mathlib.Omega.{arith}
use lib.Ieee.{add, mul}
use Rattle.floats.proofs.Numbers.{floats_set}
use Rattle.matrix.proofs.Generic.{blank, read, read_as}
use Rattle.matrix.proofs.Turns.{total_from, total_more, total_end, places_from, places_more, places_end}
use Rattle.correction.proofs.shifted.Goals as goal

pub loop-i-init : goal.loop-i-init
loop-i-init g c = places_from (blank g.met.T.Number.floats_law 8 c.ZERO-out.ensures g.met.T.Number.zero_law)

pub loop-j-init : goal.loop-j-init
loop-j-init g c = total_from (ap g.T.Number.float c.ZERO-s.ensures ∙ g.met.T.Number.zero_law)

pub loop-j-preserved : goal.loop-j-preserved
loop-j-preserved g c =
    let n = g.met.T.Number in
    let f = g.T.Number.format in
    total_more c.loop-j.invariant (n.add_law _ _ _ c.add-s.ensures)
    (n.mul_law _ _ _ c.mul.ensures ∙ ap₂ (mul f) (read_as n.floats_law _ _ _ (omega (arith, c.row-r.ensures.0)) (omega (arith, c.row-r.ensures.1))) (read_as n.floats_law _ _ _ (omega arith) (omega arith)))

pub loop-i-preserved : goal.loop-i-preserved
loop-i-preserved g c =
    let n = g.met.T.Number in
    let f = g.T.Number.format in
    places_more c.loop-i.invariant (floats_set n.floats_law _ _ _)
    (n.add_law _ _ _ c.add.ensures
    ∙ ap₂ (add f) (read n.floats_law _ _ _ (omega arith)) (total_end c.loop-j.invariant {t = c.args.m} (omega arith)))

pub returns : goal.returns
returns g c = places_end c.loop-i.invariant (omega arith)
