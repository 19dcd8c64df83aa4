-- Point 0, and those on either side of it.
use Rattle.std.proofs.Common.{sym, ap, ap₂, ◌∙◌}
use native.Mathlib.Omega.{arith}
use lib.Ieee.{add, sub, mul}
use Rattle.matrix.proofs.Generic.{read, read_as}
use Rattle.sigma.proofs.Entries.{point_first, point_plus, point_minus}
use Rattle.sigma.proofs.draw.point_at.Goals as goal

pub returns-then-k-eq0 : goal.returns-then-k-eq0
returns-then-k-eq0 g c = rw c.if-k-eq0.true (read g.met.T.Number.floats_law _ _ _ (omega arith) ∙ sym (point_first _ _ _ _ _ _))

pub returns-then-k-n : goal.returns-then-k-n
returns-then-k-n g c =
    let n = g.met.T.Number in
    let f = g.T.Number.format in
    n.add_law _ _ _ c.add.ensures
    ∙ ap₂ (add f) (read n.floats_law _ _ _ (omega arith)) (n.mul_law _ _ _ c.mul.ensures ∙ ap (mul f _) (read_as n.floats_law _ _ _ c.cell.ensures.0 (omega arith)))
    ∙ sym (point_plus _ _ _ _ _ _ _ (omega arith) (omega arith))

pub returns-else-k-n : goal.returns-else-k-n
returns-else-k-n g c =
    let n = g.met.T.Number in
    let f = g.T.Number.format in
    n.sub_law _ _ _ c.sub.ensures
    ∙ ap₂ (sub f) (read n.floats_law _ _ _ (omega arith)) (n.mul_law _ _ _ c.mul-else-k-n.ensures ∙ ap (mul f _) (read_as n.floats_law _ _ _ c.cell-else-k-n.ensures.0 (omega arith)))
    ∙ sym (point_minus _ _ _ _ _ _ _ (omega arith))
