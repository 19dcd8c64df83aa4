-- One more difference is passed through the kind, weighed and taken in.
use Rattle.std.proofs.Common.{ap, ap₂, ◌∙◌}
use native.Mathlib.Omega.{arith}
use lib.Ieee.{sub, mul}
use Rattle.angles.specs.declared.Kind.{Kind}
use Rattle.angles.specs.Kinds.{through_of, plain}
use Rattle.matrix.proofs.Generic.{read, read_as}
use Rattle.matrix.proofs.Turns.{total_from, total_more, total_end}
use Rattle.sigma.proofs.Generic.{seen_at}
use Rattle.sigma.proofs.mean.offset.Goals as goal

pub loop-k-init : goal.loop-k-init
loop-k-init g c = total_from (ap g.T.Number.float c.ZERO-s.ensures ∙ g.met.T.Number.zero_law)

pub loop-k-preserved : goal.loop-k-preserved
loop-k-preserved g c =
    let n = g.met.T.Number in
    let f = g.T.Number.format in
    total_more c.loop-k.invariant (n.add_law _ _ _ c.add-s.ensures)
    (n.mul_law _ _ _ c.mul.ensures
    ∙ ap₂ (mul f) (read n.floats_law _ _ _ (omega arith))
    (c.through.ensures
    ∙ ap₂ (through_of f) (seen_at g.T.Number.same Kind _ _ _ plain (omega arith)) (n.sub_law _ _ _ c.sub.ensures ∙ ap₂ (sub f) (read_as n.floats_law _ _ _ c.place-at.ensures.0 (omega arith)) (read n.floats_law _ _ _ (omega arith)))))

pub returns : goal.returns
returns g c = total_end c.loop-k.invariant (omega arith)
