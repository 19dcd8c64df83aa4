-- One more difference is passed through its kind, and set at its place.
use Rattle.std.proofs.Common.{ap₂, ◌∙◌}
use native.Mathlib.Omega.{arith}
use lib.Ieee.{sub}
use Rattle.floats.proofs.Numbers.{floats_set}
use Rattle.angles.specs.declared.Kind.{Kind}
use Rattle.angles.specs.Kinds.{through_of, plain}
use Rattle.matrix.proofs.Generic.{blank, read, read_as}
use Rattle.matrix.proofs.Turns.{rows_from, row_none, row_more, row_end, rows_end}
use Rattle.sigma.proofs.Generic.{seen_at}
use Rattle.sigma.proofs.spread.deviations.Goals as goal

pub loop-k-init : goal.loop-k-init
loop-k-init g c = rows_from (blank g.met.T.Number.floats_law 136 c.ZERO-out.ensures g.met.T.Number.zero_law)

pub loop-i-init : goal.loop-i-init
loop-i-init g c = row_none c.loop-k.invariant

pub loop-i-preserved : goal.loop-i-preserved
loop-i-preserved g c =
    let n = g.met.T.Number in
    let f = g.T.Number.format in
    row_more c.loop-i.invariant (floats_set n.floats_law _ _ _) c.place-at.ensures.0
    (c.through.ensures
    ∙ ap₂ (through_of f) (seen_at g.T.Number.same Kind _ _ _ plain (omega arith)) (n.sub_law _ _ _ c.sub.ensures ∙ ap₂ (sub f) (read_as n.floats_law _ _ _ c.place-at.ensures.0 (omega arith)) (read n.floats_law _ _ _ (omega arith))))

pub loop-k-preserved : goal.loop-k-preserved
loop-k-preserved g c = row_end c.loop-i.invariant (omega arith)

pub returns : goal.returns
returns g c = rows_end c.loop-k.invariant (omega arith)
