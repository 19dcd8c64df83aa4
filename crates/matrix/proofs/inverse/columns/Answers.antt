-- One more number of column c is laid out, and in the end the column.
use Rattle.std.proofs.Common.{◌∙◌}
use native.Mathlib.Omega.{arith}
use Rattle.floats.proofs.Numbers.{floats_set}
use Rattle.matrix.proofs.Generic.{blank, read}
use Rattle.matrix.proofs.Turns.{rows_from, row_none, row_more, row_end}
use Rattle.matrix.proofs.inverse.columns.Goals as goal

pub loop-c-init : goal.loop-c-init
loop-c-init g c = rows_from (blank g.met.T.Number.floats_law 64 c.ZERO-out.ensures g.met.T.Number.zero_law)

pub loop-i-init : goal.loop-i-init
loop-i-init g c = row_none c.loop-c.invariant

pub loop-i-preserved : goal.loop-i-preserved
loop-i-preserved g c =
    let n = g.met.T.Number in
    row_more c.loop-i.invariant (floats_set n.floats_law _ _ _) c.cell.ensures.0 (read n.floats_law c.backward-v.result _ _ (omega arith) ∙ rw (c.backward-v.ensures, c.forward-u.ensures))

pub loop-c-preserved : goal.loop-c-preserved
loop-c-preserved g c = row_end c.loop-i.invariant (omega arith)
