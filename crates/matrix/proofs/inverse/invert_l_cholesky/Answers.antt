-- One more cell is read off the columns that were laid out, and in the end the row.
use Rattle.std.proofs.Common.{◌∙◌}
use native.Mathlib.Omega.{arith}
use Rattle.floats.proofs.Numbers.{floats_set}
use Rattle.matrix.specs.Inverse.{column_at}
use Rattle.matrix.proofs.Cells.{matrix_filled}
use Rattle.matrix.proofs.Generic.{blank, read_as}
use Rattle.matrix.proofs.Turns.{rows_from, row_none, row_more, row_end}
use Rattle.matrix.proofs.inverse.invert_l_cholesky.Goals as goal

pub loop-i-init : goal.loop-i-init
loop-i-init g c = rows_from (blank g.met.T.Number.floats_law 64 c.ZERO-out.ensures g.met.T.Number.zero_law)

pub loop-c-init : goal.loop-c-init
loop-c-init g c = row_none c.loop-i.invariant

pub loop-c-preserved : goal.loop-c-preserved
loop-c-preserved g c =
    let n = g.met.T.Number in
    row_more c.loop-c.invariant (floats_set n.floats_law _ _ _) c.cell-in-loop-c.ensures.0
    (read_as n.floats_law c.columns-w.result _ _ c.cell.ensures.0 (omega arith)
    ∙ rw c.columns-w.ensures
    ((matrix_filled (column_at g.T.Number.format (g.T.Number.floats c.args.l.now) c.args.m) c.args.m c.args.m (omega arith) (omega arith)).cell c.loop-c.c c.loop-i.i (omega arith) (omega arith)))

pub loop-i-preserved : goal.loop-i-preserved
loop-i-preserved g c = row_end c.loop-c.invariant (omega arith)
