-- One more cell is set at its place, and in the end the row.
use native.Mathlib.Omega.{arith}
use Rattle.floats.proofs.Numbers.{floats_set}
use Rattle.matrix.proofs.Generic.{blank}
use Rattle.matrix.proofs.Turns.{rows_from, row_none, row_more, row_end}
use Rattle.matrix.proofs.product.mult_transb.Goals as goal

pub loop-i-init : goal.loop-i-init
loop-i-init g c = rows_from (blank g.met.T.Number.floats_law 64 c.ZERO-out.ensures g.met.T.Number.zero_law)

pub loop-j-init : goal.loop-j-init
loop-j-init g c = row_none c.loop-i.invariant

pub loop-j-preserved : goal.loop-j-preserved
loop-j-preserved g c = row_more c.loop-j.invariant (floats_set g.met.T.Number.floats_law _ _ _) c.cell.ensures.0 (rw (← c.row.ensures.0, ← c.row-in-loop-j.ensures.0) c.dot.ensures)

pub loop-i-preserved : goal.loop-i-preserved
loop-i-preserved g c = row_end c.loop-j.invariant (omega arith)
