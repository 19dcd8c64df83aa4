-- `new::sheet_from` meets its contract. Assumes nothing.
use Rattle.std.proofs.Common.{rules, ◌∙◌}
use native.Mathlib.Omega.{arith}
use Rattle.floats.proofs.Numbers.{floats_long}
use Rattle.filter.proofs.Parts.{sheet_in, sheet_is}
use Rattle.filter.proofs.new.sheet_from.Goals as goal

pub filled-requires : goal.filled-requires
filled-requires g c = (search rules, omega (arith, floats_long g.met.T.Number.floats_law c.args.q.now, sheet_in g.T.Number.format c.args.n c.square.ensures _ _ c.requires))

pub returns : goal.returns
returns g c = c.fresh_sheet.ensures ∙ sheet_is g.T.Number.format c.args.n c.square.ensures _ _ c.requires c.filled.ensures
