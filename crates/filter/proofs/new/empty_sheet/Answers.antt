-- `new::empty_sheet` meets its contract. Assumes nothing.
use Rattle.std.proofs.Common.{ap₂, ◌∙◌}
use Rattle.matrix.proofs.Generic.{blank}
use Rattle.filter.specs.New.{fresh_sheet}
use Rattle.filter.proofs.new.empty_sheet.Goals as goal

pub returns : goal.returns
returns g c = c.fresh_sheet.ensures ∙ ap₂ (fresh_sheet 0) (blank g.met.T.Number.floats_law 64 c.ZERO.ensures g.met.T.Number.zero_law) c.empty_params.ensures
