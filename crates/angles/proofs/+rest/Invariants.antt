-- `rest` ends: each turn brings r nearer to t, which is taken twice. Assumes nothing.
use Rattle.std.proofs.Common.{◌+◌, ◌-◌}
use Rattle.floats.specs.Units.{units_of}
use Rattle.angles.proofs.+rest.Given as goal

abbrev pub decreases-rest : goal.decreases-rest
decreases-rest g l = units_of g.T.Number.format (g.T.Number.float l.r) + 1 - units_of g.T.Number.format (g.T.Number.float l.t)
