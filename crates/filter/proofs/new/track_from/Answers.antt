-- `new::track_from` meets its contract. Assumes nothing.
use Rattle.std.proofs.Common.{rules, refl, ◌∙◌}
use native.Mathlib.Omega.{arith}
use Rattle.floats.proofs.Numbers.{floats_long}
use Rattle.filter.proofs.Parts.{state_in, covariance_in, track_is}
use Rattle.filter.proofs.new.track_from.Goals as goal

pub filled-requires : goal.filled-requires
filled-requires g c = (search rules, omega (arith, floats_long g.met.T.Number.floats_law c.args.x.now, state_in g.T.Number.format c.args.n refl _ _ c.requires))

pub filled-requires-2 : goal.filled-requires-2
filled-requires-2 g c = (search rules, omega (arith, floats_long g.met.T.Number.floats_law c.args.p.now, covariance_in g.T.Number.format c.args.n c.square.ensures _ _ c.requires))

pub returns : goal.returns
returns g c = c.fresh_track.ensures ∙ track_is g.T.Number.format c.args.n c.square.ensures _ _ c.requires c.filled.ensures c.filled-2.ensures
