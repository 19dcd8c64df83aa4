-- `new::empty_track` meets its contract. Assumes nothing.
use Rattle.std.proofs.Common.{ap₂, ◌∙◌}
use Rattle.matrix.proofs.Generic.{blank}
use Rattle.filter.specs.New.{fresh_track}
use Rattle.filter.proofs.new.empty_track.Goals as goal

pub returns : goal.returns
returns g c = let n = g.met.T.Number in c.fresh_track.ensures ∙ ap₂ fresh_track (blank n.floats_law 8 c.ZERO.ensures n.zero_law) (blank n.floats_law 64 c.ZERO-2.ensures n.zero_law)
