-- `Filter::read_points` meets its contract. Assumes nothing.
use Rattle.std.proofs.Common.{◌∙◌}
use native.Mathlib.Omega.{arith}
use Rattle.filter.proofs.Sizes.{within_both, numbers_le}
use Rattle.filter.proofs.Replies.{reads_points}
use Rattle.filter.proofs.Filter.read_points.Goals as goal

pub read-requires : goal.read-requires
read-requires g c = λ h. omega (arith, numbers_le _ _ h h, c.point_numbers-k.ensures ∙ within_both _ _ _ h h)

pub returns-clause-value : goal.returns-clause-value
returns-clause-value g c = (reads_points g.met.T.Number.floats_seen_law g.T.Number.same g.T.Number.format c.args.self _ c.point_numbers-k.ensures (c.read.ensures.value, c.read.ensures.out_after)).0

pub returns-clause-out_after : goal.returns-clause-out_after
returns-clause-out_after g c = (reads_points g.met.T.Number.floats_seen_law g.T.Number.same g.T.Number.format c.args.self _ c.point_numbers-k.ensures (c.read.ensures.value, c.read.ensures.out_after)).1
