-- `Filter::read_p` meets its contract. Assumes nothing.
use Rattle.std.proofs.Common.{◌∙◌}
use native.Mathlib.Omega.{arith}
use Rattle.filter.proofs.Sizes.{within_8, square_le}
use Rattle.filter.proofs.Replies.{reads_p}
use Rattle.filter.proofs.Filter.read_p.Goals as goal

pub read-requires : goal.read-requires
read-requires g c = λ h. omega (arith, square_le _ h, c.square.ensures ∙ within_8 _ _ h)

pub returns-clause-value : goal.returns-clause-value
returns-clause-value g c = (reads_p g.met.T.Number.floats_seen_law g.T.Number.same g.T.Number.format c.args.self _ c.square.ensures (c.read.ensures.value, c.read.ensures.out_after)).0

pub returns-clause-out_after : goal.returns-clause-out_after
returns-clause-out_after g c = (reads_p g.met.T.Number.floats_seen_law g.T.Number.same g.T.Number.format c.args.self _ c.square.ensures (c.read.ensures.value, c.read.ensures.out_after)).1
