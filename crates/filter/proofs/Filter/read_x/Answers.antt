-- `Filter::read_x` meets its contract. Assumes nothing.
use Rattle.filter.proofs.Replies.{reads_x}
use Rattle.filter.proofs.Filter.read_x.Goals as goal

pub returns-clause-value : goal.returns-clause-value
returns-clause-value g c = (reads_x g.met.T.Number.floats_seen_law g.T.Number.same g.T.Number.format c.args.self _ (c.read.ensures.value, c.read.ensures.out_after)).0

pub returns-clause-out_after : goal.returns-clause-out_after
returns-clause-out_after g c = (reads_x g.met.T.Number.floats_seen_law g.T.Number.same g.T.Number.format c.args.self _ (c.read.ensures.value, c.read.ensures.out_after)).1
