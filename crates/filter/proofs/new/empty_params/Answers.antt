-- `new::empty_params` meets its contract. Assumes nothing.
use Rattle.filter.proofs.Seen.{no_params}
use Rattle.filter.proofs.new.empty_params.Goals as goal

pub returns : goal.returns
returns g c = let n = g.met.T.Number in no_params n.float_law g.T.Number.same c.ZERO.ensures c.ZERO-2.ensures c.ZERO-3.ensures n.zero_law
