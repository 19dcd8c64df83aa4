-- `fronts::filled` meets its contract. Assumes nothing.
use mathlib.Core.Path.{sym, ap, ◌∙◌}
use mathlib.Core.List.{List}
use lib.Ieee.{Float}
use Rattle.floats.specs.Fronts.{front}
use Rattle.matrix.proofs.Generic.{blank}
use Rattle.filter.proofs.Seen.{floats_front}
use Rattle.filter.proofs.fronts.filled.Goals as goal

pub returns : goal.returns
returns g c =
    ap g.T.Number.floats c.copy_front.ensures ∙ floats_front g.met.T.Number.floats_seen_law g.T.Number.same c.args.k c.args.s.now _
    ∙ ap (λ (d : List Float). front c.args.k (g.T.Number.floats c.args.s.now) d) (blank g.met.T.Number.floats_law g.row.N c.ZERO-d.ensures g.met.T.Number.zero_law)
