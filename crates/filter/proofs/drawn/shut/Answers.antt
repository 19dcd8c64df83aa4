-- `drawn::shut` meets its contract. Assumes nothing.
use mathlib.Core.Path.{ap₂, ◌∙◌}
use mathlib.Core.List.{List}
use lib.Ieee.{Float}
use Rattle.matrix.proofs.Generic.{blank}
use Rattle.filter.specs.declared.Stage.TheVariants.{Shut}
use Rattle.filter.specs.declared.Track.{Track}
use Rattle.filter.specs.Filters.{with_drawn}
use Rattle.filter.proofs.drawn.shut.Goals as goal

pub returns : goal.returns
returns g c =
    c.with_drawn.ensures ∙ ap₂ (λ (w p : List Float). with_drawn (g.T.Number.seen Track c.args.t) Shut (record { weights = w; points = p }))
    (blank g.met.T.Number.floats_law 17 c.ZERO-weights.ensures g.met.T.Number.zero_law)
    (blank g.met.T.Number.floats_law 136 c.ZERO-points.ensures g.met.T.Number.zero_law)
