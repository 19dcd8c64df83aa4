-- `drawn::nothing_kept` meets its contract. Assumes nothing.
use mathlib.Core.Path.{ap, ◌∙◌}
use mathlib.Core.Bool.{false}
use mathlib.Core.List.{List}
use lib.Ieee.{Float}
use Rattle.matrix.proofs.Generic.{blank}
use Rattle.filter.specs.Filters.{keeping}
use Rattle.filter.proofs.Seen.{seen_kept}
use Rattle.filter.proofs.drawn.nothing_kept.Goals as goal

pub returns : goal.returns
returns g c = seen_kept g.met.T.Number.floats_seen_law g.T.Number.same _ _ _ _ ∙ ap (λ (l : List Float). keeping 0 false 0 l) (blank g.met.T.Number.floats_law 136 c.ZERO.ensures g.met.T.Number.zero_law)
