-- As it was computed.
use Rattle.std.proofs.Common.{sym, ap, ◌∙◌}
use Rattle.sigma.specs.Weights.{Weighting}
use Rattle.sigma.proofs.Generic.{seen_weighting}
use Rattle.sigma.proofs.weights.scale.Goals as goal

pub returns : goal.returns
returns g c = ap (λ (v : Weighting). v.scale) (sym (seen_weighting g.met.T.Number.float_law g.T.Number.same c.compute_weights.result) ∙ c.compute_weights.ensures)
