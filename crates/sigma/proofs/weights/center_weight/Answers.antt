-- As it was computed.
use Rattle.std.proofs.Common.{sym, ap, ◌∙◌}
use Rattle.sigma.specs.Weights.{Weighting}
use Rattle.sigma.proofs.Generic.{seen_weighting}
use Rattle.sigma.proofs.weights.center_weight.Goals as goal

pub returns : goal.returns
returns g c = ap (λ (v : Weighting). v.w0m) (sym (seen_weighting g.met.T.Number.float_law g.T.Number.same c.compute_weights.result) ∙ c.compute_weights.ensures)
