-- A filter's size and parameters as they are seen.
use mathlib.Core.Path.{◌≡◌, refl, ◌∙◌}
use Rattle.sigma.specs.declared.Params.{Params}
use Rattle.sigma.specs.Weights.{w0m_of}
use Rattle.filter.specs.declared.Filter.{Filter}
use Rattle.filter.proofs.Filter.center_weight.Goals as goal

pub returns : goal.returns
returns g c =
    let f = g.T.Number.format in
    c.center_weight.ensures ∙ g.T.Number.same (λ A s. (a : Filter A) → w0m_of f a.sheet.n (s Params a.sheet.params) ≡ w0m_of f (s Filter a).sheet.n (s Filter a).sheet.params) (λ a. refl) c.args.self.now
