-- `tests::values` meets its contract. Assumes nothing.
use mathlib.Core.Path.{◌≡◌, refl, ◌∙◌}
use mathlib.Core.List.{List, [], ◌∷◌}
use Rattle.sigma.specs.declared.Params.{Params}
use Rattle.filter.specs.Calls.{values_of}
use Rattle.filter.proofs.tests.values.Goals as goal

pub returns : goal.returns
returns g c =
    g.met.T.Number.floats_seen_law _
    ∙ g.T.Number.same (λ A s. (p : Params A) → s List (p.alpha ∷ p.beta ∷ p.kappa ∷ []) ≡ values_of (s Params p)) (λ p. refl) c.args.params
