-- `Filter::read_params` meets its contract. Assumes nothing.
use Rattle.std.proofs.Common.{ap, ◌∙◌}
use lib.Ieee.{Float}
use Rattle.sigma.specs.declared.Params.{Params}
use Rattle.filter.proofs.Seen.{seen_params_read}
use Rattle.filter.proofs.Replies.{params_refused, params_given}
use Rattle.filter.proofs.Filter.read_params.Goals as goal

pub returns-then-refusal-ne0 : goal.returns-then-refusal-ne0
returns-then-refusal-ne0 g c =
    let n = g.T.Number in
    seen_params_read n.same _ _ ∙ ap (λ (p : Params Float). record { refusal = c.early_refusal-refusal.result; params = p }) c.empty_params-params.ensures
    ∙ params_refused n.same n.format c.args.self c.is_sized-sized.ensures c.early_refusal-refusal.ensures c.if-refusal-ne0.true

pub returns : goal.returns
returns g c =
    let n = g.T.Number in
    seen_params_read n.same _ _ ∙ params_given n.same n.format c.args.self c.is_sized-sized.ensures c.early_refusal-refusal.ensures c.if-refusal-ne0.false
