-- alpha, beta, kappa. Assumes nothing.
use Rattle.sigma.proofs.Generic.{seen_params}
use Rattle.script.proofs.Pages.{made}
use Rattle.lines.proofs.answers.put_params.Goals as goal

pub returns : goal.returns
returns g c =
    let alpha = c.put_number-at.ensures in
    let beta = c.put_number-at-2.ensures in
    rw (seen_params g.met.T.Number.float_law g.T.Number.same c.args.params, ← made (alpha.value, alpha.out_after), ← made (beta.value, beta.out_after)) (c.put_number.ensures.value, c.put_number.ensures.out_after)
