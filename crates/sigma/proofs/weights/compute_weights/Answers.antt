-- Each operation by the definition's.
use Prim.Native.Nat.{ℕ}
use Rattle.std.proofs.Common.{◌≡◌, sym, ap, ◌∙◌}
use lib.Ieee.{Float, Format, add, sub, mul, div}
use Rattle.matrix.proofs.Generic.{one_is}
use Rattle.sigma.specs.Weights.{Params, whole, lambda_of, scale_of, w0m_of, w0c_of, wi_of, computed}
use Rattle.sigma.proofs.Generic.{seen_params, seen_weighting}
use Rattle.sigma.proofs.weights.compute_weights.Goals as goal

by_steps : (f : Format) (n : ℕ) (p : Params) {states square sum product lambda scale w0m o less rest w0c o2 two double wi : Float}
    → states ≡ whole f n → square ≡ mul f p.alpha p.alpha → sum ≡ add f states p.kappa → product ≡ mul f square sum → lambda ≡ sub f product states → scale ≡ add f states lambda
    → w0m ≡ div f lambda scale → o ≡ whole f 1 → less ≡ sub f o square → rest ≡ add f less p.beta → w0c ≡ add f w0m rest → o2 ≡ whole f 1 → two ≡ whole f 2 → double ≡ mul f two scale → wi ≡ div f o2 double
    → record { scale = scale; w0m = w0m; w0c = w0c; wi = wi } ≡ computed f n p
unfolding lambda_of scale_of w0m_of w0c_of wi_of
by_steps f n p h1 h2 h3 h4 h5 h6 h7 h8 h9 h10 h11 h12 h13 h14 h15 = cc

pub returns : goal.returns
returns g c =
    let n = g.met.T.Number in
    let f = g.T.Number.format in
    let p = c.args.p in
    seen_weighting n.float_law g.T.Number.same _
    ∙ by_steps f c.args.n (record { alpha = g.T.Number.float p.alpha; beta = g.T.Number.float p.beta; kappa = g.T.Number.float p.kappa })
    c.whole-states.ensures (n.mul_law _ _ _ c.mul-square.ensures) (n.add_law _ _ _ c.add.ensures) (n.mul_law _ _ _ c.mul.ensures) (n.sub_law _ _ _ c.sub-lambda.ensures) (n.add_law _ _ _ c.add-scale.ensures)
    (n.div_law _ _ _ c.div-w0m.ensures) (ap g.T.Number.float c.ONE.ensures ∙ n.one_law ∙ sym (one_is f)) (n.sub_law _ _ _ c.sub.ensures) (n.add_law _ _ _ c.add-2.ensures) (n.add_law _ _ _ c.add-3.ensures)
    (ap g.T.Number.float c.ONE-2.ensures ∙ n.one_law ∙ sym (one_is f)) c.whole.ensures (n.mul_law _ _ _ c.mul-2.ensures) (n.div_law _ _ _ c.div.ensures)
    ∙ ap (computed f c.args.n) (sym (seen_params n.float_law g.T.Number.same p))
