-- The first weight is w0c, and every other is wi.
use Rattle.std.proofs.Common.{sym, ap, ◌∙◌}
use native.Mathlib.Omega.{arith}
use Rattle.floats.proofs.Numbers.{floats_set}
use Rattle.matrix.proofs.Generic.{blank}
use Rattle.matrix.proofs.Turns.{places_from, places_more, places_end}
use Rattle.sigma.specs.Weights.{Weighting}
use Rattle.sigma.proofs.Entries.{other}
use Rattle.sigma.proofs.Generic.{seen_weighting}
use Rattle.sigma.proofs.weights.weights.Goals as goal

pub loop-k-init : goal.loop-k-init
loop-k-init g c =
    let n = g.met.T.Number in
    places_more (places_from (blank n.floats_law 17 c.ZERO-w.ensures n.zero_law)) (floats_set n.floats_law _ _ _)
    (ap (λ (v : Weighting). v.w0c) (sym (seen_weighting n.float_law g.T.Number.same c.compute_weights-c.result) ∙ c.compute_weights-c.ensures))

pub loop-k-preserved : goal.loop-k-preserved
loop-k-preserved g c =
    let n = g.met.T.Number in
    places_more c.loop-k.invariant (floats_set n.floats_law _ _ _)
    (ap (λ (v : Weighting). v.wi) (sym (seen_weighting n.float_law g.T.Number.same c.compute_weights-c.result) ∙ c.compute_weights-c.ensures) ∙ other _ _ c.loop-k.k (omega arith))

pub returns : goal.returns
returns g c = places_end c.loop-k.invariant (omega arith)
