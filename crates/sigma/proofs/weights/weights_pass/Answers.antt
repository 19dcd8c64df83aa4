-- N has to pass, then w0m, w0c and wi.
use Rattle.std.proofs.Common.{◌≡◌, sym, ap, ◌∙◌}
use mathlib.Core.Bool.{Bool, true, false, ◌&&◌}
use lib.Ieee.Scale.{finite}
use Rattle.floats.specs.Numbers.{all_finite, above_zero}
use Rattle.sigma.specs.Weights.{weights_pass}
use Rattle.sigma.proofs.Entries.{passes, fourth_decides, three_decide}
use Rattle.sigma.proofs.Generic.{seen_weighting}
use Rattle.sigma.proofs.weights.weights_pass.Goals as goal
use Rattle.sigma.proofs.weights.weights_pass.Goals.{then-is_above_zero, else-is_above_zero, then-is_finite, else-is_finite}

and_passed : {a b v : Bool} → a ≡ true → v ≡ b → v ≡ (a && b)
and_passed e q = rw e q

and_failed : {a v : Bool} (b : Bool) → a ≡ false → v ≡ a → v ≡ (a && b)
and_failed b e q = rw e (q ∙ e)

pub returns-then-is_finite-2 : goal.returns-then-is_finite-2
unfolding all_finite weights_pass
returns-then-is_finite-2 g c =
    let f = g.T.Number.float in
    let u = c.compute_weights-scale.result in
    let two : c.if-is_above_zero.value ≡ (c.is_above_zero.result && finite (f u.w0m)) =
    elim c.if-is_above_zero.branch [ then-is_above_zero w ↦ and_passed w.if-is_above_zero.true (w.value-is ∙ w.is_finite.ensures) | else-is_above_zero w ↦ and_failed _ w.if-is_above_zero.false w.value-is ] in
    let three : c.if-is_finite.value ≡ (c.if-is_above_zero.value && finite (f u.w0c)) =
    elim c.if-is_finite.branch [ then-is_finite w ↦ and_passed w.if-is_finite.true (w.value-is ∙ w.is_finite-then-is_finite.ensures) | else-is_finite w ↦ and_failed _ w.if-is_finite.false w.value-is ] in
    fourth_decides (above_zero (f u.scale)) (finite (f u.w0m)) (finite (f u.w0c)) (finite (f u.wi)) (rw (two, c.is_above_zero.ensures) at three) c.if-is_finite-2.true c.is_finite-then-is_finite-2.ensures
    ∙ ap passes (sym (seen_weighting g.met.T.Number.float_law g.T.Number.same u) ∙ c.compute_weights-scale.ensures)

pub returns-else-is_finite-2 : goal.returns-else-is_finite-2
unfolding all_finite weights_pass
returns-else-is_finite-2 g c =
    let f = g.T.Number.float in
    let u = c.compute_weights-scale.result in
    let two : c.if-is_above_zero.value ≡ (c.is_above_zero.result && finite (f u.w0m)) =
    elim c.if-is_above_zero.branch [ then-is_above_zero w ↦ and_passed w.if-is_above_zero.true (w.value-is ∙ w.is_finite.ensures) | else-is_above_zero w ↦ and_failed _ w.if-is_above_zero.false w.value-is ] in
    let three : c.if-is_finite.value ≡ (c.if-is_above_zero.value && finite (f u.w0c)) =
    elim c.if-is_finite.branch [ then-is_finite w ↦ and_passed w.if-is_finite.true (w.value-is ∙ w.is_finite-then-is_finite.ensures) | else-is_finite w ↦ and_failed _ w.if-is_finite.false w.value-is ] in
    three_decide (above_zero (f u.scale)) (finite (f u.w0m)) (finite (f u.w0c)) (finite (f u.wi)) (rw (two, c.is_above_zero.ensures) at three) c.if-is_finite-2.false
    ∙ ap passes (sym (seen_weighting g.met.T.Number.float_law g.T.Number.same u) ∙ c.compute_weights-scale.ensures)
