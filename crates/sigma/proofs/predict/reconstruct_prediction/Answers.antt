-- Past each test, what is left of the plan comes to the whole outcome.
use Prim.Native.Nat.{ℕ, ◌+◌, ◌*◌}
use Rattle.std.proofs.Common.{◌≡◌, sym, ap, ◌∙◌}
use mathlib.Core.Bool.{Bool, true}
use mathlib.Core.List.{List}
use lib.ListN.{take}
use lib.Ieee.{Float, Format}
use Rattle.floats.specs.Refusal.{accepted}
use Rattle.floats.specs.Numbers.{all_finite}
use Rattle.angles.specs.Kinds.{Kind}
use Rattle.matrix.specs.Results.{listed, finish, after}
use Rattle.matrix.specs.Sums.{plus_of}
use Rattle.matrix.proofs.Generic.{seen_accepted, seen_refused}
use Rattle.matrix.proofs.Results.{Comes, begin, ends, goes, stops}
use Rattle.sigma.specs.declared.Moments.{Moments}
use Rattle.sigma.specs.Mean.{mean_of}
use Rattle.sigma.specs.Spread.{deviations_of, spread_of}
use Rattle.sigma.specs.Predict.{predict_plan, predict_of}
use Rattle.sigma.proofs.Generic.{seen_moments}
use Rattle.sigma.proofs.predict.reconstruct_prediction.Goals as goal

module _ (f : Format) (n : ℕ) (points : List Float) (w0m : Float) (w : List Float) (kinds : List Kind) (q : List Float) where
  covariance_of : List Float → List Float
  covariance_of dx = plus_of f (n * n) q (spread_of f dx n dx n w (n + n))

  -- past the mean: P is left
  covariance_left : {x : List Float} {b : Bool} → x ≡ mean_of f points n (n + n) w0m w kinds → b ≡ all_finite (take n x) → b ≡ true
      → Comes (predict_of f n points w0m w kinds q) (after (listed (n * n) (covariance_of (deviations_of f points n (n + n) x kinds))) (λ (p : List Float). finish (record { x = x; p = p })))
  unfolding covariance_of
  covariance_left e t h = goes n (begin {p = predict_plan f n points w0m w kinds q}) e t h

  covariance_made : {dx s p d : List Float} → p ≡ plus_of f (n * n) q s → s ≡ spread_of f dx n dx n w (n + n) → dx ≡ d → p ≡ covariance_of d
  unfolding covariance_of
  covariance_made e h k = e ∙ ap (plus_of f (n * n) q) (h ∙ ap (λ (v : List Float). spread_of f v n v n w (n + n)) k)

pub returns-then-not-all_finite : goal.returns-then-not-all_finite
returns-then-not-all_finite g c =
    seen_refused g.T.Number.same Moments _ ∙ sym (stops c.args.n (begin {p = predict_plan _ _ _ _ _ _ _}) c.anchored_mean-x.ensures c.all_finite.ensures c.if-not-all_finite.true)

pub returns-then-not-all_finite-2 : goal.returns-then-not-all_finite-2
returns-then-not-all_finite-2 g c =
    let n = c.args.n in
    seen_refused g.T.Number.same Moments _
    ∙ sym (stops (n * n) (covariance_left _ n _ _ _ _ _ c.anchored_mean-x.ensures c.all_finite.ensures c.if-not-all_finite.false)
    (covariance_made _ n _ _ _ _ _ c.plus-p.ensures c.spread-s.ensures c.deviations-dx.ensures) c.all_finite-2.ensures c.if-not-all_finite-2.true)

pub returns : goal.returns
returns g c =
    let n = c.args.n in
    seen_accepted g.T.Number.same Moments _
    ∙ ap accepted (seen_moments g.met.T.Number.floats_seen_law g.T.Number.same _)
    ∙ sym (ends (goes (n * n) (covariance_left _ n _ _ _ _ _ c.anchored_mean-x.ensures c.all_finite.ensures c.if-not-all_finite.false)
    (covariance_made _ n _ _ _ _ _ c.plus-p.ensures c.spread-s.ensures c.deviations-dx.ensures) c.all_finite-2.ensures c.if-not-all_finite-2.false))
