-- `reconstruct_prediction`: x and P from propagated points, the mean checked and then P, over a format f. Definitions only.
use Rattle.std.specs.Prelude.{ℕ, ◌+◌, ◌*◌, List, Float}
use Rattle.std.specs.Float.{Format}
use Rattle.floats.specs.Refusal.{Outcome}
use Rattle.angles.specs.Kinds.{Kind}
use Rattle.matrix.specs.Results.{listed, Plan, finish, after, run}
use Rattle.matrix.specs.Sums.{plus_of}
use Rattle.sigma.specs.Mean.{mean_of}
use Rattle.sigma.specs.Spread.{deviations_of, spread_of}
use Rattle.sigma.specs.declared.Moments.{Moments}

-- what a close makes
abbrev pub Moment : Type 0
Moment = Moments Float

module _ (f : Format) (n : ℕ) (points : List Float) (w0m : Float) (w : List Float) (kinds : List Kind) (q : List Float) where
  abbrev pub predict_plan : Plan Moment
  predict_plan =
      after (listed n (mean_of f points n (n + n) w0m w kinds)) (λ (mean : List Float).
      let dx = deviations_of f points n (n + n) mean kinds in
      after (listed (n * n) (plus_of f (n * n) q (spread_of f dx n dx n w (n + n)))) (λ (p : List Float).
      finish (record { x = mean; p = p })))

  abbrev pub predict_of : Outcome Moment
  predict_of = run predict_plan
