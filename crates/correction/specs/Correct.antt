-- The steps of a close correction from z mean, S, x mean and cross covariance on, which the two closes make each in its own way; and how the weighted close makes them, `correct_with_weights_residuals`. Over a format f. Definitions only.
use Rattle.std.specs.Prelude.{ℕ, ◌+◌, ◌*◌, List, Float}
use Rattle.std.specs.Float.{Format}
use Rattle.floats.specs.declared.Refusal.TheVariants.{Innovation as INNOV}
use Rattle.floats.specs.Refusal.{Outcome}
use Rattle.angles.specs.Kinds.{Kind}
use Rattle.matrix.specs.Results.{listed, Plan, finish, after, run}
use Rattle.matrix.specs.Sums.{plus_of, minus_of}
use Rattle.matrix.specs.Factor.{factor_of}
use Rattle.matrix.specs.Inverse.{inverse_of}
use Rattle.matrix.specs.Product.{transb_of}
use Rattle.sigma.specs.Mean.{mean_of}
use Rattle.sigma.specs.Spread.{deviations_of, spread_of}
use Rattle.sigma.specs.Predict.{Moment}
use Rattle.correction.specs.Leaves.{innovation_of, shifted_of}

-- ---- what the two closes share

-- where their steps meet: sizes, the state, the measurement with its kinds; and z mean, S, x mean and cross covariance as the close has made them
pub record Head : Type 0 where
  pub n : ℕ
  pub m : ℕ
  pub x : List Float
  pub p : List Float
  pub z : List Float
  pub measured : List Kind
  pub zm : List Float
  pub s : List Float
  pub xm : List Float
  pub c : List Float

-- z mean, S, x mean, cross covariance, then S's factor entries as made, inverse, gain, y, x, P: each listed result checked in running order
abbrev pub apply_plan : Format → Head → Plan Moment
apply_plan f h =
    after (listed h.m h.zm) (λ (zm : List Float).
    after (listed (h.m * h.m) h.s) (λ (s : List Float).
    after (listed h.n h.xm) (λ (xm : List Float).
    after (listed (h.n * h.m) h.c) (λ (c : List Float).
    after (factor_of f INNOV s h.m) (λ (l : List Float).
    after (listed (h.m * h.m) (inverse_of f l h.m)) (λ (v : List Float).
    after (listed (h.n * h.m) (transb_of f c v h.m h.n h.m)) (λ (k : List Float).
    after (listed h.m (innovation_of f h.m h.z zm h.measured)) (λ (y : List Float).
    after (listed h.n (shifted_of f h.n h.m h.x k y)) (λ (x : List Float).
    after (listed (h.n * h.n) (minus_of f (h.n * h.n) h.p (transb_of f c k h.m h.n h.n))) (λ (p : List Float).
    finish (record { x = x; p = p })))))))))))

-- ---- the weighted close

-- what it is given: sizes, the state, the points with their weights, the observed points, and the measurement with its kinds
pub record Given : Type 0 where
  pub n : ℕ
  pub m : ℕ
  pub x : List Float
  pub p : List Float
  pub points : List Float
  pub observed : List Float
  pub w0m : Float
  pub w : List Float
  pub z : List Float
  pub r : List Float
  pub kinds : List Kind
  pub measured : List Kind

abbrev pub given : ℕ → ℕ → List Float → List Float → List Float → List Float → Float → List Float → List Float → List Float → List Kind → List Kind → Given
given n m x p points observed w0m w z r kinds measured =
    record { n = n; m = m; x = x; p = p; points = points; observed = observed; w0m = w0m; w = w; z = z; r = r; kinds = kinds; measured = measured }

module _ (f : Format) (g : Given) where
  -- point minus mean, through the kinds: of the observed points, and of the points
  abbrev pub dz_of : List Float → List Float
  dz_of mean = deviations_of f g.observed g.m (g.n + g.n) mean g.measured

  abbrev pub dx_of : List Float → List Float
  dx_of mean = deviations_of f g.points g.n (g.n + g.n) mean g.kinds

  abbrev pub weighted_head : Head
  weighted_head =
      let zm = mean_of f g.observed g.m (g.n + g.n) g.w0m g.w g.measured in
      let xm = mean_of f g.points g.n (g.n + g.n) g.w0m g.w g.kinds in record {
        n = g.n;
        m = g.m;
        x = g.x;
        p = g.p;
        z = g.z;
        measured = g.measured;
        zm = zm;
        s = plus_of f (g.m * g.m) g.r (spread_of f (dz_of zm) g.m (dz_of zm) g.m g.w (g.n + g.n));
        xm = xm;
        c = spread_of f (dx_of xm) g.n (dz_of zm) g.m g.w (g.n + g.n);
      }

  abbrev pub correct_plan : Plan Moment
  correct_plan = apply_plan f weighted_head

  abbrev pub correct_of : Outcome Moment
  correct_of = run correct_plan
