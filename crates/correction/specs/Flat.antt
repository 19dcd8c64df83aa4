-- `correct_nonlinear`: how the flat close makes z mean, S, x mean and cross covariance: plain sums over the points 0 to t, each divided by their number, with no kinds and no weights. Over a format f. Definitions only.
use Rattle.std.specs.Prelude.{ℕ, ◌+◌, ◌*◌, List, get_or, Float}
use Rattle.std.specs.Float.{nan, Format}
use Rattle.std.specs.Float.Ieee.{add, mul, div}
use Rattle.floats.specs.Refusal.{Outcome}
use Rattle.floats.specs.Numbers.{plus_zero, zeros}
use Rattle.matrix.specs.Folds.{total_of, places_of, rows_of}
use Rattle.matrix.specs.Results.{Plan, run}
use Rattle.matrix.specs.Sums.{plus_of}
use Rattle.sigma.specs.Weights.{whole}
use Rattle.sigma.specs.Spread.{deviations_of}
use Rattle.sigma.specs.Predict.{Moment}
use Rattle.correction.specs.Leaves.{no_kinds}
use Rattle.correction.specs.Correct.{Head, apply_plan}

-- the sum from +0 over the points 0 to t, divided by their number
abbrev pub average_of : Format → (ℕ → Float) → ℕ → Float
average_of f e t = div f (total_of (add f) plus_zero e (t + 1)) (whole f (t + 1))

-- per entry the average of the points' numbers; d numbers a point
abbrev pub flat_mean_at : Format → List Float → ℕ → ℕ → ℕ → Float
flat_mean_at f p d t i = average_of f (λ (k : ℕ). get_or p (k * d + i) nan) t

abbrev pub flat_mean_of : Format → List Float → ℕ → ℕ → List Float
flat_mean_of f p d t = places_of (flat_mean_at f p d t) d (zeros 8)

-- per entry the average of a[i]·b[j], each product of two differences rounded: da rows of db
module _ (f : Format) (a : List Float) (da : ℕ) (b : List Float) (db : ℕ) (t : ℕ) where
  abbrev pub flat_spread_at : ℕ → ℕ → Float
  flat_spread_at i j = average_of f (λ (k : ℕ). mul f (get_or a (k * da + i) nan) (get_or b (k * db + j) nan)) t

  abbrev pub flat_spread_of : List Float
  flat_spread_of = rows_of flat_spread_at db da (zeros 64)

-- of n states with their points and m measurements with the observed points: the mean of each, the differences of its points from it (through plain kinds, as they are), and then R + S
module _ (f : Format) (n m : ℕ) (x p points observed z r : List Float) where
  abbrev pub flat_head : Head
  flat_head =
      let zm = flat_mean_of f observed m (n + n) in
      let dz = deviations_of f observed m (n + n) zm no_kinds in
      let xm = flat_mean_of f points n (n + n) in
      let dx = deviations_of f points n (n + n) xm no_kinds in record {
        n = n;
        m = m;
        x = x;
        p = p;
        z = z;
        measured = no_kinds;
        zm = zm;
        s = plus_of f (m * m) r (flat_spread_of f dz m dz m (n + n));
        xm = xm;
        c = flat_spread_of f dx n dz m (n + n);
      }

  abbrev pub flat_plan : Plan Moment
  flat_plan = apply_plan f flat_head

  abbrev pub flat_of : Outcome Moment
  flat_of = run flat_plan
