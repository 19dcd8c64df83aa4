-- Deviations from a mean, and the weighted sums of their products over the points 0 to t: P, S and the cross covariance, over a format f. Definitions only.
use Rattle.std.specs.Prelude.{ℕ, ◌+◌, ◌*◌, List, get_or, Float}
use Rattle.std.specs.Float.{nan, Format}
use Rattle.std.specs.Float.Ieee.{add, sub, mul}
use Rattle.floats.specs.Numbers.{plus_zero, zeros}
use Rattle.angles.specs.Kinds.{Kind, through_of, plain}
use Rattle.matrix.specs.Folds.{total_of, rows_of}

-- dx is point minus mean through the kinds; d numbers a point
abbrev pub deviation_at : Format → List Float → ℕ → List Float → List Kind → ℕ → ℕ → Float
deviation_at f p d mean kinds k i = through_of f (get_or kinds i plain) (sub f (get_or p (k * d + i) nan) (get_or mean i nan))

abbrev pub deviations_of : Format → List Float → ℕ → ℕ → List Float → List Kind → List Float
deviations_of f p d t mean kinds = rows_of (deviation_at f p d mean kinds) d (t + 1) (zeros 136)

-- from +0, for each k, add w·a[i]·b[j]: each entry for itself, nothing mirrored
module _ (f : Format) (a : List Float) (da : ℕ) (b : List Float) (db : ℕ) (w : List Float) (t : ℕ) where
  abbrev pub weighed_at : ℕ → ℕ → ℕ → Float
  weighed_at i j k = mul f (mul f (get_or w k nan) (get_or a (k * da + i) nan)) (get_or b (k * db + j) nan)

  abbrev pub spread_at : ℕ → ℕ → Float
  spread_at i j = total_of (add f) plus_zero (weighed_at i j) (t + 1)

  -- da rows of db
  abbrev pub spread_of : List Float
  spread_of = rows_of spread_at db da (zeros 64)
