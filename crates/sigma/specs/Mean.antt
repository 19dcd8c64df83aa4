-- `anchored_mean`: the mean of points of d numbers taken from point 0, over a format f. t is the last point's index, 2n; number i of point k stands at k * d + i; the weight of point k is w[k]. Definitions only.
use Rattle.std.specs.Prelude.{ℕ, ◌+◌, ◌*◌, List, get_or, Float}
use Rattle.std.specs.Float.{nan, Format}
use Rattle.std.specs.Float.Ieee.{add, sub, mul}
use Rattle.floats.specs.Numbers.{plus_zero, zeros}
use Rattle.angles.specs.Kinds.{Kind, through_of, plain}
use Rattle.matrix.specs.Folds.{total_of, places_of}

-- weight sum starts at w0m; for k = 1 to t: add the weight to it
abbrev pub weight_sum_of : Format → Float → List Float → ℕ → Float
weight_sum_of f w0m w t = total_of (add f) w0m (λ (k : ℕ). get_or w (k + 1) nan) t

module _ (f : Format) (p : List Float) (d t : ℕ) (w : List Float) (kinds : List Kind) where
  -- diff = point k − point 0, passed through the kinds; offset += weight·diff
  abbrev pub offset_at : ℕ → ℕ → Float
  offset_at i k = mul f (get_or w (k + 1) nan) (through_of f (get_or kinds i plain) (sub f (get_or p ((k + 1) * d + i) nan) (get_or p i nan)))

  abbrev pub offset_of : ℕ → Float
  offset_of i = total_of (add f) plus_zero (offset_at i) t

module _ (f : Format) (p : List Float) (d t : ℕ) (w0m : Float) (w : List Float) (kinds : List Kind) where
  -- mean = weightsum·point0 + offset
  abbrev pub mean_at : ℕ → Float
  mean_at i = add f (mul f (weight_sum_of f w0m w t) (get_or p i nan)) (offset_of f p d t w kinds i)

  abbrev pub mean_of : List Float
  mean_of = places_of mean_at d (zeros 8)
