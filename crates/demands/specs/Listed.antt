-- The step results that are checked, in running order, as document 01 lists them: open, close prediction, close correction; document 02's flat close has the same list. Definitions only.
use Rattle.std.specs.Prelude.{ℕ, ◌+◌, ◌*◌, List, [], ◌∷◌, ◌++◌, take, Float}
use Rattle.std.specs.Float.{Format}
use Rattle.floats.specs.declared.Refusal.TheVariants.{Pivot as PIVOT, Innovation as INNOV}
use Rattle.angles.specs.Kinds.{Kind}
use Rattle.root.specs.Definition.{root_of}
use Rattle.matrix.specs.Results.{Result, numbers, rooting, results, product}
use Rattle.matrix.specs.Sums.{plus_of, minus_of}
use Rattle.matrix.specs.Factor.{factor_of}
use Rattle.matrix.specs.Inverse.{inverse_of}
use Rattle.matrix.specs.Product.{transb_of}
use Rattle.sigma.specs.Draw.{point_numbers, points_of}
use Rattle.sigma.specs.Mean.{mean_of}
use Rattle.sigma.specs.Spread.{deviations_of, spread_of}
use Rattle.correction.specs.Leaves.{innovation_of, shifted_of}
use Rattle.correction.specs.Correct.{Head}

module _ (f : Format) where
  -- Open: each factor entry as it is made, then all points (and before them N, whose root is taken)
  abbrev pub listed_at_points : ℕ → List Float → List Float → Float → List Result
  listed_at_points n x p scale = rooting scale ∷ numbers (take (point_numbers n) (points_of f n x (product (factor_of f PIVOT p n)) (root_of f scale))) ∷ []

  abbrev pub listed_at_open : ℕ → List Float → List Float → Float → List Result
  listed_at_open n x p scale = results (factor_of f PIVOT p n) ++ listed_at_points n x p scale

  -- Close prediction: mean, P
  abbrev pub listed_at_prediction : ℕ → List Float → Float → List Float → List Kind → List Float → List Result
  listed_at_prediction n points w0m w kinds q =
      let mean = mean_of f points n (n + n) w0m w kinds in
      let dx = deviations_of f points n (n + n) mean kinds in
      numbers (take n mean) ∷ numbers (take (n * n) (plus_of f (n * n) q (spread_of f dx n dx n w (n + n)))) ∷ []

  -- Close correction, from the head of either close on: z mean, S, x mean, cross covariance, then S's factor entries as made, inverse, gain, y, x, P
  module _ (h : Head) where
    abbrev pub inverse : List Float
    inverse = inverse_of f (product (factor_of f INNOV h.s h.m)) h.m

    abbrev pub gain : List Float
    gain = transb_of f h.c inverse h.m h.n h.m

    abbrev pub innovation : List Float
    innovation = innovation_of f h.m h.z h.zm h.measured

    abbrev pub state : List Float
    state = shifted_of f h.n h.m h.x gain innovation

    abbrev pub covariance : List Float
    covariance = minus_of f (h.n * h.n) h.p (transb_of f h.c gain h.m h.n h.n)

    -- before S's factor, and after it
    abbrev pub listed_at_head : List Result
    listed_at_head = numbers (take h.m h.zm) ∷ numbers (take (h.m * h.m) h.s) ∷ numbers (take h.n h.xm) ∷ numbers (take (h.n * h.m) h.c) ∷ []

    abbrev pub listed_at_gain : List Result
    listed_at_gain =
        numbers (take (h.m * h.m) inverse)
        ∷ numbers (take (h.n * h.m) gain)
        ∷ numbers (take h.m innovation)
        ∷ numbers (take h.n state)
        ∷ numbers (take (h.n * h.n) covariance)
        ∷ []

    abbrev pub listed_at_correction : List Result
    listed_at_correction = listed_at_head ++ (results (factor_of f INNOV h.s h.m) ++ listed_at_gain)
