-- `mult_transb`: A·Bᵀ of an n×d by m×d pair, n rows of m cells, over a format f. Definitions only.
use Rattle.std.specs.Prelude.{ℕ, ◌*◌, List, Float}
use Rattle.std.specs.Float.{Format}
use Rattle.floats.specs.Numbers.{zeros}
use Rattle.matrix.specs.Folds.{rows_of}
use Rattle.matrix.specs.Sums.{dot_of}

module _ (f : Format) (a b : List Float) (d : ℕ) where
  -- sum of A[i][k]·B[j][k]
  abbrev pub transb_at : ℕ → ℕ → Float
  transb_at i j = dot_of f a (i * d) b (j * d) d

  abbrev pub transb_of : ℕ → ℕ → List Float
  transb_of n m = rows_of transb_at m n (zeros 64)
