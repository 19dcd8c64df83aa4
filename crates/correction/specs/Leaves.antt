-- The innovation y, the shift of x by the gain, and kinds laid out in eight places, over a format f. Definitions only.
use Rattle.std.specs.Prelude.{ℕ, ◌*◌, List, ◌++◌, get_or, replicate, Float}
use Rattle.std.specs.Float.{nan, Format}
use Rattle.std.specs.Float.Ieee.{add, sub}
use Rattle.floats.specs.Numbers.{zeros}
use Rattle.angles.specs.Kinds.{through_of, plain}
use Rattle.angles.specs.Kinds.{Kind}
use Rattle.matrix.specs.Folds.{places_of}
use Rattle.matrix.specs.Sums.{dot_of}

-- y = z − z mean, through the measurement kinds
abbrev pub innovation_at : Format → List Float → List Float → List Kind → ℕ → Float
innovation_at f z mean kinds j = through_of f (get_or kinds j plain) (sub f (get_or z j nan) (get_or mean j nan))

abbrev pub innovation_of : Format → ℕ → List Float → List Float → List Kind → List Float
innovation_of f m z mean kinds = places_of (innovation_at f z mean kinds) m (zeros 8)

-- x[i] = x[i] + sum of K[i][j]·y[j]
abbrev pub shifted_at : Format → ℕ → List Float → List Float → List Float → ℕ → Float
shifted_at f m x k y i = add f (get_or x i nan) (dot_of f k (i * m) y 0 m)

abbrev pub shifted_of : Format → ℕ → ℕ → List Float → List Float → List Float → List Float
shifted_of f n m x k y = places_of (shifted_at f m x k y) n (zeros 8)

-- the four measurement kinds in eight places, so that one set of steps serves states and measurements; plain past them
abbrev pub widened : List Kind → List Kind
widened kinds = kinds ++ replicate 4 plain

-- no kinds at all: eight plain ones, through which a difference is the difference
abbrev pub no_kinds : List Kind
no_kinds = replicate 8 plain
