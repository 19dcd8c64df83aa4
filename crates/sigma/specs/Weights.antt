-- `compute_weights`: the weights of n states by the three parameters, and what 6 asks of them, over a format f. Definitions only.
use Rattle.std.specs.Prelude.{ℕ, ◌+◌, Bool, ◌&&◌, cond, List, [], ◌∷◌, eqb, pos, Float}
use Rattle.std.specs.Float.{Format}
use Rattle.std.specs.Float.Ieee.{add, sub, mul, div, of_int}
use Rattle.floats.specs.Numbers.{zeros, all_finite, above_zero}
use Rattle.matrix.specs.Folds.{places_of}
use Rattle.sigma.specs.declared.Params as code
use Rattle.sigma.specs.declared.weights.Weighting as made

-- the parameters, and what is made of them, in floats
abbrev pub Params : Type 0
Params = code.Params Float

abbrev pub Weighting : Type 0
Weighting = made.Weighting Float

-- a small whole number as a float
abbrev pub whole : Format → ℕ → Float
whole f k = of_int f (pos k)

module _ (f : Format) (n : ℕ) (p : Params) where
  -- lambda = alpha·alpha·(n+kappa) − n
  unfoldable pub lambda_of : Float
  lambda_of = sub f (mul f (mul f p.alpha p.alpha) (add f (whole f n) p.kappa)) (whole f n)

  -- N = n+lambda
  unfoldable pub scale_of : Float
  scale_of = add f (whole f n) lambda_of

  -- w0m = lambda/N
  unfoldable pub w0m_of : Float
  w0m_of = div f lambda_of scale_of

  -- w0c = lambda/N + (1 − alpha·alpha + beta)
  unfoldable pub w0c_of : Float
  w0c_of = add f (div f lambda_of scale_of) (add f (sub f (whole f 1) (mul f p.alpha p.alpha)) p.beta)

  -- wi = 1/(2·N)
  unfoldable pub wi_of : Float
  wi_of = div f (whole f 1) (mul f (whole f 2) scale_of)

  -- N and the three, as one answer
  abbrev pub computed : Weighting
  computed = record { scale = scale_of; w0m = w0m_of; w0c = w0c_of; wi = wi_of }

  -- the weights kept with 2n+1 points: w0c first, wi in the others, +0 past them
  abbrev pub weight_at : ℕ → Float
  weight_at k = cond (eqb k 0) w0c_of wi_of

  abbrev pub weights_of : List Float
  weights_of = places_of weight_at (n + n + 1) (zeros 17)

  -- 6 unless N is finite and above 0, and w0m, w0c and wi are finite
  unfoldable pub weights_pass : Bool
  weights_pass = above_zero scale_of && all_finite (w0m_of ∷ w0c_of ∷ wi_of ∷ [])
