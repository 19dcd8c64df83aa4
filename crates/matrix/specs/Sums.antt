-- Sums of products of rows, and sums and differences of matrices, over a format f. Each operation is rounded once. Definitions only.
use Rattle.std.specs.Prelude.{ℕ, ◌+◌, List, get_or, Float}
use Rattle.std.specs.Float.{nan, Format}
use Rattle.std.specs.Float.Ieee.{add, sub, mul}
use Rattle.floats.specs.Numbers.{plus_zero, zeros}
use Rattle.matrix.specs.Folds.{total_of, places_of}

module _ (f : Format) where
  -- x[r + k]·y[s + k]: number k of the row of x that starts at r, times number k of the row of y that starts at s
  abbrev pub product_at : List Float → ℕ → List Float → ℕ → ℕ → Float
  product_at x r y s k = mul f (get_or x (r + k) nan) (get_or y (s + k) nan)

  -- the sum of n such products: from +0 upward
  abbrev pub dot_of : List Float → ℕ → List Float → ℕ → ℕ → Float
  dot_of x r y s n = total_of (add f) plus_zero (product_at x r y s) n

  -- a minus n such products in turn
  abbrev pub less_of : Float → List Float → ℕ → ℕ → ℕ → Float
  less_of a l r s n = total_of (sub f) a (product_at l r l s) n

  -- a + b and a − b over the first k places, +0 after them
  abbrev pub plus_at : List Float → List Float → ℕ → Float
  plus_at a b i = add f (get_or a i nan) (get_or b i nan)

  abbrev pub plus_of : ℕ → List Float → List Float → List Float
  plus_of k a b = places_of (plus_at a b) k (zeros 64)

  abbrev pub minus_at : List Float → List Float → ℕ → Float
  minus_at a b i = sub f (get_or a i nan) (get_or b i nan)

  abbrev pub minus_of : ℕ → List Float → List Float → List Float
  minus_of k a b = places_of (minus_at a b) k (zeros 64)
