-- What IEEE 754 asks of a square root, said with whole numbers alone: no value of the format is nearer to the exact root. Definitions only.
-- In units of the format's smallest value, which each finite value of the format is a whole number of, x is n and its exact root is √(n * 2 ^ low). Call n * 2 ^ low N.
use Rattle.std.specs.Prelude.{ℕ, ◌+◌, ◌-◌, ◌*◌, ◌^◌, ◌≤◌, ◌<◌, Bool, true, false, ℤ, T, Float}
use Rattle.std.specs.Float.{fin, Format}
use Rattle.std.specs.Float.Ieee.{low, fits}
use Rattle.floats.specs.Units.{units_of}
use Rattle.root.specs.Definition.{rooted}

-- ±b is no nearer to √N than a is: √N lies on a's side of the mean of the two, or at it. For a b below a that is a + b ≤ 2 * √N, for one above a 2 * √N ≤ a + b, and both sides are squared.
-- Where b is negative the sum is a - b; from b = a on it is no more than 0, and nothing is left to say.
abbrev pub NoNearer : ℕ → ℕ → Bool → ℕ → Type 0
NoNearer N a false b = (b < a → (a + b) * (a + b) ≤ 4 * N) × (a < b → 4 * N ≤ (a + b) * (a + b))
NoNearer N a true b = b < a → (a - b) * (a - b) ≤ 4 * N

-- of an x that has a root (the laws ask for that): r is a value of the format, finite and not below zero, and no finite value of the format is nearer to the root of x
pub record Nearest (f : Format) (x r : Float) : Type 0 where
  pub held : T (fits f r)
  pub possible : T (rooted r)
  pub nearest : (s : Bool) (m : ℕ) (e : ℤ) → T (fits f (fin s m e)) → NoNearer (units_of f x * 2 ^ low f) (units_of f r) s (units_of f (fin s m e))
