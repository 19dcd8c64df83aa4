-- What it is that a wrap is exact, stated over scaled whole numbers: a value times 2 ^ low, which is whole. Definitions only.
use Rattle.std.specs.Prelude.{◌≡◌, ℤ, neg_ℤ, ◌+ℤ◌, ◌*ℤ◌, ◌≤ℤ◌, ◌<ℤ◌, T, Float}
use Rattle.std.specs.Float.{Format}
use Rattle.std.specs.Float.Ieee.{neg, lt, le, fits}
use Rattle.std.specs.Float.Ieee.Scale.{finite}
use Rattle.floats.specs.Units.{units_of, minus?, scaled}

-- of finite d and h that the format holds (the laws ask for that): w and d differ by a whole multiple of 2h, and −h < w ≤ h, said of the whole numbers and of the floats;
-- and since a zero is the same whole number with either sign: one has the sign of d
pub record Wraps (f : Format) (d h w : Float) : Type 0 where
  pub is_finite : T (finite w)
  pub holds : T (fits f w)
  pub turns : ℤ
  pub exact : scaled f d ≡ scaled f w +ℤ turns *ℤ (scaled f h +ℤ scaled f h)
  pub over : neg_ℤ (scaled f h) <ℤ scaled f w
  pub within : scaled f w ≤ℤ scaled f h
  pub lt_low : T (lt (neg h) w)
  pub le_high : T (le w h)
  pub zero_sign : units_of f w ≡ 0 → minus? w ≡ minus? d
