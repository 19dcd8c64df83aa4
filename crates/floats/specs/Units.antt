-- A value as a whole number of units of the format's smallest value, 2 ^ -low. Of a value that fits the format the division leaves nothing (`units-exact` of proofs/Grid.antt). Definitions only.
use Rattle.std.specs.Prelude.{Bool, true, false, ℕ, ◌*◌, ◌/◌, ◌^◌, ℤ, pos, neg_ℤ, Float}
use Rattle.std.specs.Float.{nan, inf, fin, Format}
use Rattle.std.specs.Float.Ieee.{low, up, down}

-- the size, in units
abbrev pub units_of : Format → Float → ℕ
units_of f nan = 0
units_of f (inf s) = 0
units_of f (fin s m e) = m * up e * 2 ^ low f / down e

-- whether the sign is minus
abbrev pub minus? : Float → Bool
minus? nan = false
minus? (inf s) = s
minus? (fin s m e) = s

-- ±n
abbrev pub signed : Bool → ℕ → ℤ
signed false n = pos n
signed true n = neg_ℤ (pos n)

-- the value times 2 ^ low
abbrev pub scaled : Format → Float → ℤ
scaled f x = signed (minus? x) (units_of f x)
