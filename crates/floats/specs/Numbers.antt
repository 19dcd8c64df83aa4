-- Numbers and lists of numbers: +0, finite, above 0, how many bytes. Definitions only.
use Rattle.std.specs.Prelude.{ℕ, Bool, true, false, ◌&&◌, List, [], ◌∷◌, pos, replicate, Float}
use Rattle.std.specs.Float.{fin, Format, binary32, binary64}
use Rattle.std.specs.Float.Ieee.{lt}
use Rattle.std.specs.Float.Ieee.Scale.{finite}

-- +0, in any format
abbrev pub plus_zero : Float
plus_zero = fin false 0 (pos 0)

-- 1, in any format
abbrev pub one : Float
one = fin false 1 (pos 0)

-- k places that hold +0
unfoldable pub zeros : ℕ → List Float
zeros k = replicate k plus_zero

-- every number of the list is finite
unfoldable pub all_finite : List Float → Bool
all_finite [] = true
all_finite (x ∷ xs) = finite x && all_finite xs

-- finite and above 0
unfoldable pub above_zero : Float → Bool
above_zero x = finite x && lt plus_zero x

-- the bytes of a number
abbrev pub bytes : Format → ℕ
bytes binary32 = 4
bytes binary64 = 8
