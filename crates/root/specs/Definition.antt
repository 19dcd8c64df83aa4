-- IEEE 754's squareRoot, to nearest, over the format. Definitions only.
use Rattle.std.specs.Prelude.{ℕ, zero, suc, ◌+◌, ◌-◌, ◌*◌, ◌/◌, ◌^◌, Bool, true, false, cond, leb, ltb, Float}
use Rattle.std.specs.Float.{nan, inf, fin, Format}
use Rattle.std.specs.Float.Ieee.{prec, low, hid, size, odd}
use Rattle.floats.specs.Units.{units_of}

-- the q with q * q ≤ n < (q + 1) * (q + 1), for an n below 4 ^ d
unfoldable pub floor_root : ℕ → ℕ → ℕ
floor_root zero n = 0
floor_root (suc d) n = let q = 2 * floor_root d (n / 4) in cond (leb ((q + 1) * (q + 1)) n) (q + 1) q

-- The whole number nearest to the root of an n below 4 ^ d: above q + 1 / 2 lies the root of an n above q * q + q + 1 / 4. No root of a whole number lies at a half.
unfoldable pub near_root : ℕ → ℕ → ℕ
unfolding floor_root
near_root d n = let q = floor_root d n in cond (ltb q (n - q * q)) (q + 1) q

-- That nearest to the root of d * hid, for a d of at most prec + 1 digits; 0 for a larger d.
abbrev pub nearest_of : Format → ℕ → ℕ
nearest_of f d = cond (ltb d (2 ^ (prec f + 1))) (near_root (prec f) (d * hid f)) 0

-- In units, the root of n units is the root of n * 2 ^ low. Of the root's digits the format keeps prec, and drops this many.
abbrev pub dropped : Format → ℕ → ℕ
dropped f n = (size (n * 2 ^ low f) + 1) / 2 - prec f

-- the root of n units, n > 0 (`odd p s q k l` of lib.Ieee is the value ±q * 2 ^ (k - l)): the whole number nearest to the root of what is left of n * 2 ^ low when two digits are dropped for each of the root's
unfoldable pub root_units : Format → ℕ → Float
unfolding near_root size odd
root_units f n =
    let k = dropped f n in
    odd (prec f) false (near_root (prec f) (n * 2 ^ low f / 2 ^ (2 * k))) k (low f)

-- squareRoot of every value that fits the format, as IEEE 754 has it: a zero of either sign is its own root, that of +infinity is +infinity, and what is below zero has none, which is NaN
unfoldable pub root_of : Format → Float → Float
unfolding root_units
root_of f nan = nan
root_of f (inf true) = nan
root_of f (inf false) = inf false
root_of f (fin s zero e) = fin s zero e
root_of f (fin true (suc m) e) = nan
root_of f (fin false (suc m) e) = root_units f (units_of f (fin false (suc m) e))

-- the values that have a finite root, which are those that document 01 takes, and that a root can be: the zeros, and what is finite and above zero
unfoldable pub rooted : Float → Bool
rooted nan = false
rooted (inf s) = false
rooted (fin s zero e) = true
rooted (fin true (suc m) e) = false
rooted (fin false (suc m) e) = true
