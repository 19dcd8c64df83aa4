-- A value times 2 ^ k, exactly: nothing is rounded, so a format may not hold it. Definitions only.
use Rattle.std.specs.Prelude.{ℕ, zero, suc, ℤ, ◌+ℤ◌, Float}
use Rattle.std.specs.Float.{nan, inf, fin}

-- the exponent of m * 2 ^ e times 2 ^ k; a zero stays written as it is
abbrev pub moved : ℤ → ℕ → ℤ → ℤ
moved k zero e = e
moved k (suc m) e = e +ℤ k

abbrev pub times : ℤ → Float → Float
times k nan = nan
times k (inf s) = inf s
times k (fin s m e) = fin s m (moved k m e)
