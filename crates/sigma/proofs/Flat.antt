-- The room that points and matrices take, laid flat. Assumes nothing.
use Prim.Native.Nat.{ℕ, ◌+◌, ◌*◌, ◌<◌, ◌≤◌}
use native.Mathlib.Nat.{mul-le-mul}
use Rattle.matrix.proofs.Flat.{row_in}

-- a point lies within the 136 places
pub point_in : (k d : ℕ) → k < 17 → d ≤ 8 → k * d + d ≤ 136
point_in k d h g = row_in 17 8 k d h g

-- a matrix of 8 rows and columns at the most has 64 cells at the most
pub cells_in : (n m : ℕ) → n ≤ 8 → m ≤ 8 → n * m ≤ 64
cells_in n m h g = mul-le-mul h g
