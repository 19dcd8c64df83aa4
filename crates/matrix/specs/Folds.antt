-- Running sums, and arrays filled place by place or row by row: every sum and every array of the steps is one of these. Definitions only.
use Rattle.std.specs.Prelude.{ℕ, zero, suc, ◌+◌, ◌*◌, List, set, Float}

-- z, then the terms e 0 to e (k - 1) taken in one after the other, by a sum or by a difference
unfoldable pub total_of : (Float → Float → Float) → Float → (ℕ → Float) → ℕ → Float
total_of op z e zero = z
total_of op z e (suc k) = op (total_of op z e k) (e k)

-- t with its first m places set
unfoldable pub places_of : (ℕ → Float) → ℕ → List Float → List Float
places_of e zero t = t
places_of e (suc m) t = set (places_of e m t) m (e m)

-- t with m places set in the order that `at` gives, each worked out from the list so far
unfoldable pub built_of : (ℕ → ℕ) → (List Float → ℕ → Float) → ℕ → List Float → List Float
built_of at e zero t = t
built_of at e (suc k) t = set (built_of at e k t) (at k) (e (built_of at e k t) (at k))

-- rows of n numbers laid flat, the cell in row i and column j at i * n + j: t with the first m cells of row i set
unfoldable pub row_of : (ℕ → ℕ → Float) → ℕ → ℕ → ℕ → List Float → List Float
row_of e n i zero t = t
row_of e n i (suc m) t = set (row_of e n i m t) (i * n + m) (e i m)

-- t with the first m rows set
unfoldable pub rows_of : (ℕ → ℕ → Float) → ℕ → ℕ → List Float → List Float
unfolding row_of
rows_of e n zero t = t
rows_of e n (suc m) t = row_of e n m n (rows_of e n m t)
