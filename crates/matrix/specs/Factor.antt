-- `cholesky_decompose_lower`: the factor L of A, column j after column, reading the lower triangle, over a format f. Definitions only.
use Prim.Native.Nat.{ℕ, zero, suc, ◌+◌, ◌-◌, ◌*◌}
use mathlib.Core.List.{List, [], ◌∷◌}
use Rattle.std.specs.Prelude.{get_or, set, Float}
use Rattle.std.specs.Float.{nan, Format}
use Rattle.std.specs.Float.Ieee.{div}
use Rattle.floats.specs.declared.Refusal.{Refusal}
use Rattle.floats.specs.declared.Refusal.TheVariants.{Pivot as PIVOT, Innovation as INNOV}
use Rattle.floats.specs.Numbers.{zeros}
use Rattle.root.specs.Definition.{root_of}
use Rattle.matrix.specs.Sums.{less_of}
use Rattle.matrix.specs.Results.{numbers, pivot, Work, made, check, then}
use Rattle.matrix.specs.declared.pivots.Pivots.{Pivots}
use Rattle.matrix.specs.declared.pivots.Pivots.TheVariants.{OfP, OfS}

-- A of n rows: A[i][j] minus L[i][k]·L[j][k] for k below j in turn
abbrev pub left_of : Format → List Float → ℕ → ℕ → ℕ → List Float → Float
left_of f a n i j l = less_of f (get_or a (i * n + j) nan) l (i * n) (j * n) j

-- a bad pivot is refused by r with its row
module _ (f : Format) (r : ℕ → Refusal) (a : List Float) (n : ℕ) where
  -- for i above j: that, divided by L[j][j], which is d; m entries from row i down
  unfoldable pub rows_from : ℕ → Float → ℕ → ℕ → List Float → Work (List Float)
  rows_from j d zero i l = made l
  rows_from j d (suc m) i l =
      let e = div f (left_of f a n i j l) d in
      check (numbers (e ∷ [])) (rows_from j d m (i + 1) (set l (i * n + j) e))

  -- column j: the pivot, whose root is L[j][j], then the entries under it
  unfoldable pub column_of : ℕ → List Float → Work (List Float)
  unfolding rows_from
  column_of j l =
      let d = root_of f (left_of f a n j j l) in
      check (pivot (r j) (left_of f a n j j l)) (rows_from j d (n - (j + 1)) (j + 1) (set l (j * n + j) d))

  -- m columns from column j on
  unfoldable pub columns_from : ℕ → ℕ → List Float → Work (List Float)
  unfolding column_of
  columns_from zero j l = made l
  columns_from (suc m) j l = then (column_of j l) (λ (k : List Float). columns_from m (j + 1) k)

  -- above the diagonal and past n·n it holds +0
  abbrev pub factor_of : Work (List Float)
  factor_of = columns_from n 0 (zeros 64)

-- a pivot of P or of S is refused by its row
abbrev pub refused_by : Pivots → ℕ → Refusal
refused_by OfP = PIVOT
refused_by OfS = INNOV
