-- `invert_l_cholesky`: the inverse of A from its factor L of m rows, two passes for each column c, over a format f. Definitions only.
use Rattle.std.specs.Prelude.{ℕ, ◌+◌, ◌-◌, ◌*◌, cond, List, eqb, pos, get_or, Float}
use Rattle.std.specs.Float.{nan, Format}
use Rattle.std.specs.Float.Ieee.{sub, mul, div, of_int}
use Rattle.floats.specs.Numbers.{plus_zero, zeros}
use Rattle.matrix.specs.Folds.{total_of, built_of, rows_of}

-- 1 if i = c, else 0
unfoldable pub unit_at : Format → ℕ → ℕ → Float
unit_at f c i = cond (eqb i c) (of_int f (pos 1)) plus_zero

module _ (f : Format) (l : List Float) (m : ℕ) where
  -- u[i] = (1 if i = c, else 0, minus L[i][k]·u[k] for k below i in turn)/L[i][i]
  abbrev pub forward_at : ℕ → List Float → ℕ → Float
  forward_at c u i = div f (total_of (sub f) (unit_at f c i) (λ (k : ℕ). mul f (get_or l (i * m + k) nan) (get_or u k nan)) i) (get_or l (i * m + i) nan)

  abbrev pub forward_of : ℕ → List Float
  forward_of c = built_of (λ (i : ℕ). i) (forward_at c) m (zeros 8)

  -- v[i] = (u[i] minus L[k][i]·v[k] for k = i+1 upward)/L[i][i], where the places above i hold v already and the others u
  abbrev pub backward_at : List Float → ℕ → Float
  backward_at v i = div f (total_of (sub f) (get_or v i nan) (λ (k : ℕ). mul f (get_or l ((i + 1 + k) * m + i) nan) (get_or v (i + 1 + k) nan)) (m - (i + 1))) (get_or l (i * m + i) nan)

  -- from the last i down
  abbrev pub backward_of : List Float → List Float
  backward_of u = built_of (λ (k : ℕ). m - (k + 1)) backward_at m u

  -- column c of the inverse
  abbrev pub column_at : ℕ → ℕ → Float
  column_at c i = get_or (backward_of (forward_of c)) i nan

  abbrev pub inverse_of : List Float
  inverse_of = rows_of (λ (i c : ℕ). column_at c i) m m (zeros 64)
