-- `generate_sigma_points`: the draw of 2n+1 points from x and P, over a format f. Definitions only.
use Rattle.std.specs.Prelude.{ℕ, zero, suc, ◌+◌, ◌-◌, ◌*◌, cond, List, leb, get_or, Float}
use Rattle.std.specs.Float.{nan, Format}
use Rattle.std.specs.Float.Ieee.{add, sub, mul}
use Rattle.floats.specs.declared.Refusal.TheVariants.{Pivot as PIVOT}
use Rattle.floats.specs.Refusal.{Outcome}
use Rattle.floats.specs.Numbers.{zeros}
use Rattle.root.specs.Definition.{root_of}
use Rattle.matrix.specs.Folds.{rows_of}
use Rattle.matrix.specs.Results.{Work, made, check, rooting, listed, Plan, finish, after, run}
use Rattle.matrix.specs.Factor.{factor_of}

module _ (f : Format) (n : ℕ) (x l : List Float) (s : Float) where
  -- s·L[i][j]; the upper entries of L are +0
  abbrev pub step_at : ℕ → ℕ → Float
  step_at i j = mul f s (get_or l (i * n + j) nan)

  -- number i of point k: point 0 is x, point j+1 is x[i] + s·L[i][j], point j+1+n is x[i] − s·L[i][j]
  unfoldable pub point_at : ℕ → ℕ → Float
  point_at zero i = get_or x i nan
  point_at (suc j) i = cond (leb (suc j) n) (add f (get_or x i nan) (step_at i j)) (sub f (get_or x i nan) (step_at i (j - n)))

  abbrev pub points_of : List Float
  points_of = rows_of point_at n (n + n + 1) (zeros 136)

-- the numbers of 2n+1 points
abbrev pub point_numbers : ℕ → ℕ
point_numbers n = (n + n + 1) * n

-- the root of N, or 56
abbrev pub root_work : Format → Float → Work Float
root_work f scale = check (rooting scale) (made (root_of f scale))

-- each factor entry as it is made, then all points
abbrev pub draw_plan : Format → ℕ → List Float → List Float → Float → Plan (List Float)
draw_plan f n x p scale =
    after (factor_of f PIVOT p n) (λ (l : List Float).
    after (root_work f scale) (λ (s : Float).
    after (listed (point_numbers n) (points_of f n x l s)) (λ (points : List Float).
    finish points)))

abbrev pub draw_of : Format → ℕ → List Float → List Float → Float → Outcome (List Float)
draw_of f n x p scale = run (draw_plan f n x p scale)
