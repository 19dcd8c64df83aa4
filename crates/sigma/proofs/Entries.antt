-- What stands in each place of the weights, the points, the mean, the deviations and the spread. Assumes nothing.
use Prim.Native.Nat.{ℕ, zero, suc, ◌+◌, ◌-◌, ◌^◌, ◌<◌, ◌≤◌}
use mathlib.Core.Path.{◌≡◌, refl, sym, ap, ◌∙◌, subst}
use mathlib.Core.Bool.{Bool, true, false, ◌&&◌, cond, true≢false, false≢true}
use mathlib.Core.List.{List, [], ◌∷◌}
use borrow.Author.Tests.{ne_eqb, le-leb, lt-leb}
use native.Mathlib.Nat.{add-mul}
use native.Mathlib.Omega.{arith}
use lib.Dec.{T, eqb}
use lib.IntN.{pos}
use lib.ListN.{length, get_or}
use lib.Ieee.{Float, nan, Format, binary32, binary64, add, sub, in_float}
use Rattle.floats.specs.Numbers.{plus_zero, zeros, all_finite, above_zero}
use Rattle.matrix.specs.Folds.{rows_of}
use Rattle.angles.specs.Kinds.{Kind}
use Rattle.matrix.proofs.Cells.{Placed, placed, Filled, filled, matrix_filled}
use Rattle.sigma.specs.Weights.{Params, Weighting, w0c_of, wi_of, weight_at, weights_of}
use Rattle.sigma.specs.Draw.{step_at, point_at, points_of}
use Rattle.sigma.specs.Mean.{mean_at, mean_of}
use Rattle.sigma.specs.Spread.{deviation_at, deviations_of, spread_at, spread_of}
use Rattle.sigma.proofs.Flat.{point_in}

-- ---- weights

-- every weight but the first is the other one
pub other : (a b : Float) (k : ℕ) → 0 < k → b ≡ cond (eqb k 0) a b
other a b k h = sym (ap (λ (t : Bool). cond t a b) (ne_eqb k 0 (λ (e : k ≡ 0). omega arith)))

-- up to 8 states are exact in either format
pub states_exact : (f : Format) (n : ℕ) → n ≤ 8 → T (in_float f (pos n))
unfolding in_float
states_exact binary32 n h = subst T (sym (le-leb n (2 ^ 24) (omega arith))) tt
states_exact binary64 n h = subst T (sym (le-leb n (2 ^ 53) (omega arith))) tt

-- what 6 asks, of what was computed: once N has passed, the others decide; before that, nothing does
abbrev pub passes : Weighting → Bool
passes v = above_zero v.scale && all_finite (v.w0m ∷ v.w0c ∷ v.wi ∷ [])

pub others_decide : (v : Weighting) {b : Bool} → b ≡ above_zero v.scale → b ≡ true → all_finite (v.w0m ∷ v.w0c ∷ v.wi ∷ []) ≡ passes v
others_decide v e t = ap (λ (a : Bool). a && all_finite (v.w0m ∷ v.w0c ∷ v.wi ∷ [])) (sym t ∙ e)

pub n_decides : (v : Weighting) {b : Bool} → b ≡ above_zero v.scale → b ≡ false → false ≡ passes v
n_decides v e t = ap (λ (a : Bool). a && all_finite (v.w0m ∷ v.w0c ∷ v.wi ∷ [])) (sym t ∙ e)

-- the four tests by one after the other: the first three are passed and the fourth decides, or one of them has failed
pub fourth_decides : (a b c d : Bool) {v r : Bool} → v ≡ ((a && b) && c) → v ≡ true → r ≡ d → r ≡ (a && (b && (c && (d && true))))
fourth_decides false b c d e h q = absurd (false≢true (sym e ∙ h))
fourth_decides true false c d e h q = absurd (false≢true (sym e ∙ h))
fourth_decides true true false d e h q = absurd (false≢true (sym e ∙ h))
fourth_decides true true true true e h q = q
fourth_decides true true true false e h q = q

pub three_decide : (a b c d : Bool) {v : Bool} → v ≡ ((a && b) && c) → v ≡ false → v ≡ (a && (b && (c && (d && true))))
three_decide false b c d e h = h
three_decide true false c d e h = h
three_decide true true false d e h = h
three_decide true true true d e h = absurd (true≢false (sym e ∙ h))

module _ (f : Format) (n : ℕ) (p : Params) (h : n ≤ 8) where
  pub weights_placed : Placed (weight_at f n p) (n + n + 1) 17 (weights_of f n p)
  weights_placed = placed (weight_at f n p) (n + n + 1) 17 (omega arith)

  pub length_weights : length (weights_of f n p) ≡ 17
  length_weights = weights_placed.long

  pub weight_first : get_or (weights_of f n p) 0 nan ≡ w0c_of f n p
  weight_first = weights_placed.place 0 (omega arith)

  pub weight_other : (k : ℕ) → 0 < k → k ≤ n + n → get_or (weights_of f n p) k nan ≡ wi_of f n p
  weight_other k g l = weights_placed.place k (omega arith) ∙ sym (other (w0c_of f n p) (wi_of f n p) k g)

  pub weight_past : (k : ℕ) → n + n < k → k < 17 → get_or (weights_of f n p) k nan ≡ plus_zero
  weight_past k g l = weights_placed.rest k (omega arith) l

-- ---- points: x, then x[i] + s·L[i][j], then x[i] − s·L[i][j]

module _ (f : Format) (n : ℕ) (x l : List Float) (s : Float) where
  pub point_first : (i : ℕ) → point_at f n x l s 0 i ≡ get_or x i nan
  unfolding point_at
  point_first i = refl

  pub point_plus : (k i : ℕ) → 0 < k → k ≤ n → point_at f n x l s k i ≡ add f (get_or x i nan) (step_at f n x l s i (k - 1))
  unfolding point_at
  point_plus zero i g h = absurd (omega arith)
  point_plus (suc j) i g h = let e : suc j - 1 ≡ j = omega arith in rw (e, le-leb (suc j) n h)

  pub point_minus : (k i : ℕ) → n < k → point_at f n x l s k i ≡ sub f (get_or x i nan) (step_at f n x l s i (k - 1 - n))
  unfolding point_at
  point_minus zero i h = absurd (omega arith)
  point_minus (suc j) i h = let e : suc j - 1 ≡ j = omega arith in rw (e, lt-leb (suc j) n h)

-- 2n+1 points of n numbers, and deviations of t+1 points of d numbers, in 136 places
pub points_filled : (e : ℕ → ℕ → Float) (k d : ℕ) → k < 17 → d ≤ 8 → Filled e (k + 1) d 136 (rows_of e d (k + 1) (zeros 136))
points_filled e k d h g = filled e (k + 1) d 136 (omega (arith, point_in k d h g, add-mul k 1 d))

module _ (f : Format) where
  pub drawn_filled : (n : ℕ) (x l : List Float) (s : Float) → n ≤ 8 → Filled (point_at f n x l s) (n + n + 1) n 136 (points_of f n x l s)
  drawn_filled n x l s h = points_filled (point_at f n x l s) (n + n) n (omega arith) h

  pub deviations_filled : (p : List Float) (d t : ℕ) (mean : List Float) (kinds : List Kind) → t < 17 → d ≤ 8 → Filled (deviation_at f p d mean kinds) (t + 1) d 136 (deviations_of f p d t mean kinds)
  deviations_filled p d t mean kinds = points_filled (deviation_at f p d mean kinds) t d

  -- ---- the mean and the spread

  pub mean_placed : (p : List Float) (d t : ℕ) (w0m : Float) (w : List Float) (kinds : List Kind) → d ≤ 8 → Placed (mean_at f p d t w0m w kinds) d 8 (mean_of f p d t w0m w kinds)
  mean_placed p d t w0m w kinds = placed (mean_at f p d t w0m w kinds) d 8

  pub spread_filled : (a : List Float) (da : ℕ) (b : List Float) (db : ℕ) (w : List Float) (t : ℕ) → da ≤ 8 → db ≤ 8 → Filled (spread_at f a da b db w t) da db 64 (spread_of f a da b db w t)
  spread_filled a da b db w t = matrix_filled (spread_at f a da b db w t) da db
