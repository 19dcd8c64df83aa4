-- What stands in each place of the flat mean and of S and the cross covariance in either close; a difference through no kinds; and the shared steps' answer by what their head comes to. Assumes nothing.
use Prim.Native.Nat.{ℕ, ◌+◌, ◌*◌, ◌<◌, ◌≤◌}
use mathlib.Core.Path.{◌≡◌, ap, ap₂, ◌∙◌}
use mathlib.Core.List.{List}
use native.Mathlib.Omega.{arith}
use lib.ListN.{get_or, get_or-replicate}
use lib.Ieee.{Float, nan, Format, add, sub, mul, div}
use Rattle.floats.specs.Numbers.{plus_zero}
use Rattle.floats.specs.Refusal.{Outcome}
use Rattle.angles.specs.Kinds.{through_of, plain}
use Rattle.angles.specs.Kinds.{Kind}
use Rattle.matrix.specs.Folds.{total_of}
use Rattle.matrix.specs.Results.{run}
use Rattle.matrix.proofs.Cells.{total_same, Placed, placed, Filled, matrix_filled}
use Rattle.sigma.specs.Weights.{whole}
use Rattle.sigma.specs.Spread.{deviation_at, deviations_of, spread_of}
use Rattle.sigma.specs.Predict.{Moment}
use Rattle.sigma.proofs.Entries.{deviations_filled, spread_filled}
use Rattle.correction.specs.Leaves.{no_kinds}
use Rattle.correction.specs.Correct.{Head, apply_plan}
use Rattle.correction.specs.Flat.{average_of, flat_mean_at, flat_mean_of, flat_spread_at, flat_spread_of}

module _ (f : Format) where
  -- a difference through no kinds is the difference
  pub through_plain : (i : ℕ) (d : Float) → i < 8 → through_of f (get_or no_kinds i plain) d ≡ d
  through_plain i d h = ap (λ (k : Kind). through_of f k d) (get_or-replicate 8 i plain plain h)

  pub flat_mean_placed : (p : List Float) (d t : ℕ) → d ≤ 8 → Placed (flat_mean_at f p d t) d 8 (flat_mean_of f p d t)
  flat_mean_placed p d t = placed (flat_mean_at f p d t) d 8

  pub flat_spread_filled : (a : List Float) (da : ℕ) (b : List Float) (db t : ℕ) → da ≤ 8 → db ≤ 8 → Filled (flat_spread_at f a da b db t) da db 64 (flat_spread_of f a da b db t)
  flat_spread_filled a da b db t = matrix_filled (flat_spread_at f a da b db t) da db

  -- the shared steps' answer, where a close has made z mean, S, x mean and cross covariance as its definition does
  pub from_head : {q : Outcome Moment} (h : Head) {zm s xm c : List Float} → q ≡ run (apply_plan f h) → h.zm ≡ zm → h.s ≡ s → h.xm ≡ xm → h.c ≡ c
      → q ≡ run (apply_plan f (record { n = h.n; m = h.m; x = h.x; p = h.p; z = h.z; measured = h.measured; zm = zm; s = s; xm = xm; c = c }))
  from_head h {zm} {s} e a b d k =
      let head : List Float → List Float → List Float → List Float → Head =
      λ t u v w. record { n = h.n; m = h.m; x = h.x; p = h.p; z = h.z; measured = h.measured; zm = t; s = u; xm = v; c = w } in
      e ∙ ap₂ (λ (t u : List Float). run (apply_plan f (head t u h.xm h.c))) a b ∙ ap₂ (λ (v w : List Float). run (apply_plan f (head zm s v w))) d k

-- entry (i, j) of S and of the cross covariance, in either close: from the points p and q of d and e numbers and their means u and v
module _ (f : Format) (p : List Float) (d : ℕ) (u : List Float) (q : List Float) (e : ℕ) (v : List Float) (t : ℕ) (g : t < 17) (h : d ≤ 8) (o : e ≤ 8) (i j : ℕ) (l : i < d) (r : j < e) where
  pub spread_entry : (ks ls : List Kind) (w : List Float)
      → get_or (spread_of f (deviations_of f p d t u ks) d (deviations_of f q e t v ls) e w t) (i * e + j) nan
      ≡ total_of (add f) plus_zero (λ (k : ℕ). mul f (mul f (get_or w k nan) (deviation_at f p d u ks k i)) (deviation_at f q e v ls k j)) (t + 1)
  spread_entry ks ls w =
      (spread_filled f (deviations_of f p d t u ks) d (deviations_of f q e t v ls) e w t h o).cell i j l r
      ∙ total_same (add f) plus_zero _ _ (t + 1) (λ k s. ap₂ (λ (x y : Float). mul f (mul f (get_or w k nan) x) y) ((deviations_filled f p d t u ks g h).cell k i s l) ((deviations_filled f q e t v ls g o).cell k j s r))

  pub flat_entry :
      get_or (flat_spread_of f (deviations_of f p d t u no_kinds) d (deviations_of f q e t v no_kinds) e t) (i * e + j) nan
      ≡ average_of f (λ (k : ℕ). mul f (sub f (get_or p (k * d + i) nan) (get_or u i nan)) (sub f (get_or q (k * e + j) nan) (get_or v j nan))) t
  flat_entry =
      (flat_spread_filled f (deviations_of f p d t u no_kinds) d (deviations_of f q e t v no_kinds) e t h o).cell i j l r
      ∙ ap (λ (x : Float). div f x (whole f (t + 1)))
      (total_same (add f) plus_zero _ _ (t + 1) (λ k s. ap₂ (mul f) ((deviations_filled f p d t u no_kinds g h).cell k i s l ∙ through_plain f i _ (omega arith)) ((deviations_filled f q e t v no_kinds g o).cell k j s r ∙ through_plain f j _ (omega arith))))
