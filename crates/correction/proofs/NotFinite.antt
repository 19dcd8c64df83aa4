-- A result of the head that isn't finite makes a correction end in 9, in either close; so does, in the weighted close, a difference of points from point 0 or from their mean, and in either of z from the z mean once S's factor is made. Assumes nothing.
use Prim.Native.Nat.{ℕ, ◌+◌, ◌*◌, ◌<◌, ◌≤◌}
use mathlib.Core.Path.{◌≡◌, ap, ◌∙◌}
use mathlib.Core.Bool.{false}
use mathlib.Core.List.{List}
use native.Mathlib.Omega.{arith}
use lib.ListN.{get_or, take}
use lib.Ieee.{Float, nan, Format, sub}
use lib.Ieee.Scale.{finite}
use Rattle.floats.specs.declared.Refusal.TheVariants.{Innovation as INNOV, Range as RANGE}
use Rattle.floats.specs.Refusal.{refused, accepted}
use Rattle.floats.specs.Numbers.{all_finite}
use Rattle.angles.specs.Kinds.{plain}
use Rattle.angles.proofs.Exact.{through_not_finite}
use Rattle.matrix.specs.Results.{worked, run}
use Rattle.matrix.specs.Factor.{factor_of}
use Rattle.matrix.proofs.Flat.{row_before}
use Rattle.matrix.proofs.Cells.{placed}
use Rattle.sigma.proofs.Flat.{cells_in}
use Rattle.sigma.proofs.Entries.{spread_filled}
use Rattle.sigma.proofs.NotFinite.{list_bad, listed_bad, listed_on, made_on, mean_bad, deviation_bad, spread_left, covariance_bad}
use Rattle.correction.specs.Leaves.{innovation_at, innovation_of}
use Rattle.correction.specs.Correct.{Head, apply_plan, Given, dx_of, dz_of, weighted_head, correct_of}

-- ---- either close

module _ (f : Format) (h : Head) where
  pub apply_zm : all_finite (take h.m h.zm) ≡ false → run (apply_plan f h) ≡ refused RANGE
  apply_zm b = listed_bad h.m h.zm _ b

  pub apply_s : all_finite (take (h.m * h.m) h.s) ≡ false → run (apply_plan f h) ≡ refused RANGE
  apply_s b = listed_on h.m h.zm _ (listed_bad (h.m * h.m) h.s _ b)

  pub apply_xm : all_finite (take h.n h.xm) ≡ false → run (apply_plan f h) ≡ refused RANGE
  apply_xm b = listed_on h.m h.zm _ (listed_on (h.m * h.m) h.s _ (listed_bad h.n h.xm _ b))

  pub apply_c : all_finite (take (h.n * h.m) h.c) ≡ false → run (apply_plan f h) ≡ refused RANGE
  apply_c b = listed_on h.m h.zm _ (listed_on (h.m * h.m) h.s _ (listed_on h.n h.xm _ (listed_bad (h.n * h.m) h.c _ b)))

  -- number j of z minus that of the z mean: 8 may come first, by S's factor
  pub apply_y : (l : List Float) → worked (factor_of f INNOV h.s h.m) ≡ accepted l → (j : ℕ) → h.m ≤ 8 → j < h.m → finite (sub f (get_or h.z j nan) (get_or h.zm j nan)) ≡ false → run (apply_plan f h) ≡ refused RANGE
  apply_y l e j o q b =
      let y = placed (innovation_at f h.z h.zm h.measured) h.m 8 o in
      listed_on h.m h.zm _
      (listed_on (h.m * h.m) h.s _
      (listed_on h.n h.xm _
      (listed_on (h.n * h.m) h.c _
      (made_on (factor_of f INNOV h.s h.m) l _ e
      (listed_on (h.m * h.m) _ _
      (listed_on (h.n * h.m) _ _
      (listed_bad h.m _ _
      (list_bad (innovation_of f h.m h.z h.zm h.measured) h.m j q (omega (arith, y.long)) (ap finite (y.place j q) ∙ through_not_finite f (get_or h.measured j plain) _ b)))))))))

-- ---- the weighted close

module _ (f : Format) (g : Given) (h : g.n ≤ 8) (o : g.m ≤ 8) (k : ℕ) where
  abbrev made : Head
  made = weighted_head f g

  -- number j of an observed point minus that of point 0, or of the z mean
  pub correct_z_anchor : (j : ℕ) → j < g.m → k < g.n + g.n → finite (sub f (get_or g.observed ((k + 1) * g.m + j) nan) (get_or g.observed j nan)) ≡ false → correct_of f g ≡ refused RANGE
  correct_z_anchor j l q b = apply_zm f made (mean_bad f g.observed g.m (g.n + g.n) g.w0m g.w g.measured j k o l q b)

  pub correct_z_mean : (j : ℕ) → j < g.m → k ≤ g.n + g.n → finite (sub f (get_or g.observed (k * g.m + j) nan) (get_or made.zm j nan)) ≡ false → correct_of f g ≡ refused RANGE
  correct_z_mean j l q b = apply_s f made (covariance_bad f g.observed g.m (g.n + g.n) made.zm g.measured g.w g.r k j (omega arith) o q l b)

  -- number i of a point minus that of point 0, or of the x mean
  pub correct_x_anchor : (i : ℕ) → i < g.n → k < g.n + g.n → finite (sub f (get_or g.points ((k + 1) * g.n + i) nan) (get_or g.points i nan)) ≡ false → correct_of f g ≡ refused RANGE
  correct_x_anchor i l q b = apply_xm f made (mean_bad f g.points g.n (g.n + g.n) g.w0m g.w g.kinds i k h l q b)

  pub correct_x_mean : (i : ℕ) → i < g.n → 0 < g.m → k ≤ g.n + g.n → finite (sub f (get_or g.points (k * g.n + i) nan) (get_or made.xm i nan)) ≡ false → correct_of f g ≡ refused RANGE
  correct_x_mean i l z q b =
      let dx = dx_of f g made.xm in
      let dz = dz_of f g made.zm in
      let long = (spread_filled f dx g.n dz g.m g.w (g.n + g.n) h o).long in
      apply_c f made
      (list_bad made.c (g.n * g.m) (i * g.m + 0) (omega (arith, row_before i g.n g.m l)) (omega (arith, long, row_before i g.n g.m l, cells_in g.n g.m h o))
      (spread_left f dx g.n dz g.m g.w (g.n + g.n) i 0 k h o l z q (deviation_bad f g.points g.n (g.n + g.n) made.xm g.kinds k i (omega arith) h q l b)))
