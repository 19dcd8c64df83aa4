-- A difference that isn't finite makes its step end in 9: it stays so through the kind, the weight, the sum and the mean, and the first listed result that holds it fails. Assumes nothing.
use Prim.Native.Nat.{ℕ, zero, suc, ◌+◌, ◌*◌, ◌<◌, ◌≤◌}
use mathlib.Core.Path.{◌≡◌, refl, sym, ap, ◌∙◌}
use mathlib.Core.Bool.{Bool, true, false, ◌&&◌, cond, true≢false, false≢true}
use mathlib.Core.List.{List, [], ◌∷◌}
use mathlib.Core.Logic.{⊎_elim}
use native.Mathlib.Nat.{eq-or-lt_of_le}
use native.Mathlib.Omega.{arith}
use lib.Dec.{eqb}
use lib.ListN.{length, take, get_or}
use lib.Ieee.{Float, nan, inf, fin, Format, neg, add, sub, mul}
use lib.Ieee.Scale.{finite}
use Rattle.floats.specs.declared.Refusal.TheVariants.{Range as RANGE}
use Rattle.floats.specs.Refusal.{refused, accepted}
use Rattle.floats.specs.Numbers.{plus_zero, all_finite}
use Rattle.angles.specs.Kinds.{Kind, plain}
use Rattle.angles.proofs.Exact.{through_not_finite}
use Rattle.matrix.specs.Folds.{total_of}
use Rattle.matrix.specs.Results.{Work, listed, worked, Plan, after, run}
use Rattle.matrix.specs.Sums.{plus_of}
use Rattle.matrix.proofs.Flat.{row_before}
use Rattle.matrix.proofs.Cells.{plus_placed}
use Rattle.sigma.specs.Mean.{offset_at, offset_of, mean_of}
use Rattle.sigma.specs.Spread.{deviations_of, weighed_at, spread_of}
use Rattle.sigma.specs.Predict.{predict_of}
use Rattle.sigma.proofs.Flat.{cells_in}
use Rattle.sigma.proofs.Entries.{mean_placed, deviations_filled, spread_filled}

-- ---- one operation

module _ (f : Format) where
  pub add_left : (x y : Float) → finite x ≡ false → finite (add f x y) ≡ false
  unfolding add
  add_left nan y h = refl
  add_left (inf s) nan h = refl
  add_left (inf true) (inf true) h = refl
  add_left (inf true) (inf false) h = refl
  add_left (inf false) (inf true) h = refl
  add_left (inf false) (inf false) h = refl
  add_left (inf s) (fin t n d) h = refl
  add_left (fin s m e) y h = absurd (true≢false h)

  pub add_right : (x y : Float) → finite y ≡ false → finite (add f x y) ≡ false
  unfolding add
  add_right nan y h = refl
  add_right (inf s) y h = add_left (inf s) y refl
  add_right (fin s m e) nan h = refl
  add_right (fin s m e) (inf t) h = refl
  add_right (fin s m e) (fin t n d) h = absurd (true≢false h)

  neg_not : (x : Float) → finite x ≡ false → finite (neg x) ≡ false
  unfolding neg
  neg_not nan h = refl
  neg_not (inf s) h = refl
  neg_not (fin s m e) h = absurd (true≢false h)

  pub sub_left : (x y : Float) → finite x ≡ false → finite (sub f x y) ≡ false
  unfolding sub
  sub_left x y h = add_left x (neg y) h

  pub sub_right : (x y : Float) → finite y ≡ false → finite (sub f x y) ≡ false
  unfolding sub
  sub_right x y h = add_right x (neg y) (neg_not y h)

  -- 0 times an infinity is no number
  either : (b s : Bool) → finite (cond b nan (inf s)) ≡ false
  either true s = refl
  either false s = refl

  pub mul_left : (x y : Float) → finite x ≡ false → finite (mul f x y) ≡ false
  unfolding mul
  mul_left nan y h = refl
  mul_left (inf s) nan h = refl
  mul_left (inf s) (inf t) h = refl
  mul_left (inf s) (fin t n d) h = either (eqb n 0) _
  mul_left (fin s m e) y h = absurd (true≢false h)

  pub mul_right : (x y : Float) → finite y ≡ false → finite (mul f x y) ≡ false
  unfolding mul
  mul_right nan y h = refl
  mul_right (inf s) y h = mul_left (inf s) y refl
  mul_right (fin s m e) nan h = refl
  mul_right (fin s m e) (inf t) h = either (eqb m 0) _
  mul_right (fin s m e) (fin t n d) h = absurd (true≢false h)

  -- ---- sums

  pub total_bad : (z : Float) (e : ℕ → Float) (t k : ℕ) → k < t → finite (e k) ≡ false → finite (total_of (add f) z e t) ≡ false
  unfolding total_of
  total_bad z e zero k h g = absurd (omega arith)
  total_bad z e (suc t) k h g =
      ⊎_elim
      (λ q. let s : k ≡ t = omega arith in add_right (total_of (add f) z e t) (e t) (rw (← s) g))
      (λ q. add_left (total_of (add f) z e t) (e t) (total_bad z e t k (omega arith) g))
      (eq-or-lt_of_le h)

-- ---- lists and listed results

both : (a b : Bool) → (a && b) ≡ true → (a ≡ true) × (b ≡ true)
both true b h = (refl, h)
both false b h = absurd (false≢true h)

-- each number of what has passed is finite
pub passed_at : (s : List Float) (k i : ℕ) → all_finite (take k s) ≡ true → i < k → i < length s → finite (get_or s i nan) ≡ true
unfolding all_finite
passed_at [] k i h g l = absurd (omega arith)
passed_at (x ∷ s) zero i h g l = absurd (omega arith)
passed_at (x ∷ s) (suc k) zero h g l = (both (finite x) (all_finite (take k s)) h).0
passed_at (x ∷ s) (suc k) (suc i) h g l = passed_at s k i (both (finite x) (all_finite (take k s)) h).1 (omega arith) (omega arith)

pub list_bad : (s : List Float) (k i : ℕ) → i < k → i < length s → finite (get_or s i nan) ≡ false → all_finite (take k s) ≡ false
list_bad s k i g l h = go (all_finite (take k s)) refl
  where
    go : (b : Bool) → all_finite (take k s) ≡ b → b ≡ false
    go true e = absurd (true≢false (sym (passed_at s k i e g l) ∙ h))
    go false e = refl

module _ {A : Type 0} where
  -- a listed result that fails ends the plan in 9; so does one before a rest that ends in 9
  pub listed_bad : (m : ℕ) (v : List Float) (κ : List Float → Plan A) → all_finite (take m v) ≡ false → run (after (listed m v) κ) ≡ refused RANGE
  unfolding run worked
  listed_bad m v κ h = rw h

  pub listed_on : (m : ℕ) (v : List Float) (κ : List Float → Plan A) → run (κ v) ≡ refused RANGE → run (after (listed m v) κ) ≡ refused RANGE
  unfolding run worked
  listed_on m v κ h = go (all_finite (take m v)) refl
    where
      go : (b : Bool) → all_finite (take m v) ≡ b → run (after (listed m v) κ) ≡ refused RANGE
      go true e = rw e h
      go false e = listed_bad m v κ e

  -- and so does a work that is done before such a rest
  pub made_on : {B : Type 0} (w : Work B) (b : B) (κ : B → Plan A) → worked w ≡ accepted b → run (κ b) ≡ refused RANGE → run (after w κ) ≡ refused RANGE
  unfolding run
  made_on w b κ e h = rw e h

-- ---- the mean, the deviations and the spread

module _ (f : Format) where
  -- point k + 1 minus point 0
  pub mean_bad : (p : List Float) (d t : ℕ) (w0m : Float) (w : List Float) (kinds : List Kind) (i k : ℕ) → d ≤ 8 → i < d → k < t
      → finite (sub f (get_or p ((k + 1) * d + i) nan) (get_or p i nan)) ≡ false → all_finite (take d (mean_of f p d t w0m w kinds)) ≡ false
  mean_bad p d t w0m w kinds i k h g l b =
      let m = mean_placed f p d t w0m w kinds h in
      list_bad (mean_of f p d t w0m w kinds) d i g (omega (arith, m.long))
      (ap finite (m.place i g) ∙ add_right f _ (offset_of f p d t w kinds i) (total_bad f plus_zero (offset_at f p d t w kinds i) t k l (mul_right f _ _ (through_not_finite f (get_or kinds i plain) _ b))))

  -- point k minus the mean
  pub deviation_bad : (p : List Float) (d t : ℕ) (mean : List Float) (kinds : List Kind) (k i : ℕ) → t < 17 → d ≤ 8 → k ≤ t → i < d
      → finite (sub f (get_or p (k * d + i) nan) (get_or mean i nan)) ≡ false → finite (get_or (deviations_of f p d t mean kinds) (k * d + i) nan) ≡ false
  deviation_bad p d t mean kinds k i h g l m b = ap finite ((deviations_filled f p d t mean kinds h g).cell k i (omega arith) m) ∙ through_not_finite f (get_or kinds i plain) _ b

  module _ (a : List Float) (da : ℕ) (b : List Float) (db : ℕ) (w : List Float) (t i j k : ℕ) (h : da ≤ 8) (g : db ≤ 8) (l : i < da) (m : j < db) (o : k ≤ t) where
    spread_from : finite (weighed_at f a da b db w t i j k) ≡ false → finite (get_or (spread_of f a da b db w t) (i * db + j) nan) ≡ false
    spread_from e = ap finite ((spread_filled f a da b db w t h g).cell i j l m) ∙ total_bad f plus_zero (weighed_at f a da b db w t i j) (t + 1) k (omega arith) e

    pub spread_left : finite (get_or a (k * da + i) nan) ≡ false → finite (get_or (spread_of f a da b db w t) (i * db + j) nan) ≡ false
    spread_left e = spread_from (mul_left f _ _ (mul_right f _ _ e))

    pub spread_right : finite (get_or b (k * db + j) nan) ≡ false → finite (get_or (spread_of f a da b db w t) (i * db + j) nan) ≡ false
    spread_right e = spread_from (mul_right f _ _ e)

  -- a covariance of d rows: what is added, plus the spread about a mean
  pub covariance_bad : (p : List Float) (d t : ℕ) (mean : List Float) (kinds : List Kind) (w q : List Float) (k i : ℕ) → t < 17 → d ≤ 8 → k ≤ t → i < d
      → finite (sub f (get_or p (k * d + i) nan) (get_or mean i nan)) ≡ false
      → let dx = deviations_of f p d t mean kinds in all_finite (take (d * d) (plus_of f (d * d) q (spread_of f dx d dx d w t))) ≡ false
  covariance_bad p d t mean kinds w q k i h g l m b =
      let dx = deviations_of f p d t mean kinds in
      let s = spread_of f dx d dx d w t in
      let in_row = row_before i d d m in
      let c = plus_placed f (d * d) q s (cells_in d d g g) in
      list_bad (plus_of f (d * d) q s) (d * d) (i * d + i) (omega arith) (omega (arith, c.long, cells_in d d g g))
      (ap finite (c.place (i * d + i) (omega arith)) ∙ add_right f _ _ (spread_left dx d dx d w t i i k g g m m l (deviation_bad p d t mean kinds k i h g l m b)))

  -- A PREDICTION ENDS IN 9 WHERE A POINT MINUS POINT 0, OR A POINT MINUS THE MEAN, ISN'T FINITE
  module _ (n : ℕ) (points : List Float) (w0m : Float) (w : List Float) (kinds : List Kind) (q : List Float) (i k : ℕ) (h : n ≤ 8) (g : i < n) where
    pub predict_anchor : k < n + n → finite (sub f (get_or points ((k + 1) * n + i) nan) (get_or points i nan)) ≡ false → predict_of f n points w0m w kinds q ≡ refused RANGE
    predict_anchor l b = listed_bad n (mean_of f points n (n + n) w0m w kinds) _ (mean_bad points n (n + n) w0m w kinds i k h g l b)

    pub predict_mean : k ≤ n + n → finite (sub f (get_or points (k * n + i) nan) (get_or (mean_of f points n (n + n) w0m w kinds) i nan)) ≡ false → predict_of f n points w0m w kinds q ≡ refused RANGE
    predict_mean l b =
        listed_on n (mean_of f points n (n + n) w0m w kinds) _
        (listed_bad (n * n) _ _ (covariance_bad points n (n + n) (mean_of f points n (n + n) w0m w kinds) kinds w q k i (omega arith) h l g b))
