-- What an accepted draw or prediction gives: arrays of their lengths, finite over the numbers in use and +0 past them. Assumes nothing.
use Prim.Native.Nat.{ℕ, ◌+◌, ◌*◌, ◌<◌, ◌≤◌}
use mathlib.Core.Path.{◌≡◌, refl, subst}
use mathlib.Core.Bool.{Bool, true, false}
use mathlib.Core.List.{List}
use lib.ListN.{length, take, get_or}
use lib.Ieee.{Float, nan, Format}
use Rattle.floats.specs.declared.Refusal.TheVariants.{Range as RANGE}
use Rattle.floats.specs.Refusal.{Outcome, refused, accepted, unless, onward}
use Rattle.floats.specs.Numbers.{plus_zero, all_finite}
use Rattle.angles.specs.Kinds.{Kind}
use Rattle.matrix.specs.Results.{Work, listed, worked, Plan, finish, after, run}
use Rattle.floats.proofs.Refusals.{refused_never}
use Rattle.matrix.proofs.Cells.{Placed, Filled, plus_placed}
use Rattle.sigma.specs.Draw.{point_numbers, draw_of}
use Rattle.sigma.specs.Mean.{mean_of}
use Rattle.sigma.specs.Spread.{deviations_of, spread_of}
use Rattle.sigma.specs.Predict.{Moment, predict_of}
use Rattle.sigma.proofs.Flat.{cells_in}
use Rattle.sigma.proofs.Entries.{mean_placed, drawn_filled}

-- an array of w places, of which the first k are in use
pub record InUse (k w : ℕ) (t : List Float) : Type 0 where
  pub long : length t ≡ w
  pub fine : all_finite (take k t) ≡ true
  pub rest : (i : ℕ) → k ≤ i → i < w → get_or t i nan ≡ plus_zero

pub placed_in_use : {e : ℕ → Float} {k w : ℕ} {t : List Float} → Placed e k w t → all_finite (take k t) ≡ true → InUse k w t
placed_in_use p h = record { long = p.long; fine = h; rest = p.rest }

pub filled_in_use : {e : ℕ → ℕ → Float} {m n w : ℕ} {t : List Float} → Filled e m n w t → all_finite (take (m * n) t) ≡ true → InUse (m * n) w t
filled_in_use p h = record { long = p.long; fine = h; rest = p.rest }

-- what a close makes of n states
pub record MomentInUse (n : ℕ) (a : Moment) : Type 0 where
  pub x_in_use : InUse n 8 a.x
  pub p_in_use : InUse (n * n) 64 a.p

-- ---- a plan that was accepted has passed its first work, and was accepted with what that has made

module _ {A : Type 0} where
  pub next : {B : Type 0} (w : Work B) (κ : B → Plan A) (a : A) → run (after w κ) ≡ accepted a → (b : B) × (worked w ≡ accepted b) × (run (κ b) ≡ accepted a)
  unfolding run
  next {B} w κ a e = go (worked w) refl e
    where
      go : (o : Outcome B) → worked w ≡ o → onward o (λ (b : B). run (κ b)) ≡ accepted a → (b : B) × (worked w ≡ accepted b) × (run (κ b) ≡ accepted a)
      go (refused r) q h = absurd (refused_never h)
      go (accepted b) q h = (b, q, h)

  pub next_listed : (m : ℕ) (v : List Float) (κ : List Float → Plan A) (a : A) → run (after (listed m v) κ) ≡ accepted a → (all_finite (take m v) ≡ true) × (run (κ v) ≡ accepted a)
  unfolding run worked
  next_listed m v κ a e = go (all_finite (take m v)) refl e
    where
      go : (b : Bool) → all_finite (take m v) ≡ b → onward (unless b RANGE (accepted v)) (λ (u : List Float). run (κ u)) ≡ accepted a → (all_finite (take m v) ≡ true) × (run (κ v) ≡ accepted a)
      go true q h = (q, h)
      go false q h = absurd (refused_never h)

  pub last : {b a : A} → run (finish b) ≡ accepted a → b ≡ a
  unfolding run
  last e = cc

-- ---- the draw and the prediction

pub draw_accepted : (f : Format) (n : ℕ) (x p : List Float) (scale : Float) (q : List Float) → n ≤ 8 → draw_of f n x p scale ≡ accepted q → InUse (point_numbers n) 136 q
draw_accepted f n x p scale q h e =
    let l = next _ _ q e in
    let s = next _ _ q l.2 in
    let t = next_listed (point_numbers n) _ _ q s.2 in
    subst (InUse (point_numbers n) 136) (last t.1) (filled_in_use (drawn_filled f n x l.0 s.0 h) t.0)

pub predict_accepted : (f : Format) (n : ℕ) (points : List Float) (w0m : Float) (w : List Float) (kinds : List Kind) (q : List Float) (a : Moment)
    → n ≤ 8 → predict_of f n points w0m w kinds q ≡ accepted a → MomentInUse n a
predict_accepted f n points w0m w kinds q a h e =
    let dx = deviations_of f points n (n + n) (mean_of f points n (n + n) w0m w kinds) kinds in
    let x = next_listed n _ _ a e in
    let p = next_listed (n * n) _ _ a x.1 in
    subst (MomentInUse n) (last p.1)
    (record {
      x_in_use = placed_in_use (mean_placed f points n (n + n) w0m w kinds h) x.0;
      p_in_use = placed_in_use (plus_placed f (n * n) q (spread_of f dx n dx n w (n + n)) (cells_in n n h h)) p.0;
    })
