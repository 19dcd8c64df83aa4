-- What is kept is seen in a stepped call, and nowhere else does a test of it count. Assumes nothing.
use Prim.Native.Nat.{ℕ, ◌+◌, ◌*◌}
use mathlib.Core.Path.{◌≡◌, refl, sym, ap, ◌∙◌}
use mathlib.Core.Bool.{Bool, true, false, not, ◌&&◌, cond, false≢true}
use mathlib.Core.List.{List, []}
use native.Mathlib.Omega.{arith}
use Rattle.std.proofs.lemmas.Bool.Decides.{nat_tests}
use lib.Dec.{leb, eqb}
use lib.ListN.{take, drop}
use lib.Ieee.{Float, Format}
use Rattle.matrix.specs.Results.{finish}
use Rattle.filter.specs.declared.Stage.{Stage}
use Rattle.filter.specs.declared.Stage.TheVariants.{Shut, Predicting, Correcting, PredictingStepped, CorrectingStepped}
use Rattle.filter.specs.Types.{Kept}
use Rattle.filter.specs.Types.{Filter}
use Rattle.filter.specs.Asked.{Asks, in_range, within, every, in_order, guarded, first_refusal}
use Rattle.filter.specs.Filters.{is_shut, is_predicting_stepped, is_correcting_stepped, is_stepped, nothing_kept, seen, keeps}
use Rattle.filter.specs.Calls.{ask, image_prediction, image_correction, close_prediction_stepped, close_correction_stepped, close_correction_flat_stepped, Call, writing, setting, stepping, closing, closing_stepped, abandon, reading, fits, asks, sized, done, asked_for, handed_in, plan}
use Rattle.filter.proofs.Sizes.{and_left}
use Rattle.stepped.specs.Ways.{at_stage}

-- ---- within m to m is m itself

pub itself : (n m : ℕ) → eqb m n ≡ every within (sized m n n)
unfolding in_range
itself n m = grind (arith, nat_tests)

-- ---- the stage of a stepped call

pub stepped_open : (t : Stage) → is_stepped t ≡ true → is_shut t ≡ false
stepped_open Shut h = absurd (false≢true h)
stepped_open Predicting h = refl
stepped_open Correcting h = refl
stepped_open PredictingStepped h = refl
stepped_open CorrectingStepped h = refl

pub predicting_at : (t : Stage) → is_predicting_stepped t ≡ true → t ≡ PredictingStepped
predicting_at Shut h = absurd (false≢true h)
predicting_at Predicting h = absurd (false≢true h)
predicting_at Correcting h = absurd (false≢true h)
predicting_at PredictingStepped h = refl
predicting_at CorrectingStepped h = absurd (false≢true h)

pub correcting_at : (t : Stage) → is_correcting_stepped t ≡ true → t ≡ CorrectingStepped
correcting_at Shut h = absurd (false≢true h)
correcting_at Predicting h = absurd (false≢true h)
correcting_at Correcting h = absurd (false≢true h)
correcting_at PredictingStepped h = absurd (false≢true h)
correcting_at CorrectingStepped h = refl

-- a filter whose stage is known, with that stage spelled: what is seen of it can be worked out
pub staged : (s : Filter) {t : Stage} → s.track.stage ≡ t → s ≡ at_stage s t
staged s e = ap (at_stage s) e

-- ---- whether a call fits is no other for what isn't seen

-- a test of what is kept that stands behind the stage's
behind : (t : Stage) (k : Kept) (p : Kept → Bool) → let hidden = cond (is_stepped t) k nothing_kept in
    ((is_stepped t && p hidden) ≡ (is_stepped t && p k)) × ((is_predicting_stepped t && p hidden) ≡ (is_predicting_stepped t && p k)) × ((is_correcting_stepped t && p hidden) ≡ (is_correcting_stepped t && p k))
behind Shut k p = (refl, refl, refl)
behind Predicting k p = (refl, refl, refl)
behind Correcting k p = (refl, refl, refl)
behind PredictingStepped k p = (refl, refl, refl)
behind CorrectingStepped k p = (refl, refl, refl)

pub fits_seen : (s : Filter) (c : Call) → fits c (seen s) ≡ fits c s
fits_seen s (writing c) = refl
fits_seen s (setting c) = refl
fits_seen s (stepping (ask b)) = (behind s.track.stage s.track.kept (λ k. leb k.at (s.sheet.n + s.sheet.n))).0
fits_seen s (stepping (image_prediction v)) = (behind s.track.stage s.track.kept (λ k. leb k.at (s.sheet.n + s.sheet.n) && k.asked)).1
fits_seen s (stepping (image_correction m v)) = (behind s.track.stage s.track.kept (λ k. leb k.at (s.sheet.n + s.sheet.n) && k.asked)).2
fits_seen s (closing c) = refl
fits_seen s (closing_stepped close_prediction_stepped) = (behind s.track.stage s.track.kept (λ k. not (leb k.at (s.sheet.n + s.sheet.n)))).1
fits_seen s (closing_stepped (close_correction_stepped m z r kinds)) = (behind s.track.stage s.track.kept (λ k. not (leb k.at (s.sheet.n + s.sheet.n)))).2
fits_seen s (closing_stepped (close_correction_flat_stepped m z r)) = (behind s.track.stage s.track.kept (λ k. not (leb k.at (s.sheet.n + s.sheet.n)))).2
fits_seen s abandon = refl
fits_seen s (reading c) = refl

-- ---- the tests of a stepped call may read what is kept, seen or not: where it isn't seen the call doesn't fit

unfit : (f : Format) (a b : Asks) → a.fits ≡ false → b.fits ≡ false → first_refusal f a ≡ first_refusal f b
unfolding first_refusal guarded in_order
unfit f a b d e = rw (d, e)

module _ (f : Format) (s : Filter) where
  -- told by the filter as it is, told by what is seen of it
  pub seen_so : (c : Call) → (fits c s ≡ true → asks s c ≡ asks (seen s) c) → first_refusal f (asks s c) ≡ first_refusal f (asks (seen s) c)
  seen_so c h = go (fits c s) refl
    where
      go : (t : Bool) → fits c s ≡ t → first_refusal f (asks s c) ≡ first_refusal f (asks (seen s) c)
      go true e = ap (first_refusal f) (h e)
      go false e = unfit f (asks s c) (asks (seen s) c) e (fits_seen s c ∙ e)

  asked_kept : (b : List Float) (t : Stage) → is_stepped t ≡ true → plan f (seen (at_stage s t)) (stepping (ask b)) ≡ finish (done (keeps (asked_for s.track.kept)) (take s.sheet.n (drop (s.track.kept.at * s.sheet.n) s.track.drawn_points)))
  asked_kept b Shut h = absurd (false≢true h)
  asked_kept b Predicting h = absurd (false≢true h)
  asked_kept b Correcting h = absurd (false≢true h)
  asked_kept b PredictingStepped h = refl
  asked_kept b CorrectingStepped h = refl

  -- what an ask does, and what an image does
  pub asked_is : (b : List Float) → is_stepped s.track.stage ≡ true → plan f (seen s) (stepping (ask b)) ≡ finish (done (keeps (asked_for s.track.kept)) (take s.sheet.n (drop (s.track.kept.at * s.sheet.n) s.track.drawn_points)))
  asked_is b h = asked_kept b s.track.stage h

  pub predicted_is : (v : List Float) → is_predicting_stepped s.track.stage ≡ true → plan f (seen s) (stepping (image_prediction v)) ≡ finish (done (keeps (handed_in s.track.kept 0 s.sheet.n v)) [])
  predicted_is v h = ap (λ (t : Filter). plan f (seen t) (stepping (image_prediction v))) (staged s (predicting_at _ h))

  pub observed_is : (m : ℕ) (v : List Float) → is_correcting_stepped s.track.stage ≡ true → plan f (seen s) (stepping (image_correction m v)) ≡ finish (done (keeps (handed_in s.track.kept m m v)) [])
  observed_is m v h = ap (λ (t : Filter). plan f (seen t) (stepping (image_correction m v))) (staged s (correcting_at _ h))

  pub observed_asks : (m : ℕ) (v : List Float) → fits (stepping (image_correction m v)) s ≡ true → asks s (stepping (image_correction m v)) ≡ asks (seen s) (stepping (image_correction m v))
  observed_asks m v h =
      let e = staged s (correcting_at _ (and_left (is_correcting_stepped s.track.stage) _ h)) in
      ap (λ (t : Filter). asks t (stepping (image_correction m v))) e ∙ sym (ap (λ (t : Filter). asks (seen t) (stepping (image_correction m v))) e)
