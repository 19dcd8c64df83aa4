-- Document 02, A3: an accepted setting of x, P, the parameters or a kind marks the filter stale, one of Q does not. So weights and points in use always belong to x, P, the parameters and the kinds as they stand. Over every format. Assumes nothing.
use Prim.Native.Nat.{ℕ, ◌*◌}
use mathlib.Core.Path.{◌≡◌, refl, ap, ◌∙◌}
use mathlib.Core.Bool.{true, false, ◌||◌}
use mathlib.Core.List.{List}
use lib.ListN.{set}
use lib.Ieee.{Float, Format}
use Rattle.floats.specs.Numbers.{zeros}
use Rattle.floats.specs.Fronts.{front}
use Rattle.angles.specs.Kinds.{Kind}
use Rattle.sigma.specs.Weights.{Params}
use Rattle.sigma.specs.Weights.{w0m_of, weights_of}
use Rattle.correction.specs.Leaves.{widened}
use Rattle.correction.specs.Correct.{Head, given, weighted_head}
use Rattle.filter.specs.declared.Stage.{Stage}
use Rattle.filter.specs.declared.Stage.TheVariants.{Shut, Predicting, Correcting, PredictingStepped, CorrectingStepped}
use Rattle.filter.specs.Types.{Filter}
use Rattle.filter.specs.Filters.{sheet, track, filter, is_shut, is_correcting, is_correcting_stepped, is_correction, closed_with}
use Rattle.filter.specs.Calls.{SheetCall, set_q, set_params, set_kind, SetCall, set_x, set_p, Call, writing, setting, closing, closing_stepped, close_correction, close_correction_stepped, measurement, weighted_from}
use Rattle.filter.specs.Steps.{step}
use Rattle.filter.proofs.Sizes.{and_left}
use Rattle.stepped.proofs.Seen.{correcting_at}
use Rattle.demands.specs.Listed.{state, covariance}
use Rattle.demands.specs.Sound.{DrawnFrom, Yielded}
use Rattle.demands.specs.Settings.{sheet_marks, marks, SincePredicted, q_then, OfPoints}
use Rattle.demands.proofs.Table.{taken_fits}
use Rattle.demands.proofs.Accepted.{writing_taken, writing_marked, writing_keeps, setting_taken, setting_marked, setting_keeps, correction_closed, stepped_closed}
use Rattle.demands.proofs.Rows.{two_ways}
use Rattle.demands.proofs.Sound.{sound}
use Rattle.demands.proofs.SincePredicted.{since_predicted, of_points}

-- ---- the stages of a correction

correction_open : (t : Stage) → is_correction t ≡ true → is_shut t ≡ false
correction_open Shut h = absurd (two_ways h refl)
correction_open Predicting h = refl
correction_open Correcting h = refl
correction_open PredictingStepped h = refl
correction_open CorrectingStepped h = refl

correcting_correction : (t : Stage) → is_correcting t ≡ true → is_correction t ≡ true
correcting_correction t h = rw h

stepped_correction : (t : Stage) → is_correcting_stepped t ≡ true → is_correction t ≡ true
stepped_correction t h = rw (correcting_at t h)

-- ---- What a setting does, on any filter

module _ (f : Format) (s : Filter) where
  abbrev after : Call → Filter
  after c = (step f s c).filter

  abbrev Taken : Call → Type 0
  Taken c = (step f s c).reply.refusal.number ≡ 0

  -- An accepted setting of x, P, the parameters or a kind marks the filter stale, whatever the numbers, those as before too. Setting Q does not; nor does an open call.
  pub setting_marks : (c : SetCall) → Taken (setting c) → (after (setting c)).track.stale ≡ (marks c || s.track.stale)
  setting_marks c e = setting_marked f s c e

  pub writing_marks : (c : SheetCall) → Taken (writing c) → (after (writing c)).track.stale ≡ (sheet_marks c || s.track.stale)
  writing_marks c e = writing_marked f s c e

  -- Points and weights are not touched, by a setting or an open call. (A refused call changes nothing at all: `refused_changes_nothing` in Demand1.)
  pub points_not_touched : (c : SetCall) → ((after (setting c)).track.weights ≡ s.track.weights) × ((after (setting c)).track.points ≡ s.track.points)
  points_not_touched c = setting_keeps f s c

  pub points_not_written : (c : SheetCall) → ((after (writing c)).track.weights ≡ s.track.weights) × ((after (writing c)).track.points ≡ s.track.points)
  points_not_written c = writing_keeps f s c

  -- In all, an accepted setting puts what it is given into its place, lists with +0 past the numbers in use; all but Q mark; nothing else changes.
  abbrev marked : List Float → List Float → Filter
  marked x p = filter s.sheet (track x p s.track.weights s.track.points true s.track.stage s.track.drawn_weights s.track.drawn_points s.track.kept)

  pub x_is_set : (v : List Float) → Taken (setting (set_x v)) → after (setting (set_x v)) ≡ marked (front s.sheet.n v (zeros 8)) s.track.p
  x_is_set v e = setting_taken f s (set_x v) _ refl e

  pub p_is_set : (v : List Float) → Taken (setting (set_p v)) → after (setting (set_p v)) ≡ marked s.track.x (front (s.sheet.n * s.sheet.n) v (zeros 64))
  p_is_set v e = setting_taken f s (set_p v) _ refl e

  pub q_is_set : (v : List Float) → Taken (writing (set_q v)) → after (writing (set_q v)) ≡ filter (sheet s.sheet.n (front (s.sheet.n * s.sheet.n) v (zeros 64)) s.sheet.params s.sheet.kinds) s.track
  q_is_set v e = writing_taken f s (set_q v) e

  pub params_are_set : (p : Params) → Taken (writing (set_params p)) → after (writing (set_params p)) ≡ filter (sheet s.sheet.n s.sheet.q p s.sheet.kinds) (marked s.track.x s.track.p).track
  params_are_set p e = writing_taken f s (set_params p) e

  pub kind_is_set : (i : ℕ) (k : Kind) → Taken (writing (set_kind i k)) → after (writing (set_kind i k)) ≡ filter (sheet s.sheet.n s.sheet.q s.sheet.params (set s.sheet.kinds i k)) (marked s.track.x s.track.p).track
  kind_is_set i k e = writing_taken f s (set_kind i k) e

-- ---- What is in use belongs to what is set, of every filter that the demands speak of

module _ (f : Format) {s : Filter} (y : Yielded f s) where
  -- The weights that count are those of the parameters as they stand: while the filter isn't stale its weights,
  pub current_weights : s.track.stale ≡ false → s.track.weights ≡ weights_of f s.sheet.n s.sheet.params
  current_weights e = ((sound f y).current e).weights_of_lem

  -- while a call is open the drawn ones.
  pub drawn_weights_lem : is_shut s.track.stage ≡ false → s.track.drawn_weights ≡ weights_of f s.sheet.n s.sheet.params
  drawn_weights_lem e = ((sound f y).drawn e).weights_of_lem

  -- Nor do old points stay in use: those of an open call are drawn from x and P by the parameters as they stand or, in a correction while not stale, the current ones;
  pub drawn_points_lem : is_shut s.track.stage ≡ false → DrawnFrom f s
  drawn_points_lem = (sound f y).drawn_from

  -- and while the filter isn't stale, nothing but Q has been set since its prediction was closed: no call accepted since has marked or closed.
  pub nothing_set_since : s.track.stale ≡ false → SincePredicted f s
  nothing_set_since e = since_predicted f y e

  -- So x is the mean of its points, and P their spread with the Q of that prediction.
  pub points_belong : (e : s.track.stale ≡ false) → OfPoints f s (q_then (nothing_set_since e))
  points_belong e = of_points f (nothing_set_since e)

  -- And the w0m of a correction always belongs to its weights: its close starts from the w0m and from the weights of the parameters as they stand,
  module _ (m : ℕ) (z r : List Float) (kinds : List Kind) (observed : List Float) where
    abbrev head_by : List Float → Head
    head_by weights =
        let v = measurement s.sheet.n m z r observed in
        weighted_head f (given s.sheet.n m s.track.x s.track.p s.track.drawn_points v.observed (w0m_of f s.sheet.n s.sheet.params) weights v.z v.r s.sheet.kinds (widened kinds))

    abbrev close : Call
    close = closing (close_correction m z r kinds observed)

    pub w0m_belongs_to_its_weights : is_correction s.track.stage ≡ true → weighted_from f s m z r kinds observed ≡ head_by (weights_of f s.sheet.n s.sheet.params)
    w0m_belongs_to_its_weights h = ap head_by (drawn_weights_lem (correction_open s.track.stage h))

    -- and, accepted, has made x and P by them.
    pub corrected_by_its_parameters : (step f s close).reply.refusal.number ≡ 0 → (step f s close).filter ≡ (let h = head_by (weights_of f s.sheet.n s.sheet.params) in closed_with s s.track.drawn_points true (state f h) (covariance f h))
    corrected_by_its_parameters e =
        correction_closed f s m z r kinds observed e
        ∙ ap (λ (h : Head). closed_with s s.track.drawn_points true (state f h) (covariance f h)) (w0m_belongs_to_its_weights (correcting_correction s.track.stage (taken_fits f s close e)))

  -- So does a stepped close, by the images that are in.
  pub stepped_corrected_by_its_parameters : (m : ℕ) (z r : List Float) (kinds : List Kind) → let c = closing_stepped (close_correction_stepped m z r kinds) in (step f s c).reply.refusal.number ≡ 0
      → (step f s c).filter ≡ (let h = head_by m z r kinds s.track.kept.images (weights_of f s.sheet.n s.sheet.params) in closed_with s s.track.drawn_points true (state f h) (covariance f h))
  stepped_corrected_by_its_parameters m z r kinds e =
      let c = close_correction_stepped m z r kinds in
      stepped_closed f s c e
      ∙ ap (λ (h : Head). closed_with s s.track.drawn_points true (state f h) (covariance f h)) (w0m_belongs_to_its_weights m z r kinds s.track.kept.images (stepped_correction s.track.stage (and_left _ _ (taken_fits f s (closing_stepped c) e))))
