-- The results that a call's steps check are those that documents 01 and 02 list (specs/Listed.antt), in their order. No other call has any. Assumes nothing.
use Prim.Native.Nat.{ℕ}
use mathlib.Core.Path.{◌≡◌, refl}
use mathlib.Core.Bool.{Bool, true, false, cond}
use mathlib.Core.List.{List, []}
use lib.Ieee.{Float, Format}
use Rattle.floats.specs.Numbers.{zeros}
use Rattle.floats.specs.Fronts.{front}
use Rattle.angles.specs.Kinds.{Kind}
use Rattle.matrix.specs.Results.{Plan, finish, planned}
use Rattle.matrix.proofs.Mapped.{planned_mapped}
use Rattle.sigma.specs.Weights.{scale_of, w0m_of, weights_of}
use Rattle.sigma.specs.Draw.{point_numbers, draw_plan}
use Rattle.correction.specs.Correct.{apply_plan}
use Rattle.filter.specs.Types.{Filter}
use Rattle.filter.specs.Filters.{opened_prediction, opened_correction, opened_prediction_stepped, opened_correction_stepped}
use Rattle.filter.specs.Calls.{setting, closing, open_prediction, open_correction, open_prediction_stepped, open_correction_stepped, close_prediction, close_correction, close_correction_flat, Done, opened, opened_stepped, closed, draws, plan, weighted_from, flat_from}
use Rattle.filter.proofs.Closing.{predicting}
use Rattle.demands.specs.Listed.{listed_at_open, listed_at_prediction, listed_at_correction}

-- the steps of an opening that draws; those of the closes are `predicting` (filter/proofs/Closing.antt) and `apply_plan`
abbrev pub drawing : Format → Filter → Plan (List Float)
drawing f s = draw_plan f s.sheet.n s.track.x s.track.p (scale_of f s.sheet.n s.sheet.params)

module _ (f : Format) (s : Filter) where
  pub open_prediction_lists : (b : List Float) → planned (plan f s (setting (open_prediction b))) ≡ listed_at_open f s.sheet.n s.track.x s.track.p (scale_of f s.sheet.n s.sheet.params)
  open_prediction_lists b = planned_mapped (opened opened_prediction s.sheet.n (weights_of f s.sheet.n s.sheet.params)) (drawing f s)

  pub open_prediction_stepped_lists : planned (plan f s (setting open_prediction_stepped)) ≡ listed_at_open f s.sheet.n s.track.x s.track.p (scale_of f s.sheet.n s.sheet.params)
  open_prediction_stepped_lists = planned_mapped (opened_stepped opened_prediction_stepped (weights_of f s.sheet.n s.sheet.params)) (drawing f s)

  -- not stale, nothing is drawn
  current_lists : (to : List Float → List Float → Done) (t : Bool) → planned (cond t (draws f to s) (finish (to s.track.weights s.track.points))) ≡ cond t (listed_at_open f s.sheet.n s.track.x s.track.p (scale_of f s.sheet.n s.sheet.params)) []
  current_lists to true = planned_mapped (to (weights_of f s.sheet.n s.sheet.params)) (drawing f s)
  current_lists to false = refl

  pub open_correction_lists : (b : List Float) → planned (plan f s (setting (open_correction b))) ≡ cond s.track.stale (listed_at_open f s.sheet.n s.track.x s.track.p (scale_of f s.sheet.n s.sheet.params)) []
  open_correction_lists b = current_lists (opened opened_correction s.sheet.n) s.track.stale

  pub open_correction_stepped_lists : planned (plan f s (setting open_correction_stepped)) ≡ cond s.track.stale (listed_at_open f s.sheet.n s.track.x s.track.p (scale_of f s.sheet.n s.sheet.params)) []
  open_correction_stepped_lists = current_lists (opened_stepped opened_correction_stepped) s.track.stale

  pub close_prediction_lists : (v : List Float)
      → planned (plan f s (closing (close_prediction v))) ≡ listed_at_prediction f s.sheet.n (front (point_numbers s.sheet.n) v (zeros 136)) (w0m_of f s.sheet.n s.sheet.params) s.track.drawn_weights s.sheet.kinds s.sheet.q
  close_prediction_lists v = planned_mapped (closed s.track.drawn_weights (front (point_numbers s.sheet.n) v (zeros 136)) false) (predicting f s v)

  pub close_correction_lists : (m : ℕ) (z r : List Float) (kinds : List Kind) (observed : List Float)
      → planned (plan f s (closing (close_correction m z r kinds observed))) ≡ listed_at_correction f (weighted_from f s m z r kinds observed)
  close_correction_lists m z r kinds observed = planned_mapped (closed s.track.drawn_weights s.track.drawn_points true) (apply_plan f (weighted_from f s m z r kinds observed))

  pub close_correction_flat_lists : (m : ℕ) (z r observed : List Float) → planned (plan f s (closing (close_correction_flat m z r observed))) ≡ listed_at_correction f (flat_from f s m z r observed)
  close_correction_flat_lists m z r observed = planned_mapped (closed s.track.drawn_weights s.track.drawn_points true) (apply_plan f (flat_from f s m z r observed))
