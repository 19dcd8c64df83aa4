-- Between the two ways of an open call: of which sort it is and at which stage either way has it; and, as the code goes, the same filter at another stage, what a stepped open makes of the whole-list open's answer, and a stepped close of the whole-list close's. Definitions only.
use Rattle.std.specs.Prelude.{ℕ, cond, eqb}
use Rattle.filter.specs.declared.Stage.{Stage}
use Rattle.filter.specs.declared.Stage.TheVariants.{Predicting, Correcting, PredictingStepped, CorrectingStepped}
use Rattle.filter.specs.Types.{Filter}
use Rattle.filter.specs.Types.{Answer}
use Rattle.filter.specs.Filters.{track, filter}
use Rattle.filter.specs.Calls.{SteppedClose, close_prediction_stepped, close_correction_stepped, close_correction_flat_stepped}

-- a prediction, or a correction of m; and that which a close ends
pub data Sort : Type 0 where
  predicts : Sort
  corrects : ℕ → Sort

abbrev pub sort_of : SteppedClose → Sort
sort_of close_prediction_stepped = predicts
sort_of (close_correction_stepped m z r kinds) = corrects m
sort_of (close_correction_flat_stepped m z r) = corrects m

-- open one point at a time, and with the whole list
abbrev pub stepped_stage : Sort → Stage
stepped_stage predicts = PredictingStepped
stepped_stage (corrects m) = CorrectingStepped

abbrev pub whole_stage : Sort → Stage
whole_stage predicts = Predicting
whole_stage (corrects m) = Correcting

abbrev pub at_stage : Filter → Stage → Filter
at_stage s t = let k = s.track in filter s.sheet (track k.x k.p k.weights k.points k.stale t k.drawn_weights k.drawn_points k.kept)

-- opened, at this stage; refused, as it is
abbrev pub opened_at : Stage → Answer → Answer
opened_at t a = record { filter = cond (eqb a.refusal.number 0) (at_stage a.filter t) a.filter; refusal = a.refusal }

-- refused, the filter is s
abbrev pub unless_refused : Filter → Answer → Answer
unless_refused s a = record { filter = cond (eqb a.refusal.number 0) a.filter s; refusal = a.refusal }
