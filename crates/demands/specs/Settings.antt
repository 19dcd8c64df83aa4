-- Document 02, A3: which settings mark a filter stale, and what it is while it isn't. Definitions only.
use Rattle.std.specs.Prelude.{◌+◌, ◌*◌, ◌≡◌, Bool, true, false, List, Float}
use Rattle.std.specs.Float.{Format}
use Rattle.matrix.specs.Sums.{plus_of}
use Rattle.sigma.specs.Weights.{w0m_of}
use Rattle.sigma.specs.Mean.{mean_of}
use Rattle.sigma.specs.Spread.{deviations_of, spread_of}
use Rattle.filter.specs.Types.{Filter}
use Rattle.filter.specs.Calls.{SheetCall, set_q, set_params, set_kind, SetCall, set_x, set_p, open_prediction, open_correction, open_prediction_stepped, open_correction_stepped, close_prediction, close_prediction_stepped, Call, writing, setting, stepping, closing, closing_stepped, abandon, reading}
use Rattle.filter.specs.Steps.{step}
use Rattle.demands.specs.Sound.{Yielded}

-- an accepted setting of x, P, the parameters or a kind marks stale; one of Q, or an open call, leaves the mark
abbrev pub sheet_marks : SheetCall → Bool
sheet_marks (set_q v) = false
sheet_marks (set_params p) = true
sheet_marks (set_kind i k) = true

abbrev pub marks : SetCall → Bool
marks (set_x v) = true
marks (set_p v) = true
marks (open_prediction b) = false
marks (open_correction b) = false
marks open_prediction_stepped = false
marks open_correction_stepped = false

-- accepted, these leave x, P, the parameters, kinds, points, weights and the mark as they are: setting Q, opening, the steps of a stepped call, abandon, reading
abbrev pub Unmarking : Call → Type 0
Unmarking (writing c) = sheet_marks c ≡ false
Unmarking (setting c) = marks c ≡ false
Unmarking (stepping c) = Unit {0}
Unmarking (closing c) = ⊥
Unmarking (closing_stepped c) = ⊥
Unmarking abandon = Unit {0}
Unmarking (reading c) = Unit {0}

-- the close of a prediction, either way
pub data EndsPrediction : Call → Type 0 where
  with_list : {v : List Float} → EndsPrediction (closing (close_prediction v))
  in_steps : EndsPrediction (closing_stepped close_prediction_stepped)

-- the filters that an accepted close of a prediction leaves, and those that calls after it yield, each of them refused or one of these
pub data SincePredicted (f : Format) : Filter → Type 0 where
  predicted : {s : Filter} → Yielded f s → {c : Call} → EndsPrediction c → (step f s c).reply.refusal.number ≡ 0 → SincePredicted f (step f s c).filter
  unmarked : {s : Filter} → SincePredicted f s → (c : Call) → ((step f s c).reply.refusal.number ≡ 0 → Unmarking c) → SincePredicted f (step f s c).filter

-- the Q of that prediction
abbrev pub q_then : {f : Format} {s : Filter} → SincePredicted f s → List Float
q_then (predicted {s = s} y c e) = s.sheet.q
q_then (unmarked k c h) = q_then k

-- x is the mean of the current points, and P is q + their spread, by the weights, parameters and kinds as they stand
pub record OfPoints (f : Format) (s : Filter) (q : List Float) : Type 0 where
  pub x : s.track.x ≡ mean_of f s.track.points s.sheet.n (s.sheet.n + s.sheet.n) (w0m_of f s.sheet.n s.sheet.params) s.track.weights s.sheet.kinds
  pub p : let dx = deviations_of f s.track.points s.sheet.n (s.sheet.n + s.sheet.n) s.track.x s.sheet.kinds in s.track.p ≡ plus_of f (s.sheet.n * s.sheet.n) q (spread_of f dx s.sheet.n dx s.sheet.n s.track.weights (s.sheet.n + s.sheet.n))
